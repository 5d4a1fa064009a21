use Rattle.std.proofs.Common.{◌∙◌, Some, get_or, sym, ap}
use Rattle.pv_func.proofs.Names.{named_found, named_missing}
use Rattle.pv_func.proofs.registry.Registry.get.Goals as goal

pub returns-in-Some : goal.returns-in-Some
returns-in-Some g c =
    ap (λ x. Some x.1) c.index.ensures ∙ ap (λ xs. Some (get_or xs c.in-Some.number c.index.result.now).1) c.self.view_is
    ∙ sym (named_found c.args.self.now c.args.name.now c.in-Some.number c.index.result.now (sym c.number.ensures ∙ c.in-Some.is))

pub returns-in-None : goal.returns-in-None
returns-in-None g c = sym (named_missing c.args.self.now c.args.name.now (sym c.number.ensures ∙ c.in-None.is))
