use Rattle.std.proofs.Common.{◌∙◌, ap}
use Rattle.std.specs.Prelude.{is_some, bytes_eq}
use Rattle.std.specs.List.{list_any}
use Rattle.pv_scalar.proofs.Firsts.{place_of_text_any}
use Rattle.pv_scalar.proofs.schemes.Schemes.contains.Goals as goal

pub returns : goal.returns
returns c =
    c.is_some.ensures ∙ ap is_some c.place_of_text.ensures ∙ place_of_text_any _ _ _ c.self.invariant
    ∙ ap (λ names. list_any (λ name. bytes_eq name c.args.scheme.now) names) c.self.view_is
