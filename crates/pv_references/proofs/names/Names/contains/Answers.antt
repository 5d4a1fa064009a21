use Rattle.std.proofs.Common.{rules, ◌≡◌, is_some, ◌∙◌}
use Rattle.pv_node.specs.Preorder.{preorder}
use Rattle.pv_references.specs.Numbers.{number_in}
use Rattle.pv_references.proofs.Repeating.{found}
use Rattle.pv_references.proofs.names.Names.contains.Goals as goal

pub returns : goal.returns
returns c =
    let e : c.is_some.result ≡ is_some (number_in c.args.self.now c.args.name.now) = search rules in
    e ∙ found c.args.name.now 0 (preorder c.args.self.now)
