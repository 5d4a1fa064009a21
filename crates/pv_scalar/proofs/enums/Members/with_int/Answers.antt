use Rattle.std.proofs.Common.{rules, refl, ◌∙◌, sym, Some, None}
use Rattle.std.proofs.lemmas.Int.{to_z-of_z}
use Rattle.std.specs.Int.{w128}
use Rattle.pv_scalar.proofs.Firsts.{with_place}
use Rattle.pv_scalar.proofs.enums.Members.with_int.Goals as goal

pub returns-in-Some : goal.returns-in-Some
returns-in-Some c =
    with_place _ _ _ _ (Some c.in-Some.place) _ c.self.invariant c.self.view_is
    (sym c.in-Some.is ∙ rw (to_z-of_z w128 c.args.n (search rules)) at c.place_of_int.ensures) c.get.ensures.value

pub returns-in-None : goal.returns-in-None
returns-in-None c =
    with_place _ _ _ _ None _ c.self.invariant c.self.view_is
    (sym c.in-None.is ∙ rw (to_z-of_z w128 c.args.n (search rules)) at c.place_of_int.ensures) refl
