-- A part that is excluded is left out.
use Rattle.std.proofs.Common.{◌≡◌, ℕ, Bool, true, false, ◌&&◌, List, refl}
use Rattle.std.proofs.lemmas.Bool.{false≢true}
use Rattle.std.specs.Prelude.{not, Some, None, if◌then◌else◌}
use Rattle.pv_ser.specs.Force.{InForce, at_part, is_kept, is_left_out}

left_by : (kept left : Bool) (f : InForce) → left ≡ true → (if kept && not left then Some f else None) ≡ None
left_by true true f e = refl
left_by false true f e = refl
left_by true false f e = absurd (false≢true e)
left_by false false f e = refl

pub excluded : (name : List ℕ) (f : InForce) → is_left_out name f.exclude ≡ true → at_part name f ≡ None
excluded name f e = left_by (is_kept name f.include) (is_left_out name f.exclude) _ e
