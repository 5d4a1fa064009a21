-- A reading that succeeds, taken apart.
use Rattle.std.proofs.Common.{◌≡◌, ℕ, Bool, true, false, cond, Ok, Err, refl, inl, inr}
use Rattle.std.specs.Prelude.{Result, ◌⊎◌}
use Rattle.pv_number.specs.Scanning.{◌>>=◌}

pub bind_ok : {A B : Type 0} (r : Result A ℕ) (f : A → Result B ℕ) (y : B) → (r >>= f) ≡ Ok y → (x : A) × (r ≡ Ok x) × (f x ≡ Ok y)
bind_ok (Ok x) f y e = (x, refl, e)
bind_ok (Err n) f y e = cc

pub ok_same : {A : Type 0} (x y : A) → (let a : Result A ℕ = Ok x in a) ≡ Ok y → x ≡ y
ok_same x y e = cc

pub absurd_ok : {A P : Type 0} (n : ℕ) (y : A) → (let a : Result A ℕ = Err n in a) ≡ Ok y → P
absurd_ok n y e = cc

-- a test with its two outcomes
pub chosen : {A : Type 0} (b : Bool) (x y z : A) → cond b x y ≡ z → ((b ≡ true) × (x ≡ z)) ⊎ ((b ≡ false) × (y ≡ z))
chosen true x y z e = inl (refl, e)
chosen false x y z e = inr (refl, e)
