-- A list that begins with another.
use Rattle.std.proofs.Common.{◌≡◌, ℕ, List, [], ◌++◌, length, take, sym, ◌∙◌, ap, append-nil, append_assoc, Result, Ok, Err}
use Rattle.std.specs.Prelude.{OnErr}
use Rattle.std.proofs.Math.Seq.{take-append_seam}
use Rattle.pv_notation.specs.Fronts.{IsFront}

pub front_same : (old new : List ℕ) → new ≡ old → IsFront old new
front_same old new e = record { more = []; is = e ∙ sym (append-nil old) }

pub front_of : (old new more : List ℕ) → new ≡ old ++ more → IsFront old new
front_of old new more e = record { more = more; is = e }

pub front_past : (old mid new more : List ℕ) → mid ≡ old ++ more → IsFront mid new → IsFront old new
front_past old mid new more e f = record { more = more ++ f.more; is = f.is ∙ ap (λ m. m ++ f.more) e ∙ append_assoc old more f.more }

pub front_cut : (old new : List ℕ) → IsFront old new → take (length old) new ≡ old
front_cut old new f = ap (take (length old)) f.is ∙ take-append_seam old f.more

-- a writer that stops leaves such a list
pub stopped : {T E : Type 0} {old new : List ℕ} (r : Result T E) → IsFront old new → OnErr r (IsFront old new)
stopped (Ok x) f = tt
stopped (Err e) f = f

pub ruleset fronts = (front_same, front_of, front_past, front_cut)
