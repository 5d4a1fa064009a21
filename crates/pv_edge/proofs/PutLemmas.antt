-- One more piece is taken.
use Rattle.std.proofs.Common.{ℕ, ◌≤◌, ◌-◌, List, ◌++◌, length, take, drop, Some, None, sym, ap, ◌∙◌, append_assoc, arith, length-drop}
use Rattle.std.specs.Prelude.{Option}
use Rattle.std.proofs.lemmas.List.{take-append-drop, take_all}
use Rattle.std.specs.Io.KnownBytes.{Appends}
use Rattle.pv_edge.specs.Sending.{Sent}

pub appends_more : (a b c : Option (List ℕ)) (xs ys : List ℕ) → Appends a b xs → Appends b c ys → Appends a c (xs ++ ys)
appends_more None b c xs ys p q = tt
appends_more (Some us) None c xs ys p q = absurd p
appends_more (Some us) (Some bs) None xs ys p q = absurd q
appends_more (Some us) (Some bs) (Some cs) xs ys p q = q ∙ ap (λ l. l ++ ys) p ∙ append_assoc us xs ys

-- where all but the rest was taken, and then n bytes of the rest, all but what follows those was taken
pub sent_more : (a b c : Option (List ℕ)) (all rest : List ℕ) (n : ℕ) → n ≤ length rest → Sent a b all rest → Appends b c (take n rest)
    → Sent a c all (take (length rest - n) (drop n rest))
sent_more a b c all rest n l s q = record {
  front = s.front ++ take n rest;
  whole = s.whole ∙ ap (λ r. s.front ++ r) (sym (take-append-drop n rest)) ∙ sym (append_assoc s.front (take n rest) (drop n rest))
      ∙ ap (λ r. (s.front ++ take n rest) ++ r) (sym (take_all (length rest - n) (drop n rest) (omega (arith, length-drop n rest))));
  taken = appends_more a b c s.front (take n rest) s.taken q;
}
