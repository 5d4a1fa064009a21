-- Grades and counts when one more part comes.
use Rattle.std.proofs.Common.{◌≡◌, ℕ, ◌+◌, min, sum, fold, List, [], ◌∷◌, ◌++◌, refl, sym, ap, ◌∙◌, append-nil, arith}
use Rattle.std.specs.Prelude.{Option, None, Some}
use Rattle.pv_fault.specs.declared.grade.Grade.{Grade}
use Rattle.pv_fault.specs.declared.grade.Grade.TheVariants.{Lax, Strict, Exact}
use Rattle.pv_fault.specs.Grades.{least, least_of}
use Rattle.pv_fault.specs.Counts.{last_count, present, stopped_sum, sum_of, sum_of_two}

least_assoc : (a b c : Grade) → least (least a b) c ≡ least a (least b c)
least_assoc Lax b c = refl
least_assoc Exact b c = refl
least_assoc Strict Lax c = refl
least_assoc Strict Exact c = refl
least_assoc Strict Strict Lax = refl
least_assoc Strict Strict Strict = refl
least_assoc Strict Strict Exact = refl

least_swapped : (a b : Grade) → least a b ≡ least b a
least_swapped Lax Lax = refl
least_swapped Lax Strict = refl
least_swapped Lax Exact = refl
least_swapped Strict Lax = refl
least_swapped Strict Strict = refl
least_swapped Strict Exact = refl
least_swapped Exact Lax = refl
least_swapped Exact Strict = refl
least_swapped Exact Exact = refl

pub least_more : (own g : Grade) (gs : List Grade) → least_of own (gs ++ g ∷ []) ≡ least (least_of own gs) g
least_more own g [] = least_swapped g own
least_more own g (h ∷ gs) = ap (least h) (least_more own g gs) ∙ sym (least_assoc h (least_of own gs) g)

present_more : (c : Option ℕ) (cs : List (Option ℕ)) → present (cs ++ c ∷ []) ≡ present cs ++ present (c ∷ [])
present_more c [] = refl
present_more c (None ∷ cs) = present_more c cs
present_more c (Some n ∷ cs) = ap (λ ns. n ∷ ns) (present_more c cs)

sum_more : (start n : ℕ) (ns : List ℕ) → fold ◌+◌ start (ns ++ n ∷ []) ≡ fold ◌+◌ start ns + n
sum_more start n [] = refl
sum_more start n (m ∷ ns) = sum_more (start + m) n ns

stop_twice : (s n last : ℕ) → min (s + n) last ≡ min ((0 + min s last) + n) last
stop_twice s n last = omega arith

stop_again : (s last : ℕ) → min s last ≡ min (0 + min s last) last
stop_again s last = omega arith

stopped_more : (c : Option ℕ) (ns : List ℕ) → stopped_sum (ns ++ present (c ∷ [])) ≡ sum_of_two (stopped_sum ns) c
stopped_more None [] = refl
stopped_more (Some k) [] = refl
stopped_more None (n ∷ ns) = ap stopped_sum (append-nil (n ∷ ns)) ∙ ap Some (stop_again (sum (n ∷ ns)) last_count)
stopped_more (Some k) (n ∷ ns) = ap (λ s. Some (min s last_count)) (sum_more 0 k (n ∷ ns)) ∙ ap Some (stop_twice (sum (n ∷ ns)) k last_count)

pub sum_of_more : (c : Option ℕ) (cs : List (Option ℕ)) → sum_of (cs ++ c ∷ []) ≡ sum_of_two (sum_of cs) c
sum_of_more c cs = ap stopped_sum (present_more c cs) ∙ stopped_more c (present cs)
