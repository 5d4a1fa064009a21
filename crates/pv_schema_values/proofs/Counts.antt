-- Keys are distinct exactly if a set of them has as many.
use Rattle.std.proofs.Common.{◌≡◌, ℕ, ◌≤◌, suc, Bool, true, false, cond, not, ◌&&◌, List, [], ◌∷◌, length, refl, arith}
use Rattle.std.specs.Prelude.{nat_eq}
use Rattle.std.specs.List.{list_any}
use Rattle.std.specs.Cmp.{IsEquivalence}
use Rattle.std.specs.HashSet as bag
use Rattle.std.specs.HashSet.{HashSet, hash_set_len}
use Rattle.std.specs.Set.{distinct_count, unique_keys}
use Rattle.std.proofs.lemmas.Map.Made.{hash_set_len-from_list, distinct_count-le}
use Rattle.std.proofs.lemmas.Grind.{common_steps}
use Rattle.pv_rules.specs.Members.{are_distinct}

one_more : (m n : ℕ) (there later : Bool) → m ≤ n → nat_eq m n ≡ later → nat_eq (cond there m (suc m)) (suc n) ≡ (not there && later)
one_more m n true later le same = grind (arith, common_steps)
one_more m n false later le same = grind (arith, common_steps)

counted : {K : Type 0} (eq : K → K → Bool) (xs : List K) → nat_eq (distinct_count eq xs) (length xs) ≡ are_distinct eq xs
counted eq [] = refl
counted eq (x ∷ xs) = by (list_any (eq x) xs) (distinct_count-le eq xs) (counted eq xs)
  where
    by : (there : Bool) → length (unique_keys eq xs) ≤ length xs → nat_eq (length (unique_keys eq xs)) (length xs) ≡ are_distinct eq xs → nat_eq (length (cond there (unique_keys eq xs) (x ∷ unique_keys eq xs))) (suc (length xs)) ≡ (not there && are_distinct eq xs)
    by true le same = one_more _ _ true _ le same
    by false le same = one_more _ _ false _ le same

pub distinct_by_count : {K S : Type 0} {eq : K → K → Bool} (laws : IsEquivalence eq) (xs : List K) (n : HashSet K S) → bag.IsFromIterResult eq xs n → nat_eq (hash_set_len n) (length xs) ≡ are_distinct eq xs
distinct_by_count laws xs n from = rw (hash_set_len-from_list laws xs n from) (counted _ xs)
