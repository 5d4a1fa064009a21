-- What a loop over items writes.
use Rattle.std.proofs.Common.{◌≡◌, ℕ, ◌≤◌, List, ◌∷◌, ◌++◌, length, take, map, sym, ◌∙◌, ap, append_assoc}
use Rattle.std.specs.List.{flat_map}
use Rattle.std.proofs.lemmas.List.Folds.{flat_map-map}
use Rattle.std.proofs.lemmas.List.{take_all}
use Rattle.pv_notation.specs.Lists.{joined}

pub all_joined : {X : Type 0} (f : X → List ℕ) (old mid out : List ℕ) (items rest : List X) (x : X) (i : ℕ)
    → items ≡ x ∷ rest → mid ≡ old ++ f x → out ≡ mid ++ flat_map (λ y. 44 ∷ f y) (take i rest) → length rest ≤ i → out ≡ old ++ joined (map f items)
all_joined f old mid out items rest x i e m o l =
    o ∙ ap (λ ys. mid ++ flat_map (λ y. 44 ∷ f y) ys) (take_all i rest l) ∙ ap (λ z. z ++ flat_map (λ y. 44 ∷ f y) rest) m ∙ append_assoc old (f x) _
    ∙ ap (λ ys. old ++ (f x ++ ys)) (sym (flat_map-map (λ y. 44 ∷ y) f rest)) ∙ ap (λ is. old ++ joined (map f is)) (sym e)
