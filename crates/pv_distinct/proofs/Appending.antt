-- What was appended, part by part.
use Rattle.std.proofs.Common.{◌≡◌, ℕ, zero, suc, ◌+◌, ◌<◌, List, [], ◌∷◌, ◌++◌, length, map, take, get_or, sym, ap, ◌∙◌, append_assoc, append-nil, add-one, arith}
use Rattle.pv_tree.specs.declared.Value.{Value}
use Rattle.pv_distinct.specs.Keys.{KeyTokens, key, joined}

one_more : (vs : List Value) (i : ℕ) (v : Value) → i < length vs → joined (map key (take i vs)) ++ key (get_or vs i v) ≡ joined (map key (take (suc i) vs))
one_more [] i v h = absurd (omega arith)
one_more (w ∷ vs) zero v h = sym (append-nil (key w))
one_more (w ∷ vs) (suc i) v h = append_assoc (key w) (joined (map key (take i vs))) (key (get_or vs i v)) ∙ ap (λ k. key w ++ k) (one_more vs i v (omega arith))

-- a loop over values that appends the key of each
pub more : (vs : List Value) (i : ℕ) (v : Value) (first old new : KeyTokens) → i < length vs → v ≡ get_or vs i v → old ≡ first ++ joined (map key (take i vs)) → new ≡ old ++ key v
    → new ≡ first ++ joined (map key (take (i + 1) vs))
more vs i v first old new h e p q =
    q ∙ (λ j. p j ++ key (e j)) ∙ append_assoc first (joined (map key (take i vs))) (key (get_or vs i v))
    ∙ ap (λ k. first ++ k) (one_more vs i v h ∙ (λ j. joined (map key (take (sym (add-one i) j) vs))))
