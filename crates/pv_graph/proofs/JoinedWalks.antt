-- One walk after another.
use Rattle.std.proofs.Common.{ℕ, List, [], ◌∷◌, ◌++◌, sym, subst}
use Rattle.pv_graph.specs.Walks.{IsWalk, ReachesItself}

-- they are a walk
pub joined : (g : List (List ℕ)) (i : ℕ) (ks : List ℕ) (j : ℕ) (ls : List ℕ) (k : ℕ) → IsWalk g i ks j → IsWalk g j ls k → IsWalk g i (ks ++ ls) k
joined g i [] j ls k v w = subst (λ x. IsWalk g x ls k) (sym v) w
joined g i (h ∷ ks) j ls k v w = (v.0, joined g h ks j ls k v.1 w)

-- a walk away and one or more steps back are a walk of one or more steps from a node to itself
pub comes_back : (g : List (List ℕ)) (i : ℕ) (ks : List ℕ) (j l : ℕ) (ls : List ℕ) → IsWalk g i ks j → IsWalk g j (l ∷ ls) i → ReachesItself g i
comes_back g i [] j l ls v w = (l, ls, subst (λ x. IsWalk g x (l ∷ ls) i) (sym v) w)
comes_back g i (k ∷ ks) j l ls v w = (k, ks ++ l ∷ ls, joined g i (k ∷ ks) j (l ∷ ls) i v w)
