-- One turn of a loop over items or members.
use Rattle.std.proofs.Common.{◌≡◌, ℕ, suc, ◌+◌, ◌-◌, ◌<◌, List, [], ◌∷◌, ◌++◌, ap, arith}
use Rattle.pv_tree.specs.declared.Tree.{Tree}
use Rattle.pv_json_grammar.specs.Reading.{Reads, skip}
use Rattle.pv_number.specs.Scanning.{◌>>=◌}
use Rattle.pv_json_grammar.specs.Values.{behind, several}

pub several_step : {A : Type 0} (inner : List ℕ → Reads A) (close : ℕ) (finish : List A → Tree) (n i : ℕ) (all : List A) (rest : List ℕ) → i < n
    → several inner close finish (n - i) all rest
    ≡ (inner rest >>= λ x. behind inner close finish (several inner close finish (n - (i + 1))) (all ++ x.0 ∷ []) (skip x.1))
unfolding several
several_step inner close finish n i all rest l =
    let turn : n - i ≡ suc (n - (i + 1)) = omega arith in ap (λ m. several inner close finish m all rest) turn
