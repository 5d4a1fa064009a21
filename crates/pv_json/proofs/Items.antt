-- One more item, one more member, and the closing byte.
use Rattle.std.proofs.Common.{◌≡◌, ℕ, ◌+◌, ◌-◌, ◌<◌, ◌≤◌, List, [], ◌∷◌, ◌++◌, length, take, drop, get_or, Ok, refl, sym, ap, ◌∙◌, arith}
use Rattle.std.specs.Prelude.{false, ◌==◌}
use Rattle.std.proofs.lemmas.Bool.{eq-eqb}
use Rattle.std.proofs.lemmas.List.{take_all}
use Rattle.pv_tree.specs.declared.Tree.{Tree}
use Rattle.pv_json.proofs.Steps.{several_step}
use Rattle.pv_json_grammar.specs.Reading.{Reads, skip}
use Rattle.pv_json_grammar.specs.Values.{several}

-- a slice and what its pattern `[first, rest @ ..]` binds
pub first_rest : (s : List ℕ) → 1 ≤ length s → s ≡ get_or s 0 0 ∷ take (length s - 1) (drop 1 s)
first_rest [] l = absurd (omega arith)
first_rest (b ∷ bs) l = ap (λ r. b ∷ r) (sym (take_all (length (b ∷ bs) - 1) bs (omega arith)))

-- the same of what stands behind white space, when its first byte is taken
pub front_rest : (s behind rest more : List ℕ) → s ≡ behind → behind ≡ skip more → 1 ≤ length s → rest ≡ drop 1 behind → skip more ≡ get_or s 0 0 ∷ rest
front_rest [] behind rest more e f l g = absurd (omega arith)
front_rest (b ∷ bs) behind rest more e f l g = sym f ∙ sym e ∙ ap (λ r. b ∷ r) (ap (drop 1) e ∙ sym g)

-- a comma and one more of them
pub several_more : {A : Type 0} (inner : List ℕ → Reads A) (close : ℕ) (finish : List A → Tree) (n i : ℕ) (all more_all : List A) (rest more bs : List ℕ) (x : A) (b : ℕ)
    → i < n → inner rest ≡ Ok (x, more) → skip more ≡ b ∷ bs → b ≡ 44 → more_all ≡ all ++ x ∷ []
    → several inner close finish (n - i) all rest ≡ several inner close finish (n - (i + 1)) more_all bs
several_more inner close finish n i all more_all rest more bs x b l e f g h = several_step inner close finish n i all rest l ∙ rw (e, f, g, h) refl

-- the closing byte
pub several_last : {A : Type 0} (inner : List ℕ → Reads A) (close : ℕ) (finish : List A → Tree) (n i : ℕ) (all row : List A) (t : Tree) (rest more bs : List ℕ) (x : A) (b : ℕ)
    → (close == 44) ≡ false → i < n → inner rest ≡ Ok (x, more) → skip more ≡ b ∷ bs → b ≡ close → row ≡ all ++ x ∷ [] → t ≡ finish row
    → several inner close finish (n - i) all rest ≡ Ok (t, bs)
several_last inner close finish n i all row t rest more bs x b c l e f g h k =
    several_step inner close finish n i all rest l ∙ rw (e, f, g, c, eq-eqb close close refl, k, h) refl
