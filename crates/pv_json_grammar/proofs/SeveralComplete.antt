-- What is spelled is read: several things with commas between them, from one of them.
use Rattle.std.proofs.Common.{◌≡◌, ℕ, zero, suc, ◌<◌, ◌≤◌, Bool, false, cond, List, [], ◌∷◌, ◌++◌, length, Ok, refl, ap, ◌∙◌, append_assoc, length-append, arith}
use Rattle.std.proofs.lemmas.Bool.{eq-eqb}
use Rattle.std.specs.Prelude.{IsTrue, ◌==◌, ◌||◌}
use Rattle.pv_tree.specs.declared.Tree.{Tree}
use Rattle.pv_json_grammar.specs.Reading.{Reads, is_blank, skip}
use Rattle.pv_json_grammar.specs.Values.{several, group}
use Rattle.pv_json_grammar.specs.Spells.{IsBlank, Padded, Listed, Enclosed}

-- a value may end before these bytes
abbrev pub ends_value : ℕ → Bool
ends_value b = is_blank b || (b == 44 || (b == 93 || b == 125))

abbrev pub Ends : List ℕ → Type 0
Ends [] = Unit {0}
Ends (b ∷ bs) = IsTrue (ends_value b)

-- a reader that reads what is spelled by S, behind white space
abbrev pub IsComplete : {A : Type 0} → (List ℕ → Reads A) → (List ℕ → A → Type 0) → Type 0
IsComplete {A = A} inner S = (lead text more : List ℕ) (x : A) → IsBlank lead → S text x → Ends more → inner (lead ++ (text ++ more)) ≡ Ok (x, more)

-- neither white space nor this bracket comes first
abbrev pub Starts : ℕ → List ℕ → Type 0
Starts close [] = ⊥
Starts close (b ∷ bs) = (is_blank b ≡ false) × ((b == close) ≡ false)

pub skip_blank : (ws rest : List ℕ) → IsBlank ws → skip (ws ++ rest) ≡ skip rest
unfolding skip
skip_blank [] rest b = refl
skip_blank (w ∷ ws) rest b = ap (λ t. cond t (skip (ws ++ rest)) (w ∷ (ws ++ rest))) b.0 ∙ skip_blank ws rest b.1

pub skip_none : (b : ℕ) (bs : List ℕ) → is_blank b ≡ false → skip (b ∷ bs) ≡ b ∷ bs
unfolding skip
skip_none b bs e = ap (λ t. cond t (skip bs) (b ∷ bs)) e

pub skip_to : (ws rest : List ℕ) (c : ℕ) → IsBlank ws → is_blank c ≡ false → skip (ws ++ c ∷ rest) ≡ c ∷ rest
skip_to ws rest c b e = skip_blank ws (c ∷ rest) b ∙ skip_none c rest e

pub skip_all : (ws : List ℕ) → IsBlank ws → skip ws ≡ []
unfolding skip
skip_all [] b = refl
skip_all (w ∷ ws) b = ap (λ t. cond t (skip ws) (w ∷ ws)) b.0 ∙ skip_all ws b.1

pub skip_start : (close : ℕ) (ws text rest : List ℕ) → IsBlank ws → Starts close text → skip (ws ++ (text ++ rest)) ≡ text ++ rest
skip_start close ws [] rest b s = absurd s
skip_start close ws (c ∷ cs) rest b s = skip_to ws (cs ++ rest) c b s.0

pub ends_blank : (ws rest : List ℕ) → IsBlank ws → Ends rest → Ends (ws ++ rest)
ends_blank [] rest b e = e
ends_blank (w ∷ ws) rest b e = ap (λ t. t || (w == 44 || (w == 93 || w == 125))) b.0

pub all_blank : (ws : List ℕ) → IsBlank ws → Ends ws
all_blank [] b = tt
all_blank (w ∷ ws) b = ap (λ t. t || (w == 44 || (w == 93 || w == 125))) b.0

module _ {A : Type 0} (inner : List ℕ → Reads A) (close : ℕ) (finish : List A → Tree) (S : List ℕ → A → Type 0) (complete : IsComplete inner S) where
  one_thing : (bs : List ℕ) (x : A) (c : ℕ) (rest : List ℕ) → Padded S bs x → is_blank c ≡ false → IsTrue (ends_value c)
      → (more : List ℕ) × (inner (bs ++ c ∷ rest) ≡ Ok (x, more)) × (skip more ≡ c ∷ rest)
  one_thing bs x c rest p e ends = (
    p.trail ++ c ∷ rest,
    ap inner (ap (λ z. z ++ c ∷ rest) p.whole ∙ append_assoc p.lead (p.text ++ p.trail) (c ∷ rest) ∙ ap (λ z. p.lead ++ z) (append_assoc p.text p.trail (c ∷ rest)))
        ∙ complete p.lead p.text (p.trail ++ c ∷ rest) x p.blank_lead p.spells (ends_blank p.trail (c ∷ rest) p.blank_trail ends),
    skip_to p.trail rest c p.blank_trail e,
  )

  several_complete : is_blank close ≡ false → IsTrue (ends_value close) → (close == 44) ≡ false
      → (k : ℕ) (all : List A) (bs : List ℕ) (x : A) (xs : List A) (rest : List ℕ) → length xs < k → Listed S bs (x ∷ xs)
      → several inner close finish k all (bs ++ close ∷ rest) ≡ Ok (finish (all ++ x ∷ xs), rest)
  unfolding several
  several_complete b e n zero all bs x xs rest l i = absurd (omega arith)
  several_complete b e n (suc k) all bs x [] rest l p =
      let o = one_thing bs x close rest p b e in
      rw (o.1, o.2, n, eq-eqb close close refl) refl
  several_complete b e n (suc k) all bs x (y ∷ ys) rest l (first, more, w, p, q) =
      let o = one_thing first x 44 (more ++ close ∷ rest) p refl refl in
      ap (λ z. several inner close finish (suc k) all z) (ap (λ z. z ++ close ∷ rest) w ∙ append_assoc first (44 ∷ more) (close ∷ rest))
      ∙ rw (o.1, o.2) (several_complete b e n k (all ++ x ∷ []) more y ys rest (omega arith) q ∙ ap (λ z. Ok (finish z, rest)) (append_assoc all (x ∷ []) (y ∷ ys)))

  -- each thing but the last has its comma
  listed_long : (bs : List ℕ) (x : A) (xs : List A) → Listed S bs (x ∷ xs) → length xs ≤ length bs
  listed_long bs x [] p = omega arith
  listed_long bs x (y ∷ ys) (first, more, w, p, q) = omega (arith, ap length w, length-append first (44 ∷ more), listed_long more y ys q)

  -- what is listed, without the white space in front
  abbrev Opened : List ℕ → A → List A → Type 0
  Opened bs x xs = (lead : List ℕ) × (b : ℕ) × (tail : List ℕ) × (bs ≡ lead ++ b ∷ tail) × IsBlank lead × (is_blank b ≡ false) × ((b == close) ≡ false) × Listed S (b ∷ tail) (x ∷ xs)

  opened_one : (bs lead text trail : List ℕ) (x : A) → bs ≡ lead ++ (text ++ trail) → IsBlank lead → S text x → IsBlank trail → Starts close text → Opened bs x []
  opened_one bs lead [] trail x e b s d f = absurd f
  opened_one bs lead (c ∷ cs) trail x e b s d f =
      (lead, c, cs ++ trail, e, b, f.0, f.1, record { lead = []; text = c ∷ cs; trail = trail; whole = refl; blank_lead = tt; spells = s; blank_trail = d })

  opened : ((text : List ℕ) (x : A) → S text x → Starts close text) → (bs : List ℕ) (x : A) (xs : List A) → Listed S bs (x ∷ xs) → Opened bs x xs
  opened starts bs x [] p = opened_one bs p.lead p.text p.trail x p.whole p.blank_lead p.spells p.blank_trail (starts p.text x p.spells)
  opened starts bs x (y ∷ ys) (first, more, w, p, q) =
      let o = opened_one first p.lead p.text p.trail x p.whole p.blank_lead p.spells p.blank_trail (starts p.text x p.spells) in
      (o.0, o.1, o.2 ++ 44 ∷ more, w ∙ ap (λ z. z ++ 44 ∷ more) o.3 ∙ append_assoc o.0 (o.1 ∷ o.2) (44 ∷ more), o.4, o.5, o.6, (o.1 ∷ o.2, more, refl, o.7, q))

  pub group_complete : is_blank close ≡ false → IsTrue (ends_value close) → (close == 44) ≡ false → ((text : List ℕ) (x : A) → S text x → Starts close text)
      → (inside : List ℕ) (xs : List A) (rest : List ℕ) → Enclosed S inside xs
      → group inner close finish (skip (inside ++ close ∷ rest)) ≡ Ok (finish xs, rest)
  group_complete b e n starts inside [] rest i = rw (skip_to inside rest close i b, eq-eqb close close refl) refl
  group_complete b e n starts inside (x ∷ xs) rest i =
      let o = opened starts inside x xs i in
      let front : skip (inside ++ close ∷ rest) ≡ (o.1 ∷ o.2) ++ close ∷ rest =
      ap (λ z. skip (z ++ close ∷ rest)) o.3 ∙ ap skip (append_assoc o.0 (o.1 ∷ o.2) (close ∷ rest)) ∙ skip_to o.0 (o.2 ++ close ∷ rest) o.1 o.4 o.5 in
      let enough : length xs < length ((o.1 ∷ o.2) ++ close ∷ rest) =
      omega (arith, listed_long (o.1 ∷ o.2) x xs o.7, length-append (o.1 ∷ o.2) (close ∷ rest)) in
      ap (group inner close finish) front
      ∙ ap (λ t. cond t (Ok (finish [], o.2 ++ close ∷ rest)) (several inner close finish (length ((o.1 ∷ o.2) ++ close ∷ rest)) [] ((o.1 ∷ o.2) ++ close ∷ rest))) o.6
      ∙ several_complete b e n (length ((o.1 ∷ o.2) ++ close ∷ rest)) [] (o.1 ∷ o.2) x xs rest enough o.7
