-- What is spelled is read: values and documents. So bytes spell one document at most.
use Rattle.std.proofs.Common.{◌≡◌, ℕ, zero, suc, ◌<◌, ◌≤◌, Bool, true, false, List, [], ◌∷◌, ◌++◌, length, drop, Ok, Err, refl, sym, ap, ◌∙◌, subst, inl, inr, append_assoc, arith}
use Rattle.std.proofs.Math.Seq.{take-append_seam, drop-append_seam}
use Rattle.std.proofs.lemmas.Bool.{eq-eqb, eqb-true, leb-true, and_parts, or_cases}
use Rattle.std.specs.Prelude.{IsTrue, ◌⊎◌, ◌==◌, ◌||◌, nat_le}
use Rattle.pv_number.specs.Grammar.{AllDigits, IsNumber, Stops, goes_on}
use Rattle.pv_number.specs.Scanning.{is_digit}
use Rattle.pv_tree.specs.declared.Tree.{Tree}
use Rattle.pv_tree.specs.declared.Tree.TheVariants as tree
use Rattle.pv_tree.specs.Merging.{object_of}
use Rattle.pv_json_grammar.specs.Reading.{Reads, past, after, is_blank, skip, number}
use Rattle.pv_json_grammar.specs.Strings.{string}
use Rattle.pv_json_grammar.specs.Values.{object_tree, array, member, object, value_by, value, document}
use Rattle.pv_json_grammar.specs.SpelledStrings.{SpellsString, spelled}
use Rattle.pv_json_grammar.specs.Spells.{SpellsScalar, spells_null, spells_true, spells_false, spells_number, spells_text, Enclosed, SpellsMember, SpellsValue, spells_scalar, spells_array, spells_object, Spells, SpellsDocument}
use Rattle.pv_json_grammar.proofs.Binds.{ok_same}
use Rattle.pv_json_grammar.proofs.Utf8.{not_same}
use Rattle.pv_json_grammar.proofs.Utf8Kept.{string_complete}
use Rattle.pv_number.proofs.Completeness.{number_complete as number_scanned}
use Rattle.pv_json_grammar.proofs.SeveralComplete.{Ends, IsComplete, Starts, skip_to, skip_all, skip_start, all_blank, group_complete}

-- the first byte of a number
number_first : (text : List ℕ) → IsNumber text → (b : ℕ) × (bs : List ℕ) × (text ≡ b ∷ bs) × (45 ≤ b) × (b ≤ 57)
number_first text n = by n.is_minus n.is_whole
  where
    by : (n.minus ≡ []) ⊎ (n.minus ≡ 45 ∷ []) → (n.whole ≡ 48 ∷ []) ⊎ ((b : ℕ) × (bs : List ℕ) × (n.whole ≡ b ∷ bs) × (b ≡ 48 → ⊥) × IsTrue (is_digit b) × AllDigits bs)
        → (b : ℕ) × (bs : List ℕ) × (text ≡ b ∷ bs) × (45 ≤ b) × (b ≤ 57)
    by (inr m) w = (45, n.whole ++ (n.fraction ++ n.exponent), n.parts ∙ ap (λ z. z ++ (n.whole ++ (n.fraction ++ n.exponent))) m, omega arith, omega arith)
    by (inl m) (inl w) =
        (48, n.fraction ++ n.exponent, n.parts ∙ ap (λ z. z ++ (n.whole ++ (n.fraction ++ n.exponent))) m ∙ ap (λ z. z ++ (n.fraction ++ n.exponent)) w, omega arith, omega arith)
    by (inl m) (inr (b, bs, w, z, d, a)) =
        let p = and_parts (nat_le 48 b) (nat_le b 57) d in
        let least : 48 ≤ b = leb-true 48 b p.0 in
        (b, bs ++ (n.fraction ++ n.exponent), n.parts ∙ ap (λ z. z ++ (n.whole ++ (n.fraction ++ n.exponent))) m ∙ ap (λ z. z ++ (n.fraction ++ n.exponent)) w, omega arith, leb-true b 57 p.1)

number_starts : (close : ℕ) (text : List ℕ) → 57 < close → IsNumber text → Starts close text
number_starts close text c n =
    let f = number_first text n in
    subst (Starts close) (sym f.2) (by f.0 f.3 f.4)
  where
    by : (b : ℕ) → 45 ≤ b → b ≤ 57 → (is_blank b ≡ false) × ((b == close) ≡ false)
    by b l h = (rw (not_same b 32 (omega arith), not_same b 9 (omega arith), not_same b 10 (omega arith), not_same b 13 (omega arith)) refl, not_same b close (omega arith))

scalar_starts : (text : List ℕ) (t : Tree) → SpellsScalar text t → Starts 93 text
scalar_starts text t (spells_null e f) = subst (Starts 93) (sym e) (refl, refl)
scalar_starts text t (spells_true e f) = subst (Starts 93) (sym e) (refl, refl)
scalar_starts text t (spells_false e f) = subst (Starts 93) (sym e) (refl, refl)
scalar_starts text t (spells_number n f) = number_starts 93 text (omega arith) n
scalar_starts text t (spells_text bytes s f) = subst (Starts 93) (sym s.whole) (refl, refl)

nesting_starts : (S : List ℕ → Tree → Type 0) (text : List ℕ) (t : Tree) → SpellsValue S text t → Starts 93 text
nesting_starts S text t (spells_scalar s) = scalar_starts text t s
nesting_starts S text t (spells_array inside items e i f) = subst (Starts 93) (sym e) (refl, refl)
nesting_starts S text t (spells_object inside members e i f) = subst (Starts 93) (sym e) (refl, refl)

value_starts : (n : ℕ) (text : List ℕ) (t : Tree) → Spells n text t → Starts 93 text
unfolding Spells
value_starts zero text t s = scalar_starts text t s
value_starts (suc n) text t s = nesting_starts (Spells n) text t s

member_starts : (S : List ℕ → Tree → Type 0) (text : List ℕ) (m : List ℕ × Tree) → SpellsMember S text m → Starts 125 text
member_starts S text m s = subst (Starts 125) (sym (s.whole ∙ ap (λ z. z ++ (s.before ++ 58 ∷ (s.behind ++ s.value))) (s.spells_name).whole)) (refl, refl)

past_ok : (w : ℕ) (bs : List ℕ) → past w (w ∷ bs) ≡ Ok bs
unfolding past
past_ok w bs = rw (eq-eqb w w refl) refl

member_complete : (inner : List ℕ → Reads Tree) (S : List ℕ → Tree → Type 0) → IsComplete inner S → IsComplete (member inner) (SpellsMember S)
unfolding member
member_complete inner S complete lead text more m b s e =
    let units : List ℕ = spelled (s.spells_name).units in
    let after_colon : List ℕ = s.behind ++ (s.value ++ more) in
    let after_name : List ℕ = s.before ++ 58 ∷ after_colon in
    let tail : List ℕ = (units ++ 34 ∷ []) ++ after_name in
    let quote : (s.name ++ after_name) ≡ 34 ∷ tail = ap (λ z. z ++ after_name) (s.spells_name).whole in
    let apart : text ++ more ≡ s.name ++ after_name = ap (λ z. z ++ more) s.whole ∙ simp append_assoc in
    let front : skip (lead ++ (text ++ more)) ≡ 34 ∷ tail = ap (λ z. skip (lead ++ z)) (apart ∙ quote) ∙ skip_to lead tail 34 b refl in
    let name : string tail ≡ Ok (m.0, after_name) = string_complete s.name m.0 tail after_name s.spells_name quote in
    let colon : skip after_name ≡ 58 ∷ after_colon = skip_to s.before after_colon 58 s.blank_before refl in
    rw (front, past_ok 34 tail, name, colon, past_ok 58 after_colon, complete s.behind s.value more m.1 s.blank_behind s.spells_value e) refl

either : {P : Type 0} (x y : Bool) → (x || y) ≡ true → (x ≡ true → P) → (y ≡ true → P) → P
either x y e f g = elim (or_cases x y e) [ inl h ↦ f h | inr h ↦ g h ]

stops_at : (c k : ℕ) → goes_on k ≡ false → (c == k) ≡ true → goes_on c ≡ false
stops_at c k g e = ap goes_on (eqb-true c k e) ∙ g

-- no number goes on where a value ends
ends_stop : (more : List ℕ) → Ends more → Stops more
ends_stop [] e = tt
ends_stop (c ∷ cs) e =
    either (is_blank c) (c == 44 || (c == 93 || c == 125)) e
    (λ b. either (c == 32 || c == 9 || c == 10) (c == 13) b
    (λ b. either (c == 32 || c == 9) (c == 10) b (λ b. either (c == 32) (c == 9) b (stops_at c 32 refl) (stops_at c 9 refl)) (stops_at c 10 refl))
    (stops_at c 13 refl))
    (λ b. either (c == 44) (c == 93 || c == 125) b (stops_at c 44 refl) (λ b. either (c == 93) (c == 125) b (stops_at c 93 refl) (stops_at c 125 refl)))

number_complete : (text more : List ℕ) → IsNumber text → Ends more → number (text ++ more) ≡ Ok (text, more)
unfolding number
number_complete text more n e =
    rw (number_scanned text more n (ends_stop more e), take-append_seam text more, drop-append_seam text more) refl

module _ (arrays objects : List ℕ → Reads Tree) where
  number_read : (text more : List ℕ) → IsNumber text → Ends more → value_by arrays objects (text ++ more) ≡ Ok (tree.Num text, more)
  number_read text more n e =
      let f = number_first text n in
      let read : number (f.0 ∷ (f.1 ++ more)) ≡ Ok (text, more) = ap (λ z. number (z ++ more)) (sym f.2) ∙ number_complete text more n e in
      ap (λ z. value_by arrays objects (z ++ more)) f.2 ∙ by f.0 (f.1 ++ more) f.3 f.4 read
    where
      by : (b : ℕ) (bs : List ℕ) → 45 ≤ b → b ≤ 57 → number (b ∷ bs) ≡ Ok (text, more) → value_by arrays objects (b ∷ bs) ≡ Ok (tree.Num text, more)
      by b bs l h r = rw (not_same b 110 (omega arith), not_same b 116 (omega arith), not_same b 102 (omega arith), not_same b 34 (omega arith), not_same b 91 (omega arith), not_same b 123 (omega arith), r) refl

  text_read : (text bytes more : List ℕ) → SpellsString text bytes → value_by arrays objects (text ++ more) ≡ Ok (tree.Str bytes, more)
  text_read text bytes more s =
      let tail : List ℕ = (spelled s.units ++ 34 ∷ []) ++ more in
      let read : string tail ≡ Ok (bytes, more) = string_complete text bytes tail more s (ap (λ z. z ++ more) s.whole) in
      ap (λ z. value_by arrays objects (z ++ more)) s.whole ∙ rw read refl

  scalar_complete : (text more : List ℕ) (t : Tree) → SpellsScalar text t → Ends more → value_by arrays objects (text ++ more) ≡ Ok (t, more)
  unfolding after
  scalar_complete text more t (spells_null e f) ends = rw (e, f) refl
  scalar_complete text more t (spells_true e f) ends = rw (e, f) refl
  scalar_complete text more t (spells_false e f) ends = rw (e, f) refl
  scalar_complete text more t (spells_number n f) ends = number_read text more n ends ∙ ap (λ z. Ok (z, more)) (sym f)
  scalar_complete text more t (spells_text bytes s f) ends = text_read text bytes more s ∙ ap (λ z. Ok (z, more)) (sym f)

array_complete : (inner : List ℕ → Reads Tree) (S : List ℕ → Tree → Type 0) → IsComplete inner S → ((text : List ℕ) (t : Tree) → S text t → Starts 93 text)
    → (inside : List ℕ) (items : List Tree) (more : List ℕ) → Enclosed S inside items → array inner ((inside ++ 93 ∷ []) ++ more) ≡ Ok (tree.Array items, more)
unfolding array
array_complete inner S complete starts inside items more i =
    ap (array inner) (append_assoc inside (93 ∷ []) more)
    ∙ group_complete inner 93 tree.Array S complete refl refl refl starts inside items more i

object_complete : (inner : List ℕ → Reads Tree) (S : List ℕ → Tree → Type 0) → IsComplete inner S
    → (inside : List ℕ) (members : List (List ℕ × Tree)) (more : List ℕ) → Enclosed (SpellsMember S) inside members
    → object inner ((inside ++ 125 ∷ []) ++ more) ≡ Ok (tree.Object (object_of members), more)
unfolding object
object_complete inner S complete inside members more i =
    ap (object inner) (append_assoc inside (125 ∷ []) more)
    ∙ group_complete (member inner) 125 object_tree (SpellsMember S) (member_complete inner S complete) refl refl refl (member_starts S) inside members more i

nesting_complete : (inner : List ℕ → Reads Tree) (S : List ℕ → Tree → Type 0) → IsComplete inner S → ((text : List ℕ) (t : Tree) → S text t → Starts 93 text)
    → (text more : List ℕ) (t : Tree) → SpellsValue S text t → Ends more
    → value_by (λ all. array inner (drop 1 all)) (λ all. object inner (drop 1 all)) (text ++ more) ≡ Ok (t, more)
nesting_complete inner S complete starts text more t (spells_scalar s) ends =
    scalar_complete (λ all. array inner (drop 1 all)) (λ all. object inner (drop 1 all)) text more t s ends
nesting_complete inner S complete starts text more t (spells_array inside items e i f) ends =
    rw (e, f) (array_complete inner S complete starts inside items more i)
nesting_complete inner S complete starts text more t (spells_object inside members e i f) ends =
    rw (e, f) (object_complete inner S complete inside members more i)

pub value_complete : (n : ℕ) → IsComplete (value n) (Spells n)
unfolding value Spells
value_complete zero lead text more t b s ends =
    ap (value_by (λ all. Err (length all)) (λ all. Err (length all))) (skip_start 93 lead text more b (scalar_starts text t s))
    ∙ scalar_complete (λ all. Err (length all)) (λ all. Err (length all)) text more t s ends
value_complete (suc n) lead text more t b s ends =
    ap (value_by (λ all. array (value n) (drop 1 all)) (λ all. object (value n) (drop 1 all))) (skip_start 93 lead text more b (nesting_starts (Spells n) text t s))
    ∙ nesting_complete (value n) (Spells n) (value_complete n) (value_starts n) text more t s ends

pub document_complete : (n : ℕ) (bs : List ℕ) (t : Tree) → SpellsDocument n bs t → document n bs ≡ Ok t
unfolding document
document_complete n bs t d =
    rw (d.whole, value_complete n d.lead d.text d.trail t d.blank_lead d.spells (all_blank d.trail d.blank_trail), skip_all d.trail d.blank_trail) refl

pub same_tree : (n : ℕ) (bs : List ℕ) (t u : Tree) → SpellsDocument n bs t → SpellsDocument n bs u → t ≡ u
same_tree n bs t u d e = ok_same t u (sym (document_complete n bs t d) ∙ document_complete n bs u e)
