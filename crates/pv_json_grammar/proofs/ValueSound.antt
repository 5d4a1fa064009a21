-- What is read is spelled: values and documents.
use Rattle.std.proofs.Common.{◌≡◌, ℕ, zero, suc, ◌+◌, true, false, cond, List, [], ◌∷◌, ◌++◌, length, take, drop, codes, Ok, Err, refl, sym, ap, ◌∙◌, subst, inl, inr, append_assoc, append-nil, arith}
use Rattle.std.proofs.lemmas.Bool.{eqb-true}
use Rattle.std.proofs.lemmas.List.{take-append-drop}
use Rattle.std.specs.Prelude.{◌⊎◌, ◌==◌}
use Rattle.pv_number.specs.Scanning.{◌>>=◌, number_len}
use Rattle.pv_tree.specs.declared.Tree.{Tree}
use Rattle.pv_tree.specs.declared.Tree.TheVariants as tree
use Rattle.pv_json_grammar.specs.Reading.{Reads, past, after, skip, number}
use Rattle.pv_json_grammar.specs.Strings.{string}
use Rattle.pv_json_grammar.specs.Values.{object_tree, array, member, object, word, value_by, value, document}
use Rattle.pv_json_grammar.specs.Spells.{IsBlank, SpellsScalar, spells_null, spells_true, spells_false, spells_number, spells_text, SpellsMember, SpellsValue, spells_scalar, spells_array, spells_object, Spells, SpellsDocument}
use Rattle.pv_json_grammar.proofs.Binds.{bind_ok, ok_same, absurd_ok, chosen}
use Rattle.pv_json_grammar.proofs.StringSound.{string_sound}
use Rattle.pv_number.proofs.Soundness.{number_sound as number_scanned}
use Rattle.pv_json_grammar.proofs.SeveralSound.{IsSound, blank_front, group_sound}

past_sound : (w : ℕ) (bs rest : List ℕ) → past w bs ≡ Ok rest → bs ≡ w ∷ rest
unfolding past
past_sound w [] rest e = absurd_ok _ _ e
past_sound w (b ∷ bs) rest e = elim (chosen (b == w) (Ok bs) (Err (length bs + 1)) (Ok rest) e) [
  | inl h ↦ ap (λ c. c ∷ bs) (eqb-true b w h.0) ∙ ap (λ r. w ∷ r) (ok_same _ _ h.1)
  | inr h ↦ absurd_ok _ _ h.1
]

after_sound : (ws bs rest : List ℕ) → after ws bs ≡ Ok rest → bs ≡ ws ++ rest
unfolding after
after_sound [] bs rest e = ok_same _ _ e
after_sound (w ∷ ws) [] rest e = absurd_ok _ _ e
after_sound (w ∷ ws) (b ∷ bs) rest e = elim (chosen (b == w) (after ws bs) _ (Ok rest) e) [
  | inl h ↦ ap (λ c. c ∷ bs) (eqb-true b w h.0) ∙ ap (λ r. w ∷ r) (after_sound ws bs rest h.1)
  | inr h ↦ absurd_ok _ _ h.1
]

-- the parts of a member, put together
member_parts : (bs lead name more1 gap1 more2 gap2 text more3 : List ℕ) → bs ≡ lead ++ (name ++ more1) → more1 ≡ gap1 ++ 58 ∷ more2 → more2 ≡ gap2 ++ (text ++ more3)
    → bs ≡ lead ++ ((name ++ (gap1 ++ 58 ∷ (gap2 ++ text))) ++ more3)
member_parts bs lead name more1 gap1 more2 gap2 text more3 e f g =
    rw (e, f, g) (simp append_assoc)

member_sound : (inner : List ℕ → Reads Tree) (S : List ℕ → Tree → Type 0) → IsSound inner S → IsSound (member inner) (SpellsMember S)
unfolding member
member_sound inner S sound bs y e =
    let q = bind_ok (past 34 (skip bs)) _ y e in
    let name = bind_ok (string q.0) _ y q.2 in
    let colon = bind_ok (past 58 (skip (name.0).1)) _ y name.2 in
    let v = bind_ok (inner colon.0) (λ v. Ok (((name.0).0, v.0), v.1)) y colon.2 in
    let same = ok_same _ _ v.2 in
    let lead = blank_front bs in
    let quote : skip bs ≡ 34 ∷ q.0 = past_sound 34 (skip bs) q.0 q.1 in
    let text = string_sound q.0 name.0 name.1 in
    let gap = blank_front (name.0).1 in
    let inside = sound colon.0 v.0 v.1 in
    let parts = member_parts bs lead.0 text.0 (name.0).1 gap.0 colon.0 inside.0 inside.1 (v.0).1
    (lead.2 ∙ ap (λ z. lead.0 ++ z) (quote ∙ text.2))
    (gap.2 ∙ ap (λ z. gap.0 ++ z) (past_sound 58 (skip (name.0).1) colon.0 colon.1))
    inside.2 in
    subst (λ (z : (List ℕ × Tree) × List ℕ). (lead : List ℕ) × (text : List ℕ) × (bs ≡ lead ++ (text ++ z.1)) × IsBlank lead × SpellsMember S text z.0) same (
      lead.0,
      text.0 ++ (gap.0 ++ 58 ∷ (inside.0 ++ inside.1)),
      parts,
      lead.1,
      record {
        name = text.0;
        before = gap.0;
        behind = inside.0;
        value = inside.1;
        whole = refl;
        spells_name = text.1;
        blank_before = gap.1;
        blank_behind = inside.3;
        spells_value = inside.4;
      },
    )

word_sound : (w : List ℕ) (t : Tree) (bs : List ℕ) (y : Tree × List ℕ) → word w t bs ≡ Ok y → (bs ≡ w ++ y.1) × (y.0 ≡ t)
word_sound w t bs y e =
    let r = bind_ok (after w bs) (λ r. Ok (t, r)) y e in
    let same = ok_same _ _ r.2 in
    (after_sound w bs r.0 r.1 ∙ ap (λ (z : Tree × List ℕ). w ++ z.1) same, ap (λ (z : Tree × List ℕ). z.0) (sym same))

-- a value that holds no other, and what follows it
abbrev ScalarRead : List ℕ → Tree × List ℕ → Type 0
ScalarRead bs y = (text : List ℕ) × (bs ≡ text ++ y.1) × SpellsScalar text y.0

number_sound : (bs : List ℕ) (y : Tree × List ℕ) → (number bs >>= λ x. Ok (tree.Num x.0, x.1)) ≡ Ok y → ScalarRead bs y
unfolding number
number_sound bs y e =
    let r = bind_ok (number bs) (λ x. Ok (tree.Num x.0, x.1)) y e in
    let n = bind_ok (number_len bs) (λ n. Ok (take n bs, drop n bs)) r.0 r.1 in
    let same = ok_same _ _ (ap (λ (z : List ℕ × List ℕ). let a : Reads Tree = Ok (tree.Num z.0, z.1) in a) (ok_same _ _ n.2) ∙ r.2) in
    subst (ScalarRead bs) same (take n.0 bs, sym (take-append-drop n.0 bs), spells_number (number_scanned bs n.0 n.1).0 refl)

string_read : (bs : List ℕ) (y : Tree × List ℕ) → (string bs >>= λ x. Ok (tree.Str x.0, x.1)) ≡ Ok y → ScalarRead (34 ∷ bs) y
string_read bs y e =
    let r = bind_ok (string bs) (λ x. Ok (tree.Str x.0, x.1)) y e in
    let s = string_sound bs r.0 r.1 in
    subst (ScalarRead (34 ∷ bs)) (ok_same _ _ r.2) (s.0, s.2, spells_text (r.0).0 s.1 refl)

-- a value, of which arrays and objects are left to their readers
by_first : (arrays objects : List ℕ → Reads Tree) (b : ℕ) (bs : List ℕ) (y : Tree × List ℕ) → value_by arrays objects (b ∷ bs) ≡ Ok y
    → ScalarRead (b ∷ bs) y ⊎ (((b ≡ 91) × (arrays (b ∷ bs) ≡ Ok y)) ⊎ ((b ≡ 123) × (objects (b ∷ bs) ≡ Ok y)))
by_first arrays objects b bs y e = elim (chosen (b == 110) _ _ (Ok y) e) [
  | inl h ↦ (let r = word_sound (codes "null") tree.Null (b ∷ bs) y h.1 in inl (codes "null", r.0, spells_null refl r.1))
  | inr h ↦ elim (chosen (b == 116) _ _ (Ok y) h.1) [
    | inl h ↦ (let r = word_sound (codes "true") (tree.Bool true) (b ∷ bs) y h.1 in inl (codes "true", r.0, spells_true refl r.1))
    | inr h ↦ elim (chosen (b == 102) _ _ (Ok y) h.1) [
      | inl h ↦ (let r = word_sound (codes "false") (tree.Bool false) (b ∷ bs) y h.1 in inl (codes "false", r.0, spells_false refl r.1))
      | inr h ↦ elim (chosen (b == 34) _ _ (Ok y) h.1) [
        | inl h ↦ inl (subst (λ c. ScalarRead (c ∷ bs) y) (sym (eqb-true b 34 h.0)) (string_read bs y h.1))
        | inr h ↦ elim (chosen (b == 91) _ _ (Ok y) h.1) [
          | inl h ↦ inr (inl (eqb-true b 91 h.0, h.1))
          | inr h ↦ elim (chosen (b == 123) _ _ (Ok y) h.1) [
            | inl h ↦ inr (inr (eqb-true b 123 h.0, h.1))
            | inr h ↦ inl (number_sound (b ∷ bs) y h.1)
          ]
        ]
      ]
    ]
  ]
]

-- what is read of a value behind white space, and what follows it
abbrev ValueRead : (List ℕ → Tree → Type 0) → List ℕ → Tree × List ℕ → Type 0
ValueRead S bs y = (lead : List ℕ) × (text : List ℕ) × (bs ≡ lead ++ (text ++ y.1)) × IsBlank lead × S text y.0

array_sound : (inner : List ℕ → Reads Tree) (S : List ℕ → Tree → Type 0) → IsSound inner S → (bs : List ℕ) (y : Tree × List ℕ) → array inner bs ≡ Ok y
    → (text : List ℕ) × (91 ∷ bs ≡ text ++ y.1) × SpellsValue S text y.0
unfolding array
array_sound inner S sound bs y e =
    let g = group_sound inner 93 tree.Array S sound bs y e in (
      91 ∷ g.0 ++ 93 ∷ [],
      ap (λ z. 91 ∷ z) (g.2 ∙ sym (append_assoc g.0 (93 ∷ []) y.1)),
      spells_array g.0 g.1 refl g.3 g.4,
    )

object_sound : (inner : List ℕ → Reads Tree) (S : List ℕ → Tree → Type 0) → IsSound inner S → (bs : List ℕ) (y : Tree × List ℕ) → object inner bs ≡ Ok y
    → (text : List ℕ) × (123 ∷ bs ≡ text ++ y.1) × SpellsValue S text y.0
unfolding object
object_sound inner S sound bs y e =
    let g = group_sound (member inner) 125 object_tree (SpellsMember S) (member_sound inner S sound) bs y e in (
      123 ∷ g.0 ++ 125 ∷ [],
      ap (λ z. 123 ∷ z) (g.2 ∙ sym (append_assoc g.0 (125 ∷ []) y.1)),
      spells_object g.0 g.1 refl g.3 g.4,
    )

scalar_sound : (r lead bs : List ℕ) (y : Tree × List ℕ) → IsBlank lead → bs ≡ lead ++ r
    → value_by (λ all. Err (length all)) (λ all. Err (length all)) r ≡ Ok y → ValueRead SpellsScalar bs y
scalar_sound [] lead bs y b w e = absurd_ok _ _ e
scalar_sound (c ∷ cs) lead bs y b w e = elim (by_first (λ all. Err (length all)) (λ all. Err (length all)) c cs y e) [
  | inl h ↦ (lead, h.0, w ∙ ap (λ z. lead ++ z) h.1, b, h.2)
  | inr h ↦ elim h [ inl g ↦ absurd_ok _ _ g.1 | inr g ↦ absurd_ok _ _ g.1 ]
]

nesting_sound : (inner : List ℕ → Reads Tree) (S : List ℕ → Tree → Type 0) → IsSound inner S → (r lead bs : List ℕ) (y : Tree × List ℕ) → IsBlank lead
    → bs ≡ lead ++ r → value_by (λ all. array inner (drop 1 all)) (λ all. object inner (drop 1 all)) r ≡ Ok y → ValueRead (SpellsValue S) bs y
nesting_sound inner S sound [] lead bs y b w e = absurd_ok _ _ e
nesting_sound inner S sound (c ∷ cs) lead bs y b w e = elim (by_first (λ all. array inner (drop 1 all)) (λ all. object inner (drop 1 all)) c cs y e) [
  | inl h ↦ (lead, h.0, w ∙ ap (λ z. lead ++ z) h.1, b, spells_scalar h.2)
  | inr h ↦ elim h [
    | inl g ↦ (let a = array_sound inner S sound cs y g.1 in (lead, a.0, w ∙ ap (λ d. lead ++ d ∷ cs) g.0 ∙ ap (λ z. lead ++ z) a.1, b, a.2))
    | inr g ↦ (let a = object_sound inner S sound cs y g.1 in (lead, a.0, w ∙ ap (λ d. lead ++ d ∷ cs) g.0 ∙ ap (λ z. lead ++ z) a.1, b, a.2))
  ]
]

pub value_sound : (n : ℕ) → IsSound (value n) (Spells n)
unfolding value Spells
value_sound zero bs y e = let f = blank_front bs in scalar_sound (skip bs) f.0 bs y f.1 f.2 e
value_sound (suc n) bs y e =
    let f = blank_front bs in nesting_sound (value n) (Spells n) (value_sound n) (skip bs) f.0 bs y f.1 f.2 e

none_left : (xs : List ℕ) → (length xs == 0) ≡ true → xs ≡ []
none_left [] e = refl
none_left (x ∷ xs) e = absurd (apart (length xs) (eqb-true (suc (length xs)) 0 e))
  where
    apart : (n : ℕ) → suc n ≡ 0 → ⊥
    apart n e = omega arith

pub document_sound : (n : ℕ) (bs : List ℕ) (t : Tree) → document n bs ≡ Ok t → SpellsDocument n bs t
unfolding document
document_sound n bs t e =
    let r = bind_ok (value n bs) (λ x. cond (length (skip x.1) == 0) (Ok x.0) (Err (length (skip x.1)))) t e in
    let s = value_sound n bs r.0 r.1 in
    let f = blank_front (r.0).1 in
    elim (chosen (length (skip (r.0).1) == 0) (Ok (r.0).0) (Err (length (skip (r.0).1))) (Ok t) r.2) [
      | inl h ↦ record {
        lead = s.0;
        text = s.1;
        trail = f.0;
        whole = s.2 ∙ ap (λ m. s.0 ++ (s.1 ++ m)) (f.2 ∙ ap (λ z. f.0 ++ z) (none_left (skip (r.0).1) h.0) ∙ append-nil f.0);
        blank_lead = s.3;
        spells = subst (λ u. Spells n s.1 u) (ok_same _ _ h.1) s.4;
        blank_trail = f.1;
      }
      | inr h ↦ absurd_ok _ _ h.1
    ]
