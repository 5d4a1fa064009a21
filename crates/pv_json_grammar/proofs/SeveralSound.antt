-- What is read is spelled: several things with commas between them, from one of them.
use Rattle.std.proofs.Common.{◌≡◌, ℕ, zero, suc, ◌+◌, Bool, true, false, cond, List, [], ◌∷◌, ◌++◌, length, drop, Ok, Err, refl, sym, ap, ◌∙◌, inl, inr, append_assoc}
use Rattle.std.proofs.lemmas.Bool.{eqb-true}
use Rattle.std.specs.Prelude.{◌==◌}
use Rattle.pv_number.specs.Scanning.{begins}
use Rattle.pv_tree.specs.declared.Tree.{Tree}
use Rattle.pv_json_grammar.specs.Reading.{Reads, is_blank, skip}
use Rattle.pv_json_grammar.specs.Values.{behind, several, group}
use Rattle.pv_json_grammar.specs.Spells.{IsBlank, Padded, Listed, Enclosed}
use Rattle.pv_json_grammar.proofs.Binds.{bind_ok, ok_same, absurd_ok, chosen}

-- a reader whose answers are spelled by S, behind white space
abbrev pub IsSound : {A : Type 0} → (List ℕ → Reads A) → (List ℕ → A → Type 0) → Type 0
IsSound {A = A} inner S = (bs : List ℕ) (x : A × List ℕ) → inner bs ≡ Ok x → (lead : List ℕ) × (text : List ℕ) × (bs ≡ lead ++ (text ++ x.1)) × IsBlank lead × S text x.0

pub blank_front : (bs : List ℕ) → (lead : List ℕ) × IsBlank lead × (bs ≡ lead ++ skip bs)
unfolding skip
blank_front [] = ([], tt, refl)
blank_front (b ∷ bs) = front_by b bs (is_blank b) refl (blank_front bs)
  where
    front_by : (b : ℕ) (bs : List ℕ) (t : Bool) → is_blank b ≡ t → ((lead : List ℕ) × IsBlank lead × (bs ≡ lead ++ skip bs))
        → (lead : List ℕ) × IsBlank lead × (b ∷ bs ≡ lead ++ cond t (skip bs) (b ∷ bs))
    front_by b bs true e more = (b ∷ more.0, (e, more.1), ap (λ l. b ∷ l) more.2)
    front_by b bs false e more = ([], tt, refl)

blank_append : (xs ys : List ℕ) → IsBlank xs → IsBlank ys → IsBlank (xs ++ ys)
blank_append [] ys p q = q
blank_append (x ∷ xs) ys p q = (p.0, blank_append xs ys p.1 q)

-- one thing with white space round it, and what follows
padded : {A : Type 0} (S : List ℕ → A → Type 0) (bs lead text more : List ℕ) (x : A) → bs ≡ lead ++ (text ++ more) → IsBlank lead → S text x
    → (first : List ℕ) × (bs ≡ first ++ skip more) × Padded S first x
padded S bs lead text more x e b s =
    let f = blank_front more in (
      lead ++ (text ++ f.0),
      e ∙ ap (λ m. lead ++ (text ++ m)) f.2 ∙ ap (λ m. lead ++ m) (sym (append_assoc text f.0 (skip more))) ∙ sym (append_assoc lead (text ++ f.0) (skip more)),
      record { lead = lead; text = text; trail = f.0; whole = refl; blank_lead = b; spells = s; blank_trail = f.1 },
    )

padded_lead : {A : Type 0} (S : List ℕ → A → Type 0) (lead bs : List ℕ) (x : A) → IsBlank lead → Padded S bs x → Padded S (lead ++ bs) x
padded_lead S lead bs x b p = record {
  lead = lead ++ p.lead;
  text = p.text;
  trail = p.trail;
  whole = ap (λ z. lead ++ z) p.whole ∙ sym (append_assoc lead p.lead (p.text ++ p.trail));
  blank_lead = blank_append lead p.lead b p.blank_lead;
  spells = p.spells;
  blank_trail = p.blank_trail;
}

listed_lead : {A : Type 0} (S : List ℕ → A → Type 0) (lead bs : List ℕ) (x : A) (xs : List A) → IsBlank lead → Listed S bs (x ∷ xs) → Listed S (lead ++ bs) (x ∷ xs)
listed_lead S lead bs x [] b p = padded_lead S lead bs x b p
listed_lead S lead bs x (y ∷ ys) b (first, more, e, p, q) =
    (lead ++ first, more, ap (λ z. lead ++ z) e ∙ sym (append_assoc lead first (44 ∷ more)), padded_lead S lead first x b p, q)

module _ {A : Type 0} (inner : List ℕ → Reads A) (close : ℕ) (finish : List A → Tree) (S : List ℕ → A → Type 0) where
  -- the things from here on, and what follows the closing bracket
  abbrev SeveralRead : List A → List ℕ → Tree × List ℕ → Type 0
  SeveralRead all bs y = (x : A) × (xs : List A) × (inside : List ℕ) × (y.0 ≡ finish (all ++ x ∷ xs)) × (bs ≡ inside ++ close ∷ y.1) × Listed S inside (x ∷ xs)

  by_next : (k : ℕ) (all : List A) (bs : List ℕ) (y : Tree × List ℕ) (x : A)
      → ((cs : List ℕ) → several inner close finish k (all ++ x ∷ []) cs ≡ Ok y → SeveralRead (all ++ x ∷ []) cs y)
      → (after first : List ℕ) → bs ≡ first ++ after → Padded S first x
      → behind inner close finish (several inner close finish k) (all ++ x ∷ []) after ≡ Ok y → SeveralRead all bs y
  by_next k all bs y x more [] first b p e = absurd_ok _ _ e
  by_next k all bs y x more (c ∷ cs) first b p e = elim (chosen (c == 44) (several inner close finish k (all ++ x ∷ []) cs) _ (Ok y) e) [
    | inl h ↦ (let r = more cs h.1 in (
      x,
      r.0 ∷ r.1,
      first ++ 44 ∷ r.2,
      r.3 ∙ ap finish (append_assoc all (x ∷ []) (r.0 ∷ r.1)),
      b ∙ ap (λ d. first ++ d ∷ cs) (eqb-true c 44 h.0) ∙ ap (λ z. first ++ 44 ∷ z) r.4 ∙ sym (append_assoc first (44 ∷ r.2) (close ∷ y.1)),
      (first, r.2, refl, p, r.5),
    ))
    | inr h ↦ elim (chosen (c == close) (Ok (finish (all ++ x ∷ []), cs)) (Err (length cs + 1)) (Ok y) h.1) [
      | inl g ↦ (let same = ok_same _ _ g.1 in
          (x, [], first, ap (λ (z : Tree × List ℕ). z.0) (sym same), b ∙ ap (λ d. first ++ d ∷ cs) (eqb-true c close g.0) ∙ ap (λ (z : Tree × List ℕ). first ++ close ∷ z.1) same, p))
      | inr g ↦ absurd_ok _ _ g.1
    ]
  ]

  several_sound : IsSound inner S → (k : ℕ) (all : List A) (bs : List ℕ) (y : Tree × List ℕ) → several inner close finish k all bs ≡ Ok y → SeveralRead all bs y
  unfolding several
  several_sound sound zero all bs y e = absurd_ok _ _ e
  several_sound sound (suc k) all bs y e =
      let r = bind_ok (inner bs) (λ x. behind inner close finish (several inner close finish k) (all ++ x.0 ∷ []) (skip x.1)) y e in
      let s = sound bs r.0 r.1 in
      let p = padded S bs s.0 s.1 (r.0).1 (r.0).0 s.2 s.3 s.4 in
      by_next k all bs y (r.0).0 (λ cs. several_sound sound k (all ++ (r.0).0 ∷ []) cs y) (skip (r.0).1) p.0 p.1 p.2 r.2

  -- what stands behind an opening bracket
  abbrev pub GroupRead : List ℕ → Tree × List ℕ → Type 0
  GroupRead bs y = (inside : List ℕ) × (xs : List A) × (bs ≡ inside ++ close ∷ y.1) × Enclosed S inside xs × (y.0 ≡ finish xs)

  nothing_inside : (bs lead r : List ℕ) (y : Tree × List ℕ) → bs ≡ lead ++ r → IsBlank lead → begins close r ≡ true
      → (let a : Reads Tree = Ok (finish [], drop 1 r) in a) ≡ Ok y → GroupRead bs y
  nothing_inside bs lead [] y e b g o = cc
  nothing_inside bs lead (c ∷ cs) y e b g o =
      let same = ok_same _ _ o in (
        lead,
        [],
        e ∙ ap (λ d. lead ++ d ∷ cs) (eqb-true c close g) ∙ ap (λ (z : Tree × List ℕ). lead ++ close ∷ z.1) same,
        b,
        ap (λ (z : Tree × List ℕ). z.0) (sym same),
      )

  pub group_sound : IsSound inner S → (bs : List ℕ) (y : Tree × List ℕ) → group inner close finish (skip bs) ≡ Ok y → GroupRead bs y
  group_sound sound bs y e =
      let f = blank_front bs in
      elim (chosen (begins close (skip bs)) (Ok (finish [], drop 1 (skip bs))) (several inner close finish (length (skip bs)) [] (skip bs)) (Ok y) e) [
        | inl h ↦ nothing_inside bs f.0 (skip bs) y f.2 f.1 h.0 h.1
        | inr h ↦ (let r = several_sound sound (length (skip bs)) [] (skip bs) y h.1 in
            (f.0 ++ r.2, r.0 ∷ r.1, f.2 ∙ ap (λ z. f.0 ++ z) r.4 ∙ sym (append_assoc f.0 r.2 (close ∷ y.1)), listed_lead S f.0 r.2 r.0 r.1 f.1 r.5, r.3))
      ]
