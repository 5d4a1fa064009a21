-- What the writer has appended after the last piece of each kind of value.
use Rattle.std.proofs.Common.{◌≡◌, ℕ, ◌+◌, ◌<◌, List, [], ◌∷◌, ◌++◌, length, take, get_or, map, refl, sym, ap, ◌∙◌, append_assoc, append-nil}
use Rattle.std.specs.List.{flat_map}
use Rattle.std.proofs.lemmas.List.{take_more}
use Rattle.std.proofs.lemmas.Grind.{flat_map-append}
use Rattle.std.specs.Prelude.{codes}
use Rattle.pv_tree.specs.declared.Value.{Value}
use Rattle.pv_tree.specs.declared.Value.TheVariants as value
use Rattle.pv_notation.specs.Strings.{quoted}
use Rattle.pv_notation.specs.Lists.{joined, list_text}
use Rattle.pv_notation.specs.Notation.{notation, named_notation, entry_notation, tagged}
use Rattle.pv_notation.proofs.Levels.{notation_list, notation_tuple, notation_set, notation_frozen, notation_enum, notation_root, notation_dict, notation_model}

-- one more piece
step : (old a new p q : List ℕ) → a ≡ old ++ p → new ≡ a ++ q → new ≡ old ++ (p ++ q)
step old a new p q e f = f ∙ ap (λ x. x ++ q) e ∙ append_assoc old p q

-- a list behind its tag, and what closes both
closed : (tag inside : List ℕ) → (tag ++ 58 ∷ 91 ∷ inside) ++ 93 ∷ 125 ∷ [] ≡ (tag ++ 58 ∷ (91 ∷ inside ++ 93 ∷ [])) ++ 125 ∷ []
closed tag inside = sym (append_assoc (tag ++ 58 ∷ 91 ∷ inside) (93 ∷ []) (125 ∷ [])) ∙ ap (λ x. x ++ 125 ∷ []) (append_assoc tag (58 ∷ 91 ∷ inside) (93 ∷ []))

-- the same, where the list's bracket was written with the tag
closed_behind : (tag inside : List ℕ) → (tag ++ 58 ∷ 91 ∷ []) ++ inside ++ 93 ∷ 125 ∷ [] ≡ (tag ++ 58 ∷ (91 ∷ inside ++ 93 ∷ [])) ++ 125 ∷ []
closed_behind tag inside = ap (λ x. x ++ 93 ∷ 125 ∷ []) (append_assoc tag (58 ∷ 91 ∷ []) inside) ∙ closed tag inside

-- the same, where the list's first item and a comma were written with the tag
closed_after : (tag first rest : List ℕ) → ((tag ++ 58 ∷ 91 ∷ first) ++ 44 ∷ []) ++ rest ++ 93 ∷ 125 ∷ [] ≡ (tag ++ 58 ∷ (91 ∷ (first ++ 44 ∷ rest) ++ 93 ∷ [])) ++ 125 ∷ []
closed_after tag first rest =
    ap (λ x. x ++ 93 ∷ 125 ∷ []) (append_assoc (tag ++ 58 ∷ 91 ∷ first) (44 ∷ []) rest ∙ append_assoc tag (58 ∷ 91 ∷ first) (44 ∷ rest)) ∙ closed tag (first ++ 44 ∷ rest)

abbrev tag_of : List ℕ → List ℕ
tag_of name = 123 ∷ quoted name

pub list_written : (old a b new : List ℕ) (v : Value) (vs : List Value) → v ≡ value.List vs → a ≡ old ++ 91 ∷ [] → b ≡ a ++ joined (map notation vs) → new ≡ b ++ 93 ∷ []
    → new ≡ old ++ notation v
list_written old a b new v vs e f g h =
    step old b new _ _ (step old a b _ _ f g) h ∙ ap (λ x. old ++ x) (sym (ap notation e ∙ notation_list vs))

-- what a tagged list of values is, by the two ways to write its text
pub tagged_written : (old new name : List ℕ) (v : Value) (vs : List Value) → notation v ≡ tagged name (list_text (map notation vs))
    → new ≡ old ++ (123 ∷ quoted name ++ 58 ∷ 91 ∷ joined (map notation vs) ++ 93 ∷ 125 ∷ []) → new ≡ old ++ notation v
tagged_written old new name v vs e f = f ∙ ap (λ x. old ++ x) (closed (tag_of name) (joined (map notation vs)) ∙ sym e)

pub tuple_written : (old new : List ℕ) (v : Value) (vs : List Value) → v ≡ value.Tuple vs
    → new ≡ old ++ (123 ∷ quoted (codes "tuple") ++ 58 ∷ 91 ∷ joined (map notation vs) ++ 93 ∷ 125 ∷ []) → new ≡ old ++ notation v
tuple_written old new v vs e = tagged_written old new (codes "tuple") v vs (ap notation e ∙ notation_tuple vs)

pub set_written : (old new : List ℕ) (v : Value) (vs : List Value) → v ≡ value.Set vs
    → new ≡ old ++ (123 ∷ quoted (codes "set") ++ 58 ∷ 91 ∷ joined (map notation vs) ++ 93 ∷ 125 ∷ []) → new ≡ old ++ notation v
set_written old new v vs e = tagged_written old new (codes "set") v vs (ap notation e ∙ notation_set vs)

pub frozen_written : (old new : List ℕ) (v : Value) (vs : List Value) → v ≡ value.Frozen vs
    → new ≡ old ++ (123 ∷ quoted (codes "frozenset") ++ 58 ∷ 91 ∷ joined (map notation vs) ++ 93 ∷ 125 ∷ []) → new ≡ old ++ notation v
frozen_written old new v vs e = tagged_written old new (codes "frozenset") v vs (ap notation e ∙ notation_frozen vs)

pub dict_written : (old a b new : List ℕ) (v : Value) (ps : List (Value × Value)) → v ≡ value.Dict ps
    → a ≡ old ++ (123 ∷ quoted (codes "dict") ++ 58 ∷ 91 ∷ []) → b ≡ a ++ joined (map entry_notation ps) → new ≡ b ++ 93 ∷ 125 ∷ [] → new ≡ old ++ notation v
dict_written old a b new v ps e f g h =
    step old b new _ _ (step old a b _ _ f g) h
    ∙ ap (λ x. old ++ x) (closed_behind (tag_of (codes "dict")) (joined (map entry_notation ps)) ∙ sym (ap notation e ∙ notation_dict ps))

pub root_written : (old a b new cls : List ℕ) (v inner : Value) → v ≡ value.Root cls inner
    → a ≡ old ++ (123 ∷ quoted (codes "root") ++ 58 ∷ 91 ∷ quoted cls ++ 44 ∷ []) → b ≡ a ++ notation inner → new ≡ b ++ 93 ∷ 125 ∷ [] → new ≡ old ++ notation v
root_written old a b new cls v inner e f g h =
    step old b new _ _ (step old a b _ _ f g) h
    ∙ ap (λ x. old ++ x) (closed_after (tag_of (codes "root")) (quoted cls) (notation inner)
    ∙ ap (λ x. (tag_of (codes "root") ++ 58 ∷ (91 ∷ (quoted cls ++ 44 ∷ x) ++ 93 ∷ [])) ++ 125 ∷ []) (sym (append-nil (notation inner)))
    ∙ sym (ap notation e ∙ notation_root cls inner))

pub enum_written : (old a b c d new cls name : List ℕ) (v inner : Value) → v ≡ value.Enum cls name inner
    → a ≡ old ++ (123 ∷ quoted (codes "enum") ++ 58 ∷ 91 ∷ quoted cls ++ 44 ∷ []) → b ≡ a ++ quoted name → c ≡ b ++ 44 ∷ [] → d ≡ c ++ notation inner → new ≡ d ++ 93 ∷ 125 ∷ []
    → new ≡ old ++ notation v
enum_written old a b c d new cls name v inner e f g h i j =
    step old d new _ _ (step old a d _ _ f (step a c d _ _ (step a b c _ _ g h) i)) j
    ∙ ap (λ x. old ++ x) (closed_after (tag_of (codes "enum")) (quoted cls) ((quoted name ++ 44 ∷ []) ++ notation inner)
    ∙ ap (λ x. (tag_of (codes "enum") ++ 58 ∷ (91 ∷ (quoted cls ++ 44 ∷ x) ++ 93 ∷ [])) ++ 125 ∷ [])
    (append_assoc (quoted name) (44 ∷ []) (notation inner) ∙ ap (λ x. quoted name ++ 44 ∷ x) (sym (append-nil (notation inner))))
    ∙ sym (ap notation e ∙ notation_enum cls name inner))

lists : (F S X : List ℕ) → (((((91 ∷ [] ++ F) ++ 93 ∷ 44 ∷ 91 ∷ []) ++ S) ++ 93 ∷ 44 ∷ 91 ∷ []) ++ X) ++ 93 ∷ []
    ≡ (91 ∷ F ++ 93 ∷ []) ++ 44 ∷ ((91 ∷ S ++ 93 ∷ []) ++ 44 ∷ ((91 ∷ X ++ 93 ∷ []) ++ []))
lists F S X =
    simp (append_assoc, append-nil)
    (ap (λ x. 91 ∷ x) (sym (append_assoc F (93 ∷ []) (44 ∷ 91 ∷ ((S ++ 93 ∷ []) ++ 44 ∷ 91 ∷ (X ++ 93 ∷ [])))
    ∙ ap (λ x. F ++ 93 ∷ 44 ∷ 91 ∷ x) (append_assoc S (93 ∷ []) (44 ∷ 91 ∷ (X ++ 93 ∷ []))))))

pub model_written : (old a b c d f g h new cls : List ℕ) (v : Value) (fields : List (List ℕ × Value)) (set : List (List ℕ)) (extra : List (List ℕ × Value))
    → v ≡ value.Model cls fields set extra
    → a ≡ old ++ (123 ∷ quoted (codes "model") ++ 58 ∷ 91 ∷ quoted cls ++ 44 ∷ []) → b ≡ a ++ 91 ∷ [] → c ≡ b ++ joined (map named_notation fields)
    → d ≡ c ++ 93 ∷ 44 ∷ 91 ∷ [] → f ≡ d ++ joined (map quoted set) → g ≡ f ++ 93 ∷ 44 ∷ 91 ∷ [] → h ≡ g ++ joined (map named_notation extra)
    → new ≡ h ++ 93 ∷ 93 ∷ 125 ∷ [] → new ≡ old ++ notation v
model_written old a b c d f g h new cls v fields set extra e p1 p2 p3 p4 p5 p6 p7 p8 =
    let F : List ℕ = joined (map named_notation fields) in
    let S : List ℕ = joined (map quoted set) in
    let X : List ℕ = joined (map named_notation extra) in
    let T : List ℕ = tag_of (codes "model") in
    let mid : h ++ 93 ∷ [] ≡ a ++ (((((((91 ∷ [] ++ F) ++ 93 ∷ 44 ∷ 91 ∷ []) ++ S) ++ 93 ∷ 44 ∷ 91 ∷ []) ++ X)) ++ 93 ∷ []) =
    step a h _ _ _ (step a g h _ _ (step a f g _ _ (step a d f _ _ (step a c d _ _ (step a b c _ _ p2 p3) p4) p5) p6) p7) refl in
    let end : new ≡ (h ++ 93 ∷ []) ++ 93 ∷ 125 ∷ [] = p8 ∙ sym (append_assoc h (93 ∷ []) (93 ∷ 125 ∷ [])) in
    step old (h ++ 93 ∷ []) new _ _ (step old a (h ++ 93 ∷ []) _ _ p1 mid) end
    ∙ ap (λ x. old ++ x) (closed_after T (quoted cls) ((((((91 ∷ [] ++ F) ++ 93 ∷ 44 ∷ 91 ∷ []) ++ S) ++ 93 ∷ 44 ∷ 91 ∷ []) ++ X) ++ 93 ∷ [])
    ∙ ap (λ x. (T ++ 58 ∷ (91 ∷ (quoted cls ++ 44 ∷ x) ++ 93 ∷ [])) ++ 125 ∷ []) (lists F S X)
    ∙ sym (ap notation e ∙ notation_model cls fields set extra))

-- an entry of a dict
pub entry_written : (old a b c d new : List ℕ) (p : Value × Value) → a ≡ old ++ 91 ∷ [] → b ≡ a ++ notation p.0 → c ≡ b ++ 44 ∷ [] → d ≡ c ++ notation p.1 → new ≡ d ++ 93 ∷ []
    → new ≡ old ++ entry_notation p
entry_written old a b c d new p e f g h i =
    step old d new _ _ (step old a d _ _ e (step a c d _ _ (step a b c _ _ f g) h)) i
    ∙ ap (λ x. old ++ (91 ∷ x ++ 93 ∷ [])) (append_assoc (notation p.0) (44 ∷ []) (notation p.1) ∙ ap (λ x. notation p.0 ++ 44 ∷ x) (sym (append-nil (notation p.1))))

abbrev behind_comma : Value × Value → List ℕ
behind_comma p = 44 ∷ entry_notation p

-- one more entry of a dict, behind a comma
pub entry_added : (old mid a b c d new : List ℕ) (rest : List (Value × Value)) (i : ℕ) (p : Value × Value) → i < length rest → p ≡ get_or rest i p
    → mid ≡ old ++ flat_map behind_comma (take i rest) → a ≡ mid ++ 44 ∷ 91 ∷ [] → b ≡ a ++ notation p.0 → c ≡ b ++ 44 ∷ [] → d ≡ c ++ notation p.1 → new ≡ d ++ 93 ∷ []
    → new ≡ old ++ flat_map behind_comma (take (i + 1) rest)
entry_added old mid a b c d new rest i p l at m e f g h k =
    let whole : new ≡ mid ++ behind_comma p =
    entry_written (mid ++ 44 ∷ []) a b c d new p (e ∙ sym (append_assoc mid (44 ∷ []) (91 ∷ []))) f g h k ∙ append_assoc mid (44 ∷ []) (entry_notation p) in
    let item : get_or rest i p ∷ [] ≡ p ∷ [] = ap (λ x. x ∷ []) (sym at) in
    whole ∙ ap (λ x. x ++ behind_comma p) m ∙ append_assoc old (flat_map behind_comma (take i rest)) (behind_comma p)
    ∙ ap (λ x. old ++ x) (ap (λ x. flat_map behind_comma (take i rest) ++ x) (sym (append-nil (behind_comma p)))
    ∙ sym (flat_map-append behind_comma (take i rest) (p ∷ [])) ∙ ap (λ x. flat_map behind_comma x) (sym (take_more rest i p l ∙ ap (λ x. take i rest ++ x) item)))
