-- The notation of each kind of value that holds others, by the notations of these.
use Rattle.std.proofs.Common.{◌≡◌, ℕ, List, [], ◌∷◌, map, sym, ap, ◌∙◌}
use Rattle.std.specs.Prelude.{codes}
use Rattle.std.proofs.lemmas.Simd.{map-map}
use Rattle.pv_tree.specs.declared.Value.{Value}
use Rattle.pv_tree.specs.declared.Value.TheVariants as value
use Rattle.pv_tree.specs.declared.Value.TheVariants.{rolls-Enum, rolls-List, rolls-Tuple, rolls-Set, rolls-Frozen, rolls-Dict, rolls-Model, rolls-Root}
use Rattle.pv_tree.specs.declared.Value.TheOpen.{Value-F}
use Rattle.pv_tree.specs.declared.Value.TheFolds.{fold-roll-Value}
use Rattle.pv_notation.specs.Strings.{quoted}
use Rattle.pv_notation.specs.Lists.{list_text}
use Rattle.pv_notation.specs.Notation.{notation, notation_step, named_notation, entry_notation, named_text, entry_text, tagged}

abbrev named_by : List ℕ × Value → List ℕ × List ℕ
named_by p = (p.0, notation p.1)

abbrev entry_by : Value × Value → List ℕ × List ℕ
entry_by p = (notation p.0, notation p.1)

named_all : (ps : List (List ℕ × Value)) → map named_text (map named_by ps) ≡ map named_notation ps
named_all ps = map-map named_text named_by ps

entry_all : (ps : List (Value × Value)) → map entry_text (map entry_by ps) ≡ map entry_notation ps
entry_all ps = map-map entry_text entry_by ps

pub notation_list : (vs : List Value) → notation (value.List vs) ≡ list_text (map notation vs)
notation_list vs = ap notation (sym (rolls-List vs)) ∙ fold-roll-Value (List ℕ) notation_step (Value-F.List vs)

pub notation_tuple : (vs : List Value) → notation (value.Tuple vs) ≡ tagged (codes "tuple") (list_text (map notation vs))
notation_tuple vs = ap notation (sym (rolls-Tuple vs)) ∙ fold-roll-Value (List ℕ) notation_step (Value-F.Tuple vs)

pub notation_set : (vs : List Value) → notation (value.Set vs) ≡ tagged (codes "set") (list_text (map notation vs))
notation_set vs = ap notation (sym (rolls-Set vs)) ∙ fold-roll-Value (List ℕ) notation_step (Value-F.Set vs)

pub notation_frozen : (vs : List Value) → notation (value.Frozen vs) ≡ tagged (codes "frozenset") (list_text (map notation vs))
notation_frozen vs = ap notation (sym (rolls-Frozen vs)) ∙ fold-roll-Value (List ℕ) notation_step (Value-F.Frozen vs)

pub notation_enum : (cls name : List ℕ) (v : Value) → notation (value.Enum cls name v) ≡ tagged (codes "enum") (list_text (quoted cls ∷ quoted name ∷ notation v ∷ []))
notation_enum cls name v = ap notation (sym (rolls-Enum cls name v)) ∙ fold-roll-Value (List ℕ) notation_step (Value-F.Enum cls name v)

pub notation_root : (cls : List ℕ) (v : Value) → notation (value.Root cls v) ≡ tagged (codes "root") (list_text (quoted cls ∷ notation v ∷ []))
notation_root cls v = ap notation (sym (rolls-Root cls v)) ∙ fold-roll-Value (List ℕ) notation_step (Value-F.Root cls v)

pub notation_dict : (ps : List (Value × Value)) → notation (value.Dict ps) ≡ tagged (codes "dict") (list_text (map entry_notation ps))
notation_dict ps =
    ap notation (sym (rolls-Dict ps)) ∙ fold-roll-Value (List ℕ) notation_step (Value-F.Dict ps) ∙ ap (λ (x : List (List ℕ)). tagged (codes "dict") (list_text x)) (entry_all ps)

pub notation_model : (cls : List ℕ) (fields : List (List ℕ × Value)) (set : List (List ℕ)) (extra : List (List ℕ × Value))
    → notation (value.Model cls fields set extra)
    ≡ tagged (codes "model") (list_text (quoted cls ∷ list_text (map named_notation fields) ∷ list_text (map quoted set) ∷ list_text (map named_notation extra) ∷ []))
notation_model cls fields set extra =
    ap notation (sym (rolls-Model cls fields set extra)) ∙ fold-roll-Value (List ℕ) notation_step (Value-F.Model cls fields set extra)
    ∙ ap (λ (x : List (List ℕ)). tagged (codes "model") (list_text (quoted cls ∷ list_text x ∷ list_text (map quoted set) ∷ list_text (map named_text (map named_by extra)) ∷ []))) (named_all fields)
    ∙ ap (λ (x : List (List ℕ)). tagged (codes "model") (list_text (quoted cls ∷ list_text (map named_notation fields) ∷ list_text (map quoted set) ∷ list_text x ∷ []))) (named_all extra)
