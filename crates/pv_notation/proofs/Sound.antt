-- A value is sound where its own level is, and each value inside.
use Rattle.std.proofs.Common.{◌≡◌, ℕ, ℤ, Bool, List, map, refl, sym, ap, ◌∙◌, subst, All}
use Rattle.std.specs.Prelude.{FitsSigned}
use Rattle.std.specs.Int.{w128}
use Rattle.std.proofs.lemmas.List.Elements.{recursion_from_All}
use Rattle.pv_tree.specs.declared.Value.{Value, map-Value}
use Rattle.pv_tree.specs.declared.Value.TheVariants as value
use Rattle.pv_tree.specs.declared.Value.TheVariants.{rolls-None, rolls-Bool, rolls-Int, rolls-Lexeme, rolls-Str, rolls-Bytes, rolls-Atom, rolls-Enum, rolls-List, rolls-Tuple, rolls-Set, rolls-Frozen, rolls-Dict, rolls-Model, rolls-Root}
use Rattle.pv_tree.specs.declared.Value.TheOpen.{Value-F}
use Rattle.pv_tree.specs.declared.Value.TheViews.{roll-Value}
use Rattle.pv_tree.specs.declared.Value.TheFolds.{every_made-Value}
use Rattle.pv_tree.specs.declared.AtomKind.{AtomKind}
use Rattle.pv_notation.specs.Numbers.{IntAt, IsSound}
use Rattle.pv_notation.proofs.Inside.{AllInside}
use Rattle.pv_notation.proofs.Holding.{Held, all_hold, named_hold, entries_hold}

-- each value inside with its proof
abbrev HeldLevel : Value-F Value → Type 0
HeldLevel x = (y : Value-F (Held IsSound)) × (map-Value (Held IsSound) Value (λ e. e.0) y ≡ x)

inside_hold : (x : Value-F Value) → AllInside IsSound x → HeldLevel x
inside_hold Value-F.None h = (Value-F.None, refl)
inside_hold (Value-F.Bool b) h = (Value-F.Bool b, refl)
inside_hold (Value-F.Int n) h = (Value-F.Int n, refl)
inside_hold (Value-F.Lexeme lexeme) h = (Value-F.Lexeme lexeme, refl)
inside_hold (Value-F.Str text) h = (Value-F.Str text, refl)
inside_hold (Value-F.Bytes bytes) h = (Value-F.Bytes bytes, refl)
inside_hold (Value-F.Atom k text) h = (Value-F.Atom k text, refl)
inside_hold (Value-F.Enum cls name v) h = (Value-F.Enum cls name (v, h), refl)
inside_hold (Value-F.List vs) h = let k = all_hold IsSound vs h in (Value-F.List k.0, ap Value-F.List k.1)
inside_hold (Value-F.Tuple vs) h = let k = all_hold IsSound vs h in (Value-F.Tuple k.0, ap Value-F.Tuple k.1)
inside_hold (Value-F.Set vs) h = let k = all_hold IsSound vs h in (Value-F.Set k.0, ap Value-F.Set k.1)
inside_hold (Value-F.Frozen vs) h = let k = all_hold IsSound vs h in (Value-F.Frozen k.0, ap Value-F.Frozen k.1)
inside_hold (Value-F.Dict es) h = let k = entries_hold IsSound es h in (Value-F.Dict k.0, ap Value-F.Dict k.1)
inside_hold (Value-F.Model cls fields set extra) h =
    let k = named_hold IsSound fields h.0 in
    let l = named_hold IsSound extra h.1 in
    (Value-F.Model cls k.0 set l.0, ap (λ f. Value-F.Model cls f set (map (λ m. (m.0, m.1.0)) l.0)) k.1 ∙ ap (λ e. Value-F.Model cls fields set e) l.1)
inside_hold (Value-F.Root cls v) h = (Value-F.Root cls (v, h), refl)

sound_of : (v w : Value) (x : Value-F Value) → roll-Value x ≡ w → v ≡ w → AllInside IsSound x → IntAt x → IsSound v
sound_of v w x r e h i = let k = inside_hold x h in subst IsSound (r ∙ sym e) (every_made-Value IntAt x k.0 k.1 i)

pub sound_none : (v : Value) → v ≡ value.None → IsSound v
sound_none v e = sound_of v value.None Value-F.None rolls-None e tt tt

pub sound_bool : (v : Value) (b : Bool) → v ≡ value.Bool b → IsSound v
sound_bool v b e = sound_of v (value.Bool b) (Value-F.Bool b) (rolls-Bool b) e tt tt

pub sound_int : (v : Value) (n : ℤ) → v ≡ value.Int n → FitsSigned w128 n → IsSound v
sound_int v n e i = sound_of v (value.Int n) (Value-F.Int n) (rolls-Int n) e tt i

pub sound_lexeme : (v : Value) (t : List ℕ) → v ≡ value.Lexeme t → IsSound v
sound_lexeme v t e = sound_of v (value.Lexeme t) (Value-F.Lexeme t) (rolls-Lexeme t) e tt tt

pub sound_str : (v : Value) (t : List ℕ) → v ≡ value.Str t → IsSound v
sound_str v t e = sound_of v (value.Str t) (Value-F.Str t) (rolls-Str t) e tt tt

pub sound_bytes : (v : Value) (t : List ℕ) → v ≡ value.Bytes t → IsSound v
sound_bytes v t e = sound_of v (value.Bytes t) (Value-F.Bytes t) (rolls-Bytes t) e tt tt

pub sound_atom : (v : Value) (k : AtomKind) (t : List ℕ) → v ≡ value.Atom k t → IsSound v
sound_atom v k t e = sound_of v (value.Atom k t) (Value-F.Atom k t) (rolls-Atom k t) e tt tt

pub sound_enum : (v : Value) (cls name : List ℕ) (w : Value) → v ≡ value.Enum cls name w → IsSound w → IsSound v
sound_enum v cls name w e h = sound_of v (value.Enum cls name w) (Value-F.Enum cls name w) (rolls-Enum cls name w) e h tt

pub sound_list : (v : Value) (vs : List Value) → v ≡ value.List vs → All IsSound vs → IsSound v
sound_list v vs e h = sound_of v (value.List vs) (Value-F.List vs) (rolls-List vs) e (recursion_from_All IsSound vs h) tt

pub sound_tuple : (v : Value) (vs : List Value) → v ≡ value.Tuple vs → All IsSound vs → IsSound v
sound_tuple v vs e h = sound_of v (value.Tuple vs) (Value-F.Tuple vs) (rolls-Tuple vs) e (recursion_from_All IsSound vs h) tt

pub sound_set : (v : Value) (vs : List Value) → v ≡ value.Set vs → All IsSound vs → IsSound v
sound_set v vs e h = sound_of v (value.Set vs) (Value-F.Set vs) (rolls-Set vs) e (recursion_from_All IsSound vs h) tt

pub sound_frozen : (v : Value) (vs : List Value) → v ≡ value.Frozen vs → All IsSound vs → IsSound v
sound_frozen v vs e h = sound_of v (value.Frozen vs) (Value-F.Frozen vs) (rolls-Frozen vs) e (recursion_from_All IsSound vs h) tt

pub sound_dict : (v : Value) (es : List (Value × Value)) → v ≡ value.Dict es → All (λ e. IsSound e.0 × IsSound e.1) es → IsSound v
sound_dict v es e h = sound_of v (value.Dict es) (Value-F.Dict es) (rolls-Dict es) e (recursion_from_All (λ (k : Value × Value). IsSound k.0 × IsSound k.1) es h) tt

pub sound_model : (v : Value) (cls : List ℕ) (fields : List (List ℕ × Value)) (set : List (List ℕ)) (extra : List (List ℕ × Value))
    → v ≡ value.Model cls fields set extra → All (λ m. IsSound m.1) fields → All (λ m. IsSound m.1) extra → IsSound v
sound_model v cls fields set extra e h g =
    sound_of v (value.Model cls fields set extra) (Value-F.Model cls fields set extra) (rolls-Model cls fields set extra) e
    (recursion_from_All (λ (m : List ℕ × Value). IsSound m.1) fields h, recursion_from_All (λ (m : List ℕ × Value). IsSound m.1) extra g) tt

pub sound_root : (v : Value) (cls : List ℕ) (w : Value) → v ≡ value.Root cls w → IsSound w → IsSound v
sound_root v cls w e h = sound_of v (value.Root cls w) (Value-F.Root cls w) (rolls-Root cls w) e h tt

pub ruleset soundness = (sound_none, sound_bool, sound_int, sound_lexeme, sound_str, sound_bytes, sound_atom, sound_enum, sound_list, sound_tuple, sound_set, sound_frozen, sound_dict, sound_model, sound_root)
