-- No value and no location is written with a line feed.
use Rattle.std.proofs.Common.{◌≢◌, ℕ, true, false, List, [], ◌∷◌, ◌++◌, map, sym, subst, All, arith}
use Rattle.std.specs.Prelude.{codes}
use Rattle.std.specs.List.{AllByRecursion, flat_map}
use Rattle.std.proofs.lemmas.List.Elements.{All-from_recursion}
use Rattle.pv_tree.specs.declared.Step.{Step}
use Rattle.pv_tree.specs.declared.Step.TheVariants.{Name, Index}
use Rattle.pv_tree.specs.declared.Value.{Value, map-Value}
use Rattle.pv_tree.specs.declared.Value.TheOpen.{Value-F}
use Rattle.pv_tree.specs.declared.Value.TheFolds.{fold-roll-Value}
use Rattle.pv_notation.specs.Strings.{hex_byte, quoted}
use Rattle.pv_notation.specs.Lists.{list_text}
use Rattle.pv_notation.specs.Notation.{notation, notation_step, named_text, entry_text, tagged, atom_name}
use Rattle.pv_notation.specs.Locations.{loc_text, step_text}
use Rattle.pv_notation.proofs.Inside.{AllInside, by_levels}
use Rattle.pv_notation.proofs.Lines.{IsLine, AreLines, line_append, line_flat_map, hex_byte_line, quoted_line, decimal_line, signed_decimal_line, list_text_line, lines_map}

tagged_line : (name text : List ℕ) → IsLine text → IsLine (tagged name text)
tagged_line name text p =
    (omega arith, line_append (quoted name ++ 58 ∷ text) (125 ∷ []) (line_append (quoted name) (58 ∷ text) (quoted_line name) (omega arith, p)) (omega arith, tt))

abbrev LineOf : Value → Type 0
LineOf v = IsLine (notation v)

values_lines : (vs : List Value) → AllByRecursion LineOf vs → AreLines (map notation vs)
values_lines [] p = tt
values_lines (v ∷ vs) p = (p.0, values_lines vs p.1)

entries_lines : (es : List (Value × Value)) → AllByRecursion (λ e. LineOf e.0 × LineOf e.1) es → AreLines (map entry_text (map (λ e. (notation e.0, notation e.1)) es))
entries_lines [] p = tt
entries_lines (e ∷ es) p = (list_text_line (notation e.0 ∷ notation e.1 ∷ []) (p.0.0, (p.0.1, tt)), entries_lines es p.1)

named_lines : (ms : List (List ℕ × Value)) → AllByRecursion (λ m. LineOf m.1) ms → AreLines (map named_text (map (λ m. (m.0, notation m.1)) ms))
named_lines [] p = tt
named_lines (m ∷ ms) p = (list_text_line (quoted m.0 ∷ notation m.1 ∷ []) (quoted_line m.0, (p.0, tt)), named_lines ms p.1)

model_line : (cls : List ℕ) (fields set extra : List (List ℕ)) → IsLine cls → AreLines fields → AreLines set → AreLines extra
    → IsLine (tagged (codes "model") (list_text (cls ∷ list_text fields ∷ list_text set ∷ list_text extra ∷ [])))
model_line cls fields set extra c f s e =
    let parts : List (List ℕ) = cls ∷ list_text fields ∷ list_text set ∷ list_text extra ∷ [] in
    tagged_line (codes "model") (list_text parts) (list_text_line parts (c, (list_text_line fields f, (list_text_line set s, (list_text_line extra e, tt)))))

level_line : (x : Value-F Value) → AllInside LineOf x → IsLine (notation_step (map-Value Value (List ℕ) notation x))
level_line Value-F.None p = (omega arith, (omega arith, (omega arith, (omega arith, tt))))
level_line (Value-F.Bool true) p = (omega arith, (omega arith, (omega arith, (omega arith, tt))))
level_line (Value-F.Bool false) p = (omega arith, (omega arith, (omega arith, (omega arith, (omega arith, tt)))))
level_line (Value-F.Int n) p = signed_decimal_line n
level_line (Value-F.Lexeme lexeme) p = tagged_line (codes "number") (quoted lexeme) (quoted_line lexeme)
level_line (Value-F.Str text) p = quoted_line text
level_line (Value-F.Bytes bytes) p =
    tagged_line (codes "bytes") (34 ∷ flat_map hex_byte bytes ++ 34 ∷ [])
    (omega arith, line_append (flat_map hex_byte bytes) (34 ∷ []) (line_flat_map hex_byte hex_byte_line bytes) (omega arith, tt))
level_line (Value-F.Atom kind text) p = tagged_line (atom_name kind) (quoted text) (quoted_line text)
level_line (Value-F.Enum cls name value) p =
    tagged_line (codes "enum") (list_text (quoted cls ∷ quoted name ∷ notation value ∷ []))
    (list_text_line (quoted cls ∷ quoted name ∷ notation value ∷ []) (quoted_line cls, (quoted_line name, (p, tt))))
level_line (Value-F.List values) p = list_text_line (map notation values) (values_lines values p)
level_line (Value-F.Tuple values) p = tagged_line (codes "tuple") (list_text (map notation values)) (list_text_line (map notation values) (values_lines values p))
level_line (Value-F.Set values) p = tagged_line (codes "set") (list_text (map notation values)) (list_text_line (map notation values) (values_lines values p))
level_line (Value-F.Frozen values) p = tagged_line (codes "frozenset") (list_text (map notation values)) (list_text_line (map notation values) (values_lines values p))
level_line (Value-F.Dict entries) p = tagged_line (codes "dict") (list_text _) (list_text_line _ (entries_lines entries p))
level_line (Value-F.Model cls fields set extra) p =
    model_line (quoted cls) _ (map quoted set) _ (quoted_line cls) (named_lines fields p.0) (lines_map quoted quoted_line set) (named_lines extra p.1)
level_line (Value-F.Root cls value) p =
    tagged_line (codes "root") (list_text (quoted cls ∷ notation value ∷ [])) (list_text_line (quoted cls ∷ notation value ∷ []) (quoted_line cls, (p, tt)))

notation_line : (v : Value) → IsLine (notation v)
notation_line = by_levels LineOf (λ x p. subst IsLine (sym (fold-roll-Value (List ℕ) notation_step x)) (level_line x p))

pub notations_are_lines : (v : Value) → All (λ b. b ≢ 10) (notation v)
notations_are_lines v = All-from_recursion (λ b. b ≢ 10) (notation v) (notation_line v)

step_line : (s : Step) → IsLine (step_text s)
step_line (Name name) = quoted_line name
step_line (Index place) = decimal_line place

pub locations_are_lines : (steps : List Step) → All (λ b. b ≢ 10) (loc_text steps)
unfolding loc_text
locations_are_lines steps = All-from_recursion (λ b. b ≢ 10) (loc_text steps) (list_text_line (map step_text steps) (lines_map step_text step_line steps))
