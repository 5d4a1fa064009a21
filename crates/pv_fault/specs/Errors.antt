-- The printed list of errors: compact JSON, an object for each.
use Rattle.std.specs.Prelude.{ℕ, List, [], ◌∷◌, ◌++◌, map, codes}
use Rattle.pv_notation.specs.Strings.{quoted}
use Rattle.pv_notation.specs.Lists.{joined, list_text}
use Rattle.pv_notation.specs.Compact.{compact, member_text}
use Rattle.pv_notation.specs.Locations.{loc_text}
use Rattle.pv_fault.specs.declared.faults.LineError.{LineError}
use Rattle.pv_fault.specs.Table.{Printed, printed_as}

-- an object, from its keys and the text at each
abbrev pub object_text : List (List ℕ × List ℕ) → List ℕ
object_text members = 123 ∷ joined (map member_text members) ++ 125 ∷ []

-- where the kind has a context
abbrev pub context_member : List (List ℕ × List ℕ) → List (List ℕ × List ℕ)
context_member [] = []
context_member (m ∷ ms) = (codes "ctx", object_text (m ∷ ms)) ∷ []

-- the keys of an error, with the text at each
abbrev pub error_members : Printed → LineError → List (List ℕ × List ℕ)
error_members p e =
    (codes "type", quoted p.name) ∷ (codes "loc", loc_text e.loc) ∷ (codes "msg", quoted p.message)
    ∷ (codes "input", compact e.input) ∷ context_member p.context

-- an error
unfoldable pub error_text : LineError → List ℕ
error_text e = object_text (error_members (printed_as e.kind) e)

-- the list of errors
unfoldable pub errors_text : List LineError → List ℕ
errors_text es = list_text (map error_text es)
