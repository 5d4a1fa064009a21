-- The rows of the code's table, as data.
use Rattle.std.specs.Prelude.{List, [], ◌∷◌}
use Rattle.pv_schema_table.specs.Table as table
use Rattle.pv_schema_table.specs.declared.row.ObjectRow.{ObjectRow}
use Rattle.pv_schema_table.specs.declared.row.TypeRow.{TypeRow}

-- what an object takes
abbrev pub object_in : ObjectRow → table.ObjectRow
object_in o = record { shared = o.shared.now; own = o.own.now; tests = o.tests.now }

-- a type
abbrev pub type_in : TypeRow → table.TypeRow
type_in r = record { name = r.name.now; makes = r.makes; object = object_in r.object }

-- several types
abbrev pub types_in : List TypeRow → List table.TypeRow
types_in [] = []
types_in (r ∷ rs) = type_in r ∷ types_in rs
