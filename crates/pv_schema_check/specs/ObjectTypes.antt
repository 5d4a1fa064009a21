-- The row of an object's type, or what is wrong with the type.
use Rattle.std.specs.Prelude.{ℕ, List, Option, None, Some, Result, Ok, Err}
use Rattle.pv_tree.specs.declared.Tree.{Tree}
use Rattle.pv_schema_values.specs.Values.{text_of}
use Rattle.pv_schema_table.specs.Rows.{type_in}
use Rattle.pv_schema_table.specs.Table.{TypeRow, row_named}
use Rattle.pv_schema_table.specs.declared.Makes.{Makes}
use Rattle.pv_schema_table.specs.declared.Makes.TheVariants.{NotBuilt, Node, Field}
use Rattle.pv_schema_table.specs.declared.TypeRow.{TypeRow as CodeRow}
use Rattle.pv_schema_check.specs.declared.fault.Code.{Code}
use Rattle.pv_schema_check.specs.declared.fault.Code.TheVariants.{Shape, NotYet}
use Rattle.pv_schema_check.specs.declared.fault.ShapeCode.TheVariants.{MissingKey, UnknownType}

-- a row of the table, where its type is built
abbrev pub where_built : Makes → TypeRow → Result TypeRow Code
where_built NotBuilt r = Err NotYet
where_built (Node n) r = Ok r
where_built Field r = Ok r

-- the row that was found, or what is wrong where there is none
abbrev pub row_found : Option TypeRow → Result TypeRow Code
row_found None = Err (Shape UnknownType)
row_found (Some r) = where_built r.makes r

-- the row of the type that is named, or what is wrong with the name
abbrev pub row_of_name : List TypeRow → Option (List ℕ) → Result TypeRow Code
row_of_name rows None = Err (Shape UnknownType)
row_of_name rows (Some name) = row_found (row_named name rows)

-- the row of an object, by what stands under `type`, or what is wrong there
abbrev pub row_of : List TypeRow → Option Tree → Result TypeRow Code
row_of rows None = Err (Shape MissingKey)
row_of rows (Some t) = row_of_name rows (text_of t)

-- a row of the code's table that was found, as data, or what is wrong where there is none
abbrev pub found_in : Result CodeRow Code → Result TypeRow Code
found_in (Ok r) = Ok (type_in r)
found_in (Err code) = Err code
