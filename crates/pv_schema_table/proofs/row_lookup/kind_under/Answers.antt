use Rattle.pv_schema_table.specs.Rows.{object_in}
use Rattle.pv_schema_table.proofs.TableLemmas.{kind_found, kind_not_found}
use Rattle.std.proofs.Common.{◌∙◌}
use Rattle.pv_schema_table.proofs.row_lookup.kind_under.Goals as goal

pub returns-in-Some : goal.returns-in-Some
returns-in-Some c = kind_found (object_in c.args.object) _ _ (c.in-Some.ensures)

pub returns-in-None : goal.returns-in-None
returns-in-None c = c.kind_in-in-None.ensures ∙ kind_not_found (object_in c.args.object) _ c.in-None.ensures
