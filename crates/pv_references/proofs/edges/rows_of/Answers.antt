use Rattle.pv_references.proofs.Rows.{rows_of_all}
use Rattle.pv_references.proofs.edges.rows_of.Goals as goal

pub returns : goal.returns
returns c = rows_of_all c.args.names.now c.root.result.now c.new-rows.result.items c.add_rows.new.rows.items c.new-rows.ensures.items c.root.ensures c.in_ok-add_rows.ensures
