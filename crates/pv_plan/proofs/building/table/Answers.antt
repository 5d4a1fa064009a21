use Rattle.std.proofs.Common.{refl, ◌∙◌, []}
use Rattle.pv_plan.proofs.Tables.{finished}
use Rattle.pv_plan.proofs.building.table.Goals as goal

pub returns-clause-table : goal.returns-clause-table
returns-clause-table c =
    c.from_vec.ensures
    ∙ finished c.args.root.now c.args.names.now c.new-table.result.items c.lay.new.table.items c.push_any.new.table.items c.in_ok-last.field-0 c.plain.result _ c.requires.names c.new-table.ensures.items c.in_ok-last.ensures c.plain.ensures
    (c.in_ok-lay.ensures.table []) refl c.in_ok-push_any.ensures
