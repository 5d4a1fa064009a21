use Rattle.std.proofs.Common.{sym, ap, ◌∙◌, subst}
use Rattle.pv_schema_check.specs.Answers.{Answers}
use Rattle.pv_schema_check.specs.Checking.{faults}
use Rattle.pv_schema_check.proofs.CheckOpens.{value_opens}
use Rattle.pv_schema_check.proofs.checking.+check.Goals as goal

pub check-returns-in-Value : goal.check-returns-in-Value
check-returns-in-Value t c =
    subst (Answers c.check_value.result)
    (sym (ap (faults c.args.tree.now) c.in-Value.is ∙ value_opens c.args.tree.now c.in-Value.kind))
    c.check_value.ensures
