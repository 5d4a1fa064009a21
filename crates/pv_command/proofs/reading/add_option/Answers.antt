use Rattle.pv_command.proofs.Walk.{setting_barred, setting_added, setting_unknown}
use Rattle.pv_command.proofs.reading.add_option.Goals as goal

pub returns-then-bar : goal.returns-then-bar
returns-then-bar c = setting_barred _ _ _ _ _ _ c.setting_named.ensures c.in-Some.is c.bar.ensures c.if-bar.true

pub returns-else-bar : goal.returns-else-bar
returns-else-bar c = setting_added _ _ _ _ _ _ _ c.setting_named.ensures c.in-Some.is c.bar.ensures c.if-bar.false c.set.ensures

pub returns-in-None : goal.returns-in-None
returns-in-None c = setting_unknown _ _ _ _ c.setting_named.ensures c.in-None.is
