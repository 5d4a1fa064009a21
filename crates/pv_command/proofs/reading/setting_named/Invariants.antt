use Rattle.std.proofs.Common.{◌≡◌, drop}
use Rattle.pv_command.specs.Entries.{setting_named}
use Rattle.pv_command.proofs.reading.setting_named.Given as goal

abbrev pub invariant-loop-entry : goal.invariant-loop-entry
invariant-loop-entry l = setting_named (drop l.entry-index l.entries) l.word ≡ setting_named l.entries l.word
