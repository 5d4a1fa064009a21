use Rattle.std.proofs.Common.{◌≡◌, ◌+◌, drop}
use Rattle.pv_command.specs.Command.{asked_from, options_from}
use Rattle.pv_command.specs.Entries.{form_of}
use Rattle.pv_command.proofs.reading.read_options.Given as goal

abbrev pub invariant-loop-count : goal.invariant-loop-count
invariant-loop-count l =
    asked_from (options_from (form_of l.takes) l.initial.options) 2 l.words ≡ asked_from (options_from (form_of l.takes) l.options) (2 + l.count) (drop l.count l.words)
