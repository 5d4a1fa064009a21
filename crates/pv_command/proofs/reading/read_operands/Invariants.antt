use Rattle.std.proofs.Common.{◌≡◌, ◌≤◌, ◌+◌, ℕ, List, [], take, drop, length}
use Rattle.pv_command.specs.declared.asked.Command.{Command}
use Rattle.pv_command.specs.Command.{asked_from, operands_from}
use Rattle.pv_command.specs.Entries.{operands_by}
use Rattle.pv_command.proofs.reading.read_operands.Given as goal

abbrev pub invariant-loop-count : goal.invariant-loop-count
invariant-loop-count l = record {
  within : l.count ≤ length l.words;
  stands : (make : List (List ℕ) → Command) (place : ℕ) → asked_from (operands_from (operands_by l.kinds [] make)) place l.words
      ≡ asked_from (operands_from (operands_by (drop l.count l.kinds) (take l.count l.words) make)) (place + l.count) (drop l.count l.words);
}
