use Rattle.std.proofs.Common.{◌≡◌, drop}
use Rattle.std.specs.Prelude.{bytes_eq}
use Rattle.std.specs.List.{find}
use Rattle.pv_command.proofs.reading.entry_named.Given as goal

abbrev pub invariant-loop-entry : goal.invariant-loop-entry
invariant-loop-entry l =
    find (λ e. bytes_eq l.name e.name.now) (drop l.entry-index l.entries) ≡ find (λ e. bytes_eq l.name e.name.now) l.entries
