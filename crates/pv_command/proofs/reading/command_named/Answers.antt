use Rattle.std.proofs.Common.{sym, subst}
use Rattle.pv_command.specs.Command.{commands, command_named}
use Rattle.pv_command.specs.Entries.{IsFound}
use Rattle.pv_command.proofs.Walk.{found}
use Rattle.pv_command.proofs.reading.command_named.Goals as goal

pub returns : goal.returns
returns c =
    subst (λ o. IsFound o (command_named c.args.name.now)) (sym c.entry_named.ensures)
    (found c.commands.result.now commands c.args.name.now c.commands.ensures)
