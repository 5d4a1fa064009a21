use Rattle.pv_command.specs.Command.{asked}
use Rattle.pv_cli.specs.Answering.{reads_for}
use Rattle.pv_cli.specs.Asking.{files_of}
use Rattle.pv_cli.specs.Steps.{status_of}
use Rattle.pv_cli.proofs.Opening.{unread_passes}
use Rattle.pv_cli.proofs.commands.answer_words.Goals as goal

pub returns-in_err-asked-clause-passes : goal.returns-in_err-asked-clause-passes
returns-in_err-asked-clause-passes g c =
    λ _. unread_passes (reads_for (g.R.Objects.functions c.args.registry.now) (asked c.args.words.now)) (files_of (asked c.args.words.now)) (g.F.Shelf.given c.args.shelf.now) (g.O.Sink.took c.args.out.now) (status_of c.from_residual.result) (g.F.Shelf.held c.args.shelf.now)
