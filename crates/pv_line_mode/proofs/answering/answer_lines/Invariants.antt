use Rattle.std.proofs.Common.{◌≡◌, ◌-◌, ◌≤◌, ℕ, List}
use Rattle.std.specs.List.{list_all}
use Rattle.std.specs.Io.KnownBytes.{Appends}
use Rattle.pv_line_mode.specs.OnePass.{texts}
use Rattle.pv_line_mode.proofs.Reaching.{Reached}
use Rattle.pv_line_mode.proofs.answering.answer_lines.Given as goal

abbrev pub invariant-loop-buffer : goal.invariant-loop-buffer
invariant-loop-buffer g l =
    let shelf = g.F.Shelf in
    let sink = g.O.Sink in
    let answers = g.A.LineAnswers in
    record {
      done : List (List ℕ);
      reached : Reached l.line_limit l.file_limit (shelf.rest l.fn.shelf) (shelf.rest l.shelf) (shelf.given l.fn.shelf) (shelf.given l.shelf) l.lines done;
      grew : Appends (sink.took l.fn.out) (sink.took l.out) (texts (answers.text l.answers) done);
      judged : l.valid ≡ list_all (answers.valid l.answers) done;
      held : shelf.held l.shelf ≡ shelf.held l.fn.shelf;
      later : shelf.faults l.fn.shelf ≤ shelf.faults l.shelf;
      out_later : sink.faults l.fn.out ≤ sink.faults l.out;
    }

abbrev pub decreases-loop-buffer : goal.decreases-loop-buffer
decreases-loop-buffer g l = l.file_limit - l.lines.place
