use Rattle.std.proofs.Common.{rules, ◌++◌, ◌∷◌, [], refl, ap, ◌∙◌, Ok, Err}
use Rattle.pv_line_mode.proofs.Ending.{at_end, handed_out, judged_more, no_next, not_begun, nothing_yet, stopped, texts_more, told_of_invalid, told_of_valid, unanswered}
use Rattle.pv_line_mode.proofs.Reaching.{at_start, line_next}
use Rattle.pv_line_mode.proofs.answering.answer_lines.Goals.{then-valid, else-valid}
use Rattle.pv_line_mode.proofs.answering.answer_lines.Goals as goal

pub returns-in_err-lines-clause-passes : goal.returns-in_err-lines-clause-passes
returns-in_err-lines-clause-passes g c = not_begun _ _ _ _ _ _ _ c.from_residual.result c.from_residual.ensures.1

pub loop-buffer-init : goal.loop-buffer-init
loop-buffer-init g c = record {
  done = [];
  reached = at_start c.args.line_limit c.args.file_limit _ _ c.in_ok-lines.lines c.in_ok-lines.ensures;
  grew = nothing_yet _;
  judged = refl;
  held = refl;
  later = search rules;
  out_later = search rules;
}

pub returns-in_err-next-clause-passes : goal.returns-in_err-next-clause-passes
returns-in_err-next-clause-passes g c =
    let known = c.loop-buffer.invariant in
    let next = c.next.ensures in
    let answers = g.A.LineAnswers in
    let text = answers.text c.args.answers.now in
    let valid = answers.valid c.args.answers.now in
    let lines = c.args.line_limit in
    let file = c.args.file_limit in
    let rest = g.F.Shelf.rest c.args.shelf.now in
    let rest_now = g.F.Shelf.rest c.loop-buffer.shelf in
    let rest_after = g.F.Shelf.rest c.next.new.shelf in
    let given = g.F.Shelf.given c.args.shelf.now in
    let given_now = g.F.Shelf.given c.loop-buffer.shelf in
    let given_after = g.F.Shelf.given c.next.new.shelf in
    let took = g.O.Sink.took c.args.out.now in
    let took_now = g.O.Sink.took c.loop-buffer.out in
    let old = c.loop-buffer.lines in
    let new = c.next.new.self in
    let stop = stopped text lines file rest rest_now rest_after given given_now given_after took took_now old new known.done known.reached next.closed next.at_most in
    no_next text lines file rest rest_now rest_after given given_now given_after took took_now old new known.done valid c.in_err-next.field-0.0 c.from_residual-in_err-next.result c.from_residual-in_err-next.ensures.1 stop known.grew
    (λ is. c.in_err-next.ensures.open (ap Err is))
    (c.in_err-next.ensures.takes known.reached.going)

pub returns-in-End-clause-passes : goal.returns-in-End-clause-passes
returns-in-End-clause-passes g c =
    let known = c.loop-buffer.invariant in
    let next = c.next.ensures in
    let answers = g.A.LineAnswers in
    let text = answers.text c.args.answers.now in
    let valid = answers.valid c.args.answers.now in
    let lines = c.args.line_limit in
    let file = c.args.file_limit in
    let rest = g.F.Shelf.rest c.args.shelf.now in
    let rest_now = g.F.Shelf.rest c.loop-buffer.shelf in
    let rest_after = g.F.Shelf.rest c.next.new.shelf in
    let given = g.F.Shelf.given c.args.shelf.now in
    let given_now = g.F.Shelf.given c.loop-buffer.shelf in
    let given_after = g.F.Shelf.given c.next.new.shelf in
    let took = g.O.Sink.took c.args.out.now in
    let took_now = g.O.Sink.took c.loop-buffer.out in
    let old = c.loop-buffer.lines in
    let new = c.next.new.self in
    let stop = stopped text lines file rest rest_now rest_after given given_now given_after took took_now old new known.done known.reached next.closed next.at_most in
    at_end text lines file rest rest_now rest_after given given_now given_after took took_now old new known.done valid c.loop-buffer.valid c.in_ok-next.field-0 c.in-End.is stop known.grew known.judged next.end
    (c.in_ok-next.ensures.takes known.reached.going)

pub returns-in_err-good-in-Line-clause-passes : goal.returns-in_err-good-in-Line-clause-passes
returns-in_err-good-in-Line-clause-passes g c =
    let known = c.loop-buffer.invariant in
    let next = c.next.ensures in
    let answers = g.A.LineAnswers in
    let text = answers.text c.args.answers.now in
    let valid = answers.valid c.args.answers.now in
    let lines = c.args.line_limit in
    let file = c.args.file_limit in
    let rest = g.F.Shelf.rest c.args.shelf.now in
    let rest_now = g.F.Shelf.rest c.loop-buffer.shelf in
    let rest_after = g.F.Shelf.rest c.next.new.shelf in
    let given = g.F.Shelf.given c.args.shelf.now in
    let given_now = g.F.Shelf.given c.loop-buffer.shelf in
    let given_after = g.F.Shelf.given c.next.new.shelf in
    let took = g.O.Sink.took c.args.out.now in
    let took_now = g.O.Sink.took c.loop-buffer.out in
    let old = c.loop-buffer.lines in
    let new = c.next.new.self in
    let stop = stopped text lines file rest rest_now rest_after given given_now given_after took took_now old new known.done known.reached next.closed next.at_most in
    let after = line_next lines file rest rest_now rest_after given given_now given_after old new known.done
    (record { reached = known.reached; closed = next.closed; room = next.bounded; lines_limited = next.limits.0; file_limited = next.limits.1; going = c.in_ok-next.ensures.ends.1 (ap Ok c.in-Line.is); end = next.end })
    (handed_out rest_now rest_after given_now given_after old new c.in_ok-next.field-0 c.in-Line.is (c.in_ok-next.ensures.takes known.reached.going)) in
    unanswered text lines file rest rest_now rest_after given given_now given_after took took_now old new known.done valid c.in_err-good-in-Line.field-0.0 c.from_residual-in_err-good-in-Line.result c.from_residual-in_err-good-in-Line.ensures.1 stop known.grew after
    (g.O.Sink.took c.answer_line.new.out) (rw c.line.ensures at c.in_err-good-in-Line.ensures.stops)

pub loop-buffer-preserved : goal.loop-buffer-preserved
loop-buffer-preserved g c =
    let known = c.loop-buffer.invariant in
    let next = c.next.ensures in
    let answers = g.A.LineAnswers in
    let text = answers.text c.args.answers.now in
    let valid = answers.valid c.args.answers.now in
    let lines = c.args.line_limit in
    let file = c.args.file_limit in
    let rest = g.F.Shelf.rest c.args.shelf.now in
    let rest_now = g.F.Shelf.rest c.loop-buffer.shelf in
    let rest_after = g.F.Shelf.rest c.next.new.shelf in
    let given = g.F.Shelf.given c.args.shelf.now in
    let given_now = g.F.Shelf.given c.loop-buffer.shelf in
    let given_after = g.F.Shelf.given c.next.new.shelf in
    let took = g.O.Sink.took c.args.out.now in
    let took_now = g.O.Sink.took c.loop-buffer.out in
    let old = c.loop-buffer.lines in
    let new = c.next.new.self in
    let after = line_next lines file rest rest_now rest_after given given_now given_after old new known.done
    (record { reached = known.reached; closed = next.closed; room = next.bounded; lines_limited = next.limits.0; file_limited = next.limits.1; going = c.in_ok-next.ensures.ends.1 (ap Ok c.in-Line.is); end = next.end })
    (handed_out rest_now rest_after given_now given_after old new c.in_ok-next.field-0 c.in-Line.is (c.in_ok-next.ensures.takes known.reached.going)) in
    let good = c.in_ok-good-in-Line.good in
    let more = judged_more valid known.done new.line c.loop-buffer.valid good known.judged (rw c.line.ensures at c.in_ok-good-in-Line.ensures.valid) in
    record {
      done = known.done ++ new.line ∷ [];
      reached = after;
      grew = texts_more text took took_now (g.O.Sink.took c.answer_line.new.out) known.done new.line known.grew (rw c.line.ensures at c.in_ok-good-in-Line.ensures.text);
      judged = elim c.if-valid.branch [
        | then-valid w ↦ told_of_valid c.loop-buffer.valid good c.if-valid.valid w.if-valid.true w.valid-is ∙ more
        | else-valid w ↦ told_of_invalid c.loop-buffer.valid good c.if-valid.valid w.if-valid.false w.valid-is ∙ more
      ];
      held = search rules;
      later = search rules;
      out_later = search rules;
    }
