use Rattle.std.proofs.Common.{◌≡◌, ◌∙◌, Err, false, subst, sym}
use Rattle.pv_edge.specs.Picking.{Picks}
use Rattle.pv_edge.specs.Rising.{Rose}
use Rattle.pv_line_mode.specs.OnePass.{EndsBy}
use Rattle.pv_cli.specs.Answering.{line_meaning}
use Rattle.pv_cli.specs.Asking.{line_limit, lines_limit}
use Rattle.pv_cli.specs.Steps.{status_of}
use Rattle.pv_cli.proofs.LinedStops.{from_given, on_ok, stop_ended, stop_part, stop_printed, unpicked_printed}
use Rattle.pv_cli.proofs.lined.answer_file_lines.Goals as goal

pub returns-then-is_err-clause-passes : goal.returns-then-is_err-clause-passes
returns-then-is_err-clause-passes g c =
    unpicked_printed c.args.name.now (line_meaning (g.R.Objects.functions c.args.registry.now) c.args.strict c.args.plan.now) _ _ _ (g.F.Shelf.held c.args.shelf.now) (status_of c.end_by.result) c.pick.ensures.given

pub returns-in-Err-clause-ended : goal.returns-in-Err-clause-ended
returns-in-Err-clause-ended g c =
    let held = g.F.Shelf.held c.args.shelf.now in
    let name = c.args.name.now in
    let m = line_meaning (g.R.Objects.functions c.args.registry.now) c.args.strict c.args.plan.now in
    let rest = g.F.Shelf.rest c.pick.new.self in
    let rest_after = g.F.Shelf.rest c.answer_lines.new.shelf in
    let faults = g.F.Shelf.faults c.args.shelf.now in
    let faults_after = g.F.Shelf.faults c.answer_lines.new.shelf in
    let given = g.F.Shelf.given c.args.shelf.now in
    let given_after = g.F.Shelf.given c.answer_lines.new.shelf in
    let took = g.O.Sink.took c.args.out.now in
    let took_after = g.O.Sink.took c.answer_lines.new.out in
    let went = sym c.is_err.ensures.value ∙ c.if-is_err.false in
    let there : Picks held c.as_str.result.now rest = on_ok (Picks held c.as_str.result.now rest) c.pick.result went c.pick.ensures.picked in
    let picks : Picks held name rest = rw c.as_str.ensures at there in
    let pass = from_given m.text rest rest_after given (g.F.Shelf.given c.pick.new.self) given_after took took_after (EndsBy (Err c.in-Err.stop) m.text m.valid line_limit lines_limit rest rest_after) c.pick.ensures.given c.in-Err.ensures.passes in
    let kept = on_ok (g.F.Shelf.faults c.pick.new.self ≡ faults) c.pick.result went c.pick.ensures.kept in
    stop_ended name m faults faults_after given given_after took took_after rest rest_after c.in-Err.stop c.end_by-in-Err.result held c.end_by-in-Err.ensures picks
    (λ is. subst (λ n. Rose n faults_after) kept (c.in-Err.ensures.read_cause is)) pass

pub returns-in-Err-clause-part : goal.returns-in-Err-clause-part
returns-in-Err-clause-part g c =
    let held = g.F.Shelf.held c.args.shelf.now in
    let name = c.args.name.now in
    let m = line_meaning (g.R.Objects.functions c.args.registry.now) c.args.strict c.args.plan.now in
    let rest = g.F.Shelf.rest c.pick.new.self in
    let rest_after = g.F.Shelf.rest c.answer_lines.new.shelf in
    let faults = g.F.Shelf.faults c.args.shelf.now in
    let faults_after = g.F.Shelf.faults c.answer_lines.new.shelf in
    let given = g.F.Shelf.given c.args.shelf.now in
    let given_after = g.F.Shelf.given c.answer_lines.new.shelf in
    let took = g.O.Sink.took c.args.out.now in
    let took_after = g.O.Sink.took c.answer_lines.new.out in
    let went = sym c.is_err.ensures.value ∙ c.if-is_err.false in
    let there : Picks held c.as_str.result.now rest = on_ok (Picks held c.as_str.result.now rest) c.pick.result went c.pick.ensures.picked in
    let picks : Picks held name rest = rw c.as_str.ensures at there in
    let pass = from_given m.text rest rest_after given (g.F.Shelf.given c.pick.new.self) given_after took took_after (EndsBy (Err c.in-Err.stop) m.text m.valid line_limit lines_limit rest rest_after) c.pick.ensures.given c.in-Err.ensures.passes in
    stop_part name m faults faults_after given given_after took took_after rest rest_after c.in-Err.stop c.end_by-in-Err.result held c.end_by-in-Err.ensures picks pass

pub returns-in-Err-clause-passes : goal.returns-in-Err-clause-passes
returns-in-Err-clause-passes g c =
    let held = g.F.Shelf.held c.args.shelf.now in
    let name = c.args.name.now in
    let m = line_meaning (g.R.Objects.functions c.args.registry.now) c.args.strict c.args.plan.now in
    let rest = g.F.Shelf.rest c.pick.new.self in
    let rest_after = g.F.Shelf.rest c.answer_lines.new.shelf in
    let faults = g.F.Shelf.faults c.args.shelf.now in
    let faults_after = g.F.Shelf.faults c.answer_lines.new.shelf in
    let given = g.F.Shelf.given c.args.shelf.now in
    let given_after = g.F.Shelf.given c.answer_lines.new.shelf in
    let took = g.O.Sink.took c.args.out.now in
    let took_after = g.O.Sink.took c.answer_lines.new.out in
    let went = sym c.is_err.ensures.value ∙ c.if-is_err.false in
    let there : Picks held c.as_str.result.now rest = on_ok (Picks held c.as_str.result.now rest) c.pick.result went c.pick.ensures.picked in
    let picks : Picks held name rest = rw c.as_str.ensures at there in
    let pass = from_given m.text rest rest_after given (g.F.Shelf.given c.pick.new.self) given_after took took_after (EndsBy (Err c.in-Err.stop) m.text m.valid line_limit lines_limit rest rest_after) c.pick.ensures.given c.in-Err.ensures.passes in
    stop_printed name m faults faults_after given given_after took took_after rest rest_after c.in-Err.stop c.end_by-in-Err.result held c.end_by-in-Err.ensures picks pass
