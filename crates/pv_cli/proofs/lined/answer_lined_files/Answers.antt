use Rattle.std.proofs.Common.{◌∷◌, [], subst}
use Rattle.pv_cli.specs.Answering.{reads_lines, reads_schema}
use Rattle.pv_cli.specs.Steps.{Opens, status_of}
use Rattle.pv_cli.proofs.Opening.{lines_ended, lines_passed, nothing_passed, schema_ends}
use Rattle.pv_cli.proofs.Replies.{ok_then}
use Rattle.pv_cli.proofs.lined.answer_lined_files.Goals as goal

pub returns-in_err-plan-clause-passes : goal.returns-in_err-plan-clause-passes
returns-in_err-plan-clause-passes g c =
    let reads = reads_schema (g.R.Objects.functions c.args.registry.now) c.args.schema_name.now (reads_lines (g.R.Objects.functions c.args.registry.now) c.args.strict c.args.document_name.now) in
    nothing_passed reads c.args.schema_name.now (c.args.document_name.now ∷ []) (g.F.Shelf.given c.args.shelf.now) (g.F.Shelf.given c.open_schema.new.shelf) (g.O.Sink.took c.args.out.now) (status_of c.from_residual.result) (g.F.Shelf.held c.args.shelf.now) c.open_schema.ensures.in_file

pub returns-in-Answered-clause-ended : goal.returns-in-Answered-clause-ended
returns-in-Answered-clause-ended g c =
    let functions = g.R.Objects.functions c.args.registry.now in
    let opens = subst (λ s. Opens s (g.F.Shelf.held c.args.shelf.now) functions c.args.schema_name.now (g.F.Shelf.faults c.args.shelf.now) (g.F.Shelf.faults c.open_schema.new.shelf) (g.F.Shelf.given c.args.shelf.now) (g.F.Shelf.given c.open_schema.new.shelf)) c.in-Answered.is c.in_ok-plan.ensures.opens in
    schema_ends functions c.args.schema_name.now c.args.document_name.now (reads_lines functions c.args.strict c.args.document_name.now) (g.F.Shelf.held c.args.shelf.now) _ _ _ _ (g.O.Sink.took c.args.out.now) c.in-Answered.answer opens

pub returns-in-Answered-clause-passes : goal.returns-in-Answered-clause-passes
returns-in-Answered-clause-passes g c =
    let reads = reads_schema (g.R.Objects.functions c.args.registry.now) c.args.schema_name.now (reads_lines (g.R.Objects.functions c.args.registry.now) c.args.strict c.args.document_name.now) in
    nothing_passed reads c.args.schema_name.now (c.args.document_name.now ∷ []) (g.F.Shelf.given c.args.shelf.now) (g.F.Shelf.given c.open_schema.new.shelf) (g.O.Sink.took c.args.out.now) c.in-Answered.answer.status (g.F.Shelf.held c.args.shelf.now) c.open_schema.ensures.in_file

pub returns-clause-ended : goal.returns-clause-ended
returns-clause-ended g c =
    let functions = g.R.Objects.functions c.args.registry.now in
    let opens = subst (λ s. Opens s (g.F.Shelf.held c.args.shelf.now) functions c.args.schema_name.now (g.F.Shelf.faults c.args.shelf.now) (g.F.Shelf.faults c.open_schema.new.shelf) (g.F.Shelf.given c.args.shelf.now) (g.F.Shelf.given c.open_schema.new.shelf)) c.in-Served.is c.in_ok-plan.ensures.opens in
    let ended = rw c.open_schema.ensures.held at c.answer_file_lines.ensures.ended in
    ok_then c.answer_file_lines.result _ _ ended
    (λ e l. lines_ended functions c.args.schema_name.now c.args.document_name.now c.args.strict c.in-Served.plan _ _ _ _ _ _ _ _ (g.F.Shelf.held c.args.shelf.now) e opens c.open_schema.ensures.later c.open_schema.ensures.rises c.answer_file_lines.ensures.rises (l c.args.schema_name.now))

pub returns-clause-passes : goal.returns-clause-passes
returns-clause-passes g c =
    let functions = g.R.Objects.functions c.args.registry.now in
    let opens = subst (λ s. Opens s (g.F.Shelf.held c.args.shelf.now) functions c.args.schema_name.now (g.F.Shelf.faults c.args.shelf.now) (g.F.Shelf.faults c.open_schema.new.shelf) (g.F.Shelf.given c.args.shelf.now) (g.F.Shelf.given c.open_schema.new.shelf)) c.in-Served.is c.in_ok-plan.ensures.opens in
    let passes = rw c.open_schema.ensures.held at c.answer_file_lines.ensures.passes in
    lines_passed functions c.args.schema_name.now c.args.document_name.now c.args.strict c.in-Served.plan (g.F.Shelf.faults c.args.shelf.now) (g.F.Shelf.faults c.open_schema.new.shelf) (g.F.Shelf.faults c.answer_file_lines.new.shelf) (g.F.Shelf.given c.args.shelf.now) (g.F.Shelf.given c.open_schema.new.shelf) (g.F.Shelf.given c.answer_file_lines.new.shelf) (g.O.Sink.took c.args.out.now) (g.O.Sink.took c.answer_file_lines.new.out) (g.F.Shelf.held c.args.shelf.now) (status_of c.answer_file_lines.result) opens passes
