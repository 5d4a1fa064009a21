use Rattle.std.proofs.Common.{ℕ, List, ◌∷◌, [], inl, refl, sym, ap, subst, ◌∙◌}
use Rattle.pv_json_grammar.specs.Documents.{reading}
use Rattle.pv_cli.specs.Answering.{answer_of, of_schema, reads_document, schema_or_answer}
use Rattle.pv_cli.specs.Asking.{file_limit}
use Rattle.pv_cli.specs.Lines.{IsOfFile}
use Rattle.pv_cli.specs.SchemaFiles.{schema_file}
use Rattle.pv_cli.specs.Steps.{shown}
use Rattle.pv_cli.proofs.Replies.{loaded, decided, ok_then, refusal_reply, refusal_line, refusal_stops}
use Rattle.pv_cli.proofs.Shapes.{schema_unprinted}
use Rattle.pv_cli.proofs.working.answer_files.Goals as goal

pub returns-in-Answered-clause-reply : goal.returns-in-Answered-clause-reply
returns-in-Answered-clause-reply g c =
    let held = g.F.Shelf.held c.args.shelf.now in
    let bytes = c.in-Ok.bytes in
    let is = rw c.as_str.ensures at c.in-Ok.ensures.bytes in
    let next = reads_document (g.R.Objects.functions c.args.registry.now) c.args.strict c.args.document_name.now in
    let told = rw c.as_slice.ensures at c.in_ok-plan.ensures in
    let decides = sym told ∙ ap shown c.in-Answered.is in
    loaded held c.args.schema_name.now bytes file_limit (λ content. of_schema next (schema_or_answer (schema_file (g.R.Objects.functions c.args.registry.now) (reading 128 content)))) _ _ c.in-Answered.answer is c.in-Ok.ensures.size
    (decided held (λ files. answer_of files (of_schema next (schema_or_answer (schema_file (g.R.Objects.functions c.args.registry.now) (reading 128 bytes))))) _ _ c.in-Answered.answer
    (schema_unprinted _ c.in-Answered.answer decides).settled.read
    (λ files. sym (ap (λ r. answer_of files (of_schema next r)) decides)))

pub returns-in-Answered-clause-line : goal.returns-in-Answered-clause-line
returns-in-Answered-clause-line g c =
    λ asked named. (schema_unprinted _ c.in-Answered.answer (sym c.in_ok-plan.ensures ∙ ap shown c.in-Answered.is)).settled.line asked

pub returns-in-Answered-clause-out : goal.returns-in-Answered-clause-out
returns-in-Answered-clause-out g c = (schema_unprinted _ c.in-Answered.answer (sym c.in_ok-plan.ensures ∙ ap shown c.in-Answered.is)).settled.out

pub returns-in-Answered-clause-large : goal.returns-in-Answered-clause-large
returns-in-Answered-clause-large g c = λ e. absurd ((schema_unprinted _ c.in-Answered.answer (sym c.in_ok-plan.ensures ∙ ap shown c.in-Answered.is)).settled.small e)

pub returns-in-Answered-clause-stops : goal.returns-in-Answered-clause-stops
returns-in-Answered-clause-stops g c = λ e. absurd ((schema_unprinted _ c.in-Answered.answer (sym c.in_ok-plan.ensures ∙ ap shown c.in-Answered.is)).settled.read e)

pub returns-in-Answered-clause-whole : goal.returns-in-Answered-clause-whole
returns-in-Answered-clause-whole g c = λ e. absurd ((schema_unprinted _ c.in-Answered.answer (sym c.in_ok-plan.ensures ∙ ap shown c.in-Answered.is)).silent e)

pub returns-in-Answered-clause-words : goal.returns-in-Answered-clause-words
returns-in-Answered-clause-words g c = λ e. absurd ((schema_unprinted _ c.in-Answered.answer (sym c.in_ok-plan.ensures ∙ ap shown c.in-Answered.is)).settled.worded e)

pub returns-clause-line : goal.returns-clause-line
returns-clause-line g c = ok_then c.answer_file.result _ _ c.answer_file.ensures.line (λ a line asked named. line asked c.args.schema_name.now named)

pub returns-in-Err-clause-reply : goal.returns-in-Err-clause-reply
returns-in-Err-clause-reply g c =
    let next = λ (content : List ℕ). of_schema (reads_document (g.R.Objects.functions c.args.registry.now) c.args.strict c.args.document_name.now) (schema_or_answer (schema_file (g.R.Objects.functions c.args.registry.now) (reading 128 content))) in
    let failed = rw c.as_str.ensures at c.in-Err.ensures.failed in
    let over = rw c.as_str.ensures at c.in-Err.ensures.over in
    ok_then c.refuse_file.result _ _ c.refuse_file.ensures (λ a is. refusal_reply c.in-Err.fault (g.F.Shelf.held c.args.shelf.now) c.args.schema_name.now file_limit next _ _ a failed over is)

pub returns-in-Err-clause-line : goal.returns-in-Err-clause-line
returns-in-Err-clause-line g c =
    ok_then c.refuse_file.result _ _ c.refuse_file.ensures
    (λ a is asked named. refusal_line c.in-Err.fault c.args.schema_name.now a asked (λ of. subst (λ names. IsOfFile of names (of c.args.schema_name.now)) (sym named) (inl refl)) is)

pub returns-in-Err-clause-stops : goal.returns-in-Err-clause-stops
returns-in-Err-clause-stops g c =
    let given = rw c.as_str.ensures at c.in-Err.ensures.in_file in
    ok_then c.refuse_file.result _ _ c.refuse_file.ensures
    (λ a is e. refusal_stops c.in-Err.fault (g.F.Shelf.held c.args.shelf.now) c.args.schema_name.now (c.args.document_name.now ∷ []) _ _ a given is e)
