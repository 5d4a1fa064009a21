use Rattle.std.proofs.Common.{ℕ, List, [], inl, refl, sym, ap, subst, ◌∙◌}
use Rattle.pv_json_grammar.specs.Documents.{reading}
use Rattle.pv_node.specs.declared.Node.{Node}
use Rattle.pv_cli.specs.Answering as answering
use Rattle.pv_cli.specs.Answering.{Reads, answer_of, of_schema, schema_or_answer}
use Rattle.pv_cli.specs.Asking.{file_limit}
use Rattle.pv_cli.specs.Checks.{checked}
use Rattle.pv_cli.specs.Lines.{IsOfFile}
use Rattle.pv_cli.specs.SchemaFiles.{schema_file}
use Rattle.pv_cli.specs.Steps.{shown}
use Rattle.pv_cli.proofs.Replies.{loaded, decided, ok_of, ok_then, refusal_reply, refusal_line, refusal_stops}
use Rattle.pv_cli.proofs.Shapes.{checked_settled, schema_unprinted}
use Rattle.pv_cli.proofs.working.check_file.Goals as goal

-- what a schema that is checked leads to
abbrev next : Node → Reads
next n = answering.answered (checked n)

pub returns-in-Served-clause-reply : goal.returns-in-Served-clause-reply
returns-in-Served-clause-reply g c =
    let held = g.F.Shelf.held c.args.shelf.now in
    let functions = g.R.Objects.functions c.args.registry.now in
    let bytes = c.in-Ok.bytes in
    let is = rw c.as_str.ensures at c.in-Ok.ensures.bytes in
    let told = rw c.as_slice.ensures at c.in_ok-plan.ensures in
    let a = checked c.in-Served.plan in
    let decides = sym told ∙ ap shown c.in-Served.is in
    ok_of c.answer_check.result a _ c.answer_check.ensures
    (loaded held c.args.name.now bytes file_limit (λ content. of_schema next (schema_or_answer (schema_file functions (reading 128 content)))) _ _ a is c.in-Ok.ensures.size
    (decided held (λ files. answer_of files (of_schema next (schema_or_answer (schema_file functions (reading 128 bytes))))) _ _ a
    (checked_settled c.in-Served.plan).read
    (λ files. sym (ap (λ r. answer_of files (of_schema next r)) decides))))

pub returns-in-Served-clause-line : goal.returns-in-Served-clause-line
returns-in-Served-clause-line g c =
    ok_of c.answer_check.result (checked c.in-Served.plan) _ c.answer_check.ensures
    (λ asked named. (checked_settled c.in-Served.plan).line asked)

pub returns-in-Served-clause-out : goal.returns-in-Served-clause-out
returns-in-Served-clause-out g c = ok_of c.answer_check.result (checked c.in-Served.plan) _ c.answer_check.ensures (checked_settled c.in-Served.plan).out

pub returns-in-Served-clause-words : goal.returns-in-Served-clause-words
returns-in-Served-clause-words g c =
    ok_of c.answer_check.result (checked c.in-Served.plan) _ c.answer_check.ensures
    (λ e. absurd ((checked_settled c.in-Served.plan).worded e))

pub returns-in-Served-clause-large : goal.returns-in-Served-clause-large
returns-in-Served-clause-large g c =
    ok_of c.answer_check.result (checked c.in-Served.plan) _ c.answer_check.ensures
    (λ e. absurd ((checked_settled c.in-Served.plan).small e))

pub returns-in-Served-clause-stops : goal.returns-in-Served-clause-stops
returns-in-Served-clause-stops g c =
    ok_of c.answer_check.result (checked c.in-Served.plan) _ c.answer_check.ensures
    (λ e. absurd ((checked_settled c.in-Served.plan).read e))

pub returns-clause-reply : goal.returns-clause-reply
returns-clause-reply g c =
    let held = g.F.Shelf.held c.args.shelf.now in
    let functions = g.R.Objects.functions c.args.registry.now in
    let bytes = c.in-Ok.bytes in
    let is = rw c.as_str.ensures at c.in-Ok.ensures.bytes in
    let told = rw c.as_slice.ensures at c.in_ok-plan.ensures in
    let decides = sym told ∙ ap shown c.in-Answered.is in
    loaded held c.args.name.now bytes file_limit (λ content. of_schema next (schema_or_answer (schema_file functions (reading 128 content)))) _ _ c.in-Answered.answer is c.in-Ok.ensures.size
    (decided held (λ files. answer_of files (of_schema next (schema_or_answer (schema_file functions (reading 128 bytes))))) _ _ c.in-Answered.answer
    (schema_unprinted _ c.in-Answered.answer decides).settled.read
    (λ files. sym (ap (λ r. answer_of files (of_schema next r)) decides)))

pub returns-clause-line : goal.returns-clause-line
returns-clause-line g c =
    λ asked named. (schema_unprinted _ c.in-Answered.answer (sym c.in_ok-plan.ensures ∙ ap shown c.in-Answered.is)).settled.line asked

pub returns-clause-out : goal.returns-clause-out
returns-clause-out g c = (schema_unprinted _ c.in-Answered.answer (sym c.in_ok-plan.ensures ∙ ap shown c.in-Answered.is)).settled.out

pub returns-clause-words : goal.returns-clause-words
returns-clause-words g c = λ e. absurd ((schema_unprinted _ c.in-Answered.answer (sym c.in_ok-plan.ensures ∙ ap shown c.in-Answered.is)).settled.worded e)

pub returns-clause-large : goal.returns-clause-large
returns-clause-large g c = λ e. absurd ((schema_unprinted _ c.in-Answered.answer (sym c.in_ok-plan.ensures ∙ ap shown c.in-Answered.is)).settled.small e)

pub returns-clause-stops : goal.returns-clause-stops
returns-clause-stops g c = λ e. absurd ((schema_unprinted _ c.in-Answered.answer (sym c.in_ok-plan.ensures ∙ ap shown c.in-Answered.is)).settled.read e)

pub returns-clause-whole : goal.returns-clause-whole
returns-clause-whole g c = λ e. absurd ((schema_unprinted _ c.in-Answered.answer (sym c.in_ok-plan.ensures ∙ ap shown c.in-Answered.is)).silent e)

pub returns-in-Err-clause-reply : goal.returns-in-Err-clause-reply
returns-in-Err-clause-reply g c =
    let leads = λ (content : List ℕ). of_schema next (schema_or_answer (schema_file (g.R.Objects.functions c.args.registry.now) (reading 128 content))) in
    let failed = rw c.as_str.ensures at c.in-Err.ensures.failed in
    let over = rw c.as_str.ensures at c.in-Err.ensures.over in
    ok_then c.refuse_file.result _ _ c.refuse_file.ensures (λ a is. refusal_reply c.in-Err.fault (g.F.Shelf.held c.args.shelf.now) c.args.name.now file_limit leads _ _ a failed over is)

pub returns-in-Err-clause-line : goal.returns-in-Err-clause-line
returns-in-Err-clause-line g c =
    ok_then c.refuse_file.result _ _ c.refuse_file.ensures
    (λ a is asked named. refusal_line c.in-Err.fault c.args.name.now a asked (λ of. subst (λ names. IsOfFile of names (of c.args.name.now)) (sym named) (inl refl)) is)

pub returns-in-Err-clause-stops : goal.returns-in-Err-clause-stops
returns-in-Err-clause-stops g c =
    let given = rw c.as_str.ensures at c.in-Err.ensures.in_file in
    ok_then c.refuse_file.result _ _ c.refuse_file.ensures
    (λ a is e. refusal_stops c.in-Err.fault (g.F.Shelf.held c.args.shelf.now) c.args.name.now [] _ _ a given is e)
