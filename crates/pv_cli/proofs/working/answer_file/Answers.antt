use Rattle.std.proofs.Common.{refl}
use Rattle.pv_cli.specs.Answering as answering
use Rattle.pv_cli.specs.Asking.{file_limit}
use Rattle.pv_cli.specs.Documents.{of_document}
use Rattle.pv_cli.proofs.Replies.{loaded, decided, ok_of}
use Rattle.pv_cli.proofs.Shapes.{document_settled}
use Rattle.pv_cli.proofs.working.answer_file.Goals as goal

pub returns-in-Ok-clause-reply : goal.returns-in-Ok-clause-reply
returns-in-Ok-clause-reply g c =
    let is = rw c.as_str.ensures at c.in-Ok.ensures.bytes in
    let a = of_document (g.R.Objects.functions c.args.registry.now) c.args.strict c.args.plan.now c.in-Ok.bytes in
    let answered = c.answer_document.ensures in
    ok_of c.answer_document.result a _ answered
    (loaded (g.F.Shelf.held c.args.shelf.now) c.args.name.now c.in-Ok.bytes file_limit (λ content. answering.answered (of_document (g.R.Objects.functions c.args.registry.now) c.args.strict c.args.plan.now content)) _ _ a is c.in-Ok.ensures.size
    (decided (g.F.Shelf.held c.args.shelf.now) (λ _. a) _ _ a (document_settled (g.R.Objects.functions c.args.registry.now) c.args.strict c.args.plan.now c.in-Ok.bytes).read (λ _. refl)))

pub returns-in-Ok-clause-line : goal.returns-in-Ok-clause-line
returns-in-Ok-clause-line g c =
    ok_of c.answer_document.result (of_document (g.R.Objects.functions c.args.registry.now) c.args.strict c.args.plan.now c.in-Ok.bytes) _ c.answer_document.ensures
    (λ asked first named. (document_settled (g.R.Objects.functions c.args.registry.now) c.args.strict c.args.plan.now c.in-Ok.bytes).line asked)

pub returns-in-Ok-clause-out : goal.returns-in-Ok-clause-out
returns-in-Ok-clause-out g c =
    ok_of c.answer_document.result (of_document (g.R.Objects.functions c.args.registry.now) c.args.strict c.args.plan.now c.in-Ok.bytes) _ c.answer_document.ensures
    (document_settled (g.R.Objects.functions c.args.registry.now) c.args.strict c.args.plan.now c.in-Ok.bytes).out

pub returns-in-Ok-clause-large : goal.returns-in-Ok-clause-large
returns-in-Ok-clause-large g c =
    ok_of c.answer_document.result (of_document (g.R.Objects.functions c.args.registry.now) c.args.strict c.args.plan.now c.in-Ok.bytes) _ c.answer_document.ensures
    (λ e. absurd ((document_settled (g.R.Objects.functions c.args.registry.now) c.args.strict c.args.plan.now c.in-Ok.bytes).small e))

pub returns-in-Ok-clause-stops : goal.returns-in-Ok-clause-stops
returns-in-Ok-clause-stops g c =
    ok_of c.answer_document.result (of_document (g.R.Objects.functions c.args.registry.now) c.args.strict c.args.plan.now c.in-Ok.bytes) _ c.answer_document.ensures
    (λ e. absurd ((document_settled (g.R.Objects.functions c.args.registry.now) c.args.strict c.args.plan.now c.in-Ok.bytes).read e))

pub returns-in-Ok-clause-words : goal.returns-in-Ok-clause-words
returns-in-Ok-clause-words g c =
    ok_of c.answer_document.result (of_document (g.R.Objects.functions c.args.registry.now) c.args.strict c.args.plan.now c.in-Ok.bytes) _ c.answer_document.ensures
    (λ e. absurd ((document_settled (g.R.Objects.functions c.args.registry.now) c.args.strict c.args.plan.now c.in-Ok.bytes).worded e))
