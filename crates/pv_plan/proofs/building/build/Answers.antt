use Rattle.std.proofs.Common.{rules, ap, ◌∙◌}
use Rattle.pv_references.specs.Nodes.{nodes_lent}
use Rattle.pv_plan.proofs.Searching.{references_told, unknown_told, wrong_told, pattern_told, nothing_told}
use Rattle.pv_plan.proofs.building.build.Goals as goal

pub returns-in_err-references-clause-reason : goal.returns-in_err-references-clause-reason
returns-in_err-references-clause-reason g c =
    let nodes = ap nodes_lent c.as_slice-all.ensures.value ∙ c.in_ok-nodes.ensures in
    let told = references_told (g.O.Objects.functions c.args.objects.now) c.in_ok-names.names c.root-root.result.now c.args.schema.now (nodes_lent c.as_slice-all.result.now) c.in_ok-names.ensures nodes c.root-root.ensures.root
    c.in_err-references.field-0.0 c.in_err-references.ensures.reason in
    search (rules, told)

pub returns-in_err-check_known-clause-reason : goal.returns-in_err-check_known-clause-reason
returns-in_err-check_known-clause-reason g c =
    let nodes = ap nodes_lent c.as_slice-all.ensures.value ∙ c.in_ok-nodes.ensures in
    let told = unknown_told (g.O.Objects.functions c.args.objects.now) c.in_ok-names.names c.root-root.result.now c.args.schema.now (nodes_lent c.as_slice-all.result.now) c.in_ok-names.ensures nodes c.root-root.ensures.root
    c.in_err-check_known.field-0.0 c.in_ok-references.ensures.reason c.in_err-check_known.ensures in
    search (rules, told)

pub returns-in_err-check_kinds-clause-reason : goal.returns-in_err-check_kinds-clause-reason
returns-in_err-check_kinds-clause-reason g c =
    let nodes = ap nodes_lent c.as_slice-all.ensures.value ∙ c.in_ok-nodes.ensures in
    let told = wrong_told (g.O.Objects.functions c.args.objects.now) c.in_ok-names.names c.root-root.result.now c.args.schema.now (nodes_lent c.as_slice-all.result.now) c.in_ok-names.ensures nodes c.root-root.ensures.root
    c.in_err-check_kinds.field-0.0 c.in_ok-references.ensures.reason c.in_ok-check_known.ensures c.in_err-check_kinds.ensures in
    search (rules, told)

pub returns-in_err-table-clause-reason : goal.returns-in_err-table-clause-reason
returns-in_err-table-clause-reason g c =
    let nodes = ap nodes_lent c.as_slice-all.ensures.value ∙ c.in_ok-nodes.ensures in
    let told = pattern_told (g.O.Objects.functions c.args.objects.now) c.in_ok-names.names c.root-root.result.now c.args.schema.now (nodes_lent c.as_slice-all.result.now) c.in_ok-names.ensures nodes c.root-root.ensures.root
    c.in_err-table.field-0.0 c.in_ok-references.ensures.reason c.in_ok-check_known.ensures c.in_ok-check_kinds.ensures c.in_err-table.ensures.pattern in
    search (rules, told)

pub returns-clause-reason : goal.returns-clause-reason
returns-clause-reason g c =
    let nodes = ap nodes_lent c.as_slice-all.ensures.value ∙ c.in_ok-nodes.ensures in
    nothing_told (g.O.Objects.functions c.args.objects.now) c.in_ok-names.names c.root-root.result.now c.args.schema.now (nodes_lent c.as_slice-all.result.now) c.in_ok-names.ensures nodes c.root-root.ensures.root
    c.in_ok-references.ensures.reason c.in_ok-check_known.ensures c.in_ok-check_kinds.ensures c.in_ok-table.ensures.pattern
