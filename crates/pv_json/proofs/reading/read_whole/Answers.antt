use Rattle.std.proofs.Common.{rules}
use Rattle.pv_json.specs.declared.reading.TheConstants.{NESTING}
use Rattle.pv_json_grammar.proofs.Left.{document_left}
use Rattle.pv_json_grammar.proofs.Readings.{read_is_whole, early_is_end, fault_is_bad}
use Rattle.pv_json.proofs.reading.read_whole.Goals as goal

pub overflow_sub-result : goal.overflow_sub-result
overflow_sub-result c = document_left NESTING c.args.input.now c.in-Err-Fault.left (search rules)

pub returns-clause-fault : goal.returns-clause-fault
returns-clause-fault c = fault_is_bad NESTING c.args.input.now c.in-Err-Fault.left (search rules) (search rules)

pub returns-in-Ok-clause-tree : goal.returns-in-Ok-clause-tree
returns-in-Ok-clause-tree c = read_is_whole NESTING c.args.input.now c.in-Ok.tree (search rules)

pub returns-in-Err-Fault-eq0-clause-fault : goal.returns-in-Err-Fault-eq0-clause-fault
returns-in-Err-Fault-eq0-clause-fault c = early_is_end NESTING c.args.input.now (search rules)
