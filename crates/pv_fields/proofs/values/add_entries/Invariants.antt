use Rattle.std.proofs.Common.{◌≡◌, ◌++◌, map}
use Rattle.pv_fields.specs.FieldList.{text_entry}
use Rattle.pv_fields.proofs.values.add_entries.Given as goal

abbrev pub invariant-loop-name : goal.invariant-loop-name
invariant-loop-name l = l.entries.items ≡ l.fn.entries.items ++ map text_entry l.yielded
