use Rattle.std.proofs.Common.{◌≡◌, ◌+◌, ◌-◌, ◌*◌, length, []}
use Rattle.pv_json_grammar.specs.Values as spec
use Rattle.pv_json.proofs.values.+value.Given as goal

abbrev pub decreases-value : goal.decreases-value
decreases-value l = 4 * l.nesting

abbrev pub decreases-array : goal.decreases-array
decreases-array l = 4 * l.nesting + 2

abbrev pub decreases-items : goal.decreases-items
decreases-items l = 4 * l.nesting + 1

abbrev pub decreases-member : goal.decreases-member
decreases-member l = 4 * l.nesting + 1

abbrev pub decreases-members : goal.decreases-members
decreases-members l = 4 * l.nesting + 2

abbrev pub decreases-object : goal.decreases-object
decreases-object l = 4 * l.nesting + 3

abbrev pub invariant-items-loop-i : goal.invariant-items-loop-i
invariant-items-loop-i l = spec.items (spec.value l.nesting) (length l.s - l.i) l.all.items l.rest ≡ spec.items (spec.value l.nesting) (length l.s) [] l.s

abbrev pub invariant-members-loop-i : goal.invariant-members-loop-i
invariant-members-loop-i l = spec.members (spec.value l.nesting) (length l.s - l.i) l.all.items l.rest ≡ spec.members (spec.value l.nesting) (length l.s) [] l.s
