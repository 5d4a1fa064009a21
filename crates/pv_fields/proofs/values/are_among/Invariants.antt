use Rattle.std.proofs.Common.{◌≡◌, drop}
use Rattle.pv_fields.specs.Planned.{among}
use Rattle.pv_fields.proofs.values.are_among.Given as goal

abbrev pub invariant-loop-name : goal.invariant-loop-name
invariant-loop-name l = among (drop l.name-index l.members) l.left ≡ among l.members l.entries
