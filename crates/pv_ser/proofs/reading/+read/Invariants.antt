use Rattle.std.proofs.Common.{◌≡◌, [], map, drop}
use Rattle.pv_ser.specs.Picks.{with_reading, members_read}
use Rattle.pv_ser.proofs.Behind.{behind}
use Rattle.pv_ser.proofs.reading.+read.Given as goal

abbrev pub invariant-read_members-loop-name : goal.invariant-read_members-loop-name
invariant-read_members-loop-name l =
    behind l.picks (members_read (map with_reading (drop l.name-index l.name-items)))
    ≡ behind [] (members_read (map with_reading l.members.members))
