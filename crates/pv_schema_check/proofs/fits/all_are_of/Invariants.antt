use Rattle.std.proofs.Common.{◌≡◌, drop}
use Rattle.pv_rules.specs.Members.{all_are_of}
use Rattle.pv_schema_check.proofs.fits.all_are_of.Given as goal

abbrev pub invariant-loop-member : goal.invariant-loop-member
invariant-loop-member l = all_are_of l.sub_type (drop l.member-index l.members) ≡ all_are_of l.sub_type l.members
