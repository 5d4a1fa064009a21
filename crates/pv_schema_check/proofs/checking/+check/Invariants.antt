use Rattle.std.proofs.Common.{◌≡◌, drop}
use Rattle.std.specs.List.{flat_map}
use Rattle.pv_schema_check.specs.Checking as spec
use Rattle.pv_schema_check.specs.Checking.{faults}
use Rattle.pv_schema_check.specs.Find.{itself}
use Rattle.pv_schema_table.specs.Rows.{object_in}
use Rattle.pv_schema_check.proofs.checking.+check.Given as goal

abbrev pub invariant-check_members-loop-name : goal.invariant-check_members-loop-name
invariant-check_members-loop-name l =
    flat_map (spec.member_faults itself faults (object_in l.object)) (drop l.name-index l.name-items)
    ≡ flat_map (spec.member_faults itself faults (object_in l.object)) l.members.members

abbrev pub invariant-check_items-loop-place : goal.invariant-check_items-loop-place
invariant-check_items-loop-place l =
    spec.item_faults itself faults l.kind l.place (drop l.place l.items) ≡ spec.item_faults itself faults l.kind 0 l.items

abbrev pub invariant-check_each-loop-name : goal.invariant-check_each-loop-name
invariant-check_each-loop-name l =
    spec.each_faults itself faults l.kind (drop l.name-index l.name-items) ≡ spec.each_faults itself faults l.kind l.members.members
