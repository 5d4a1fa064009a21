use Rattle.std.proofs.Common.{◌≡◌, take, map}
use Rattle.pv_fields.specs.Planned.{field_paths}
use Rattle.pv_fields.proofs.field_paths.all_field_paths.Given as goal

abbrev pub invariant-loop-field : goal.invariant-loop-field
invariant-loop-field l = l.all.items ≡ map (field_paths l.settings) (take l.field-index l.fields)
