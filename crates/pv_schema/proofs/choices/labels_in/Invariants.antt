use Rattle.std.proofs.Common.{◌≡◌, take}
use Rattle.pv_schema.specs.Choices as spec
use Rattle.pv_schema_check.specs.Find.{itself}
use Rattle.pv_schema.specs.Making.{choices_in, made}
use Rattle.pv_schema.proofs.choices.labels_in.Given as goal

abbrev pub invariant-loop-choice : goal.invariant-loop-choice
invariant-loop-choice l = l.labels.items ≡ spec.labels (choices_in itself made (take l.choice-index l.choices))
