use Rattle.std.proofs.Common.{◌≡◌, map, take}
use Rattle.pv_union.specs.Tags.{step_text}
use Rattle.pv_union.proofs.tag_texts.path_text.Given as goal

abbrev pub invariant-loop-step : goal.invariant-loop-step
invariant-loop-step l = l.texts.items ≡ map step_text (take l.step-index l.path)
