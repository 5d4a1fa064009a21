use Rattle.std.proofs.Common.{◌≡◌, ◌<◌, ◌*◌, ◌^◌}
use Rattle.pv_number.proofs.value.times_power.Given as goal

abbrev pub invariant-loop-step : goal.invariant-loop-step
invariant-loop-step l = (l.product < 2 ^ 128) × (l.product ≡ l.value * 10 ^ l._step)
