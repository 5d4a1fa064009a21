use Rattle.std.proofs.Common.{◌≡◌, ◌<◌, ◌^◌, drop}
use Rattle.std.specs.List.{list_all}
use Rattle.pv_number.specs.ExactNumber.{natural, natural_after}
use Rattle.pv_number.specs.Scanning.{is_digit}
use Rattle.pv_number.proofs.short.short_natural.Given as goal

abbrev pub invariant-loop-b : goal.invariant-loop-b
invariant-loop-b l = (l.value < 10 ^ l.b-index)
    × (natural_after l.value (drop l.b-index l.s) ≡ natural l.s)
    × (list_all is_digit (drop l.b-index l.s) ≡ list_all is_digit l.s)
