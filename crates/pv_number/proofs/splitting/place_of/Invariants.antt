use Rattle.std.proofs.Common.{◌≡◌, ◌+◌, ◌||◌, ◌==◌, drop}
use Rattle.std.specs.List.{position_or_len}
use Rattle.pv_number.proofs.splitting.place_of.Given as goal

abbrev pub invariant-loop-byte : goal.invariant-loop-byte
invariant-loop-byte l = (l.place ≡ l.byte-index)
    × (l.place + position_or_len (λ x. x == l.one || x == l.other) (drop l.byte-index l.text) ≡ position_or_len (λ x. x == l.one || x == l.other) l.text)
