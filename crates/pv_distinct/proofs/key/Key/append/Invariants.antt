use Rattle.std.proofs.Common.{◌≡◌, ◌++◌}
use Rattle.pv_distinct.proofs.key.Key.append.Given as goal

abbrev pub invariant-loop-token : goal.invariant-loop-token
invariant-loop-token l = l.self-inside.tokens.items ++ l.token-iterator.rest.items ≡ l.initial.self-inside.tokens.items ++ l.fn.other
