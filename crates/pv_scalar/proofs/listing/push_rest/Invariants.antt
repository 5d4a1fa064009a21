use Rattle.std.proofs.Common.{◌≡◌, ◌++◌, drop}
use Rattle.std.specs.Prelude.{string_bytes}
use Rattle.pv_scalar.specs.Literals.{listed_on}
use Rattle.pv_scalar.proofs.listing.push_rest.Given as goal

abbrev pub invariant-loop-place : goal.invariant-loop-place
invariant-loop-place l = string_bytes l.out ++ listed_on (drop l.place l.rest) ≡ string_bytes l.initial.out ++ listed_on l.rest
