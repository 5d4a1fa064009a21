use Rattle.std.proofs.Common.{◌≡◌, ◌*◌, ◌≤◌, ◌^◌, true}
use Rattle.std.specs.Io.KnownBytes.{IsAtEnd}
use Rattle.std.specs.Prelude.{Some}
use Rattle.base_tests.proofs.lines.answers.Given as goal

abbrev pub invariant-loop : goal.invariant-loop
invariant-loop g l = record {
  given : l.shelf.given ≤ 2 ^ 32 * l.counter;
  limit : l.lines.line_limit ≤ 2 ^ 30;
  closed : l.lines.closed ≡ true → IsAtEnd (Some l.shelf.rest);
}
