use Rattle.std.proofs.Common.{◌≡◌, ◌+◌, ◌≤◌, length}
use Rattle.std.specs.Io.KnownBytes.{Consumes}
use Rattle.pv_edge.proofs.loading.read_rest.Given as goal

abbrev pub invariant-loop-room : goal.invariant-loop-room
invariant-loop-room g l =
    let shelf = g.F.Shelf in
    record {
      count : length l.bytes.items + l.room ≡ l.limit + 1;
      given : shelf.given l.shelf ≡ shelf.given l.fn.shelf + length l.bytes.items;
      held : shelf.held l.shelf ≡ shelf.held l.fn.shelf;
      later : shelf.faults l.fn.shelf ≤ shelf.faults l.shelf;
      rest : Consumes (shelf.rest l.fn.shelf) (shelf.rest l.shelf) l.bytes.items;
    }

abbrev pub decreases-loop-room : goal.decreases-loop-room
decreases-loop-room g l = l.room
