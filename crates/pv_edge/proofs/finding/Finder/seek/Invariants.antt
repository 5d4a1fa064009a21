use Rattle.std.proofs.Common.{◌≡◌, ◌+◌, ◌-◌, ◌*◌, ◌≤◌, ◌++◌, length, cond, true, ◌^◌}
use Rattle.std.specs.Io.KnownBytes.{IsAtEnd}
use Rattle.pv_edge.specs.Reading.{Takes}
use Rattle.pv_edge.proofs.finding.Finder.seek.Given as goal

abbrev pub invariant-loop-at : goal.invariant-loop-at
invariant-loop-at g l =
    let shelf = g.F.Shelf in
    record {
      takes : Takes (shelf.rest l.fn.shelf) (shelf.rest l.shelf) (shelf.given l.fn.shelf) (shelf.given l.shelf) (λ more. l.self ≡ record l.fn.self { waiting = l.fn.self.waiting ++ more; closed = l.self.closed });
      room : length l.self.waiting ≤ l.self.line_limit + 4096;
      limit : l.self.line_limit ≤ 2 ^ 30;
      end : l.self.closed ≡ true → IsAtEnd (shelf.rest l.shelf);
      closed : l.fn.self.closed ≡ true → (l.self.closed ≡ true) × (shelf.given l.shelf ≡ shelf.given l.fn.shelf);
      held : shelf.held l.shelf ≡ shelf.held l.fn.shelf;
      later : shelf.faults l.fn.shelf ≤ shelf.faults l.shelf;
    }

abbrev pub decreases-loop-at : goal.decreases-loop-at
decreases-loop-at g l = (l.self.line_limit + 4096 - length l.self.waiting) * 2 + cond l.self.closed 0 1
