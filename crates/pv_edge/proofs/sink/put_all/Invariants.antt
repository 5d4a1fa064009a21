use Rattle.std.proofs.Common.{◌≤◌, length}
use Rattle.pv_edge.specs.Sending.{Sent}
use Rattle.pv_edge.proofs.sink.put_all.Given as goal

abbrev pub invariant-loop-rest : goal.invariant-loop-rest
invariant-loop-rest g l =
    let sink = g.S.Sink in
    record {
      sent : Sent (sink.took l.fn.sink) (sink.took l.sink) l.bytes l.rest;
      later : sink.faults l.fn.sink ≤ sink.faults l.sink;
    }

abbrev pub decreases-loop-rest : goal.decreases-loop-rest
decreases-loop-rest g l = length l.rest
