use Rattle.std.proofs.Common.{rules}
use Rattle.pv_edge.proofs.PutLemmas.{sent_more}
use Rattle.pv_edge.proofs.sink.put_all.Goals as goal

pub loop-rest-preserved : goal.loop-rest-preserved
loop-rest-preserved g c = record {
  sent = sent_more _ _ _ _ c.loop-rest.rest.now c.in_ok-taken.taken c.in_ok-taken.ensures.within c.loop-rest.invariant.sent c.in_ok-taken.ensures.bytes;
  later = search rules;
}
