use Rattle.std.proofs.Common.{◌≡◌, drop}
use Rattle.std.specs.Prelude.{None}
use Rattle.pv_union.specs.Choice.{first_sure, best_of}
use Rattle.pv_union.specs.declared.score.Score.TheVariants as score
use Rattle.pv_union.proofs.score.best.Given as goal

abbrev pub invariant-loop-place : goal.invariant-loop-place
invariant-loop-place l = record {
  sure : first_sure l.place (drop l.place l.scores) ≡ first_sure 0 l.scores;
  best : best_of l.so_far l.taken l.place (drop l.place l.scores) ≡ best_of score.Failed None 0 l.scores;
}
