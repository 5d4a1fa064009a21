use Rattle.std.proofs.Common.{◌+◌, ◌++◌, ◌∙◌, take, sym, ap, subst}
use Rattle.std.specs.List.{flat_map}
use Rattle.pv_notation.specs.Strings.{escaped}
use Rattle.pv_notation.proofs.Escapes.{IsRun, run_none, run_more, run_ends}
use Rattle.pv_notation.proofs.strings.append_escaped.Goals as goal
use Rattle.pv_notation.proofs.strings.append_escaped.Goals.{then-is_escaped+in_ok-push_slice+in_ok-write_escaped, else-is_escaped}

pub loop-place-preserved : goal.loop-place-preserved
loop-place-preserved c =
    elim c.if-is_escaped.branch [
      | then-is_escaped+in_ok-push_slice+in_ok-write_escaped w ↦ (
        w.out-is ∙ run_ends c.args.text.now c.args.out.now c.loop-place.out w.push_slice.new.self w.write_escaped.new.out c.loop-place.start c.loop-place.place
            c.loop-place-test.true c.loop-place.invariant.1 c.loop-place.invariant.0 w.in_ok-push_slice.ensures.ok w.in_ok-write_escaped.ensures.ok
            ∙ ap (λ n. c.args.out.now ++ flat_map escaped (take n c.args.text.now)) (sym w.start-is),
        subst (λ n. IsRun c.args.text.now n (c.loop-place.place + 1)) (sym w.start-is) (run_none c.args.text.now (c.loop-place.place + 1)),
      )
      | else-is_escaped w ↦ (
        w.out-is ∙ c.loop-place.invariant.0 ∙ ap (λ n. c.args.out.now ++ flat_map escaped (take n c.args.text.now)) (sym w.start-is),
        subst (λ n. IsRun c.args.text.now n (c.loop-place.place + 1)) (sym w.start-is)
            (run_more c.args.text.now c.loop-place.start c.loop-place.place c.loop-place-test.true c.loop-place.invariant.1 w.if-is_escaped.ensures),
      )
    ]
