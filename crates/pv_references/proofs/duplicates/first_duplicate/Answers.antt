use Rattle.std.proofs.Common.{◌≡◌, ◌+◌, Some, length, take, drop, slice_get, refl, ap, sym, ◌∙◌}
use Rattle.std.specs.Option.{option_copied}
use Rattle.std.proofs.lemmas.Option.{slice_get_read}
use Rattle.pv_references.specs.Nodes.{nodes_lent}
use Rattle.pv_references.proofs.Repeating.{split, in_front, repeated_more, repeated_here, repeated_none}
use Rattle.pv_references.proofs.duplicates.first_duplicate.Goals as goal

pub returns-in-Some : goal.returns-in-Some
returns-in-Some c =
    let ns = c.args.nodes.now in
    let i = c.loop-place.place in
    let n = c.index-nodes-place.result in
    let here : slice_get ns i ≡ Some n = slice_get_read ns (length ns) i n refl c.loop-place-test.true c.index-nodes-place.is in
    let told = c.repeated.ensures (nodes_lent (take i ns)) (nodes_lent (drop (i + 1) ns)) (sym c.requires ∙ split ns i n here) (in_front ns i n here) in
    repeated_here ns c.args.names.now i n c.in-Some.name.now here c.requires (sym told ∙ ap option_copied c.in-Some.is) c.loop-place.invariant

pub loop-place-preserved : goal.loop-place-preserved
loop-place-preserved c =
    let ns = c.args.nodes.now in
    let i = c.loop-place.place in
    let n = c.index-nodes-place.result in
    let here : slice_get ns i ≡ Some n = slice_get_read ns (length ns) i n refl c.loop-place-test.true c.index-nodes-place.is in
    let told = c.repeated.ensures (nodes_lent (take i ns)) (nodes_lent (drop (i + 1) ns)) (sym c.requires ∙ split ns i n here) (in_front ns i n here) in
    repeated_more ns i n here (sym told ∙ ap option_copied c.in-None.is) c.loop-place.invariant

pub returns : goal.returns
returns c = repeated_none c.args.nodes.now c.args.names.now c.loop-place.place c.loop-place-test.false c.requires c.loop-place.invariant
