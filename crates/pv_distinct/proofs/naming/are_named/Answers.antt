use Rattle.std.proofs.Common.{rules, get_or, sym, ◌∙◌}
use Rattle.pv_equality.proofs.Pairs.{more, all_pairs}
use Rattle.pv_distinct.proofs.Named.{is_named, named_distinct}
use Rattle.pv_distinct.proofs.naming.are_named.Goals as goal

pub loop-i-preserved : goal.loop-i-preserved
loop-i-preserved c =
    more is_named c.args.members.now c.args.entries.now c.loop-i.i c.index-members-i.result c.index-entries-i.result (search rules) (search rules)
    ((λ j. is_named (get_or c.args.members.now c.loop-i.i c.index-members-i.result) (sym c.index-entries-i.is j))
    ∙ sym c.is_name.ensures ∙ c.if-not-is_name.false) c.loop-i.invariant

pub returns : goal.returns
returns c = λ d _.
    named_distinct c.args.members.now c.args.entries.now
    (sym (all_pairs is_named c.args.members.now c.args.entries.now c.loop-i.i (search rules) (search rules) c.loop-i.invariant)) d
