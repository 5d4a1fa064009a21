use Rattle.std.proofs.Common.{rules, sym, ◌∙◌, length, arith}
use Rattle.pv_json_grammar.proofs.Turns.{goes}
use Rattle.pv_json.proofs.strings.characters.Goals as goal

pub loop-i-preserved : goal.loop-i-preserved
loop-i-preserved c = sym (goes (length c.args.s.now) c.loop-i.i c.loop-i.out c.loop-i.rest.now c.turn.new.out c.in_ok-closed.more.now c.in_ok-closed.closed (omega arith) (search rules) c.if-closed.false) ∙ c.loop-i.invariant
