use Rattle.std.proofs.Common.{rules}
use Rattle.pv_graph.proofs.LongestWalks.{is_acyclic}
use Rattle.pv_graph.proofs.cycles.longest_walk.Goals as goal

pub returns-then-are_heights : goal.returns-then-are_heights
returns-then-are_heights c = is_acyclic c.args.graph.now c.args.heights.now (search rules) c.greatest.result c.greatest.ensures
