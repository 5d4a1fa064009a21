use Rattle.std.proofs.Common.{◌∙◌}
use Rattle.pv_edge.proofs.HeldLemmas.{insert_entry-missing}
use Rattle.pv_edge.proofs.mem_shelf.hold.Goals as goal

pub returns-clause-ok : goal.returns-clause-ok
returns-clause-ok c = c.in_ok-insert.ensures.entries ∙ insert_entry-missing c.args.files.now.entries c.args.name c.args.content c.requires
