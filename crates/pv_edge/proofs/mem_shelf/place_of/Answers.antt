use Rattle.pv_edge.proofs.HeldLemmas.{file_found}
use Rattle.pv_edge.proofs.mem_shelf.place_of.Goals as goal

pub returns-clause-content : goal.returns-clause-content
returns-clause-content c = file_found c.args.files.now.entries c.args.name.now c.get_index_of.result c.get_index_of.ensures.within c.get_index_of.ensures.value
