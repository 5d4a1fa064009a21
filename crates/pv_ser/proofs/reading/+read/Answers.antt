use Rattle.std.proofs.Common.{rules}
use Rattle.pv_ser.proofs.Levels.{list_told}
use Rattle.pv_ser.proofs.reading.+read.Goals as goal

pub read_pick-returns-in-Array : goal.read_pick-returns-in-Array
read_pick-returns-in-Array t c = list_told c.args.tree.now c.in-Array.items _ c.read_list.result c.in-Array.is (search rules) c.read_list.ensures
