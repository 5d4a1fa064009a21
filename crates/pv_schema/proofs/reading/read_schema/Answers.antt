use Rattle.pv_schema.proofs.Allowing.{right_is_allowed}
use Rattle.pv_schema.proofs.reading.read_schema.Goals as goal

pub counted-requires : goal.counted-requires
counted-requires c = right_is_allowed _ _ c.in-Ok.ensures c.in_ok-root-in-Ok.ensures
