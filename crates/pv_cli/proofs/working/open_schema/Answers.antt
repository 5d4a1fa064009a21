use Rattle.pv_cli.proofs.Opening.{opened}
use Rattle.pv_cli.proofs.Replies.{ok_then}
use Rattle.pv_cli.proofs.working.open_schema.Goals as goal

pub returns-in-Ok-clause-opens : goal.returns-in-Ok-clause-opens
returns-in-Ok-clause-opens g c =
    let is = rw c.as_str.ensures at c.in-Ok.ensures.bytes in
    let told = rw c.as_slice.ensures at c.read_schema_file.ensures in
    ok_then c.read_schema_file.result _ _ told
    (λ s shows. opened (g.R.Objects.functions c.args.registry.now) c.args.name.now (g.F.Shelf.held c.args.shelf.now) (g.F.Shelf.faults c.args.shelf.now) (g.F.Shelf.faults c.load.new.shelf) (g.F.Shelf.given c.args.shelf.now) (g.F.Shelf.given c.load.new.shelf) s c.in-Ok.bytes shows is c.in-Ok.ensures.size c.in-Ok.ensures.given)
