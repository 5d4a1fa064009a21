use Rattle.std.proofs.Common.{true, sym}
use Rattle.pv_fault.specs.declared.Kind.TheVariants.{DictKeyNotHashable}
use Rattle.pv_walk_collections.proofs.Parts.{walked_hashed, walks_unhashable}
use Rattle.pv_walk_collections.proofs.collections.Collections.key_text.Goals as goal

pub returns-then-lacks_hash : goal.returns-then-lacks_hash
returns-then-lacks_hash g c =
    walks_unhashable _ _ _ _ _ true DictKeyNotHashable c.args.text.now _ c.in_ok-found.ensures (sym c.if-lacks_hash.ensures) c.fail.ensures

pub returns : goal.returns
returns g c = walked_hashed _ _ _ true DictKeyNotHashable c.args.text.now _ c.in_ok-found.ensures (sym c.if-lacks_hash.ensures)
