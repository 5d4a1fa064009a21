use Rattle.std.proofs.Common.{rules, ◌≡◌, false}
use Rattle.std.specs.Prelude.{is_some}
use Rattle.std.specs.BTreeMap.{get_by_text}
use Rattle.pv_union.proofs.Noting.{noted}
use Rattle.pv_union.proofs.tag_places.note.Goals as goal

pub returns-in_ok-insert : goal.returns-in_ok-insert
returns-in_ok-insert c =
    let absent : is_some (get_by_text c.args.places.now c.args.tag.now) ≡ false = search rules in
    noted c.args.places.now c.insert.new.self c.args.tag.now c.in_ok-from_str.field-0 c.args.place absent (search rules) c.in_ok-insert.ensures.updates
