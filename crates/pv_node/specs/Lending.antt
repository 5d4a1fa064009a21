-- The slots of a node as they are lent.
use Rattle.std.specs.Prelude.{codes, [], ◌∷◌}
use Rattle.std.specs.Option.{option_copied}
use Rattle.pv_tree.specs.declared.Step.TheVariants.{Name, Index}
use Rattle.pv_node.specs.declared.node.Node.{Node}
use Rattle.pv_node.specs.declared.child_slot.ChildSlot.{ChildSlot}
use Rattle.pv_node.specs.declared.slot_path.SlotPath.{SlotPath}
use Rattle.pv_node.specs.declared.slot_path.SlotPath.TheVariants.{Key, Position, Field, Choice, Tag}
use Rattle.pv_node.specs.Places.{Path, Slot, position_path, in_pair}

-- the steps that a way to a child schema stands for
abbrev pub steps : SlotPath → Path
steps (Key key) = Name key.now ∷ []
steps (Position key i) = position_path key.now i
steps (Field name) = Name (codes "fields") ∷ Name name.now ∷ Name (codes "schema") ∷ []
steps (Choice i labelled) = Name (codes "choices") ∷ Index i ∷ in_pair labelled
steps (Tag tag) = Name (codes "choices") ∷ Name tag.now ∷ []

-- the slot that is lent
abbrev pub lent : ChildSlot → Slot Node
lent slot = record {
  path = steps slot.path;
  edge = slot.edge;
  node = option_copied slot.node;
}
