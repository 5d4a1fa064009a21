-- The fields and the extra members of an object, as the walk of the whole sees them, and how far
-- that walk has come.
use Rattle.std.specs.Prelude.{◌≡◌, ℕ, List, [], map, Option, None, Some}
use Rattle.pv_tree.specs.declared.Step.{Step}
use Rattle.pv_tree.specs.declared.Tree.{Tree}
use Rattle.pv_rules.specs.declared.Settings.{Settings}
use Rattle.pv_fault.specs.declared.Good.{Good}
use Rattle.pv_fault.specs.declared.Grade.TheVariants as grade
use Rattle.pv_fault.specs.declared.Outcome.{Outcome}
use Rattle.pv_fault.specs.Under.{all_at_path}
use Rattle.pv_collect.specs.Kept.{good_of}
use Rattle.pv_fields.specs.FieldList.{Answered, Extra, errors_of, all_errors}
use Rattle.pv_fields.specs.Kept.{KeptParts, kept_of}
use Rattle.pv_walk.specs.declared.Out.{Out}
use Rattle.pv_walk_fields.specs.declared.defaults.StandIn.{StandIn}
use Rattle.pv_walk.specs.Rules.{Child, first}
use Rattle.pv_walk.specs.Fields.{missing_value}
use Rattle.pv_walk.specs.Walks.{Adds}

-- what stands in for a tree that is not there, by what the children of its node give
abbrev pub stand_in_outcome : (ℕ → Child) → StandIn → Outcome
stand_in_outcome child s =
    missing_value s.validates (first (map child s.children.now)) s.tree.now

-- the same success with the lowest grade
abbrev pub lax_good : Option Good → Option Good
lax_good None = None
lax_good (Some g) = Some (record { value = g.value; grade = grade.Lax; fields = g.fields })

-- A part at the end of a path was walked: the errors of its outcome were added with the path in
-- front, and this is its success.
pub record WalkedAt (old new : Out) (path : List Step) (found : Option Good) (o : Outcome)
    : Type 0 where
  pub adds : Adds old new (all_at_path path (errors_of o))
  pub answer : found ≡ good_of o

-- These fields and these extra members of an object were walked: their errors were added, and where
-- there is none they are kept.
pub record GoingFields (old new : Out) (s : Settings) (t : Tree) (kept : KeptParts)
    (fs : List Answered) (es : List Extra) : Type 0 where
  pub adds : Adds old new (all_errors s t fs es)
  pub whole : all_errors s t fs es ≡ [] → kept ≡ kept_of fs es
