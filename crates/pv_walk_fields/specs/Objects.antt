-- The objects whose fields a walk reads, by the records of its scene.
use Rattle.std.specs.Prelude.{◌≡◌, ℕ, List, length, map, slice_get, Option}
use Rattle.pv_tree.specs.declared.Tree.{Tree}
use Rattle.pv_rules.specs.declared.FieldRule.{FieldRule}
use Rattle.pv_fault.specs.declared.Outcome.{Outcome}
use Rattle.pv_fields.specs.Finding.{extras_in, finds_of}
use Rattle.pv_fields.specs.FieldList.{Answered, Extra}
use Rattle.pv_fields.specs.Kept.{KeptParts}
use Rattle.pv_fields.specs.Paths.{extra_of}
use Rattle.pv_walk_fields.specs.declared.object.Object.{Object}
use Rattle.pv_walk.specs.declared.Out.{Out}
use Rattle.pv_walk.specs.declared.Level.{Level}
use Rattle.pv_func.specs.Functions.{Named, Meaning}
use Rattle.pv_walk.specs.Rules.{Child}
use Rattle.pv_walk.specs.Run.{default_of}
use Rattle.pv_walk.specs.Nests.{below}
use Rattle.pv_walk.specs.Fields.{answered, answers, extra_by, extras_of}
use Rattle.pv_walk_fields.specs.GoingFields.{GoingFields}

-- the fields of an object
abbrev pub fields_in_order : Object → List FieldRule
fields_in_order o = o.plan.now.0.fields

-- what was found of the object is what its fields find
abbrev pub IsFound : Object → Type 0
IsFound o = o.finds.now ≡ finds_of o.plan.now.0 o.plan.now.1 o.tree.now

-- these fields and these extra members of the object were walked
abbrev pub GoingObject : Out → Out → Object → KeptParts → List Answered → List Extra → Type 0
GoingObject old new o kept fs es = GoingFields old new o.plan.now.1 o.tree.now kept fs es

module _ {O F : Type 0} (of : O → Named Meaning) (r : Level O F) where
  -- what the children give
  abbrev pub children_by : List ℕ → List Child
  children_by numbers = map (below of r) numbers

  -- what stands in for the children where no tree is there
  abbrev pub stand_ins_by : List ℕ → List (Option Outcome)
  stand_ins_by numbers = map (default_of r.scene.now.table.now (below of r)) numbers

  -- the field of a position with what came of it
  abbrev pub answered_by : Object → ℕ → FieldRule → Answered
  answered_by o = answered o.plan.now.1 o.tree.now (children_by o.children.now)
      (stand_ins_by o.children.now)

  -- all fields
  abbrev pub answers_by : Object → List Answered
  answers_by o = answers o.plan.now.1 o.tree.now (children_by o.children.now)
      (stand_ins_by o.children.now) 0 (fields_in_order o)

  -- what extra members are validated by
  abbrev pub extra_child_by : Object → Option Child
  extra_child_by o = slice_get (children_by o.children.now) (length (fields_in_order o))

  -- one extra member
  abbrev pub extra_by_policy : Object → List ℕ × Tree → List Extra
  extra_by_policy o = extra_by (extra_of o.plan.now.0 o.plan.now.1) (extra_child_by o)

  -- all extra members
  abbrev pub extras_by : Object → List Extra
  extras_by o = extras_of (extra_of o.plan.now.0 o.plan.now.1) (extra_child_by o)
      (extras_in o.plan.now.0 o.plan.now.1 o.tree.now)
