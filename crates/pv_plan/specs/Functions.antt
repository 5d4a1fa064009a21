-- The functions that the nodes of a schema name, and the first that is not there.
use Rattle.std.specs.Prelude.{ℕ, Bool, true, false, not, ◌&&◌, if◌then◌else◌, List, [], ◌∷◌, Option, None, Some, is_some}
use Rattle.pv_func.specs.declared.FuncKind.{FuncKind}
use Rattle.pv_func.specs.declared.FuncKind.TheVariants as kind
use Rattle.pv_func.specs.Functions.{Named, Meaning, kind_named}
use Rattle.pv_node.specs.declared.Node.{Node}
use Rattle.pv_node.specs.declared.Body.TheOpen.{Body-F}
use Rattle.pv_node.specs.Places.{body_of}
use Rattle.pv_node.specs.Preorder.{preorder, first_in}
use Rattle.pv_plan.specs.declared.functions.WantedFn.{WantedFn}
use Rattle.pv_plan.specs.declared.record.Op.{Op}
use Rattle.pv_plan.specs.declared.record.Op.TheVariants as op
use Rattle.pv_plan.specs.declared.record.Record.{Record}

-- a function that is named, and the kind of which it has to be
pub record Wanted : Type 0 where
  pub kind : FuncKind
  pub name : List ℕ

-- the function that a node names
abbrev pub wanted_by : {X Y : Type 0} → Body-F X Y → Option Wanted
wanted_by (Body-F.Before r inner) = Some (record { kind = kind.Before; name = r.function })
wanted_by (Body-F.After r inner) = Some (record { kind = kind.After; name = r.function })
wanted_by (Body-F.Wrap r inner) = Some (record { kind = kind.Wrap; name = r.function })
wanted_by (Body-F.Plain r) = Some (record { kind = kind.Plain; name = r.function })
wanted_by b = None

-- the function that a record names
abbrev pub wanted_of : Op → Option Wanted
wanted_of (op.Before name) = Some (record { kind = kind.Before; name = name })
wanted_of (op.After name) = Some (record { kind = kind.After; name = name })
wanted_of (op.Wrap name) = Some (record { kind = kind.Wrap; name = name })
wanted_of (op.Plain name) = Some (record { kind = kind.Plain; name = name })
wanted_of o = None

-- a function that is named by a text that is lent
abbrev pub wanted_lent : WantedFn → Wanted
wanted_lent w = record { kind = w.kind; name = w.name.now }

-- two kinds are the same
abbrev pub same_kind : FuncKind → FuncKind → Bool
same_kind kind.Before kind.Before = true
same_kind kind.After kind.After = true
same_kind kind.Plain kind.Plain = true
same_kind kind.Wrap kind.Wrap = true
same_kind a b = false

-- a name where a function of the name is not there
abbrev pub unknown_by : List ℕ → Option FuncKind → Option (List ℕ)
unknown_by name None = Some name
unknown_by name (Some k) = None

-- a name where a function of the name is there, and of another kind
abbrev pub wrong_by : Wanted → Option FuncKind → Option (List ℕ)
wrong_by w None = None
wrong_by w (Some k) = if same_kind w.kind k then None else Some w.name

-- a function of the name is there, and it is of the kind
abbrev pub fits_by : FuncKind → Option FuncKind → Bool
fits_by k None = false
fits_by k (Some j) = same_kind k j

-- of the functions that there are
module _ (fs : Named Meaning) where
  -- the name that is wanted, where no function has it
  abbrev pub unknown_in : Option Wanted → Option (List ℕ)
  unknown_in None = None
  unknown_in (Some w) = unknown_by w.name (kind_named fs w.name)

  -- the name that is wanted, where its function is of another kind
  abbrev pub wrong_in : Option Wanted → Option (List ℕ)
  wrong_in None = None
  wrong_in (Some w) = wrong_by w (kind_named fs w.name)

  -- the same of the function that a node names
  abbrev pub unknown_at : Node → Option (List ℕ)
  unknown_at n = unknown_in (wanted_by (body_of n))

  -- the same where it is of another kind
  abbrev pub wrong_at : Node → Option (List ℕ)
  wrong_at n = wrong_in (wanted_by (body_of n))

  -- the first name in a schema that no function has
  unfoldable pub first_unknown : Node → Option (List ℕ)
  first_unknown root = first_in unknown_at (preorder root)

  -- the first name in a schema whose function is of another kind
  unfoldable pub first_wrong : Node → Option (List ℕ)
  first_wrong root = first_in wrong_at (preorder root)

  -- all functions that a schema names are there, each of its kind
  abbrev pub fits : Node → Bool
  fits root = not (is_some (first_unknown root)) && not (is_some (first_wrong root))

  -- the function that is wanted is there, of its kind
  abbrev pub fits_in : Option Wanted → Bool
  fits_in None = true
  fits_in (Some w) = fits_by w.kind (kind_named fs w.name)

  -- the functions that records name are there, each of its kind
  abbrev pub records_fit : List Record → Bool
  records_fit [] = true
  records_fit (r ∷ rs) = fits_in (wanted_of r.op) && records_fit rs
