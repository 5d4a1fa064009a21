-- The settings in force at a path, searched outward along it.
use Rattle.std.specs.Prelude.{ℕ, zero, suc, nat_eq, Bool, false, if◌then◌else◌, List, [], ◌∷◌, ◌++◌, length, Option, Some, None, unwrap_or}
use Rattle.std.specs.Str.{bytes_eq}
use Rattle.pv_tree.specs.declared.Step.{Step}
use Rattle.pv_tree.specs.declared.Step.TheVariants.{Name, Index}
use Rattle.pv_rules.specs.Settings.{plain}
use Rattle.pv_rules.specs.declared.Settings.{Settings}
use Rattle.pv_node.specs.declared.node.Node.{Node}
use Rattle.pv_node.specs.Places.{Path, Slot, slots_of, body_of, config_at}

-- whether two steps are the same
abbrev pub same_step : Step → Step → Bool
same_step (Name a) (Name b) = bytes_eq a b
same_step (Index i) (Index j) = nat_eq i j
same_step (Name a) (Index j) = false
same_step (Index i) (Name b) = false

-- what is left of a path behind these steps
abbrev pub after : Path → Path → Option Path
after [] path = Some path
after (x ∷ xs) [] = None
after (x ∷ xs) (y ∷ ys) = if same_step x y then after xs ys else None

-- the node of a slot and what is left of the path, where the path goes through it
abbrev pub choose : Option Node → Option Path → Option (Node × Path) → Option (Node × Path)
choose (Some n) (Some rest) other = Some (n, rest)
choose (Some n) None other = other
choose None rest other = other

-- the first of these slots that a path goes through
abbrev pub through : List (Slot Node) → Path → Option (Node × Path)
through [] path = None
through (slot ∷ ss) path = choose slot.node (after slot.path path) (through ss path)

-- the nodes along a path behind a slot
abbrev pub further : (Node → Path → List Node) → Option (Node × Path) → List Node
further f None = []
further f (Some (n, rest)) = f n rest

-- the nodes along a path, at most so many below one another, the innermost first
abbrev pub trail : ℕ → Node → Path → List Node
trail zero n path = n ∷ []
trail (suc k) n path = further (trail k) (through (slots_of n) path) ++ n ∷ []

-- the settings of the first node that configures any
abbrev pub outward : List Node → Settings
outward [] = plain
outward (n ∷ ns) = unwrap_or (config_at (body_of n)) (outward ns)

-- those in force at a path; no path has more nodes below its root than steps
abbrev pub settings_at : Node → Path → Settings
settings_at root path = outward (trail (length path) root path)
