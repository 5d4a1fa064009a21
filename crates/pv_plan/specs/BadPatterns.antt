-- The first pattern of a schema, in the order of its places, that the grammar of patterns does not
-- read within its bound on nesting.
use Rattle.std.specs.Prelude.{ℕ, Bool, true, false, if◌then◌else◌, List, [], ◌∷◌, ◌++◌, codes, Option, Some, None}
use Rattle.std.specs.Option.{option_map}
use Rattle.pv_tree.specs.declared.Step.TheVariants.{Name}
use Rattle.pv_rules.specs.declared.ScalarRule.{ScalarRule}
use Rattle.pv_rules.specs.declared.ScalarRule.TheVariants as rule
use Rattle.pv_node.specs.declared.Node.{Node}
use Rattle.pv_node.specs.Places.{Path, Slot, body_of, rule_of}
use Rattle.pv_node.specs.Preorder.{first_path}
use Rattle.pv_formats.specs.Patterns.{is_readable}

-- a pattern that is there and cannot be read
abbrev pub is_bad : Option (List ℕ) → Bool
is_bad None = false
is_bad (Some pattern) = if is_readable pattern then false else true

-- whether a scalar has a pattern that is bad
abbrev pub rule_is_bad : ScalarRule → Bool
rule_is_bad (rule.Str r) = is_bad r.pattern
rule_is_bad _ = false

-- the same where there may be a rule
abbrev pub any_is_bad : Option ScalarRule → Bool
any_is_bad None = false
any_is_bad (Some r) = rule_is_bad r

-- whether a node has a pattern that is bad
abbrev pub has_bad_pattern : Node → Bool
has_bad_pattern n = any_is_bad (rule_of (body_of n))

-- the steps from a node to its pattern
abbrev pub to_pattern : Path
to_pattern = Name (codes "pattern") ∷ []

-- the path of the first bad pattern
unfoldable pub bad_pattern : Node → Option Path
bad_pattern root = option_map (λ path. path ++ to_pattern) (first_path has_bad_pattern root)

-- the pattern of a node itself where it is bad
abbrev pub bad_itself : Bool → Option Path
bad_itself bad = if bad then Some to_pattern else None

-- the same seen from where these steps begin, where a node may be written
abbrev pub bad_at : Path → Option Node → Option Path
bad_at p None = None
bad_at p (Some n) = option_map (λ path. p ++ path) (bad_pattern n)

-- the same of a slot
abbrev pub bad_in : Slot Node → Option Path
bad_in slot = bad_at slot.path slot.node
