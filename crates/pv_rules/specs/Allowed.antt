-- What the table of keys allows of rules and settings: how large numbers are, lists with something
-- in them, members that are distinct, and positions that are there.
use Rattle.std.specs.Prelude.{◌≡◌, ℕ, ◌<◌, ◌≤◌, true, ◌||◌, List, [], ◌∷◌, map, length}
use Rattle.std.specs.Prelude.{ℤ, pos, Option, None, IsTrue, bytes_eq}
use Rattle.std.specs.List.{AllByRecursion, IsDistinct}
use Rattle.std.specs.Option.{IfSome}
use Rattle.pv_tree.specs.declared.Step.{Step}
use Rattle.pv_tree.specs.declared.Step.TheVariants.{Name, Index}
use Rattle.pv_rules.specs.declared.fields_rule.AliasRule.{AliasRule}
use Rattle.pv_rules.specs.declared.fields_rule.FieldRule.{FieldRule}
use Rattle.pv_rules.specs.declared.fields_rule.FieldsRule.{FieldsRule}
use Rattle.pv_rules.specs.declared.fields_rule.FieldsKind.{FieldsKind}
use Rattle.pv_rules.specs.declared.fields_rule.FieldsKind.TheVariants as fields
use Rattle.pv_rules.specs.declared.settings.Settings.{Settings}
use Rattle.pv_rules.specs.declared.literal.Literal.{Literal}
use Rattle.pv_rules.specs.declared.literal.Literal.TheVariants as literal
use Rattle.pv_rules.specs.declared.scalar_rule.EnumRule.{EnumRule}
use Rattle.pv_rules.specs.declared.scalar_rule.ScalarRule.{ScalarRule}
use Rattle.pv_rules.specs.declared.scalar_rule.ScalarRule.TheVariants as rule
use Rattle.pv_rules.specs.declared.gather_rule.Collection.{Collection}
use Rattle.pv_rules.specs.declared.gather_rule.Collection.TheVariants as collection
use Rattle.pv_rules.specs.declared.gather_rule.GatherRule.{GatherRule}
use Rattle.pv_rules.specs.declared.union_rule.TagRule.{TagRule}
use Rattle.pv_rules.specs.declared.union_rule.UnionRule.{UnionRule}
use Rattle.pv_rules.specs.Members.{are_members, all_are_of}

-- below 2^32
abbrev pub IsCount : ℕ → Type 0
IsCount n = n ≤ 4294967295

-- not empty
abbrev pub HasItems : {X : Type 0} → List X → Type 0
HasItems xs = 0 < length xs

-- one or more
abbrev pub IsPositive : ℤ → Type 0
IsPositive n = (k : ℕ) × (n ≡ pos k) × (1 ≤ k)

-- from 1 to 8
abbrev pub IsVersion : ℕ → Type 0
IsVersion n = (1 ≤ n) × (n ≤ 8)

-- an int or a text
abbrev pub IsIntOrText : Literal → Type 0
IsIntOrText literal.Null = ⊥
IsIntOrText (literal.Flag b) = ⊥
IsIntOrText (literal.Int n) = Unit {0}
IsIntOrText (literal.Text t) = Unit {0}

-- bounds of a length
pub record AreBounds (least most : Option ℕ) : Type 0 where
  pub least_is_count : IfSome least IsCount
  pub most_is_count : IfSome most IsCount

-- an enum
pub record IsEnum (r : EnumRule) : Type 0 where
  pub has_members : HasItems r.members
  pub are_distinct : IsTrue (are_members r.members)
  pub are_values : AllByRecursion (λ m. IsIntOrText m.value) r.members
  pub are_of_sub_type : IfSome r.sub_type (λ s. IsTrue (all_are_of s r.members))

-- what a type without child schemas may ask for
abbrev pub IsAllowedRule : ScalarRule → Type 0
IsAllowedRule rule.Any = Unit {0}
IsAllowedRule rule.None = Unit {0}
IsAllowedRule rule.Bool = Unit {0}
IsAllowedRule (rule.Int r) = IfSome r.multiple_of IsPositive
IsAllowedRule (rule.Str r) = AreBounds r.min_length r.max_length
IsAllowedRule (rule.Bytes r) = AreBounds r.min_length r.max_length
IsAllowedRule (rule.Uuid version) = IfSome version IsVersion
IsAllowedRule (rule.Url r) = IfSome r.max_length IsCount × IfSome r.allowed_schemes HasItems
IsAllowedRule (rule.Literal values) = HasItems values
IsAllowedRule (rule.Enum r) = IsEnum r

-- a kind whose parts all have one schema
abbrev pub IsSequence : Collection → Type 0
IsSequence collection.List = Unit {0}
IsSequence collection.Set = Unit {0}
IsSequence collection.Frozen = Unit {0}
IsSequence collection.Tuple = ⊥
IsSequence collection.Dict = ⊥

-- of a collection without positions
pub record HasNoPositions (r : GatherRule) : Type 0 where
  pub positions : r.positions ≡ 0
  pub variadic : r.variadic_item_index ≡ None
  pub bounds : AreBounds r.min_length r.max_length

-- of a tuple with so many positions, of which one may stand for any number of items
pub record HasPositions (r : GatherRule) (n : ℕ) : Type 0 where
  pub kind : r.kind ≡ collection.Tuple
  pub positions : r.positions ≡ n
  pub variadic : IfSome r.variadic_item_index (λ v. v < n)
  pub bounds : AreBounds r.min_length r.max_length

-- a later step of a path: a name or a count
abbrev pub IsStep : Step → Type 0
IsStep (Name name) = Unit {0}
IsStep (Index i) = IsCount i

-- a path: it begins with a name
abbrev pub IsPath : List Step → Type 0
IsPath [] = ⊥
IsPath (Name name ∷ steps) = AllByRecursion IsStep steps
IsPath (Index i ∷ steps) = ⊥

-- an alias
abbrev pub IsAlias : AliasRule → Type 0
IsAlias a = HasItems a.paths × AllByRecursion IsPath a.paths

-- a field of a model or of a typed dict; each field of a model has to be given
pub record IsFieldOf (k : FieldsKind) (f : FieldRule) : Type 0 where
  pub alias : IfSome f.validation_alias IsAlias
  pub required : k ≡ fields.Model → f.required ≡ true

-- settings: a field is read by its alias or by its name
pub record AreSettings (s : Settings) : Type 0 where
  pub bounds : AreBounds s.str_min_length s.str_max_length
  pub is_read : s.validate_by_alias || s.validate_by_name ≡ true

-- of a node with fields and so many schemas of fields; the fields of a model have no config and no
-- class
pub record AreFields (r : FieldsRule) (n : ℕ) (settings : Option Settings)
    (class : Option (List ℕ)) : Type 0 where
  pub names : IsDistinct bytes_eq (map (λ f. f.name) r.fields)
  pub schemas : n ≡ length r.fields
  pub each : AllByRecursion (IsFieldOf r.kind) r.fields
  pub config : IfSome settings AreSettings
  pub of_model : r.kind ≡ fields.Model → (settings ≡ None) × (class ≡ None)

-- of a union with so many choices, one or more
pub record IsUnion (r : UnionRule) (n : ℕ) : Type 0 where
  pub some : 0 < n
  pub labels : length r.labels ≡ n

-- of a tagged union with so many choices, one or more
pub record IsTagged (r : TagRule) (n : ℕ) : Type 0 where
  pub some : 0 < n
  pub tags : length r.tags ≡ n
  pub are_distinct : IsDistinct bytes_eq r.tags
  pub discriminator : IsAlias r.discriminator
