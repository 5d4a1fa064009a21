-- What a tree stands for under a key is allowed, whatever else is wrong: counts and versions are within their bounds, and lists have something in them.
use Rattle.std.proofs.Common.{◌≡◌, ℕ, ◌≤◌, Bool, true, false, ◌&&◌, if◌then◌else◌, List, [], ◌∷◌, ℤ, pos, negsuc, Option, None, Some, is_some, nat_le, option_map, refl, arith, leb-true}
use Rattle.std.proofs.lemmas.Bool.{and_parts, false≢true}
use Rattle.std.specs.List.{AllByRecursion}
use Rattle.std.specs.Option.{IfSome}
use Rattle.pv_number.specs.WrittenIntegers.{integer}
use Rattle.pv_tree.specs.declared.Tree.{Tree, out-Tree}
use Rattle.pv_tree.specs.declared.Tree.TheOpen.{Tree-F}
use Rattle.pv_rules.specs.declared.Literal.{Literal}
use Rattle.pv_rules.specs.declared.Literal.TheVariants as literal
use Rattle.pv_rules.specs.declared.EnumMember.{EnumMember}
use Rattle.pv_tree.specs.Parts.{items_at}
use Rattle.pv_schema_values.specs.Values.{int_of, natural_within, count_of, positive, positive_of, version_of, put_first, all_of, some_of, some_in, text_of, texts_of, literal_of, literals_of, member_value_at, member_value_of, member_by, member_in, member_of, where_distinct, members_of}
use Rattle.pv_schema_values.specs.Values.{step_of, path_by, path_in, path_of, alias_by, alias_of}
use Rattle.std.specs.Option.{option_or}
use Rattle.pv_tree.specs.declared.Step.{Step}
use Rattle.pv_tree.specs.declared.Step.TheVariants.{Name, Index}
use Rattle.pv_rules.specs.Members.{are_members}
use Rattle.pv_schema.specs.Written.{read, or_empty}
use Rattle.pv_rules.specs.Allowed.{IsCount, HasItems, IsPositive, IsVersion, IsIntOrText, IsStep, IsPath, IsAlias}

module _ {X : Type 0} (P : X → Type 0) where
  kept : (b : Bool) (x : X) → (b ≡ true → P x) → IfSome (if b then Some x else None) P
  kept true x holds = holds refl
  kept false x holds = tt

  -- what is read under a key
  read_is : (f : Tree → Option X) → ((t : Tree) → IfSome (f t) P) → (o : Option Tree) → IfSome (read f o) P
  read_is f each None = tt
  read_is f each (Some t) = each t

-- a list that is there
pub or_empty_is : {Y : Type 0} (P : List Y → Type 0) (o : Option (List Y)) → is_some o ≡ true → IfSome o P → P (or_empty o)
or_empty_is P None there holds = absurd (false≢true there)
or_empty_is P (Some ys) there holds = holds

within_bounds : (least most : ℕ) (o : Option ℤ) → IfSome (natural_within least most o) (λ n. (least ≤ n) × (n ≤ most))
within_bounds least most None = tt
within_bounds least most (Some (pos n)) =
    kept (λ k. (least ≤ k) × (k ≤ most)) (nat_le least n && nat_le n most) n
    (λ e. let p = and_parts (nat_le least n) (nat_le n most) e in (leb-true least n p.0, leb-true n most p.1))
within_bounds least most (Some (negsuc n)) = tt

bounded : (o : Option ℕ) → IfSome o (λ n. (0 ≤ n) × (n ≤ 4294967295)) → IfSome o IsCount
bounded None h = tt
bounded (Some n) h = h.1

count_is : (t : Tree) → IfSome (count_of t) IsCount
unfolding count_of
count_is t = bounded (natural_within 0 4294967295 (int_of t)) (within_bounds 0 4294967295 (int_of t))

pub counts : (o : Option Tree) → IfSome (read count_of o) IsCount
counts = read_is IsCount count_of count_is

version_is : (t : Tree) → IfSome (version_of t) IsVersion
unfolding version_of
version_is t = within_bounds 1 8 (int_of t)

pub versions : (o : Option Tree) → IfSome (read version_of o) IsVersion
versions = read_is IsVersion version_of version_is

positive_by : (o : Option ℤ) → IfSome (positive o) IsPositive
positive_by None = tt
positive_by (Some (pos n)) = kept IsPositive (nat_le 1 n) (pos n) (λ e. (n, refl, leb-true 1 n e))
positive_by (Some (negsuc n)) = tt

positive_is : (t : Tree) → IfSome (positive_of t) IsPositive
unfolding positive_of
positive_is t = positive_by (int_of t)

pub positives : (o : Option Tree) → IfSome (read positive_of o) IsPositive
positives = read_is IsPositive positive_of positive_is

-- lists of one item or more, each of which is as it may be
module _ {Y : Type 0} (Q : Y → Type 0) where
  abbrev Filled : List Y → Type 0
  Filled ys = HasItems ys × AllByRecursion Q ys

  put_filled : (o : Option Y) (ys : Option (List Y)) → IfSome o Q → IfSome ys (AllByRecursion Q) → IfSome (put_first o ys) Filled
  put_filled None ys h k = tt
  put_filled (Some y) None h k = tt
  put_filled (Some y) (Some ys) h k = (omega arith, (h, k))

  put_each : (o : Option Y) (ys : Option (List Y)) → IfSome o Q → IfSome ys (AllByRecursion Q) → IfSome (put_first o ys) (AllByRecursion Q)
  put_each None ys h k = tt
  put_each (Some y) None h k = tt
  put_each (Some y) (Some ys) h k = (h, k)

  module _ (f : Tree → Option Y) (each : (t : Tree) → IfSome (f t) Q) where
    all_each : (ts : List Tree) → IfSome (all_of f ts) (AllByRecursion Q)
    all_each [] = tt
    all_each (t ∷ ts) = put_each (f t) (all_of f ts) (each t) (all_each ts)

    some_filled : (ts : List Tree) → IfSome (some_of f ts) Filled
    some_filled [] = tt
    some_filled (t ∷ ts) = put_filled (f t) (all_of f ts) (each t) (all_each ts)

    some_in_filled : (o : Option (List Tree)) → IfSome (some_in f o) Filled
    some_in_filled None = tt
    some_in_filled (Some ts) = some_filled ts

  has_items : (o : Option (List Y)) → IfSome o Filled → IfSome o HasItems
  has_items None h = tt
  has_items (Some ys) h = h.0

anything : {Y : Type 0} → Y → Type 0
anything y = Unit {0}

of_anything : {Y : Type 0} (o : Option Y) → IfSome o anything
unfolding anything
of_anything None = tt
of_anything (Some y) = tt

texts_is : (t : Tree) → IfSome (texts_of t) HasItems
unfolding texts_of
texts_is t = has_items anything (some_in text_of (items_at (out-Tree t))) (some_in_filled anything text_of (λ u. of_anything (text_of u)) (items_at (out-Tree t)))

pub texts : (o : Option Tree) → IfSome (read texts_of o) HasItems
texts = read_is HasItems texts_of texts_is

literals_is : (t : Tree) → IfSome (literals_of t) HasItems
unfolding literals_of
literals_is t = has_items anything (some_in literal_of (items_at (out-Tree t))) (some_in_filled anything literal_of (λ u. of_anything (literal_of u)) (items_at (out-Tree t)))

pub literals : (o : Option Tree) → IfSome (read literals_of o) HasItems
literals = read_is HasItems literals_of literals_is

-- an alias
named_step : (o : Option (List ℕ)) (i : Option ℕ) → IfSome i IsCount → IfSome (option_or (option_map Name o) (option_map Index i)) IsStep
named_step (Some name) i h = tt
named_step None None h = tt
named_step None (Some i) h = h

step_is : (t : Tree) → IfSome (step_of t) IsStep
unfolding step_of
step_is t = named_step (text_of t) (count_of t) (count_is t)

path_first : (o : Option (List ℕ)) (ys : Option (List Step)) → IfSome ys (AllByRecursion IsStep) → IfSome (put_first (option_map Name o) ys) IsPath
path_first None ys h = tt
path_first (Some name) None h = tt
path_first (Some name) (Some ys) h = h

path_is_by : (ts : List Tree) → IfSome (path_by ts) IsPath
path_is_by [] = tt
path_is_by (t ∷ ts) = path_first (text_of t) (all_of step_of ts) (all_each IsStep step_of step_is ts)

path_is_in : (o : Option (List Tree)) → IfSome (path_in o) IsPath
path_is_in None = tt
path_is_in (Some ts) = path_is_by ts

path_is : (t : Tree) → IfSome (path_of t) IsPath
unfolding path_of
path_is t = path_is_in (items_at (out-Tree t))

alias_is_by : (text : Option (List ℕ)) (path : Option (List Step)) (paths : Option (List (List Step))) → IfSome path IsPath → IfSome paths (Filled IsPath)
    → IfSome (alias_by text path paths) IsAlias
alias_is_by (Some text) path paths h k = (omega arith, (tt, tt))
alias_is_by None (Some path) paths h k = (omega arith, (h, tt))
alias_is_by None None None h k = tt
alias_is_by None None (Some paths) h k = k

alias_is : (t : Tree) → IfSome (alias_of t) IsAlias
unfolding alias_of
alias_is t =
    alias_is_by (text_of t) (path_of t) (some_in path_of (items_at (out-Tree t))) (path_is t)
    (some_in_filled IsPath path_of path_is (items_at (out-Tree t)))

pub aliases : (o : Option Tree) → IfSome (read alias_of o) IsAlias
aliases = read_is IsAlias alias_of alias_is

-- the members of an enum
abbrev HasValue : EnumMember → Type 0
HasValue m = IsIntOrText m.value

int_is : (o : Option ℤ) → IfSome (option_map literal.Int o) IsIntOrText
int_is None = tt
int_is (Some n) = tt

value_by : (x : Tree-F Tree) → IfSome (member_value_at x) IsIntOrText
value_by Tree-F.Null = tt
value_by (Tree-F.Bool b) = tt
value_by (Tree-F.Num lexeme) = int_is (integer lexeme)
value_by (Tree-F.Str text) = tt
value_by (Tree-F.Array ts) = tt
value_by (Tree-F.Object d) = tt

value_is : (t : Tree) → IfSome (member_value_of t) IsIntOrText
unfolding member_value_of
value_is t = value_by (out-Tree t)

named_value : (name : Option (List ℕ)) (value : Option Literal) → IfSome value IsIntOrText → IfSome (member_by name value) HasValue
named_value None value h = tt
named_value (Some name) None h = tt
named_value (Some name) (Some value) h = h

member_is_in : (o : Option (List Tree)) → IfSome (member_in o) HasValue
member_is_in None = tt
member_is_in (Some []) = tt
member_is_in (Some (name ∷ [])) = tt
member_is_in (Some (name ∷ value ∷ [])) = named_value (text_of name) (member_value_of value) (value_is value)
member_is_in (Some (name ∷ value ∷ more ∷ ts)) = tt

member_is : (t : Tree) → IfSome (member_of t) HasValue
unfolding member_of
member_is t = member_is_in (items_at (out-Tree t))

pub record AreMembers (ms : List EnumMember) : Type 0 where
  pub has_members : HasItems ms
  pub are_distinct : are_members ms ≡ true
  pub are_values : AllByRecursion HasValue ms

distinct_are : (o : Option (List EnumMember)) → IfSome o (Filled HasValue) → IfSome (where_distinct o) AreMembers
distinct_are None h = tt
distinct_are (Some ms) h = kept AreMembers (are_members ms) ms (λ e. record { has_members = h.0; are_distinct = e; are_values = h.1 })

members_is : (t : Tree) → IfSome (members_of t) AreMembers
unfolding members_of
members_is t = distinct_are (some_in member_of (items_at (out-Tree t))) (some_in_filled HasValue member_of member_is (items_at (out-Tree t)))

pub members : (o : Option Tree) → IfSome (read members_of o) AreMembers
members = read_is AreMembers members_of members_is
