-- Functions by their names. A registry stands for a list of names with what each of them does.
use Rattle.std.specs.Prelude.{ℕ, List, [], ◌∷◌, map, slice_get, bytes_eq, Option, Some, None, option_map, if◌then◌else◌}
use Rattle.std.specs.Option.{option_and_then}
use Rattle.pv_tree.specs.declared.Tree.{Tree}
use Rattle.pv_tree.specs.declared.Value.{Value}
use Rattle.pv_func.specs.declared.raise.Raw.{Raw}
use Rattle.pv_func.specs.declared.raise.Made.{Made}
use Rattle.pv_func.specs.Wrapper.{Wrapper}
use Rattle.pv_func.specs.declared.func.Func.{Func}
use Rattle.pv_func.specs.declared.func.Func.TheVariants.{Before, After, Plain, Wrap}
use Rattle.pv_func.specs.declared.func.FuncKind.{FuncKind}
use Rattle.pv_func.specs.declared.func.FuncKind.TheVariants as kind

-- what a function does, by its kind
abbrev pub Meaning : Type 0
Meaning = Func (Tree → Raw) (Value → Made) (Tree → Made) Wrapper

-- names, and what stands for each
abbrev pub Named : Type 0 → Type 0
Named X = List (List ℕ × X)

-- what stands for the first of this name
abbrev pub named : {X : Type 0} → Named X → List ℕ → Option X
named [] name = None
named (f ∷ fs) name = if bytes_eq name f.0 then Some f.1 else named fs name

-- what stands at this number, from 0
abbrev pub numbered : {X : Type 0} → Named X → ℕ → Option X
numbered fs number = option_map (λ f. f.1) (slice_get fs number)

module _ {B A P W : Type 0} where
  -- the kind of a function
  abbrev pub kind_of : Func B A P W → FuncKind
  kind_of (Before b) = kind.Before
  kind_of (After a) = kind.After
  kind_of (Plain p) = kind.Plain
  kind_of (Wrap w) = kind.Wrap

  -- the function, where it is one that sees a tree before it is validated
  abbrev pub before_of : Func B A P W → Option B
  before_of (Before b) = Some b
  before_of f = None

  -- the function, where it is one that sees the value that validation gives
  abbrev pub after_of : Func B A P W → Option A
  after_of (After a) = Some a
  after_of f = None

  -- the function, where it is one that stands in the place of validation
  abbrev pub plain_of : Func B A P W → Option P
  plain_of (Plain p) = Some p
  plain_of f = None

  -- the function, where it is one that goes around validation
  abbrev pub wrap_of : Func B A P W → Option W
  wrap_of (Wrap w) = Some w
  wrap_of f = None

  -- the function of this number, where there is one and it sees trees before they are validated
  abbrev pub before_numbered : Named (Func B A P W) → ℕ → Option B
  before_numbered fs number = option_and_then before_of (numbered fs number)

  -- the same where it sees values
  abbrev pub after_numbered : Named (Func B A P W) → ℕ → Option A
  after_numbered fs number = option_and_then after_of (numbered fs number)

  -- the same where it stands in the place of validation
  abbrev pub plain_numbered : Named (Func B A P W) → ℕ → Option P
  plain_numbered fs number = option_and_then plain_of (numbered fs number)

  -- the same where it goes around validation
  abbrev pub wrap_numbered : Named (Func B A P W) → ℕ → Option W
  wrap_numbered fs number = option_and_then wrap_of (numbered fs number)

  -- the kind of the function of this name, where there is one
  abbrev pub kind_named : Named (Func B A P W) → List ℕ → Option FuncKind
  kind_named fs name = option_map kind_of (named fs name)

  -- the function of this name, where there is one and it is of the kind
  abbrev pub before_named : Named (Func B A P W) → List ℕ → Option B
  before_named fs name = option_and_then before_of (named fs name)

  -- the same of the kind that sees values
  abbrev pub after_named : Named (Func B A P W) → List ℕ → Option A
  after_named fs name = option_and_then after_of (named fs name)

  -- the same of the kind that stands in the place of validation
  abbrev pub plain_named : Named (Func B A P W) → List ℕ → Option P
  plain_named fs name = option_and_then plain_of (named fs name)

  -- the same of the kind that goes around validation
  abbrev pub wrap_named : Named (Func B A P W) → List ℕ → Option W
  wrap_named fs name = option_and_then wrap_of (named fs name)

  module _ (before : B → Tree → Raw) (after : A → Value → Made) (plain : P → Tree → Made)
      (wrapper : W → Wrapper) where
    -- what an object does, by what objects of its kind do
    abbrev pub meaning_of : Func B A P W → Meaning
    meaning_of (Before b) = Before (before b)
    meaning_of (After a) = After (after a)
    meaning_of (Plain p) = Plain (plain p)
    meaning_of (Wrap w) = Wrap (wrapper w)

    -- what the objects of a registry do, by their names
    abbrev pub meanings : Named (Func B A P W) → Named Meaning
    meanings fs = map (λ f. (f.0, meaning_of f.1)) fs
