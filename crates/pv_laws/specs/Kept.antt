-- What sets and dicts keep of what comes to them.
use Rattle.std.specs.Prelude.{◌≡◌, true, false, List}
use Rattle.std.specs.List.{AllByRecursion, list_any}
use Rattle.pv_tree.specs.declared.Value.{Value}
use Rattle.pv_equality.specs.Equality.{same}
use Rattle.pv_equality.specs.Merging.{AreDistinct}

-- one of them is the same
abbrev pub HasSame : List Value → Value → Type 0
HasSame kept v = list_any (λ k. same k v) kept ≡ true

-- no two of the kept are the same, and each value has one of them that is
pub record AreKept (values kept : List Value) : Type 0 where
  pub distinct : AreDistinct kept
  pub whole : AllByRecursion (HasSame kept) values

-- none of the entries has an equal key
abbrev pub HasNoKey : List (Value × Value) → Value → Type 0
HasNoKey es k = list_any (λ e. same e.0 k) es ≡ false
