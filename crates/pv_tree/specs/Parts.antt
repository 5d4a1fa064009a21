-- What one level of a tree holds, where it is of that kind.
use Rattle.std.specs.Prelude.{ℕ, Bool, true, false, List, Option, None, Some}
use Rattle.pv_tree.specs.declared.tree.Tree.TheOpen.{Tree-F}

module _ {X : Type 0} where
  -- the items of an array
  abbrev pub items_at : Tree-F X → Option (List X)
  items_at (Tree-F.Array xs) = Some xs
  items_at x = None

  -- the members of an object
  abbrev pub members_at : Tree-F X → Option (List (List ℕ × X))
  members_at (Tree-F.Object d) = Some d.members
  members_at x = None

  -- the bytes of a text
  abbrev pub text_at : Tree-F X → Option (List ℕ)
  text_at (Tree-F.Str text) = Some text
  text_at x = None

  -- the spelling of a number
  abbrev pub lexeme_at : Tree-F X → Option (List ℕ)
  lexeme_at (Tree-F.Num lexeme) = Some lexeme
  lexeme_at x = None

  -- a flag
  abbrev pub flag_at : Tree-F X → Option Bool
  flag_at (Tree-F.Bool b) = Some b
  flag_at x = None

  -- nothing
  abbrev pub null_at : Tree-F X → Bool
  null_at Tree-F.Null = true
  null_at x = false
