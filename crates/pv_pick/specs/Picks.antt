-- Picks, which say what a dump keeps or leaves out: `true`, an object of picks, or a list of texts
-- and counts.
use Rattle.std.specs.Prelude.{ℕ, Bool, false, true, if◌then◌else◌, nat_le, List, ℤ, pos, negsuc, Option, Some, None}
use Rattle.std.specs.List.{list_all}
use Rattle.pv_number.specs.WrittenIntegers.{integer}
use Rattle.pv_tree.specs.declared.Tree.{Tree, fold-Tree}
use Rattle.pv_tree.specs.declared.Tree.TheOpen.{Tree-F}
use Rattle.pv_json_grammar.specs.Documents.{Document, whole, bad, ends_early, reading}

-- from 0 to 4,294,967,295
abbrev pub is_small : Option ℤ → Bool
is_small (Some (pos n)) = nat_le n 4294967295
is_small (Some (negsuc n)) = false
is_small None = false

-- written without a point and an exponent
abbrev pub is_count : List ℕ → Bool
is_count lexeme = is_small (integer lexeme)

-- what a tree can be: a pick, or an item in the list of one
pub record Role : Type 0 where
  pub is_pick : Bool
  pub is_item : Bool

-- one level, by what the trees inside can be
abbrev pub role_step : Tree-F Role → Role
role_step Tree-F.Null = record { is_pick = false; is_item = false }
role_step (Tree-F.Bool b) = record { is_pick = b; is_item = false }
role_step (Tree-F.Num lexeme) = record { is_pick = false; is_item = is_count lexeme }
role_step (Tree-F.Str text) = record { is_pick = false; is_item = true }
role_step (Tree-F.Array items) =
    record { is_pick = list_all (λ i. i.is_item) items; is_item = false }
role_step (Tree-F.Object d) =
    record { is_pick = list_all (λ m. m.1.is_pick) d.members; is_item = false }

-- what a tree can be
abbrev pub role : Tree → Role
role t = fold-Tree Role role_step t

-- a pick
abbrev pub is_pick : Tree → Bool
is_pick t = (role t).is_pick

-- an item in the list of a pick
abbrev pub is_item : Tree → Bool
is_item t = (role t).is_item

-- the pick that a word is as a document
abbrev pub pick_read : Document → Option Tree
pick_read (whole t) = if is_pick t then Some t else None
pick_read (bad at) = None
pick_read ends_early = None

-- the pick that a word spells as JSON
unfoldable pub pick_of : List ℕ → Option Tree
pick_of word = pick_read (reading 128 word)
