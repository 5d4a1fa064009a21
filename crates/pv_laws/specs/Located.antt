-- What the location and the input of an error say of the document.
use Rattle.std.specs.Prelude.{◌≡◌, ◌≤◌, ◌⊎◌, ℕ, List, [], ◌∷◌, length, codes, None, Some, slice_get}
use Rattle.std.specs.List.{AllByRecursion, Contains}
use Rattle.pv_tree.specs.declared.Step.{Step}
use Rattle.pv_tree.specs.declared.Step.TheVariants.{Name, Index}
use Rattle.pv_tree.specs.declared.Tree.{Tree, out-Tree}
use Rattle.pv_tree.specs.declared.Tree.TheVariants as tree
use Rattle.pv_tree.specs.declared.Tree.TheOpen.{Tree-F}
use Rattle.pv_tree.specs.Parts.{members_at}
use Rattle.pv_fault.specs.declared.LineError.{LineError}
use Rattle.pv_fault.specs.declared.Outcome.{Outcome}
use Rattle.pv_fault.specs.declared.Outcome.TheVariants.{Good, Bad}
use Rattle.pv_paths.specs.Following.{follow}

-- the step leads from a tree to a part of it: an item, or the value of a member
abbrev pub IsPart : Step → Tree-F Tree → Tree → Type 0
IsPart (Index i) (Tree-F.Array ts) part = slice_get ts i ≡ Some part
IsPart (Name k) (Tree-F.Object d) part = Contains d.members (k, part)
IsPart step x part = ⊥

-- the location is that of an item which an array lacks
abbrev pub IsLacking : List Step → Tree-F Tree → Type 0
IsLacking (Index i ∷ []) (Tree-F.Array ts) = length ts ≤ i
IsLacking loc x = ⊥

-- the location is that of the key of a member, which is this text
abbrev pub IsKey : List Step → Tree-F Tree → Tree → Type 0
IsKey (Name k ∷ mark ∷ []) (Tree-F.Object d) input =
    (mark ≡ Name (codes "[key]")) × (input ≡ tree.Str k)
    × ((part : Tree) × Contains d.members (k, part))
IsKey loc x input = ⊥

-- the location is a path from an object that leads nowhere in it
abbrev pub IsUnfound : List Step → Tree → Type 0
IsUnfound loc t =
    (ms : List (List ℕ × Tree)) × (members_at (out-Tree t) ≡ Some ms) × (follow loc t ≡ None)

-- The location leads from the document to the input. At its end stands, in place of a part, the
-- whole array where an item is lacking, the text of a member's key, or the whole object where the
-- path of a field leads nowhere.
unfoldable pub IsLocated : List Step → Tree → Tree → Type 0
IsLocated [] document input = input ≡ document
IsLocated (step ∷ loc) document input =
    ((part : Tree) × IsPart step (out-Tree document) part × IsLocated loc part input)
    ⊎ ((IsLacking (step ∷ loc) (out-Tree document) × (input ≡ document))
    ⊎ (IsKey (step ∷ loc) (out-Tree document) input
    ⊎ (IsUnfound (step ∷ loc) document × (input ≡ document))))

-- at least one error, and each is located in the document
pub record AreErrorsOf (document : Tree) (errors : List LineError) : Type 0 where
  pub some : 1 ≤ length errors
  pub located : AllByRecursion (λ e. IsLocated e.loc document e.input) errors

-- an outcome that has no errors, or whose errors are those of the document
abbrev pub IsOutcomeOf : Tree → Outcome → Type 0
IsOutcomeOf document (Good v g n) = Unit {0}
IsOutcomeOf document (Bad errors) = AreErrorsOf document errors
