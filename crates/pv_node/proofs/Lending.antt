-- The slots of a node as they are lent.
use Rattle.std.proofs.Common.{◌≡◌, ℕ, zero, suc, ◌+◌, ◌-◌, ◌≤◌, ◌<◌, List, [], ◌∷◌, ◌++◌, length, Option, Some, None, slice_get, refl, ap, sym, ◌∙◌, arith}
use Rattle.std.specs.Option.{option_map}
use Rattle.std.specs.Option.{option_copied}
use denote.Ref.{Bor}
use Rattle.pv_node.specs.declared.node.Node.{Node}
use Rattle.pv_node.specs.declared.child_slot.ChildSlot.{ChildSlot}
use Rattle.pv_node.specs.declared.child_slot.Edge.{Edge}
use Rattle.pv_node.specs.Lending.{lent}
use Rattle.pv_node.specs.Places.{Path, Slot, listed}

pub past_one : {X : Type 0} (x : X) (i : ℕ) → 1 ≤ i → slice_get (x ∷ []) i ≡ None
past_one x zero l = absurd (omega (arith, l))
past_one x (suc i) l = refl

pub past_two : {X : Type 0} (x y : X) (i : ℕ) → 2 ≤ i → slice_get (x ∷ y ∷ []) i ≡ None
past_two x y zero l = absurd (omega (arith, l))
past_two x y (suc zero) l = absurd (omega (arith, l))
past_two x y (suc (suc i)) l = refl

-- one of a list of nodes
abbrev pub one : {Y : Type 0} → Path → Edge → Y → Slot Y
one path edge y = record { path = path; edge = edge; node = Some y }

from_place : {Y : Type 0} (path : ℕ → Path) (edge : Edge) (start i : ℕ) (ys : List Y) → slice_get (listed path edge start ys) i ≡ option_map (one (path (start + i)) edge) (slice_get ys i)
from_place path edge start i [] = refl
from_place path edge start zero (y ∷ ys) = let same : start ≡ start + 0 = omega arith in ap (λ k. Some (one (path k) edge y)) same
from_place path edge start (suc i) (y ∷ ys) =
    let same : start + 1 + i ≡ start + suc i = omega arith in
    from_place path edge (start + 1) i ys ∙ ap (λ k. option_map (one (path k) edge) (slice_get ys i)) same

get_listed : {Y : Type 0} (path : ℕ → Path) (edge : Edge) (i : ℕ) (ys : List Y) → slice_get (listed path edge 0 ys) i ≡ option_map (one (path i) edge) (slice_get ys i)
get_listed path edge i ys = let same : 0 + i ≡ i = omega arith in from_place path edge 0 i ys ∙ ap (λ k. option_map (one (path k) edge) (slice_get ys i)) same

-- the slot of one of a list of nodes, by the steps to it
pub listed_here : (nodes : List Node) (o : Option (Bor Node)) (node : Bor Node) (edge : Edge) (i : ℕ) (steps : Path) (to : ℕ → Path) → o ≡ Some node → option_copied o ≡ slice_get nodes i
    → steps ≡ to i → Some (one steps edge node.now) ≡ slice_get (listed to edge 0 nodes) i
listed_here nodes o node edge i steps to is e same =
    ap (λ p. Some (one p edge node.now)) same ∙ sym (get_listed to edge i nodes ∙ ap (option_map (one (to i) edge)) (sym e ∙ ap option_copied is))

pub listed_past : (nodes : List Node) (o : Option (Bor Node)) (edge : Edge) (i : ℕ) (to : ℕ → Path) → o ≡ None → option_copied o ≡ slice_get nodes i → None ≡ slice_get (listed to edge 0 nodes) i
listed_past nodes o edge i to is e = sym (get_listed to edge i nodes ∙ ap (option_map (one (to i) edge)) (sym e ∙ ap option_copied is))

-- a slot that is there, and what is written in it
pub lent_here : (o : Option ChildSlot) (slot : ChildSlot) (ss : List (Slot Node)) (i : ℕ) → o ≡ Some slot → option_map lent o ≡ slice_get ss i → slice_get ss i ≡ Some (lent slot)
lent_here o slot ss i is e = sym e ∙ ap (option_map lent) is

pub lent_past : (o : Option ChildSlot) (ss : List (Slot Node)) (i : ℕ) → o ≡ None → option_map lent o ≡ slice_get ss i → slice_get ss i ≡ None
lent_past o ss i is e = sym e ∙ ap (option_map lent) is

pub written_here : (slot : ChildSlot) (inner : Bor Node) → slot.node ≡ Some inner → (lent slot).node ≡ Some inner.now
written_here slot inner is = ap option_copied is

pub written_none : (slot : ChildSlot) → slot.node ≡ None → (lent slot).node ≡ None
written_none slot is = ap option_copied is

-- the nodes of a list, and then what is behind them
pub within_listed : {Y : Type 0} (path : ℕ → Path) (edge : Edge) (start : ℕ) (ys : List Y) (more : List (Slot Y)) (i : ℕ) → i < length ys
    → slice_get (listed path edge start ys ++ more) i ≡ slice_get (listed path edge start ys) i
within_listed path edge start [] more i l = absurd (omega (arith, l))
within_listed path edge start (y ∷ ys) more zero l = refl
within_listed path edge start (y ∷ ys) more (suc i) l = within_listed path edge (start + 1) ys more i (omega (arith, l))

pub behind_listed : {Y : Type 0} (path : ℕ → Path) (edge : Edge) (start : ℕ) (ys : List Y) (more : List (Slot Y)) (i : ℕ) → length ys ≤ i
    → slice_get (listed path edge start ys ++ more) i ≡ slice_get more (i - length ys)
behind_listed path edge start [] more i l = let same : i ≡ i - 0 = omega arith in ap (slice_get more) same
behind_listed path edge start (y ∷ ys) more zero l = absurd (omega (arith, l))
behind_listed path edge start (y ∷ ys) more (suc i) l =
    let same : i - length ys ≡ suc i - suc (length ys) = omega arith in
    behind_listed path edge (start + 1) ys more i (omega (arith, l)) ∙ ap (slice_get more) same

-- past the first of some slots
pub past_first : {X : Type 0} (x : X) (xs : List X) (i : ℕ) → 1 ≤ i → slice_get (x ∷ xs) i ≡ slice_get xs (i - 1)
past_first x xs zero l = absurd (omega (arith, l))
past_first x xs (suc i) l = let same : i ≡ suc i - 1 = omega arith in ap (slice_get xs) same
