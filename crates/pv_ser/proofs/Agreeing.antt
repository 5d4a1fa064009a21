-- What is read is a pick, and each pick is read.
use Rattle.std.proofs.Common.{◌≡◌, ℕ, ◌+◌, Bool, true, false, ◌&&◌, List, [], ◌∷◌, map, refl, sym, ap, ◌∙◌, subst}
use Rattle.std.specs.Prelude.{ℤ, pos, negsuc, nat_le, Option, Some, None, Result, Ok, Err, is_ok, is_some, if◌then◌else◌}
use Rattle.std.specs.List.{list_all, AllByRecursion}
use Rattle.pv_number.specs.WrittenIntegers.{integer}
use Rattle.pv_tree.specs.declared.Tree.{Tree, map-Tree}
use Rattle.pv_tree.specs.declared.Tree.TheOpen.{Tree-F}
use Rattle.pv_tree.specs.declared.Tree.TheViews.{roll-Tree}
use Rattle.pv_tree.specs.declared.Tree.TheFolds.{fold-roll-Tree}
use Rattle.pv_notation.proofs.Inside.{AllInTree, by_tree_levels}
use Rattle.pv_pick.specs.Picks.{Role, role, role_step, is_small}
use Rattle.pv_ser.specs.declared.pick.Pick.{Pick}
use Rattle.pv_ser.specs.Picks.{Way, Picked, Reading, reading, reading_step, with_reading, small, count_name, member_read, members_read, item_read, items_read, listed, some_of}

-- a tree is read as what it is
abbrev Agree : Reading → Role → Type 0
Agree r q = (is_ok r.as_pick ≡ q.is_pick) × (is_some r.as_name ≡ q.is_item)

abbrev TreeAgrees : Tree → Type 0
TreeAgrees t = Agree (reading t) (role t)

count_by : (b : Bool) (n : ℕ) → is_some (count_name (if b then Some n else None)) ≡ b
count_by true n = refl
count_by false n = refl

counts : (o : Option ℤ) → is_some (count_name (small o)) ≡ is_small o
counts (Some (pos n)) = count_by (nat_le n 4294967295) n
counts (Some (negsuc n)) = refl
counts None = refl

one_item : (place : ℕ) (o : Option (List ℕ)) (r : Result (List (List ℕ)) Way) → is_ok (item_read place o r) ≡ (is_some o && is_ok r)
one_item place None r = refl
one_item place (Some name) (Ok names) = refl
one_item place (Some name) (Err way) = refl

all_items : (r : Result (List (List ℕ)) Way) → is_ok (listed r) ≡ is_ok r
all_items (Ok names) = refl
all_items (Err way) = refl

one_member : (name : List ℕ) (p : Result Pick Way) (r : Result Picked Way) → is_ok (member_read name p r) ≡ (is_ok p && is_ok r)
one_member name (Ok p) (Ok ps) = refl
one_member name (Ok p) (Err way) = refl
one_member name (Err way) r = refl

all_members : (r : Result Picked Way) → is_ok (some_of r) ≡ is_ok r
all_members (Ok ps) = refl
all_members (Err way) = refl

-- both of two are told alike
both : (a b c d : Bool) → a ≡ b → c ≡ d → (a && c) ≡ (b && d)
both a b c d e f = ap (λ x. x && c) e ∙ ap (λ x. b && x) f

items : (place : ℕ) (ts : List Tree) → AllByRecursion TreeAgrees ts
    → is_ok (items_read place (map reading ts)) ≡ list_all (λ q. q.is_item) (map role ts)
items place [] h = refl
items place (t ∷ ts) h =
    one_item place (reading t).as_name (items_read (place + 1) (map reading ts))
    ∙ both (is_some (reading t).as_name) (role t).is_item _ (list_all (λ q. q.is_item) (map role ts)) h.0.1 (items (place + 1) ts h.1)

members : (ms : List (List ℕ × Tree)) → AllByRecursion (λ m. TreeAgrees m.1) ms
    → is_ok (members_read (map with_reading ms)) ≡ list_all (λ (m : List ℕ × Role). m.1.is_pick) (map (λ m. (m.0, role m.1)) ms)
members [] h = refl
members (m ∷ ms) h =
    one_member m.0 (reading m.1).as_pick (members_read (map with_reading ms))
    ∙ both (is_ok (reading m.1).as_pick) (role m.1).is_pick _ (list_all (λ (m : List ℕ × Role). m.1.is_pick) (map (λ m. (m.0, role m.1)) ms)) h.0.0 (members ms h.1)

levels : (x : Tree-F Tree) → AllInTree TreeAgrees x
    → Agree (reading_step (map-Tree Tree Reading reading x)) (role_step (map-Tree Tree Role role x))
levels Tree-F.Null h = (refl, refl)
levels (Tree-F.Bool true) h = (refl, refl)
levels (Tree-F.Bool false) h = (refl, refl)
levels (Tree-F.Num lexeme) h = (refl, counts (integer lexeme))
levels (Tree-F.Str text) h = (refl, refl)
levels (Tree-F.Array ts) h = (all_items (items_read 0 (map reading ts)) ∙ items 0 ts h, refl)
levels (Tree-F.Object d) h = (all_members (members_read (map with_reading d.members)) ∙ members d.members h, refl)

rolled : (x : Tree-F Tree) → AllInTree TreeAgrees x → TreeAgrees (roll-Tree x)
rolled x h =
    subst (λ r. Agree r (role (roll-Tree x))) (sym (fold-roll-Tree Reading reading_step x))
    (subst (λ q. Agree (reading_step (map-Tree Tree Reading reading x)) q) (sym (fold-roll-Tree Role role_step x)) (levels x h))

pub agrees : (t : Tree) → TreeAgrees t
agrees = by_tree_levels TreeAgrees rolled
