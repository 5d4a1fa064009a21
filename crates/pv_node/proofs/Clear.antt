-- Each slot of a node is found by its path, at least one step away.
use Rattle.std.proofs.Common.{◌≡◌, ℕ, zero, suc, ◌+◌, ◌≤◌, ◌<◌, Bool, true, false, if◌then◌else◌, List, [], ◌∷◌, ◌++◌, map, length, slice_get, codes, Option, Some, None, unwrap_or, refl, ap, ◌∙◌, arith}
use Rattle.std.proofs.lemmas.List.{length-map}
use Rattle.std.proofs.lemmas.Slice.Eq.{bytes_eq-Decides}
use Rattle.std.proofs.lemmas.Bool.{ne_eqb}
use Rattle.std.proofs.lemmas.Bool.Decides.{Decides-eqb}
use Rattle.std.specs.List.{AllByRecursion, IsDistinct}
use Rattle.std.specs.Str.{bytes_eq}
use Rattle.pv_tree.specs.declared.Step.{Step}
use Rattle.pv_tree.specs.declared.Step.TheVariants.{Name, Index}
use Rattle.pv_rules.specs.declared.FieldRule.{FieldRule}
use Rattle.pv_node.specs.declared.node.Node.{Node}
use Rattle.pv_node.specs.declared.node.Body.{Body}
use Rattle.pv_node.specs.declared.node.Body.TheOpen.{Body-F}
use Rattle.pv_node.specs.declared.child_slot.Edge.{Edge}
use Rattle.pv_node.specs.declared.child_slot.Edge.TheVariants.{Enters, Stays, Absent}
use Rattle.pv_node.specs.Places.{Path, Slot, slots, slots_of, listed, position_path, choice_path, in_pair, has_label, tag_path, field_path, field_name, field_slots, extras_slots, body_of}
use Rattle.pv_node.specs.Allowed.{IsAllowed, IsAllowedBody}
use Rattle.pv_node.specs.Outward.{same_step, after, choose, through}

-- among these slots, the one at this path is found by it
abbrev pub IsFound : List (Slot Node) → Path → Option Node → Type 0
IsFound ss path None = Unit {0}
IsFound ss path (Some m) = (q : Path) → through ss (path ++ q) ≡ Some (m, q)

-- each of some slots is found
abbrev pub AreFound : List (Slot Node) → List (Slot Node) → Type 0
AreFound ss bs = AllByRecursion (λ b. IsFound ss b.path b.node) bs

-- so nothing stands at no steps
abbrev pub AreAway : List (Slot Node) → Type 0
AreAway ss = AllByRecursion (λ slot. 1 ≤ length slot.path) ss

bytes_same : (xs : List ℕ) → bytes_eq xs xs ≡ true
bytes_same xs = (bytes_eq-Decides xs xs).1 refl

step_same : (x : Step) → same_step x x ≡ true
step_same (Name a) = bytes_same a
step_same (Index i) = (Decides-eqb i i).1 refl

after_same : (xs q : Path) → after xs (xs ++ q) ≡ Some q
after_same [] q = refl
after_same (x ∷ xs) q = ap (λ b. if b then after xs (xs ++ q) else None) (step_same x) ∙ after_same xs q

choose_none : (o : Option Node) (other : Option (Node × Path)) → choose o None other ≡ other
choose_none None other = refl
choose_none (Some n) other = refl

abbrev Passes : Path → Path → Type 0
Passes a b = (q : Path) → after a (b ++ q) ≡ None

abbrev Apart : List (Slot Node) → Type 0
Apart [] = Unit {0}
Apart (a ∷ ss) = AllByRecursion (λ b. Passes a.path b.path) ss × Apart ss

found_first : (path : Path) (edge : Edge) (o : Option Node) (ss : List (Slot Node)) → IsFound (record { path = path; edge = edge; node = o } ∷ ss) path o
found_first path edge None ss = tt
found_first path edge (Some m) ss = λ q. ap (λ r. choose (Some m) r (through ss (path ++ q))) (after_same path q)

found_past : (a : Slot Node) (ss : List (Slot Node)) (path : Path) (o : Option Node) → Passes a.path path → IsFound ss path o → IsFound (a ∷ ss) path o
found_past a ss path None past found = tt
found_past a ss path (Some m) past found = λ q. ap (λ r. choose a.node r (through ss (path ++ q))) (past q) ∙ choose_none a.node (through ss (path ++ q)) ∙ found q

each_past : (a : Slot Node) (ss bs : List (Slot Node)) → AllByRecursion (λ b. Passes a.path b.path) bs → AreFound ss bs → AreFound (a ∷ ss) bs
each_past a ss [] past found = tt
each_past a ss (b ∷ bs) past found = (found_past a ss b.path b.node past.0 found.0, each_past a ss bs past.1 found.1)

all_found : (ss : List (Slot Node)) → Apart ss → AreFound ss ss
all_found [] apart = tt
all_found (a ∷ ss) apart = (found_first a.path a.edge a.node ss, each_past a ss ss apart.0 (all_found ss apart.1))

under_same : (x a b : Step) (more q : Path) → same_step a b ≡ false → after (x ∷ a ∷ more) (x ∷ b ∷ q) ≡ None
under_same x a b more q e =
    ap (λ c. if c then (if same_step a b then after more q else None) else None) (step_same x)
    ∙ ap (λ c. if c then after more q else None) e

listed_past : (a : Path) (path : ℕ → Path) (edge : Edge) (j : ℕ) (ns : List Node) → ((k : ℕ) → j ≤ k → k < j + length ns → Passes a (path k))
    → AllByRecursion (λ b. Passes a b.path) (listed path edge j ns)
listed_past a path edge j [] h = tt
listed_past a path edge j (n ∷ ns) h = (h j (omega arith) (omega arith), listed_past a path edge (j + 1) ns (λ k l m. h k (omega (arith, l)) (omega (arith, m))))

-- a list of nodes whose ways part
abbrev Part : (ℕ → Path) → ℕ → ℕ → Type 0
Part path i n = (k l : ℕ) → i ≤ k → k < l → l < i + n → Passes (path k) (path l)

listed_apart : (path : ℕ → Path) (edge : Edge) (i : ℕ) (ns : List Node) → Part path i (length ns) → Apart (listed path edge i ns)
listed_apart path edge i [] h = tt
listed_apart path edge i (n ∷ ns) h = (
  listed_past (path i) path edge (i + 1) ns (λ k l m. h i k (omega arith) (omega (arith, l)) (omega (arith, m))),
  listed_apart path edge (i + 1) ns (λ k l from less most. h k l (omega (arith, from)) less (omega (arith, most))),
)

listed_each : (P : Slot Node → Type 0) (path : ℕ → Path) (edge : Edge) (i : ℕ) (ns : List Node) → ((k : ℕ) (n : Node) → P (record { path = path k; edge = edge; node = Some n }))
    → AllByRecursion P (listed path edge i ns)
listed_each P path edge i [] h = tt
listed_each P path edge i (n ∷ ns) h = (h i n, listed_each P path edge (i + 1) ns h)

each_joined : (P : Slot Node → Type 0) (xs ys : List (Slot Node)) → AllByRecursion P xs → AllByRecursion P ys → AllByRecursion P (xs ++ ys)
each_joined P [] ys h k = k
each_joined P (x ∷ xs) ys h k = (h.0, each_joined P xs ys h.1 k)

apart_joined : (xs ys : List (Slot Node)) → Apart xs → Apart ys → AllByRecursion (λ a. AllByRecursion (λ b. Passes a.path b.path) ys) xs → Apart (xs ++ ys)
apart_joined [] ys h k past = k
apart_joined (x ∷ xs) ys h k past = (each_joined (λ b. Passes x.path b.path) xs ys h.0 past.0, apart_joined xs ys h.1 k past.1)

positions_part : (key : List ℕ) (n : ℕ) → Part (position_path key) 0 n
positions_part key n k l from less most = λ q. under_same (Name key) (Index k) (Index l) [] q (ne_eqb k l (λ e. omega (arith, e, less)))

choices_part : (labels : List (Option (List ℕ))) (n : ℕ) → Part (choice_path labels) 0 n
choices_part labels n k l from less most =
    λ q. under_same (Name (codes "choices")) (Index k) (Index l) (in_pair (has_label (slice_get labels k))) (in_pair (has_label (slice_get labels l)) ++ q) (ne_eqb k l (λ e. omega (arith, e, less)))

-- distinct names at two places
differs_at : (x : List ℕ) (xs : List (List ℕ)) (l : ℕ) → AllByRecursion (λ y. bytes_eq x y ≡ false) xs → l < length xs → bytes_eq x (unwrap_or (slice_get xs l) []) ≡ false
differs_at x [] l h less = absurd (omega (arith, less))
differs_at x (y ∷ xs) zero h less = h.0
differs_at x (y ∷ xs) (suc l) h less = differs_at x xs l h.1 (omega (arith, less))

differ : (xs : List (List ℕ)) → IsDistinct bytes_eq xs → (k l : ℕ) → k < l → l < length xs → bytes_eq (unwrap_or (slice_get xs k) []) (unwrap_or (slice_get xs l) []) ≡ false
unfolding IsDistinct
differ [] h k l less most = absurd (omega (arith, most))
differ (x ∷ xs) h zero zero less most = absurd (omega (arith, less))
differ (x ∷ xs) h zero (suc l) less most = differs_at x xs l h.0 (omega (arith, most))
differ (x ∷ xs) h (suc k) zero less most = absurd (omega (arith, less))
differ (x ∷ xs) h (suc k) (suc l) less most = differ xs h.1 k l (omega (arith, less)) (omega (arith, most))

tags_part : (tags : List (List ℕ)) (n : ℕ) → IsDistinct bytes_eq tags → length tags ≡ n → Part (tag_path tags) 0 n
tags_part tags n distinct size k l from less most =
    λ q. under_same (Name (codes "choices")) (Name (unwrap_or (slice_get tags k) [])) (Name (unwrap_or (slice_get tags l) [])) [] q (differ tags distinct k l less (omega (arith, most, size)))

abbrev names : List FieldRule → List (List ℕ)
names rules = map (λ field. field.name) rules

name_at : (rules : List FieldRule) (i : ℕ) → field_name (slice_get rules i) ≡ unwrap_or (slice_get (names rules) i) []
name_at [] i = refl
name_at (r ∷ rules) zero = refl
name_at (r ∷ rules) (suc i) = name_at rules i

fields_part : (rules : List FieldRule) (n : ℕ) → IsDistinct bytes_eq (names rules) → n ≡ length rules → Part (field_path rules) 0 n
fields_part rules n distinct size k l from less most =
    let same : length (names rules) ≡ length rules = length-map rules (λ field. field.name) in
    let parts : bytes_eq (field_name (slice_get rules k)) (field_name (slice_get rules l)) ≡ false =
    ap (λ name. bytes_eq name (field_name (slice_get rules l))) (name_at rules k)
    ∙ ap (λ name. bytes_eq (unwrap_or (slice_get (names rules) k) []) name) (name_at rules l)
    ∙ differ (names rules) distinct k l less (omega (arith, most, size, same)) in
    λ q. under_same (Name (codes "fields")) (Name (field_name (slice_get rules k))) (Name (field_name (slice_get rules l))) (Name (codes "schema") ∷ []) (Name (codes "schema") ∷ q) parts

extras_apart : (o : Option Node) → Apart (extras_slots o)
extras_apart None = tt
extras_apart (Some m) = (tt, tt)

extras_past : (rules : List FieldRule) (o : Option Node) (k : ℕ) → AllByRecursion (λ b. Passes (field_path rules k) b.path) (extras_slots o)
extras_past rules None k = tt
extras_past rules (Some m) k = (λ q. refl, tt)

fields_apart : (rules : List FieldRule) (ns : List Node) (o : Option Node) → IsDistinct bytes_eq (names rules) → length ns ≡ length rules → Apart (field_slots rules ns ++ extras_slots o)
fields_apart rules ns o distinct size =
    apart_joined (field_slots rules ns) (extras_slots o) (listed_apart (field_path rules) Enters 0 ns (fields_part rules (length ns) distinct size)) (extras_apart o)
    (listed_each (λ a. AllByRecursion (λ b. Passes a.path b.path) (extras_slots o)) (field_path rules) Enters 0 ns (λ k n. extras_past rules o k))

extras_away : (o : Option Node) → AreAway (extras_slots o)
extras_away None = tt
extras_away (Some m) = (omega arith, tt)

abbrev IsAway : Slot Node → Type 0
IsAway slot = 1 ≤ length slot.path

-- of each kind of node
all_apart : (b : Body-F Body Node) → IsAllowedBody b → Apart (slots b)
all_apart (Body-F.Scalar rule) h = tt
all_apart (Body-F.Sequence rule n) h = (tt, tt)
all_apart (Body-F.Tuple rule ns) h = listed_apart (position_path (codes "items_schema")) Enters 0 ns (positions_part (codes "items_schema") (length ns))
all_apart (Body-F.Dict rule n m) h = ((λ q. refl, tt), (tt, tt))
all_apart (Body-F.Nullable n) h = (tt, tt)
all_apart (Body-F.Fields rule ns extras config cls) h = fields_apart rule.fields ns extras h.names h.schemas
all_apart (Body-F.Model cls root config n) h = (tt, tt)
all_apart (Body-F.Default d validate on_error n) h = (tt, tt)
all_apart (Body-F.Union rule ns) h = listed_apart (choice_path rule.labels) Stays 0 ns (choices_part rule.labels (length ns))
all_apart (Body-F.TaggedUnion rule ns) h = listed_apart (tag_path rule.tags) Stays 0 ns (tags_part rule.tags (length ns) h.are_distinct h.tags)
all_apart (Body-F.LaxOrStrict n m) h = ((λ q. refl, tt), (tt, tt))
all_apart (Body-F.JsonOrPython n) h = (tt, tt)
all_apart (Body-F.CustomError kind message n) h = (tt, tt)
all_apart (Body-F.Before rule n) h = (tt, tt)
all_apart (Body-F.After rule n) h = (tt, tt)
all_apart (Body-F.Wrap rule n) h = (tt, tt)
all_apart (Body-F.Plain rule) h = tt
all_apart (Body-F.Definitions n ns) h = (
  listed_past (Name (codes "schema") ∷ []) (position_path (codes "definitions")) Absent 0 ns (λ k l m q. refl),
  listed_apart (position_path (codes "definitions")) Absent 0 ns (positions_part (codes "definitions") (length ns)),
)
all_apart (Body-F.DefinitionRef name) h = tt

all_away : (b : Body-F Body Node) → AreAway (slots b)
all_away (Body-F.Scalar rule) = tt
all_away (Body-F.Sequence rule n) = (omega arith, tt)
all_away (Body-F.Tuple rule ns) = listed_each IsAway (position_path (codes "items_schema")) Enters 0 ns (λ k n. omega arith)
all_away (Body-F.Dict rule n m) = (omega arith, (omega arith, tt))
all_away (Body-F.Nullable n) = (omega arith, tt)
all_away (Body-F.Fields rule ns extras config cls) =
    each_joined IsAway (field_slots rule.fields ns) (extras_slots extras) (listed_each IsAway (field_path rule.fields) Enters 0 ns (λ k n. omega arith)) (extras_away extras)
all_away (Body-F.Model cls root config n) = (omega arith, tt)
all_away (Body-F.Default d validate on_error n) = (omega arith, tt)
all_away (Body-F.Union rule ns) = listed_each IsAway (choice_path rule.labels) Stays 0 ns (λ k n. omega arith)
all_away (Body-F.TaggedUnion rule ns) = listed_each IsAway (tag_path rule.tags) Stays 0 ns (λ k n. omega arith)
all_away (Body-F.LaxOrStrict n m) = (omega arith, (omega arith, tt))
all_away (Body-F.JsonOrPython n) = (omega arith, tt)
all_away (Body-F.CustomError kind message n) = (omega arith, tt)
all_away (Body-F.Before rule n) = (omega arith, tt)
all_away (Body-F.After rule n) = (omega arith, tt)
all_away (Body-F.Wrap rule n) = (omega arith, tt)
all_away (Body-F.Plain rule) = tt
all_away (Body-F.Definitions n ns) = (omega arith, listed_each IsAway (position_path (codes "definitions")) Absent 0 ns (λ k m. omega arith))
all_away (Body-F.DefinitionRef name) = tt

pub found : (n : Node) → IsAllowed n → AreFound (slots_of n) (slots_of n)
found n h = all_found (slots_of n) (all_apart (body_of n) h)

pub away : (n : Node) → AreAway (slots_of n)
away n = all_away (body_of n)

stay_one : (p : Path) (o : Option Node) (other : Option (Node × Path)) → 1 ≤ length p → choose o (after p []) other ≡ other
stay_one [] o other l = absurd (omega (arith, l))
stay_one (x ∷ p) o other l = choose_none o other

stay_all : (ss : List (Slot Node)) → AreAway ss → through ss [] ≡ None
stay_all [] h = refl
stay_all (slot ∷ ss) h = stay_one slot.path slot.node (through ss []) h.0 ∙ stay_all ss h.1

pub stay : (n : Node) → through (slots_of n) [] ≡ None
stay n = stay_all (slots_of n) (away n)
