-- The settings handed down are those that the search outward finds.
use Rattle.std.proofs.Common.{◌≡◌, ℕ, zero, suc, ◌≤◌, List, [], ◌∷◌, ◌++◌, map, length, length-append, Option, Some, None, refl, ap, sym, ◌∙◌, subst, arith}
use Rattle.std.proofs.lemmas.List.{append-nil, append_assoc}
use Rattle.std.specs.List.{flat_map, AllByRecursion}
use Rattle.pv_rules.specs.declared.Settings.{Settings}
use Rattle.pv_node.specs.declared.node.Node.{Node}
use Rattle.pv_node.specs.Places.{Path, Slot, slots_of, Place, place_at, places, places_of, places_at, places_in}
use Rattle.pv_node.specs.Allowed.{IsAllowed, AreAllowed}
use Rattle.pv_node.specs.Preorder.{preorder}
use Rattle.pv_node.specs.Outward.{through, trail, further, outward, settings_at}
use Rattle.pv_node.proofs.Openings.{opens}
use Rattle.pv_node.proofs.Clear.{IsFound, AreFound, AreAway, found, away, stay}
use Rattle.pv_node.proofs.Induction.{OnNode, InSlots, by_slots}

each_mapped : {X : Type 0} (P Q : X → Type 0) → ((x : X) → P x → Q x) → (xs : List X) → AllByRecursion P xs → AllByRecursion Q xs
each_mapped P Q f [] h = tt
each_mapped P Q f (x ∷ xs) h = (f x h.0, each_mapped P Q f xs h.1)

each_joined : {X : Type 0} (P : X → Type 0) (xs ys : List X) → AllByRecursion P xs → AllByRecursion P ys → AllByRecursion P (xs ++ ys)
each_joined P [] ys h k = k
each_joined P (x ∷ xs) ys h k = (h.0, each_joined P xs ys h.1 k)

trail_here : (k : ℕ) (n : Node) → trail k n [] ≡ n ∷ []
trail_here zero n = refl
trail_here (suc k) n = ap (λ o. further (trail k) o ++ n ∷ []) (stay n)

each_first : {X : Type 0} (P : X → Type 0) (xs ys : List X) → AllByRecursion P (xs ++ ys) → AllByRecursion P xs
each_first P [] ys h = tt
each_first P (x ∷ xs) ys h = (h.0, each_first P xs ys h.1)

each_second : {X : Type 0} (P : X → Type 0) (xs ys : List X) → AllByRecursion P (xs ++ ys) → AllByRecursion P ys
each_second P [] ys h = h
each_second P (x ∷ xs) ys h = each_second P xs ys h.1

each_read : {X Y : Type 0} (P : Y → Type 0) (f : X → Y) (xs : List X) → AllByRecursion P (map f xs) → AllByRecursion (λ x. P (f x)) xs
each_read P f [] h = tt
each_read P f (x ∷ xs) h = (h.0, each_read P f xs h.1)

-- a place under a node, and the nodes above that node
abbrev Right : Path → Node → List Node → Place → Type 0
Right p n up place = (q : Path) × (place.path ≡ p ++ q) × ((k : ℕ) → length q ≤ k → place.settings ≡ outward (trail k n q ++ up))

-- places whose nodes are allowed
abbrev IsRight : Place → Type 0
IsRight place = IsAllowed place.node

abbrev AreRight : List Place → Type 0
AreRight ps = AllByRecursion IsRight ps

abbrev AllRight : Node → Type 0
AllRight n = (p : Path) (up : List Node) → AreRight (places_of p n (outward up)) → AllByRecursion (Right p n up) (places_of p n (outward up))

trail_through : (k : ℕ) (n m : Node) (sp q : Path) (up : List Node) → 1 ≤ length sp → length (sp ++ q) ≤ k → through (slots_of n) (sp ++ q) ≡ Some (m, q)
    → (s : Settings) → ((j : ℕ) → length q ≤ j → s ≡ outward (trail j m q ++ (n ∷ up))) → s ≡ outward (trail k n (sp ++ q) ++ up)
trail_through zero n m sp q up far l here s f = absurd (let e = length-append sp q in omega (arith, e, l, far))
trail_through (suc k) n m sp q up far l here s f =
    let e = length-append sp q in
    f k (omega (arith, e, l, far))
    ∙ ap outward (sym (append_assoc (trail k m q) (n ∷ []) up))
    ∙ sym (ap (λ o. outward ((further (trail k) o ++ n ∷ []) ++ up)) here)

right_at : (n : Node) (p sp : Path) (up : List Node) (o : Option Node) → OnNode AllRight o → IsFound (slots_of n) sp o → 1 ≤ length sp
    → AreRight (places_at (p ++ sp) (outward (n ∷ up)) o) → AllByRecursion (Right p n up) (places_at (p ++ sp) (outward (n ∷ up)) o)
right_at n p sp up None h here far allowed = tt
right_at n p sp up (Some m) h here far allowed =
    each_mapped (Right (p ++ sp) m (n ∷ up)) (Right p n up)
    (λ place r. (sp ++ r.0, r.1 ∙ append_assoc p sp r.0, λ k l. trail_through k n m sp r.0 up far l (here r.0) place.settings r.2))
    (places_of (p ++ sp) m (outward (n ∷ up)))
    (h (p ++ sp) (n ∷ up) allowed)

right_in : (n : Node) (p : Path) (up : List Node) (ss : List (Slot Node)) → InSlots AllRight ss → AreFound (slots_of n) ss → AreAway ss
    → AreRight (flat_map (places_in p (outward (n ∷ up))) ss) → AllByRecursion (Right p n up) (flat_map (places_in p (outward (n ∷ up))) ss)
right_in n p up [] h here far allowed = tt
right_in n p up (slot ∷ ss) h here far allowed =
    let first = places_in p (outward (n ∷ up)) slot in
    let rest = flat_map (places_in p (outward (n ∷ up))) ss in
    each_joined (Right p n up) first rest
    (right_at n p slot.path up slot.node h.0 here.0 far.0 (each_first IsRight first rest allowed))
    (right_in n p up ss h.1 here.1 far.1 (each_second IsRight first rest allowed))

first_right : (p : Path) (n : Node) (up : List Node) → Right p n up (place_at p n (outward up))
first_right p n up = ([], sym (append-nil p), λ k l. sym (ap (λ ns. outward (ns ++ up)) (trail_here k n)))

all_right : (n : Node) → AllRight n
all_right = by_slots AllRight (λ n h p up.
    subst (λ ps. AreRight ps → AllByRecursion (Right p n up) ps) (sym (opens p n (outward up)))
    (λ allowed. (first_right p n up, right_in n p up (slots_of n) h (found n allowed.0) (away n) allowed.1)))

pub settings_right : (root : Node) → AreAllowed root → AllByRecursion (λ place. place.settings ≡ settings_at root place.path) (places root)
unfolding preorder AreAllowed
settings_right root allowed =
    each_mapped (Right [] root []) (λ place. place.settings ≡ settings_at root place.path)
    (λ place r. r.2 (length r.0) (omega arith) ∙ ap outward (append-nil (trail (length r.0) root r.0)) ∙ sym (ap (settings_at root) r.1))
    (places root)
    (all_right root [] [] (each_read IsAllowed (λ place. place.node) (places root) allowed))
