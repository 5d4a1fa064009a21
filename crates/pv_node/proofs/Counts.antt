-- How many nodes stand in slots.
use Rattle.std.proofs.Common.{◌≡◌, ℕ, zero, suc, ◌+◌, ◌≤◌, ◌<◌, List, [], ◌∷◌, ◌++◌, length, drop, Option, Some, None, slice_get, is_some, true≢false, unwrap_or, refl, ap, sym, ◌∙◌, arith}
use Rattle.std.proofs.Math.Path.{fun_ext}
use Rattle.std.proofs.lemmas.List.{append-nil, length-map}
use Rattle.std.proofs.lemmas.List.Concat.{length-flat_map}
use Rattle.std.proofs.lemmas.List.Sums.{sum_by-cons}
use Rattle.std.specs.List.{flat_map, sum_by}
use Rattle.pv_rules.specs.Settings.{plain}
use Rattle.pv_rules.specs.declared.Settings.{Settings}
use Rattle.pv_node.specs.declared.node.Node.{Node}
use Rattle.pv_node.specs.Places.{Path, Slot, slots_of, under, place_at, places, places_of, places_at, places_in}
use Rattle.pv_node.specs.Preorder.{node_count, count_at, slots_count}
use Rattle.pv_node.proofs.Openings.{opens}
use Rattle.pv_node.proofs.Shapes.{behind, unset, moves, free}

-- as many, wherever the node stands
pub count_placed : (p : Path) (s : Settings) (n : Node) → length (places_of p n s) ≡ node_count n
unfolding node_count
count_placed p s n =
    ap (λ q. length (places_of q n s)) (sym (append-nil p)) ∙ ap length (moves n p [] s) ∙ length-map (places_of [] n s) (behind p)
    ∙ sym (length-map (places_of [] n s) unset) ∙ ap length (free n [] s plain) ∙ length-map (places_of [] n plain) unset

pub count_written : (p : Path) (s : Settings) (o : Option Node) → length (places_at p s o) ≡ count_at o
count_written p s None = refl
count_written p s (Some n) = count_placed p s n

pub count_inside : (p : Path) (s : Settings) (ss : List (Slot Node)) → length (flat_map (places_in p s) ss) ≡ slots_count ss
count_inside p s ss =
    length-flat_map (places_in p s) ss ∙ ap (λ g. sum_by g ss) (fun_ext (λ slot. count_written (p ++ slot.path) s slot.node))

pub count_opens : (n : Node) → node_count n ≡ 1 + slots_count (slots_of n)
unfolding node_count
count_opens n =
    let t = under n plain in
    let e : length (places n) ≡ length (place_at [] n plain ∷ flat_map (places_in [] t) (slots_of n)) = ap length (opens [] n plain) in
    let f = count_inside [] t (slots_of n) in
    omega arith

pub count_first : (slot : Slot Node) (ss : List (Slot Node)) → slots_count (slot ∷ ss) ≡ count_at slot.node + slots_count ss
count_first slot ss = sum_by-cons (λ s. count_at s.node) slot ss

-- a slot of a number, and those behind it
pub count_split : (ss : List (Slot Node)) (i : ℕ) (slot : Slot Node) → slice_get ss i ≡ Some slot → slots_count (drop i ss) ≡ count_at slot.node + slots_count (drop (i + 1) ss)
count_split [] i slot e = absurd (true≢false (sym (ap is_some e)))
count_split (x ∷ ss) zero slot e =
    let here : x ≡ slot = ap (λ o. unwrap_or o x) e in
    count_first x ss ∙ ap (λ s. count_at s.node + slots_count ss) here
count_split (x ∷ ss) (suc i) slot e =
    let next : suc i + 1 ≡ suc (i + 1) = omega arith in
    count_split ss i slot e ∙ sym (ap (λ k. count_at slot.node + slots_count (drop k (x ∷ ss))) next)

-- past the last slot
pub count_past : (ss : List (Slot Node)) (i : ℕ) → slice_get ss i ≡ None → slots_count (drop i ss) ≡ 0
count_past [] zero e = refl
count_past [] (suc i) e = refl
count_past (x ∷ ss) zero e = absurd (true≢false (ap is_some e))
count_past (x ∷ ss) (suc i) e = count_past ss i e

count_dropped : (ss : List (Slot Node)) (i : ℕ) → slots_count (drop i ss) ≤ slots_count ss
count_dropped [] zero = omega arith
count_dropped [] (suc i) = omega arith
count_dropped (x ∷ ss) zero = omega arith
count_dropped (x ∷ ss) (suc i) = let f = count_first x ss in let g = count_dropped ss i in omega arith

-- a slot has fewer nodes than the node
pub count_in_slot : (n : Node) (i : ℕ) (slot : Slot Node) → slice_get (slots_of n) i ≡ Some slot → count_at slot.node < node_count n
count_in_slot n i slot e =
    let whole = count_opens n in
    let split = count_split (slots_of n) i slot e in
    let all = count_dropped (slots_of n) i in
    omega arith

pub smaller : (n : Node) (i : ℕ) (slot : Slot Node) (m : Node) → slice_get (slots_of n) i ≡ Some slot → slot.node ≡ Some m → node_count m < node_count n
smaller n i slot m e f =
    let less = count_in_slot n i slot e in
    let here : count_at slot.node ≡ node_count m = ap count_at f in
    omega arith

-- turns of the loop over the slots of a node
pub counted_all : (n : Node) (total i : ℕ) → slice_get (slots_of n) i ≡ None → total + slots_count (drop i (slots_of n)) ≡ node_count n → total ≡ node_count n
counted_all n total i e f = let g = count_past (slots_of n) i e in omega arith

pub counted_more : (n : Node) (total i k : ℕ) (slot : Slot Node) → slice_get (slots_of n) i ≡ Some slot → k ≡ count_at slot.node
    → total + slots_count (drop i (slots_of n)) ≡ node_count n → total + k + slots_count (drop (i + 1) (slots_of n)) ≡ node_count n
counted_more n total i k slot e here f = let g = count_split (slots_of n) i slot e in omega arith

pub counted_none : (n : Node) (total i : ℕ) (slot : Slot Node) → slice_get (slots_of n) i ≡ Some slot → slot.node ≡ None
    → total + slots_count (drop i (slots_of n)) ≡ node_count n → total + slots_count (drop (i + 1) (slots_of n)) ≡ node_count n
counted_none n total i slot e here f =
    let g = count_split (slots_of n) i slot e in
    let h : count_at slot.node ≡ 0 = ap count_at here in
    omega arith
