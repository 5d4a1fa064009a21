-- One of the nodes of a schema, slot by slot: the first that passes a test, and that of a number.
use Rattle.std.proofs.Common.{◌≡◌, ℕ, zero, suc, ◌+◌, ◌≤◌, ◌<◌, Bool, true, false, if◌then◌else◌, List, [], ◌∷◌, ◌++◌, length, drop, Option, Some, None, slice_get, is_some, true≢false, unwrap_or, refl, ap, sym, ◌∙◌, arith}
use denote.Ref.{Bor}
use Rattle.std.specs.List.{flat_map, find}
use Rattle.std.specs.Option.{option_copied, option_or}
use Rattle.std.proofs.lemmas.List.{append-nil, length-map}
use Rattle.std.proofs.lemmas.List.Folds.{find-append}
use Rattle.std.proofs.lemmas.Grind.{flat_map-append}
use Rattle.pv_node.specs.declared.node.Node.{Node}
use Rattle.pv_node.specs.Places.{Slot, slots_of, places}
use Rattle.pv_node.specs.Preorder.{preorder, node_count, optional, written, count_at, slots_count}
use Rattle.pv_node.proofs.Preorder.{preorder_opens}
use Rattle.pv_node.proofs.Counts.{count_opens, count_split, count_past}

-- the nodes inside a node from a slot on
abbrev pub inside : List (Slot Node) → List Node
inside ss = flat_map preorder (written ss)

abbrev pub inside_from : Node → ℕ → List Node
inside_from n i = inside (drop i (slots_of n))

abbrev held : Slot Node → List Node
held slot = flat_map preorder (optional slot.node)

split : (ss : List (Slot Node)) (i : ℕ) (slot : Slot Node) → slice_get ss i ≡ Some slot → inside (drop i ss) ≡ held slot ++ inside (drop (i + 1) ss)
split [] i slot e = absurd (true≢false (sym (ap is_some e)))
split (x ∷ ss) zero slot e =
    let here : x ≡ slot = ap (λ o. unwrap_or o x) e in
    flat_map-append preorder (optional x.node) (written ss) ∙ ap (λ s. held s ++ inside ss) here
split (x ∷ ss) (suc i) slot e =
    let next : suc i + 1 ≡ suc (i + 1) = omega arith in
    split ss i slot e ∙ sym (ap (λ k. held slot ++ inside (drop k (x ∷ ss))) next)

past : (ss : List (Slot Node)) (i : ℕ) → slice_get ss i ≡ None → inside (drop i ss) ≡ []
past [] zero e = refl
past [] (suc i) e = refl
past (x ∷ ss) zero e = absurd (true≢false (ap is_some e))
past (x ∷ ss) (suc i) e = past ss i e

-- past a slot that holds none, and before what one holds
skipped : (n : Node) (i : ℕ) (slot : Slot Node) → slice_get (slots_of n) i ≡ Some slot → slot.node ≡ None → inside_from n i ≡ inside_from n (i + 1)
skipped n i slot here none = split (slots_of n) i slot here ∙ ap (λ o. flat_map preorder (optional o) ++ inside_from n (i + 1)) none

before : (n : Node) (i : ℕ) (slot : Slot Node) (m : Node) → slice_get (slots_of n) i ≡ Some slot → slot.node ≡ Some m → inside_from n i ≡ preorder m ++ inside_from n (i + 1)
before n i slot m here is =
    split (slots_of n) i slot here ∙ ap (λ o. flat_map preorder (optional o) ++ inside_from n (i + 1)) is
    ∙ ap (λ ns. ns ++ inside_from n (i + 1)) (append-nil (preorder m))

counted : (n : Node) → length (preorder n) ≡ node_count n
unfolding preorder node_count
counted n = length-map (places n) (λ place. place.node)

-- in a list before another one, and in the other one
get_first : {X : Type 0} (xs ys : List X) (k : ℕ) (x : X) → slice_get xs k ≡ Some x → slice_get (xs ++ ys) k ≡ Some x
get_first [] ys k x e = absurd (true≢false (sym (ap is_some e)))
get_first (y ∷ xs) ys zero x e = e
get_first (y ∷ xs) ys (suc k) x e = get_first xs ys k x e

get_second : {X : Type 0} (xs ys : List X) (k j : ℕ) → j + length xs ≡ k → slice_get (xs ++ ys) k ≡ slice_get ys j
get_second [] ys k j e = let same : k ≡ j = omega arith in ap (slice_get ys) same
get_second (y ∷ xs) ys zero j e = absurd (omega arith)
get_second (y ∷ xs) ys (suc k) j e = get_second xs ys k j (omega arith)

get_none : {X : Type 0} (xs : List X) (k : ℕ) → slice_get xs k ≡ None → length xs ≤ k
get_none [] k e = omega arith
get_none (x ∷ xs) zero e = absurd (true≢false (ap is_some e))
get_none (x ∷ xs) (suc k) e = let rest = get_none xs k e in omega arith

module _ (test : Node → Bool) (n : Node) where
  -- what is still to be searched gives what the whole gives
  abbrev pub Left : ℕ → Type 0
  Left i = find test (inside_from n i) ≡ find test (preorder n)

  pub first_here : (b : Bool) → b ≡ test n → b ≡ true → Some n ≡ find test (preorder n)
  first_here b same is =
      sym (ap (find test) (preorder_opens n) ∙ ap (λ c. if c then Some n else find test (inside_from n 0)) (sym same ∙ is))

  pub none_here : (b : Bool) → b ≡ test n → b ≡ false → Left 0
  none_here b same is =
      sym (ap (find test) (preorder_opens n) ∙ ap (λ c. if c then Some n else find test (inside_from n 0)) (sym same ∙ is))

  pub none_left : (i : ℕ) → slice_get (slots_of n) i ≡ None → Left i → None ≡ find test (preorder n)
  none_left i end left = sym (ap (find test) (past (slots_of n) i end)) ∙ left

  pub none_held : (i : ℕ) (slot : Slot Node) → slice_get (slots_of n) i ≡ Some slot → slot.node ≡ None → Left i → Left (i + 1)
  none_held i slot here none left = sym (ap (find test) (skipped n i slot here none)) ∙ left

  within : (i : ℕ) (slot : Slot Node) (m : Node) → slice_get (slots_of n) i ≡ Some slot → slot.node ≡ Some m → Left i
      → option_or (find test (preorder m)) (find test (inside_from n (i + 1))) ≡ find test (preorder n)
  within i slot m here is left =
      sym (ap (find test) (before n i slot m here is) ∙ find-append test (preorder m) (inside_from n (i + 1))) ∙ left

  pub first_within : (i : ℕ) (slot : Slot Node) (m : Node) (o : Option (Bor Node)) (x : Bor Node) → slice_get (slots_of n) i ≡ Some slot → slot.node ≡ Some m
      → option_copied o ≡ find test (preorder m) → o ≡ Some x → Left i → Some x.now ≡ find test (preorder n)
  first_within i slot m o x here is found some left =
      ap (λ a. option_or a (find test (inside_from n (i + 1)))) (sym (ap option_copied some) ∙ found) ∙ within i slot m here is left

  pub none_within : (i : ℕ) (slot : Slot Node) (m : Node) (o : Option (Bor Node)) → slice_get (slots_of n) i ≡ Some slot → slot.node ≡ Some m
      → option_copied o ≡ find test (preorder m) → o ≡ None → Left i → Left (i + 1)
  none_within i slot m o here is found none left =
      ap (λ a. option_or a (find test (inside_from n (i + 1)))) (sym (ap option_copied none) ∙ found) ∙ within i slot m here is left

module _ (n : Node) (start : ℕ) where
  -- the node is what is so far behind in what is still to come, and so many are passed
  pub record Passed (left i : ℕ) : Type 0 where
    pub same : slice_get (inside_from n i) left ≡ slice_get (preorder n) start
    pub passed : left + node_count n ≡ start + slots_count (drop i (slots_of n))

  pub number_here : start ≡ 0 → Some n ≡ slice_get (preorder n) start
  number_here is = sym (ap (λ ns. slice_get ns start) (preorder_opens n) ∙ ap (slice_get (n ∷ inside_from n 0)) is)

  pub number_behind : (left : ℕ) → left + 1 ≡ start → Passed left 0
  number_behind left less =
      let next : start ≡ suc left = omega arith in
      let whole = count_opens n in
      record {
        same = sym (ap (λ ns. slice_get ns start) (preorder_opens n) ∙ ap (slice_get (n ∷ inside_from n 0)) next);
        passed = omega arith;
      }

  pub number_past : (left i : ℕ) → slice_get (slots_of n) i ≡ None → Passed left i → None ≡ slice_get (preorder n) start
  number_past left i end p = sym (ap (λ ns. slice_get ns left) (past (slots_of n) i end)) ∙ p.same

  pub count_all : (left i : ℕ) → slice_get (slots_of n) i ≡ None → Passed left i → left + node_count n ≡ start
  count_all left i end p = let none = count_past (slots_of n) i end in let e = p.passed in omega arith

  pub number_skipped : (left more i : ℕ) (slot : Slot Node) → slice_get (slots_of n) i ≡ Some slot → slot.node ≡ None → more ≡ left → Passed left i → Passed more (i + 1)
  number_skipped left more i slot here none e p =
      let count = p.passed in
      let split_count = count_split (slots_of n) i slot here in
      let no_count = ap count_at none in
      record {
        same = ap (slice_get (inside_from n (i + 1))) e ∙ sym (ap (λ ns. slice_get ns left) (skipped n i slot here none)) ∙ p.same;
        passed = omega arith;
      }

  pub number_within : (left i : ℕ) (slot : Slot Node) (m : Node) (o : Option (Bor Node)) (x : Bor Node) → slice_get (slots_of n) i ≡ Some slot → slot.node ≡ Some m
      → option_copied o ≡ slice_get (preorder m) left → o ≡ Some x → Passed left i → Some x.now ≡ slice_get (preorder n) start
  number_within left i slot m o x here is found some p =
      sym (get_first (preorder m) (inside_from n (i + 1)) left x.now (sym found ∙ ap option_copied some))
      ∙ sym (ap (λ ns. slice_get ns left) (before n i slot m here is)) ∙ p.same

  pub number_passed : (left more i : ℕ) (slot : Slot Node) (m : Node) → slice_get (slots_of n) i ≡ Some slot → slot.node ≡ Some m
      → more + node_count m ≡ left → Passed left i → Passed more (i + 1)
  number_passed left more i slot m here is less p =
      let e = p.passed in
      let size = counted m in
      let count = count_split (slots_of n) i slot here in
      let this = ap count_at is in
      record {
        same = sym (get_second (preorder m) (inside_from n (i + 1)) left more (omega arith))
            ∙ sym (ap (λ ns. slice_get ns left) (before n i slot m here is)) ∙ p.same;
        passed = omega arith;
      }

-- a number below the count has a node
pub is_there : (n : Node) (k : ℕ) → k < node_count n → slice_get (preorder n) k ≡ None → ⊥
is_there n k less none =
    let size = counted n in
    let short = get_none (preorder n) k none in
    omega arith
