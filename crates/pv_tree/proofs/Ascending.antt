-- Members whose names ascend are merged as they stand.
use Rattle.std.proofs.Common.{◌≡◌, ℕ, zero, suc, ◌+◌, ◌-◌, ◌<◌, ◌≤◌, Bool, true, false, cond, List, [], ◌∷◌, ◌++◌, length, get_or, take, refl, sym, ap, ◌∙◌, subst, arith, true≢false}
use Rattle.std.specs.Prelude.{None, Some, bytes_eq}
use Rattle.std.specs.List.{position_from, AllByRecursion}
use Rattle.std.specs.declared.cmp.Ordering.{Ordering}
use Rattle.std.specs.declared.cmp.Ordering.TheVariants.{Less, Equal, Greater}
use Rattle.std.specs.Ordering.{is_lt, ordering_reverse}
use Rattle.std.specs.Cmp.{IsTotalOrder, nat_cmp_total, on_total, then_total}
use Rattle.std.specs.Cmp.Lexicographic.{nat_list_cmp_total, bytes_decides}
use Rattle.std.proofs.lemmas.List.{take_more, take_all}
use Rattle.pv_tree.specs.Merging.{merged}
use Rattle.pv_tree.specs.NameOrders.{order_of}
use Rattle.pv_tree.specs.declared.name_order.NameOrder.{NameOrder}
use Rattle.pv_tree.specs.declared.name_order.NameOrder.TheVariants.{ByBytes, ByLength}
use Rattle.pv_tree.proofs.Merges.{merged_more}

total : (o : NameOrder) → IsTotalOrder (order_of o)
total ByBytes = nat_list_cmp_total
total ByLength = then_total (on_total length nat_cmp_total) nat_list_cmp_total

-- an order does not put a name before itself
unequal : (r : Ordering) → r ≡ ordering_reverse r → r ≡ Less → ⊥
unequal Less e h = cc
unequal Equal e h = cc
unequal Greater e h = cc

not_itself : (o : NameOrder) (x : List ℕ) → order_of o x x ≡ Less → ⊥
not_itself o x h = unequal (order_of o x x) ((total o).antisymm x x) h

differ_by : (b : Bool) (o : NameOrder) (x y : List ℕ) → bytes_eq y x ≡ b → order_of o x y ≡ Less → b ≡ false
differ_by false o x y e h = refl
differ_by true o x y e h = absurd (not_itself o x (ap (order_of o x) (sym ((bytes_decides y x).0 e)) ∙ h))

differ : (o : NameOrder) (x y : List ℕ) → order_of o x y ≡ Less → bytes_eq y x ≡ false
differ o x y h = differ_by (bytes_eq y x) o x y refl h

is_less : (r : Ordering) → is_lt r ≡ true → r ≡ Less
is_less Less e = refl
is_less Equal e = absurd (true≢false (sym e))
is_less Greater e = absurd (true≢false (sym e))

get_or_same : {X : Type 0} (xs : List X) (i : ℕ) (d e : X) → i < length xs → get_or xs i d ≡ get_or xs i e
get_or_same [] i d e l = absurd (omega (arith, l))
get_or_same (x ∷ xs) zero d e l = refl
get_or_same (x ∷ xs) (suc i) d e l = get_or_same xs i d e (omega (arith, l))

module _ {V : Type 0} (o : NameOrder) where
  -- each of these comes before the name
  abbrev pub Before : List (List ℕ × V) → List ℕ → Type 0
  Before ms name = AllByRecursion (λ m. order_of o m.0 name ≡ Less) ms

  absent_from : (i : ℕ) (ms : List (List ℕ × V)) (name : List ℕ) → Before ms name → position_from (λ m. bytes_eq name m.0) i ms ≡ None
  absent_from i [] name h = refl
  absent_from i (m ∷ ms) name h =
      ap (λ b. cond b (Some i) (position_from (λ n. bytes_eq name n.0) (i + 1) ms)) (differ o m.0 name h.0) ∙ absent_from (i + 1) ms name h.1

  later : (ms : List (List ℕ × V)) (x y : List ℕ) → Before ms x → order_of o x y ≡ Less → Before ms y
  later [] x y h e = tt
  later (m ∷ ms) x y h e = ((total o).trans m.0 x y h.0 e, later ms x y h.1 e)

  joined : (ms : List (List ℕ × V)) (m : List ℕ × V) (y : List ℕ) → Before ms y → order_of o m.0 y ≡ Less → Before (ms ++ m ∷ []) y
  joined [] m y h e = (e, tt)
  joined (n ∷ ms) m y h e = (h.0, joined ms m y h.1 e)

  -- The first i members are merged as they stand, and all but the last of them come before it.
  pub record Ascends (ms : List (List ℕ × V)) (i : ℕ) : Type 0 where
    pub merges : merged (take i ms) ≡ take i ms
    pub before : (d : List ℕ × V) → Before (take (i - 1) ms) (get_or ms (i - 1) d).0

  start_by : (ms : List (List ℕ × V)) → merged (take 1 ms) ≡ take 1 ms
  unfolding merged
  start_by [] = refl
  start_by (m ∷ ms) = refl

  pub start : (ms : List (List ℕ × V)) → Ascends ms 1
  start ms = record { merges = start_by ms; before = λ d. tt }

  pub further : (ms : List (List ℕ × V)) (i : ℕ) (x y : List ℕ × V) → 0 < i → i < length ms → x ≡ get_or ms (i - 1) x → y ≡ get_or ms i y
      → is_lt (order_of o x.0 y.0) ≡ true → Ascends ms i → Ascends ms (i + 1)
  further ms i x y some l here next lt h =
      let before : i - 1 + 1 ≡ i = omega arith in
      let back : i + 1 - 1 ≡ i = omega arith in
      let less : order_of o x.0 y.0 ≡ Less = is_less (order_of o x.0 y.0) lt in
      let grown : take i ms ≡ take (i - 1) ms ++ x ∷ [] =
      ap (λ n. take n ms) (sym before) ∙ take_more ms (i - 1) x (omega arith) ∙ ap (λ z. take (i - 1) ms ++ z ∷ []) (sym here) in
      let first : Before (take (i - 1) ms) x.0 = subst (λ z. Before (take (i - 1) ms) z.0) (sym here) (h.before x) in
      let all : Before (take i ms) y.0 = subst (λ zs. Before zs y.0) (sym grown) (joined (take (i - 1) ms) x y.0 (later (take (i - 1) ms) x.0 y.0 first less) less) in
      let same : (d : List ℕ × V) → y ≡ get_or ms i d = λ d. next ∙ get_or_same ms i y d l in
      record {
        merges = merged_more ms i y l h.merges (absent_from 0 (take i ms) (get_or ms i y).0 (subst (λ z. Before (take i ms) z.0) next all));
        before = λ d. subst (λ n. Before (take n ms) (get_or ms n d).0) (sym back) (subst (λ z. Before (take i ms) z.0) (same d) all);
      }

  pub whole : (ms : List (List ℕ × V)) (i : ℕ) → length ms ≤ i → Ascends ms i → merged ms ≡ ms
  whole ms i l h = subst (λ zs. merged zs ≡ zs) (take_all i ms l) h.merges
