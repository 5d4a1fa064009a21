-- Names that stand twice.
use Rattle.std.proofs.Common.{◌≡◌, ℕ, zero, suc, ◌+◌, ◌<◌, ◌≤◌, Bool, true, false, ◌||◌, if◌then◌else◌, List, [], ◌∷◌, ◌++◌, length, take, drop, slice_get, Option, Some, None, is_some, true≢false, unwrap_or, refl, ap, sym, ◌∙◌, arith}
use denote.Ref.{Bor}
use Rattle.std.specs.Option.{option_or}
use Rattle.std.proofs.lemmas.List.{drop_all, map-append}
use Rattle.pv_node.specs.declared.Node.{Node, out-Node}
use Rattle.pv_node.specs.Preorder.{preorder}
use Rattle.pv_node.specs.References.{has_name}
use Rattle.pv_references.specs.Names.{is_named, repeated_by, repeated_from, first_duplicate}
use Rattle.pv_references.specs.Nodes.{nodes_lent}
use Rattle.pv_references.specs.Numbers.{number_from}
use Rattle.pv_references.proofs.Lists.{take_here, drop_here}

module _ (name : List ℕ) where
  -- a number is found where a node has the name
  found_by : (b c : Bool) (at : ℕ) (o : Option ℕ) → is_some o ≡ c → is_some (if b then Some at else o) ≡ (b || c)
  found_by true c at o e = refl
  found_by false c at o e = e

  pub found : (at : ℕ) (ns : List Node) → is_some (number_from at name ns) ≡ is_named name ns
  found at [] = refl
  found at (n ∷ ns) = found_by (has_name name n) (is_named name ns) at (number_from (at + 1) name ns) (found (at + 1) ns)

  least_by : (b : Bool) (at i : ℕ) (o : Option ℕ) → (o ≡ Some i → at + 1 ≤ i) → (if b then Some at else o) ≡ Some i → at ≤ i
  least_by true at i o later e = let same : at ≡ i = ap (λ x. unwrap_or x 0) e in omega (arith, same)
  least_by false at i o later e = let l = later e in omega (arith, l)

  least : (at : ℕ) (ns : List Node) (i : ℕ) → number_from at name ns ≡ Some i → at ≤ i
  least at [] i e = absurd (true≢false (sym (ap is_some e)))
  least at (n ∷ ns) i e = least_by (has_name name n) at i (number_from (at + 1) name ns) (least (at + 1) ns i) e

  among_by : (b c : Bool) (at i : ℕ) (o : Option ℕ) → (o ≡ Some i → c ≡ true) → (if b then Some at else o) ≡ Some i → (b || c) ≡ true
  among_by true c at i o later e = refl
  among_by false c at i o later e = later e

  -- the number is that of one of the nodes in front
  pub among : (at : ℕ) (ns ms : List Node) (i : ℕ) → i < at + length ns → number_from at name (ns ++ ms) ≡ Some i → is_named name ns ≡ true
  among at [] ms i l e = let m = least at ms i e in absurd (omega (arith, l, m))
  among at (n ∷ ns) ms i l e =
      among_by (has_name name n) (is_named name ns) at i (number_from (at + 1) name (ns ++ ms)) (among (at + 1) ns ms i (omega (arith, l))) e

  behind_by : (b c : Bool) (at i : ℕ) (o : Option ℕ) → at < i → (o ≡ Some i → c ≡ false) → (if b then Some at else o) ≡ Some i → (b || c) ≡ false
  behind_by true c at i o l later e = let same : at ≡ i = ap (λ x. unwrap_or x 0) e in absurd (omega (arith, l, same))
  behind_by false c at i o l later e = later e

  -- none of the nodes in front has the name
  pub behind : (at : ℕ) (ns ms : List Node) (i : ℕ) → at + length ns ≤ i → number_from at name (ns ++ ms) ≡ Some i → is_named name ns ≡ false
  behind at [] ms i l e = refl
  behind at (n ∷ ns) ms i l e =
      behind_by (has_name name n) (is_named name ns) at i (number_from (at + 1) name (ns ++ ms)) (omega (arith, l)) (behind (at + 1) ns ms i (omega (arith, l))) e

  absent_by : (b c : Bool) (at : ℕ) (o : Option ℕ) → (o ≡ None → c ≡ false) → (if b then Some at else o) ≡ None → (b || c) ≡ false
  absent_by true c at o later e = absurd (true≢false (ap is_some e))
  absent_by false c at o later e = later e

  pub absent : (at : ℕ) (ns ms : List Node) → number_from at name (ns ++ ms) ≡ None → is_named name ns ≡ false
  absent at [] ms e = refl
  absent at (n ∷ ns) ms e =
      absent_by (has_name name n) (is_named name ns) at (number_from (at + 1) name (ns ++ ms)) (absent (at + 1) ns ms) e

-- a name by whether a node in front has it
pub told : (before : List Node) (own : Option (List ℕ)) (name : List ℕ) (b : Bool) → own ≡ Some name → is_named name before ≡ b → repeated_by before own ≡ (if b then Some name else None)
told before own name b e f = ap (repeated_by before) e ∙ ap (λ c. if c then Some name else None) f

-- the nodes in front of a node, and those behind it
pub split : (ns : List (Bor Node)) (i : ℕ) (n : Bor Node) → slice_get ns i ≡ Some n → nodes_lent ns ≡ nodes_lent (take i ns) ++ n.now ∷ nodes_lent (drop (i + 1) ns)
split [] i n e = absurd (true≢false (sym (ap is_some e)))
split (m ∷ ns) zero n e = let here : m ≡ n = ap (λ o. unwrap_or o m) e in ap (λ x. x.now ∷ nodes_lent ns) here
split (m ∷ ns) (suc i) n e =
    let next : suc i + 1 ≡ suc (i + 1) = omega arith in
    ap (λ ms. m.now ∷ ms) (split ns i n e) ∙ sym (ap (λ k. m.now ∷ (nodes_lent (take i ns) ++ n.now ∷ nodes_lent (drop k (m ∷ ns)))) next)

pub in_front : (ns : List (Bor Node)) (i : ℕ) (n : Bor Node) → slice_get ns i ≡ Some n → length (nodes_lent (take i ns)) ≡ i
in_front [] i n e = absurd (true≢false (sym (ap is_some e)))
in_front (m ∷ ns) zero n e = refl
in_front (m ∷ ns) (suc i) n e = ap suc (in_front ns i n e)

module _ (ns : List (Bor Node)) where
  abbrev left : ℕ → Option (List ℕ)
  left i = repeated_from (nodes_lent (take i ns)) (nodes_lent (drop i ns))

  abbrev whole : Option (List ℕ)
  whole = repeated_from [] (nodes_lent ns)

  next : (i : ℕ) (n : Bor Node) → slice_get ns i ≡ Some n → left i ≡ option_or (repeated_by (nodes_lent (take i ns)) (out-Node n.now).own_ref) (left (i + 1))
  next i n here =
      let before = nodes_lent (take i ns) in
      let rest = nodes_lent (drop (i + 1) ns) in
      let grown : nodes_lent (take (i + 1) ns) ≡ before ++ n.now ∷ [] = ap nodes_lent (take_here ns i n here) ∙ map-append (λ b. b.now) (take i ns) (n ∷ []) in
      ap (λ xs. repeated_from before (nodes_lent xs)) (drop_here ns i n here)
      ∙ sym (ap (λ ms. option_or (repeated_by before (out-Node n.now).own_ref) (repeated_from ms rest)) grown)

  -- past a node whose name none in front has
  pub repeated_more : (i : ℕ) (n : Bor Node) → slice_get ns i ≡ Some n → repeated_by (nodes_lent (take i ns)) (out-Node n.now).own_ref ≡ None → left i ≡ whole → left (i + 1) ≡ whole
  repeated_more i n here none e = sym (ap (λ o. option_or o (left (i + 1))) none) ∙ sym (next i n here) ∙ e

  -- at a node whose name one in front has
  pub repeated_here : (root : Node) (i : ℕ) (n : Bor Node) (name : List ℕ) → slice_get ns i ≡ Some n → nodes_lent ns ≡ preorder root
      → repeated_by (nodes_lent (take i ns)) (out-Node n.now).own_ref ≡ Some name → left i ≡ whole → Some name ≡ first_duplicate root
  unfolding first_duplicate
  repeated_here root i n name here all found e =
      sym (ap (λ o. option_or o (left (i + 1))) found) ∙ sym (next i n here) ∙ e ∙ ap (repeated_from []) all

  -- past all nodes
  pub repeated_none : (root : Node) (i : ℕ) → length ns ≤ i → nodes_lent ns ≡ preorder root → left i ≡ whole → None ≡ first_duplicate root
  unfolding first_duplicate
  repeated_none root i past all e =
      sym (ap (λ xs. repeated_from (nodes_lent (take i ns)) (nodes_lent xs)) (drop_all i ns past)) ∙ e ∙ ap (repeated_from []) all
