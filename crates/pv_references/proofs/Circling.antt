-- A node with a name stands on each cycle of edges that do not enter the input.
use Rattle.std.proofs.Common.{◌≡◌, ℕ, zero, suc, ◌+◌, ◌<◌, ◌≤◌, ◌⊎◌, inl, inr, ⊎_elim, Bool, true, false, if◌then◌else◌, List, [], ◌∷◌, ◌++◌, length, slice_get, get_or, Option, Some, None, is_some, true≢false, unwrap_or, refl, ap, sym, ◌∙◌, subst, arith}
use Rattle.std.specs.Prelude.{Contains, slice_index_or}
use Rattle.std.proofs.lemmas.Bool.{false_from_ne_true}
use Rattle.std.proofs.lemmas.List.Elements.{Contains-append_cases}
use Rattle.std.proofs.lemmas.List.FromFn.{length-map-range_with_len}
use Rattle.std.proofs.lemmas.Option.{slice_get-get_or, slice_get_within}
use Rattle.pv_graph.specs.Reaching.{reaches_itself, flags_of, has_cycle}
use Rattle.pv_graph.specs.Walks.{Leads}
use Rattle.pv_graph.proofs.Climbing.{some_chosen}
use Rattle.pv_graph.proofs.ReachingItself.{flag_at}
use Rattle.pv_node.specs.declared.Edge.{Edge}
use Rattle.pv_node.specs.declared.Edge.TheVariants.{Enters, Stays, Absent}
use Rattle.pv_node.specs.declared.Node.{Node, out-Node}
use Rattle.pv_node.specs.Places.{Slot, body_of, slots_of}
use Rattle.pv_node.specs.Preorder.{preorder, count_at, optional}
use Rattle.pv_node.specs.References.{is_name, has_name}
use Rattle.pv_references.specs.Targets.{reference_of}
use Rattle.pv_references.specs.Numbers.{number_from, number_in}
use Rattle.pv_references.specs.Names.{with_name}
use Rattle.pv_references.specs.Edges.{stays_by, staying, target_of, graph_from, graph_of}
use Rattle.pv_references.specs.Cycles.{marked_by, named_marked, cycle_names}
use Rattle.pv_references.proofs.Rows.{length_rows}

-- the node of a number has a name
abbrev IsNamed : Node → ℕ → Type 0
IsNamed root k = (n : Node) × (name : List ℕ) × (slice_get (preorder root) k ≡ Some n) × ((out-Node n).own_ref ≡ Some name)

-- the same of nodes the first of which has this number
abbrev HasName : List Node → ℕ → ℕ → Type 0
HasName ns at k = (i : ℕ) × (n : Node) × (name : List ℕ) × (k ≡ at + i) × (slice_get ns i ≡ Some n) × ((out-Node n).own_ref ≡ Some name)

named_by : (name : List ℕ) (own : Option (List ℕ)) → is_name name own ≡ true → (x : List ℕ) × (own ≡ Some x)
named_by name None e = absurd (true≢false (sym e))
named_by name (Some x) e = (x, refl)

number_by : (name : List ℕ) (at k : ℕ) (n : Node) (ns : List Node) (b : Bool) → has_name name n ≡ b → (number_from (at + 1) name ns ≡ Some k → HasName ns (at + 1) k)
    → (if b then Some at else number_from (at + 1) name ns) ≡ Some k → HasName (n ∷ ns) at k
number_by name at k n ns true is later e =
    let own = named_by name (out-Node n).own_ref is in
    let same : at ≡ k = ap (λ o. unwrap_or o 0) e in
    let here : k ≡ at + 0 = omega (arith, same) in
    (0, n, own.0, here, refl, own.1)
number_by name at k n ns false is later e =
    let r = later e in
    let place = r.3 in
    let here : k ≡ at + suc r.0 = omega (arith, place) in
    (suc r.0, r.1, r.2, here, r.4, r.5)

-- the number of a name is that of a node that has it
numbered : (name : List ℕ) (at : ℕ) (ns : List Node) (k : ℕ) → number_from at name ns ≡ Some k → HasName ns at k
numbered name at [] k e = absurd (true≢false (sym (ap is_some e)))
numbered name at (n ∷ ns) k e = number_by name at k n ns (has_name name n) refl (numbered name (at + 1) ns k) e

only : (j k : ℕ) → Contains (j ∷ []) k → j ≡ k
only j k (zero, l, e) = e
only j k (suc n, l, e) = absurd (omega (arith, l))

found_named : (root : Node) (name : List ℕ) (k : ℕ) (o : Option ℕ) → number_in root name ≡ o → Contains (optional o) k → IsNamed root k
found_named root name k None e c = absurd (omega (arith, c.1))
found_named root name k (Some j) e c =
    let same : j ≡ k = only j k c in
    let r = numbered name 0 (preorder root) j e in
    let place = r.3 in
    let here : r.0 ≡ k = omega (arith, place, same) in
    (r.1, r.2, subst (λ i. slice_get (preorder root) i ≡ Some r.1) here r.4, r.5)

-- a reference leads to a node with a name
target_named : (root : Node) (o : Option (List ℕ)) (k : ℕ) → Contains (target_of root o) k → IsNamed root k
target_named root None k c = absurd (omega (arith, c.1))
target_named root (Some name) k c = found_named root name k (number_in root name) refl c

stays_here : (edge : Edge) (o : Option Node) (at k : ℕ) → Contains (stays_by edge o at) k → at ≡ k
stays_here Enters o at k c = absurd (omega (arith, c.1))
stays_here Absent o at k c = absurd (omega (arith, c.1))
stays_here Stays None at k c = absurd (omega (arith, c.1))
stays_here Stays (Some n) at k c = only at k c

-- a child schema has a larger number
staying_above : (at : ℕ) (ss : List (Slot Node)) (k : ℕ) → Contains (staying at ss) k → at ≤ k
staying_above at [] k c = absurd (omega (arith, c.1))
staying_above at (slot ∷ ss) k c = ⊎_elim
    (λ here. let e = stays_here slot.edge slot.node at k here in omega (arith, e))
    (λ behind. let l = staying_above (at + count_at slot.node) ss k behind in omega (arith, l))
    (Contains-append_cases (stays_by slot.edge slot.node at) (staying (at + count_at slot.node) ss) k c)

climbs_from : (root : Node) (at : ℕ) (ns : List Node) (i k : ℕ) → Contains (slice_index_or (graph_from root at ns) i []) k → IsNamed root k ⊎ (at + i < k)
unfolding graph_from
climbs_from root at [] zero k c = absurd (omega (arith, c.1))
climbs_from root at [] (suc i) k c = absurd (omega (arith, c.1))
climbs_from root at (n ∷ ns) zero k c = ⊎_elim
    (λ child. let l = staying_above (at + 1) (slots_of n) k child in inr (omega (arith, l)))
    (λ target. inl (target_named root (reference_of (body_of n)) k target))
    (Contains-append_cases (staying (at + 1) (slots_of n)) (target_of root (reference_of (body_of n))) k c)
climbs_from root at (n ∷ ns) (suc i) k c = ⊎_elim (λ p. inl p) (λ l. inr (omega (arith, l))) (climbs_from root (at + 1) ns i k c)

empty_rest : (o : Option (List ℕ)) (names : List (List ℕ)) → with_name o names ≡ [] → names ≡ []
empty_rest None names e = e
empty_rest (Some name) names e = absurd (let l = ap length e in omega (arith, l))

-- a node with a name whose flag is true
marked_some : (flags : List Bool) (ns : List Node) (i : ℕ) (n : Node) (name : List ℕ) → slice_get flags i ≡ Some true → slice_get ns i ≡ Some n → (out-Node n).own_ref ≡ Some name
    → named_marked flags ns ≡ [] → ⊥
marked_some flags [] i n name flag node own none = absurd (true≢false (sym (ap is_some node)))
marked_some [] (m ∷ ns) i n name flag node own none = absurd (true≢false (sym (ap is_some flag)))
marked_some (b ∷ flags) (m ∷ ns) zero n name flag node own none =
    let set : b ≡ true = ap (λ o. unwrap_or o b) flag in
    let here : m ≡ n = ap (λ o. unwrap_or o m) node in
    let rest = named_marked flags ns in
    let l = ap length (sym (ap (λ x. with_name (marked_by x (out-Node m).own_ref) rest) set ∙ ap (λ x. with_name (out-Node x).own_ref rest) here ∙ ap (λ o. with_name o rest) own) ∙ none) in
    absurd (omega (arith, l))
marked_some (b ∷ flags) (m ∷ ns) (suc i) n name flag node own none =
    marked_some flags ns i n name flag node own (empty_rest (marked_by b (out-Node m).own_ref) (named_marked flags ns) none)

module _ (root : Node) where
  climbs : (i k : ℕ) → Leads (graph_of root) i k → IsNamed root k ⊎ (i < k)
  unfolding graph_of
  climbs i k l = ⊎_elim (λ p. inl p) (λ less. inr (omega (arith, less))) (climbs_from root 0 (preorder root) i k l.listed)

  flags_counted : length (flags_of (graph_of root)) ≡ length (preorder root)
  unfolding flags_of graph_of
  flags_counted = length-map-range_with_len (reaches_itself (graph_of root)) 0 (length (graph_of root)) ∙ length_rows root 0 (preorder root)

  graph_counted : length (graph_of root) ≡ length (preorder root)
  unfolding graph_of
  graph_counted = length_rows root 0 (preorder root)

  impossible : cycle_names root ≡ [] → has_cycle (graph_of root) ≡ true → ⊥
  unfolding cycle_names
  impossible none h =
      let g = graph_of root in
      let r = some_chosen g (IsNamed root) climbs h in
      let within = slice_get_within (preorder root) r.0 r.1.0 r.1.2 in
      let flags = flags_counted in
      let nodes = graph_counted in
      let flagged : slice_get (flags_of g) r.0 ≡ Some true =
      slice_get-get_or (flags_of g) r.0 false (omega (arith, within, flags)) ∙ ap Some (flag_at g r.0 false (omega (arith, within, nodes)) ∙ r.2) in
      marked_some (flags_of g) (preorder root) r.0 r.1.0 r.1.1 flagged r.1.2 r.1.3 none

  pub cycles_named : cycle_names root ≡ [] → has_cycle (graph_of root) ≡ false
  cycles_named none = false_from_ne_true (has_cycle (graph_of root)) (impossible none)
