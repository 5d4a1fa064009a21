-- The names of the nodes whose flags are true, node by node.
use Rattle.std.proofs.Common.{◌≡◌, ℕ, zero, suc, ◌+◌, Bool, true, false, List, [], ◌∷◌, ◌++◌, drop, slice_get, Option, Some, None, true≢false, Vec, Global, refl, ap, sym, ◌∙◌, subst, arith}
use denote.Ref.{Bor}
use Rattle.std.specs.List.{list_any}
use Rattle.pv_graph.specs.Reaching.{flags_of, has_cycle, chain_of}
use Rattle.pv_graph.specs.Cycles.{IsAnswer}
use Rattle.pv_graph.specs.declared.Cycles.{Cycles}
use Rattle.pv_graph.specs.declared.Cycles.TheVariants.{Absent, Present}
use Rattle.pv_node.specs.declared.Node.{Node, out-Node}
use Rattle.pv_node.specs.Preorder.{preorder}
use Rattle.pv_references.specs.Names.{with_name}
use Rattle.pv_references.specs.Nodes.{nodes_lent}
use Rattle.pv_references.specs.Edges.{graph_of}
use Rattle.pv_references.specs.Cycles.{marked_at, named_marked, cycle_names, chain}
use Rattle.pv_references.specs.Faults.{cycle_of, Tells}
use Rattle.pv_references.specs.declared.faults.NoReferences.{NoReferences}
use Rattle.pv_references.proofs.Lists.{drop_here}

-- the flag of a node, and those behind it
marked_here : (flags : List Bool) (i : ℕ) (n : Node) (ns : List Node)
    → with_name (marked_at (slice_get flags i) (out-Node n).own_ref) (named_marked (drop (i + 1) flags) ns) ≡ named_marked (drop i flags) (n ∷ ns)
marked_here [] zero n [] = refl
marked_here [] zero n (m ∷ ns) = refl
marked_here [] (suc i) n [] = refl
marked_here [] (suc i) n (m ∷ ns) = let next : suc i + 1 ≡ suc (i + 1) = omega arith in ap (λ k. named_marked (drop k []) (m ∷ ns)) next
marked_here (flag ∷ flags) zero n ns = refl
marked_here (flag ∷ flags) (suc i) n ns =
    let next : suc i + 1 ≡ suc (i + 1) = omega arith in
    ap (λ k. with_name (marked_at (slice_get flags i) (out-Node n).own_ref) (named_marked (drop k (flag ∷ flags)) ns)) next
    ∙ marked_here flags i n ns

-- one node more
pub marked_more : (flags : List Bool) (ns : List (Bor Node)) (i : ℕ) (n : Bor Node) (some new whole : List (List ℕ)) (o : Option (List ℕ)) → slice_get ns i ≡ Some n
    → o ≡ marked_at (slice_get flags i) (out-Node n.now).own_ref → ((more : List (List ℕ)) → new ++ more ≡ some ++ with_name o more)
    → some ++ named_marked (drop i flags) (nodes_lent (drop i ns)) ≡ whole → new ++ named_marked (drop (i + 1) flags) (nodes_lent (drop (i + 1) ns)) ≡ whole
marked_more flags ns i n some new whole o here is added e =
    let rest = nodes_lent (drop (i + 1) ns) in
    added (named_marked (drop (i + 1) flags) rest)
    ∙ ap (λ x. some ++ with_name x (named_marked (drop (i + 1) flags) rest)) is
    ∙ ap (λ names. some ++ names) (marked_here flags i n.now rest)
    ∙ sym (ap (λ xs. some ++ named_marked (drop i flags) (nodes_lent xs)) (drop_here ns i n here))
    ∙ e

-- without a flag that is true
unmarked : (flags : List Bool) (ns : List Node) → list_any (λ flag. flag) flags ≡ false → named_marked flags ns ≡ []
unmarked flags [] e = refl
unmarked [] (n ∷ ns) e = refl
unmarked (true ∷ flags) (n ∷ ns) e = absurd (true≢false e)
unmarked (false ∷ flags) (n ∷ ns) e = unmarked flags ns e

module _ (root : Node) (g : List (List ℕ)) (is : g ≡ graph_of root) (found : Cycles) (answer : IsAnswer g found) where
  pub no_cycle : (longest : ℕ) → found ≡ Absent longest → cycle_of (cycle_names root) ≡ None
  unfolding cycle_names has_cycle
  no_cycle longest absent =
      let told : IsAnswer g (Absent longest) = subst (IsAnswer g) absent answer in
      ap cycle_of (sym (ap (λ h. named_marked (flags_of h) (preorder root)) is) ∙ unmarked (flags_of g) (preorder root) told.0)

  pub chain_told : (longest : ℕ) → found ≡ Absent longest → longest ≡ chain root
  unfolding chain
  chain_told longest absent =
      let told : IsAnswer g (Absent longest) = subst (IsAnswer g) absent answer in
      told.1 ∙ ap chain_of is

  pub cycle_named : (flags : Vec Bool Global) (lent : List Bool) (ns : List Node) (e : NoReferences) → found ≡ Present flags → lent ≡ flags.items → ns ≡ preorder root
      → Tells e (cycle_of (named_marked lent ns)) → Tells e (cycle_of (cycle_names root))
  unfolding cycle_names
  cycle_named flags lent ns e present items all h =
      let told : IsAnswer g (Present flags) = subst (IsAnswer g) present answer in
      let same : named_marked lent ns ≡ named_marked (flags_of (graph_of root)) (preorder root) =
      ap (λ marks. named_marked marks ns) (items ∙ told.1 ∙ ap flags_of is) ∙ ap (named_marked (flags_of (graph_of root))) all in
      subst (λ names. Tells e (cycle_of names)) same h
