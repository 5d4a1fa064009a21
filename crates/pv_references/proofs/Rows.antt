-- The rows of a graph, laid one after another.
use Rattle.std.proofs.Common.{◌≡◌, ℕ, suc, ◌+◌, ◌-◌, List, [], ◌∷◌, ◌++◌, length, take, slice_get, slice_set, Option, Some, None, refl, ap, sym, ◌∙◌, arith}
use Rattle.std.specs.List.{flat_map}
use Rattle.std.proofs.lemmas.List.{length-append, length-map, append-nil, append_assoc, set-append_right}
use Rattle.std.proofs.lemmas.Grind.{flat_map-append}
use Rattle.pv_node.specs.declared.Node.{Node}
use Rattle.pv_node.specs.Places.{Slot, body_of, places, slots_of}
use Rattle.pv_node.specs.Preorder.{preorder, node_count, count_at, slots_count, optional, parts, written}
use Rattle.pv_node.proofs.Counts.{count_first}
use Rattle.pv_node.proofs.Preorder.{preorder_opens}
use Rattle.pv_references.specs.Targets.{reference_of}
use Rattle.pv_references.specs.Edges.{stays_by, staying, target_of, leads_to, graph_from, graph_of}
use Rattle.pv_references.proofs.Lists.{take_here, take_past}
use Rattle.pv_references.proofs.Listed.{inside, inside_more}

length_preorder : (n : Node) → length (preorder n) ≡ node_count n
unfolding preorder node_count
length_preorder n = length-map (places n) (λ place. place.node)

length_optional : (o : Option Node) → length (flat_map preorder (optional o)) ≡ count_at o
length_optional None = refl
length_optional (Some n) = ap length (append-nil (preorder n)) ∙ length_preorder n

length_inside : (ss : List (Slot Node)) → length (inside ss) ≡ slots_count ss
length_inside [] = refl
length_inside (slot ∷ ss) =
    ap length (flat_map-append preorder (optional slot.node) (written ss))
    ∙ length-append (flat_map preorder (optional slot.node)) (inside ss)
    ∙ ap (λ k. k + length (inside ss)) (length_optional slot.node)
    ∙ ap (λ k. count_at slot.node + k) (length_inside ss)
    ∙ sym (count_first slot ss)

staying_push : (at : ℕ) (ss : List (Slot Node)) (slot : Slot Node) → staying at (ss ++ slot ∷ []) ≡ staying at ss ++ stays_by slot.edge slot.node (at + slots_count ss)
staying_push at [] slot =
    let none : at ≡ at + slots_count [] = omega arith in
    append-nil (stays_by slot.edge slot.node at) ∙ ap (stays_by slot.edge slot.node) none
staying_push at (x ∷ ss) slot =
    let size = count_first x ss in
    let same : at + count_at x.node + slots_count ss ≡ at + slots_count (x ∷ ss) = omega (arith, size) in
    let here = stays_by x.edge x.node at in
    ap (λ ks. here ++ ks) (staying_push (at + count_at x.node) ss slot)
    ∙ sym (append_assoc here (staying (at + count_at x.node) ss) _)
    ∙ ap (λ k. staying at (x ∷ ss) ++ stays_by slot.edge slot.node k) same

module _ (root : Node) where
  pub length_rows : (at : ℕ) (ns : List Node) → length (graph_from root at ns) ≡ length ns
  unfolding graph_from
  length_rows at [] = refl
  length_rows at (n ∷ ns) = ap suc (length_rows (at + 1) ns)

  rows_append : (at : ℕ) (ns ms : List Node) → graph_from root at (ns ++ ms) ≡ graph_from root at ns ++ graph_from root (at + length ns) ms
  unfolding graph_from
  rows_append at [] ms = let none : at ≡ at + 0 = omega arith in ap (λ k. graph_from root k ms) none
  rows_append at (n ∷ ns) ms =
      let same : at + 1 + length ns ≡ at + suc (length ns) = omega arith in
      ap (λ rs. leads_to root at n ∷ rs) (rows_append (at + 1) ns ms ∙ ap (λ k. graph_from root (at + 1) ns ++ graph_from root k ms) same)

  length_laid : (old rows : List (List ℕ)) (ns : List Node) → rows ≡ old ++ graph_from root (length old) ns → length rows ≡ length old + length ns
  length_laid old rows ns e = ap length e ∙ length-append old (graph_from root (length old) ns) ∙ ap (λ k. length old + k) (length_rows (length old) ns)

  -- two parts, one after the other
  joined : (old rows new : List (List ℕ)) (ns ms : List Node) → rows ≡ old ++ graph_from root (length old) ns → new ≡ rows ++ graph_from root (length rows) ms
      → new ≡ old ++ graph_from root (length old) (ns ++ ms)
  joined old rows new ns ms e f =
      f ∙ ap (λ k. rows ++ graph_from root k ms) (length_laid old rows ns e) ∙ ap (λ t. t ++ graph_from root (length old + length ns) ms) e
      ∙ append_assoc old (graph_from root (length old) ns) _ ∙ ap (λ rs. old ++ rs) (sym (rows_append (length old) ns ms))

  -- one more slot
  pub rows_more : (old rows new : List (List ℕ)) (ss : List (Slot Node)) (i : ℕ) (slot : Slot Node) → slice_get ss i ≡ Some slot
      → rows ≡ old ++ graph_from root (length old) (inside (take i ss)) → new ≡ rows ++ graph_from root (length rows) (flat_map preorder (optional slot.node))
      → new ≡ old ++ graph_from root (length old) (inside (take (i + 1) ss))
  rows_more old rows new ss i slot here e f =
      joined old rows new (inside (take i ss)) (flat_map preorder (optional slot.node)) e f
      ∙ ap (λ ns. old ++ graph_from root (length old) ns) (sym (inside_more ss i slot here))

  pub rows_all : (old rows : List (List ℕ)) (ss : List (Slot Node)) (i : ℕ) → slice_get ss i ≡ None
      → rows ≡ old ++ graph_from root (length old) (inside (take i ss)) → rows ≡ old ++ graph_from root (length old) (inside ss)
  rows_all old rows ss i past e = e ∙ ap (λ xs. old ++ graph_from root (length old) (inside xs)) (take_past ss i past)

  pub row_more : (old rows : List (List ℕ)) (start some new : List ℕ) (ss : List (Slot Node)) (i : ℕ) (slot : Slot Node) → slice_get ss i ≡ Some slot
      → rows ≡ old ++ graph_from root (length old) (inside (take i ss))
      → some ≡ start ++ staying (length old) (take i ss) → new ≡ some ++ stays_by slot.edge slot.node (length rows)
      → new ≡ start ++ staying (length old) (take (i + 1) ss)
  row_more old rows start some new ss i slot here t f g =
      let before = staying (length old) (take i ss) in
      let size : length rows ≡ length old + slots_count (take i ss) = length_laid old rows _ t ∙ ap (λ k. length old + k) (length_inside (take i ss)) in
      g ∙ ap (λ ks. ks ++ stays_by slot.edge slot.node (length rows)) f ∙ append_assoc start before (stays_by slot.edge slot.node (length rows))
      ∙ ap (λ k. start ++ (before ++ stays_by slot.edge slot.node k)) size
      ∙ ap (λ ks. start ++ ks) (sym (staying_push (length old) (take i ss) slot))
      ∙ sym (ap (λ xs. start ++ staying (length old) xs) (take_here ss i slot here))

  pub row_all : (at : ℕ) (start row : List ℕ) (ss : List (Slot Node)) (i : ℕ) → slice_get ss i ≡ None → row ≡ start ++ staying at (take i ss) → row ≡ start ++ staying at ss
  row_all at start row ss i past e = e ∙ ap (λ xs. start ++ staying at xs) (take_past ss i past)

  -- in a slot with nothing
  pub rows_none : (old : List (List ℕ)) (slot : Slot Node) → slot.node ≡ None → old ≡ old ++ graph_from root (length old) (flat_map preorder (optional slot.node))
  unfolding graph_from
  rows_none old slot none = sym (append-nil old) ∙ sym (ap (λ o. old ++ graph_from root (length old) (flat_map preorder (optional o))) none)

  -- a row that is put in its place once those that follow it are laid
  pub laid : (n : Node) (old mid rows new : List (List ℕ)) (at : ℕ) (bare none some row : List ℕ) → at ≡ length old → mid ≡ old ++ bare ∷ []
      → rows ≡ mid ++ graph_from root (length mid) (flat_map preorder (parts n)) → none ≡ [] → some ≡ none ++ staying (length mid) (slots_of n)
      → row ≡ some ++ target_of root (reference_of (body_of n)) → new ≡ slice_set rows at row
      → new ≡ old ++ graph_from root (length old) (preorder n)
  unfolding graph_from
  laid n old mid rows new at bare none some row place e f empty num target g =
      let inner = flat_map preorder (parts n) in
      let size : length mid ≡ length old + 1 = ap length e ∙ length-append old (bare ∷ []) in
      let rest = graph_from root (length old + 1) inner in
      let whole : rows ≡ old ++ bare ∷ rest =
      f ∙ ap (λ k. mid ++ graph_from root k inner) size ∙ ap (λ t. t ++ rest) e ∙ append_assoc old (bare ∷ []) _ in
      let same : length old - length old ≡ 0 = omega arith in
      let right : row ≡ leads_to root (length old) n =
      target ∙ ap (λ ks. ks ++ target_of root (reference_of (body_of n)))
      (num ∙ ap (λ ks. ks ++ staying (length mid) (slots_of n)) empty ∙ ap (λ k. staying k (slots_of n)) size) in
      g
      ∙ ap (λ k. slice_set rows k row) place
      ∙ ap (λ t. slice_set t (length old) row) whole
      ∙ set-append_right old _ (length old) (length old) row refl (omega arith)
      ∙ ap (λ k. old ++ slice_set (bare ∷ rest) k row) same
      ∙ ap (λ ks. old ++ ks ∷ rest) right
      ∙ ap (λ ns. old ++ graph_from root (length old) ns) (sym (preorder_opens n))

  -- all rows of a schema
  pub rows_of_all : (seen : Node) (mid rows : List (List ℕ)) → mid ≡ [] → seen ≡ root → rows ≡ mid ++ graph_from root (length mid) (preorder seen) → rows ≡ graph_of root
  unfolding graph_of
  rows_of_all seen mid rows empty same e = e ∙ ap (λ m. m ++ graph_from root (length m) (preorder seen)) empty ∙ ap (λ n. graph_from root 0 (preorder n)) same
