-- The nodes of a schema in a list.
use Rattle.std.proofs.Common.{◌≡◌, ℕ, ◌+◌, List, [], ◌∷◌, ◌++◌, take, Some, None, slice_get, ap, sym, ◌∙◌}
use denote.Ref.{Bor}
use Rattle.std.specs.List.{flat_map}
use Rattle.std.proofs.lemmas.List.{append_assoc, append-nil, map-append}
use Rattle.std.proofs.lemmas.Grind.{flat_map-append}
use Rattle.pv_node.specs.declared.Node.{Node}
use Rattle.pv_node.specs.Places.{Slot, slots_of}
use Rattle.pv_node.specs.Preorder.{preorder, optional, written}
use Rattle.pv_node.proofs.Preorder.{preorder_opens}
use Rattle.pv_references.specs.Nodes.{nodes_lent}
use Rattle.pv_references.proofs.Lists.{take_here, take_past}

-- the nodes that slots hold
abbrev pub inside : List (Slot Node) → List Node
inside ss = flat_map preorder (written ss)

-- a node, and those inside it that its first slots hold
abbrev pub begun : Node → ℕ → List Node
begun n i = n ∷ inside (take i (slots_of n))

written_more : (ss : List (Slot Node)) (slot : Slot Node) → written (ss ++ slot ∷ []) ≡ written ss ++ optional slot.node
written_more ss slot = flat_map-append (λ s. optional s.node) ss (slot ∷ []) ∙ ap (λ ns. written ss ++ ns) (append-nil (optional slot.node))

pub inside_more : (ss : List (Slot Node)) (i : ℕ) (slot : Slot Node) → slice_get ss i ≡ Some slot → inside (take (i + 1) ss) ≡ inside (take i ss) ++ flat_map preorder (optional slot.node)
inside_more ss i slot here =
    ap inside (take_here ss i slot here)
    ∙ ap (flat_map preorder) (written_more (take i ss) slot)
    ∙ flat_map-append preorder (written (take i ss)) (optional slot.node)

begun_more : (n : Node) (i : ℕ) (slot : Slot Node) → slice_get (slots_of n) i ≡ Some slot → begun n (i + 1) ≡ begun n i ++ flat_map preorder (optional slot.node)
begun_more n i slot here = ap (λ ns. n ∷ ns) (inside_more (slots_of n) i slot here)

pub first_node : (n : Node) (start pushed : List (Bor Node)) (here : Bor Node) → here.now ≡ n → pushed ≡ start ++ here ∷ [] → nodes_lent pushed ≡ nodes_lent start ++ begun n 0
first_node n start pushed here same e =
    ap nodes_lent e ∙ map-append (λ b. b.now) start (here ∷ []) ∙ ap (λ m. nodes_lent start ++ m ∷ []) same

pub node_none : (n : Node) (start all : List (Bor Node)) (i : ℕ) (slot : Slot Node) → slice_get (slots_of n) i ≡ Some slot → slot.node ≡ None
    → nodes_lent all ≡ nodes_lent start ++ begun n i → nodes_lent all ≡ nodes_lent start ++ begun n (i + 1)
node_none n start all i slot here none e =
    e ∙ ap (λ ns. nodes_lent start ++ ns)
    (sym (begun_more n i slot here ∙ ap (λ o. begun n i ++ flat_map preorder (optional o)) none ∙ append-nil (begun n i)))

pub node_more : (n : Node) (start all more : List (Bor Node)) (i : ℕ) (slot : Slot Node) (m : Node) → slice_get (slots_of n) i ≡ Some slot → slot.node ≡ Some m
    → nodes_lent all ≡ nodes_lent start ++ begun n i → nodes_lent more ≡ nodes_lent all ++ preorder m → nodes_lent more ≡ nodes_lent start ++ begun n (i + 1)
node_more n start all more i slot m here is e f =
    f ∙ ap (λ ns. ns ++ preorder m) e ∙ append_assoc (nodes_lent start) (begun n i) (preorder m)
    ∙ ap (λ ns. nodes_lent start ++ ns)
    (sym (begun_more n i slot here ∙ ap (λ o. begun n i ++ flat_map preorder (optional o)) is ∙ ap (λ ns. begun n i ++ ns) (append-nil (preorder m))))

pub nodes_all : (n : Node) (start all : List (Bor Node)) (i : ℕ) → slice_get (slots_of n) i ≡ None
    → nodes_lent all ≡ nodes_lent start ++ begun n i → nodes_lent all ≡ nodes_lent start ++ preorder n
nodes_all n start all i past e =
    e ∙ ap (λ ns. nodes_lent start ++ ns) (ap (λ xs. n ∷ flat_map preorder (written xs)) (take_past (slots_of n) i past) ∙ sym (preorder_opens n))
