-- The nodes of a schema, by those of its child schemas.
use Rattle.std.proofs.Common.{◌≡◌, List, [], ◌∷◌, ◌++◌, map, Option, Some, None, refl, ap, sym, ◌∙◌}
use Rattle.std.proofs.lemmas.List.{append-nil, map-append}
use Rattle.std.proofs.lemmas.Grind.{flat_map-append}
use Rattle.std.specs.List.{flat_map}
use Rattle.pv_rules.specs.Settings.{plain}
use Rattle.pv_rules.specs.declared.Settings.{Settings}
use Rattle.pv_node.specs.declared.node.Node.{Node}
use Rattle.pv_node.specs.Places.{Path, Slot, slots_of, under, Place, places, places_of, places_at, places_in}
use Rattle.pv_node.specs.Preorder.{preorder, parts, optional, written}
use Rattle.pv_node.proofs.Openings.{opens}
use Rattle.pv_node.proofs.Shapes.{behind, unset, moves, free}

abbrev node_in : Place → Node
node_in p = p.node

same_nodes : (h : Place → Place) → ((p : Place) → (h p).node ≡ p.node) → (ps : List Place) → map node_in (map h ps) ≡ map node_in ps
same_nodes h e [] = refl
same_nodes h e (p ∷ ps) = ap (λ n. n ∷ map node_in (map h ps)) (e p) ∙ ap (λ ns. p.node ∷ ns) (same_nodes h e ps)

nodes_at : (p : Path) (s : Settings) (o : Option Node) → map node_in (places_at p s o) ≡ flat_map preorder (optional o)
unfolding preorder
nodes_at p s None = refl
nodes_at p s (Some n) =
    ap (λ q. map node_in (places_of q n s)) (sym (append-nil p)) ∙ ap (map node_in) (moves n p [] s) ∙ same_nodes (behind p) (λ q. refl) (places_of [] n s)
    ∙ sym (same_nodes unset (λ q. refl) (places_of [] n s)) ∙ ap (map node_in) (free n [] s plain) ∙ same_nodes unset (λ q. refl) (places_of [] n plain)
    ∙ sym (append-nil (map node_in (places n)))

nodes_in : (s : Settings) (ss : List (Slot Node)) → map node_in (flat_map (places_in [] s) ss) ≡ flat_map preorder (written ss)
nodes_in s [] = refl
nodes_in s (slot ∷ ss) =
    map-append node_in (places_in [] s slot) (flat_map (places_in [] s) ss)
    ∙ ap (λ ns. ns ++ map node_in (flat_map (places_in [] s) ss)) (nodes_at slot.path s slot.node)
    ∙ ap (λ ns. flat_map preorder (optional slot.node) ++ ns) (nodes_in s ss)
    ∙ sym (flat_map-append preorder (optional slot.node) (written ss))

pub preorder_opens : (n : Node) → preorder n ≡ n ∷ flat_map preorder (parts n)
unfolding preorder
preorder_opens n = ap (map node_in) (opens [] n plain) ∙ ap (λ ns. n ∷ ns) (nodes_in (under n plain) (slots_of n))
