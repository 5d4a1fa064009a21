-- The places of a node stand alike wherever the node stands, and whatever its settings are.
use Rattle.std.proofs.Common.{◌≡◌, List, [], ◌∷◌, ◌++◌, map, Option, Some, None, refl, ap, sym, ◌∙◌}
use Rattle.std.proofs.lemmas.List.{append_assoc, map-append}
use Rattle.std.specs.List.{flat_map}
use Rattle.pv_rules.specs.declared.Settings.{Settings}
use Rattle.pv_node.specs.declared.node.Node.{Node}
use Rattle.pv_node.specs.Places.{Path, Slot, slots_of, under, Place, place_at, places_of, places_at, places_in}
use Rattle.pv_rules.specs.Settings.{plain}
use Rattle.pv_node.proofs.Openings.{opens}
use Rattle.pv_node.proofs.Induction.{OnNode, InSlots, by_slots}

abbrev pub behind : Path → Place → Place
behind p place = record { path = p ++ place.path; node = place.node; settings = place.settings }

abbrev pub unset : Place → Place
unset place = record { path = place.path; node = place.node; settings = plain }

-- what two maps make the same in each slot they make the same in all
abbrev Moves : Node → Type 0
Moves n = (p q : Path) (s : Settings) → places_of (p ++ q) n s ≡ map (behind p) (places_of q n s)

moves_at : (p q : Path) (s : Settings) (o : Option Node) → OnNode Moves o → places_at (p ++ q) s o ≡ map (behind p) (places_at q s o)
moves_at p q s None h = refl
moves_at p q s (Some n) h = h p q s

moves_in : (p q : Path) (s : Settings) (ss : List (Slot Node)) → InSlots Moves ss → flat_map (places_in (p ++ q) s) ss ≡ map (behind p) (flat_map (places_in q s) ss)
moves_in p q s [] h = refl
moves_in p q s (slot ∷ ss) h =
    let rest = flat_map (places_in (p ++ q) s) ss in
    ap (λ path. places_at path s slot.node ++ rest) (append_assoc p q slot.path)
    ∙ ap (λ ps. ps ++ rest) (moves_at p (q ++ slot.path) s slot.node h.0)
    ∙ ap (λ ps. map (behind p) (places_in q s slot) ++ ps) (moves_in p q s ss h.1)
    ∙ sym (map-append (behind p) (places_in q s slot) (flat_map (places_in q s) ss))

pub moves : (n : Node) → Moves n
moves = by_slots Moves (λ n h p q s.
    opens (p ++ q) n s
    ∙ ap (λ ps. place_at (p ++ q) n s ∷ ps) (moves_in p q (under n s) (slots_of n) h)
    ∙ sym (ap (map (behind p)) (opens q n s)))

abbrev Free : Node → Type 0
Free n = (p : Path) (s t : Settings) → map unset (places_of p n s) ≡ map unset (places_of p n t)

free_at : (p : Path) (s t : Settings) (o : Option Node) → OnNode Free o → map unset (places_at p s o) ≡ map unset (places_at p t o)
free_at p s t None h = refl
free_at p s t (Some n) h = h p s t

free_in : (p : Path) (s t : Settings) (ss : List (Slot Node)) → InSlots Free ss → map unset (flat_map (places_in p s) ss) ≡ map unset (flat_map (places_in p t) ss)
free_in p s t [] h = refl
free_in p s t (slot ∷ ss) h =
    map-append unset (places_in p s slot) (flat_map (places_in p s) ss)
    ∙ ap (λ ps. ps ++ map unset (flat_map (places_in p s) ss)) (free_at (p ++ slot.path) s t slot.node h.0)
    ∙ ap (λ ps. map unset (places_in p t slot) ++ ps) (free_in p s t ss h.1)
    ∙ sym (map-append unset (places_in p t slot) (flat_map (places_in p t) ss))

pub free : (n : Node) → Free n
free = by_slots Free (λ n h p s t.
    ap (map unset) (opens p n s)
    ∙ ap (λ ps. record { path = p; node = n; settings = plain } ∷ ps) (free_in p (under n s) (under n t) (slots_of n) h)
    ∙ sym (ap (map unset) (opens p n t)))
