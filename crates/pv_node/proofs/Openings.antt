-- The places of a node, by those of its slots.
use Rattle.std.proofs.Common.{◌≡◌, ℕ, ◌+◌, List, [], ◌∷◌, ◌++◌, map, codes, refl, ap, sym, ◌∙◌, Option, Some, None}
use Rattle.std.proofs.Math.Path.{fun_ext}
use Rattle.std.specs.List.{flat_map}
use Rattle.std.specs.Option.{option_map}
use Rattle.pv_tree.specs.declared.Step.TheVariants.{Name}
use Rattle.pv_rules.specs.declared.Settings.{Settings}
use Rattle.pv_node.specs.declared.node.Node.{Node, rec-roll-Node, roll-out-Node, out-Node, roll-Node, rec-Node}
use Rattle.pv_node.specs.declared.node.Body.{Body, rec-roll-Body, roll-out-Body, roll-Body, rec-Body, map-Body}
use Rattle.pv_node.specs.declared.node.Body.TheOpen.{Body-F, Node-F}
use Rattle.pv_node.specs.declared.child_slot.Edge.{Edge}
use Rattle.pv_node.specs.declared.child_slot.Edge.TheVariants.{Enters, Stays, Absent}
use Rattle.pv_node.specs.Places.{Path, Slot, listed, position_path, field_path, choice_path, tag_path, extras_slots, slots, slots_of, body_of, under, Place, place_at, Inside, held, held_in, body_step, node_step, places_of, places_at, places_in}

-- a step that reads the slots alone
module _ {Y : Type 0} (v : Y → Node) (k : Node → Inside) (p : Path) (s : Settings) where
  of_listed : (path : ℕ → Path) (edge : Edge) (i : ℕ) (ys : List Y)
      → flat_map (held_in v (λ y. k (v y)) p s) (listed path edge i ys) ≡ flat_map (held_in (λ n. n) k p s) (listed path edge i (map v ys))
  of_listed path edge i [] = refl
  of_listed path edge i (y ∷ ys) = ap (λ ps. held (λ n. n) k (p ++ path i) s (Some (v y)) ++ ps) (of_listed path edge (i + 1) ys)

  of_fields : (path : ℕ → Path) (edge : Edge) (i : ℕ) (ys : List Y) (o : Option Y)
      → flat_map (held_in v (λ y. k (v y)) p s) (listed path edge i ys ++ extras_slots o) ≡ flat_map (held_in (λ n. n) k p s) (listed path edge i (map v ys) ++ extras_slots (option_map v o))
  of_fields path edge i [] None = refl
  of_fields path edge i [] (Some y) = refl
  of_fields path edge i (y ∷ ys) o = ap (λ ps. held (λ n. n) k (p ++ path i) s (Some (v y)) ++ ps) (of_fields path edge (i + 1) ys o)

abbrev as_inside : (Path → Settings → List Place) → Inside
as_inside f = record { places = f }

body_natural : (X X' : Type 0) (v : X → Body) (v' : X' → Node) (k : Body → Inside) (k' : Node → Inside) (x : Body-F X X')
    → body_step X X' v v' (λ p. k (v p)) (λ p. k' (v' p)) x ≡ body_step Body Node (λ y. y) (λ y. y) k k' (map-Body X X' Body Node v v' x)
body_natural X X' v v' k k' (Body-F.Scalar rule) = refl
body_natural X X' v v' k k' (Body-F.Sequence rule None) = refl
body_natural X X' v v' k k' (Body-F.Sequence rule (Some n)) = refl
body_natural X X' v v' k k' (Body-F.Tuple rule ns) = ap as_inside (fun_ext (λ p. fun_ext (λ s. of_listed v' k' p s (position_path (codes "items_schema")) Enters 0 ns)))
body_natural X X' v v' k k' (Body-F.Dict rule None None) = refl
body_natural X X' v v' k k' (Body-F.Dict rule None (Some m)) = refl
body_natural X X' v v' k k' (Body-F.Dict rule (Some n) None) = refl
body_natural X X' v v' k k' (Body-F.Dict rule (Some n) (Some m)) = refl
body_natural X X' v v' k k' (Body-F.Nullable n) = refl
body_natural X X' v v' k k' (Body-F.Fields rule ns None config cls) = ap as_inside (fun_ext (λ p. fun_ext (λ s. of_fields v' k' p s (field_path rule.fields) Enters 0 ns None)))
body_natural X X' v v' k k' (Body-F.Fields rule ns (Some n) config cls) = ap as_inside (fun_ext (λ p. fun_ext (λ s. of_fields v' k' p s (field_path rule.fields) Enters 0 ns (Some n))))
body_natural X X' v v' k k' (Body-F.Model cls root config n) = refl
body_natural X X' v v' k k' (Body-F.Default d validate on_error n) = refl
body_natural X X' v v' k k' (Body-F.Union rule ns) = ap as_inside (fun_ext (λ p. fun_ext (λ s. of_listed v' k' p s (choice_path rule.labels) Stays 0 ns)))
body_natural X X' v v' k k' (Body-F.TaggedUnion rule ns) = ap as_inside (fun_ext (λ p. fun_ext (λ s. of_listed v' k' p s (tag_path rule.tags) Stays 0 ns)))
body_natural X X' v v' k k' (Body-F.LaxOrStrict n m) = refl
body_natural X X' v v' k k' (Body-F.JsonOrPython n) = refl
body_natural X X' v v' k k' (Body-F.CustomError kind message n) = refl
body_natural X X' v v' k k' (Body-F.Before rule n) = refl
body_natural X X' v v' k k' (Body-F.After rule n) = refl
body_natural X X' v v' k k' (Body-F.Wrap rule n) = refl
body_natural X X' v v' k k' (Body-F.Plain rule) = refl
body_natural X X' v v' k k' (Body-F.Definitions n ns) = ap as_inside (fun_ext (λ p. fun_ext (λ s.
    ap (λ ps. held (λ n. n) k' (p ++ Name (codes "schema") ∷ []) s (Some (v' n)) ++ ps) (of_listed v' k' p s (position_path (codes "definitions")) Absent 0 ns))))
body_natural X X' v v' k k' (Body-F.DefinitionRef name) = refl

inside_body : (b : Body-F Body Node) (p : Path) (s : Settings) → (rec-Body Inside Inside body_step node_step (roll-Body b)).places p s ≡ flat_map (held_in (λ n. n) (rec-Node Inside Inside body_step node_step) p s) (slots b)
inside_body b p s = ap (λ i. i.places p s) (rec-roll-Body Inside Inside body_step node_step body_natural b)

inside_node : (n : Node-F Body Node) (p : Path) (s : Settings) → (rec-Node Inside Inside body_step node_step (roll-Node n)).places p s ≡ (rec-Body Inside Inside body_step node_step n.body).places p s
inside_node n p s = ap (λ i. i.places p s) (rec-roll-Node Inside Inside body_step node_step (λ X X' v v' k k' x. refl) n)

held_is : (p : Path) (s : Settings) (n : Option Node) → held (λ n. n) (rec-Node Inside Inside body_step node_step) p s n ≡ places_at p s n
unfolding places_of
held_is p s None = refl
held_is p s (Some n) = refl

each_slot : (p : Path) (s : Settings) (ss : List (Slot Node)) → flat_map (held_in (λ n. n) (rec-Node Inside Inside body_step node_step) p s) ss ≡ flat_map (places_in p s) ss
each_slot p s ss = ap (λ f. flat_map f ss) (fun_ext (λ slot. held_is (p ++ slot.path) s slot.node))

pub opens : (p : Path) (n : Node) (s : Settings) → places_of p n s ≡ place_at p n s ∷ flat_map (places_in p (under n s)) (slots_of n)
unfolding places_of
opens p n s =
    let t = under n s in
    ap (λ ps. place_at p n s ∷ ps)
    (ap (λ m. (rec-Node Inside Inside body_step node_step m).places p t) (sym (roll-out-Node n))
    ∙ inside_node (out-Node n) p t
    ∙ ap (λ b. (rec-Body Inside Inside body_step node_step b).places p t) (sym (roll-out-Body (out-Node n).body))
    ∙ inside_body (body_of n) p t
    ∙ each_slot p t (slots_of n))
