-- The table of a schema stands for it.
use Rattle.std.proofs.Common.{◌≡◌, ℕ, zero, suc, ◌+◌, ◌≤◌, Bool, true, false, if◌then◌else◌, List, [], ◌∷◌, ◌++◌, map, length, drop, Option, Some, None, slice_get, unwrap_or, is_some, true≢false, refl, ap, sym, ◌∙◌, arith}
use Rattle.std.specs.List.{find, flat_map}
use Rattle.std.proofs.Math.Seq.{drop-append_seam}
use Rattle.std.proofs.lemmas.List.{append_assoc, append-nil}
use Rattle.std.proofs.lemmas.Grind.{flat_map-append}
use Rattle.pv_rules.specs.Settings.{plain}
use Rattle.pv_node.specs.declared.Node.{Node}
use Rattle.pv_node.specs.Places.{Path, Slot, Place, place_at, places, places_at, places_in, root_place, body_of, slots_of}
use Rattle.pv_node.specs.Preorder.{node_count, count_at, preorder}
use Rattle.pv_node.specs.References.{has_name, place_named}
use Rattle.pv_node.proofs.Openings.{opens}
use Rattle.pv_node.proofs.Counts.{count_placed}
use Rattle.pv_references.specs.Targets.{reference_of}
use Rattle.pv_references.specs.Numbers.{number_from, number_named}
use Rattle.pv_plan.proofs.Absent.{no_slots}
use Rattle.pv_plan.specs.Records.{Stands, all_places, any_place, place_under, place_or_any, child_at, children_by, target}
use Rattle.pv_plan.specs.Layout.{number_of, numbers, children_at, record_at, table_from, table_of}

-- a place and those inside it
abbrev whole : Place → List Place
whole q = q ∷ flat_map (places_in q.path q.settings) (slots_of q.node)

abbrev all_of : List Place → List Place
all_of = flat_map whole

-- the places of the child schemas that are written in slots of a place
abbrev kid : Place → Path → Option Node → List Place
kid q p None = []
kid q p (Some n) = place_at (q.path ++ p) n q.settings ∷ []

abbrev kids : Place → List (Slot Node) → List Place
kids q [] = []
kids q (slot ∷ ss) = kid q slot.path slot.node ++ kids q ss

inside_one : (q : Place) (p : Path) (o : Option Node) → places_at (q.path ++ p) q.settings o ≡ all_of (kid q p o)
inside_one q p None = refl
inside_one q p (Some n) = opens (q.path ++ p) n q.settings ∙ sym (append-nil (whole (place_at (q.path ++ p) n q.settings)))

inside_all : (q : Place) (ss : List (Slot Node)) → flat_map (places_in q.path q.settings) ss ≡ all_of (kids q ss)
inside_all q [] = refl
inside_all q (slot ∷ ss) =
    ap (λ ps. ps ++ flat_map (places_in q.path q.settings) ss) (inside_one q slot.path slot.node)
    ∙ ap (λ ps. all_of (kid q slot.path slot.node) ++ ps) (inside_all q ss)
    ∙ sym (flat_map-append whole (kid q slot.path slot.node) (kids q ss))

more : (q : Place) (qs : List Place) → all_of (q ∷ qs) ≡ q ∷ all_of (kids q (slots_of q.node) ++ qs)
more q qs =
    ap (λ ps. q ∷ (ps ++ all_of qs)) (inside_all q (slots_of q.node))
    ∙ ap (λ ps. q ∷ ps) (sym (flat_map-append whole (kids q (slots_of q.node)) qs))

-- after a place of a forest comes all that is inside it
forest : (k : ℕ) (qs : List Place) (i : ℕ) (q : Place) → length (all_of qs) ≤ k → slice_get (all_of qs) i ≡ Some q
    → (rest : List Place) × (drop i (all_of qs) ≡ whole q ++ rest)
forest k [] i q l e = absurd (true≢false (sym (ap is_some e)))
forest zero (m ∷ qs) i q l e = absurd (let s = ap length (more m qs) in omega (arith, s, l))
forest (suc k) (m ∷ qs) zero q l e =
    let here : m ≡ q = ap (λ o. unwrap_or o m) (sym (ap (λ xs. slice_get xs 0) (more m qs)) ∙ e) in
    (all_of qs, ap (λ x. whole x ++ all_of qs) here)
forest (suc k) (m ∷ qs) (suc j) q l e =
    let s = ap length (more m qs) in
    let ih = forest k (kids m (slots_of m.node) ++ qs) j q (omega (arith, s, l)) (sym (ap (λ xs. slice_get xs (suc j)) (more m qs)) ∙ e) in
    (ih.0, ap (drop (suc j)) (more m qs) ∙ ih.1)

head : (all : List Place) (at : ℕ) (q : Place) (rest : List Place) → drop at all ≡ q ∷ rest → slice_get all at ≡ Some q
head [] zero q rest e = absurd (let l = ap length e in omega (arith, l))
head [] (suc at) q rest e = absurd (let l = ap length e in omega (arith, l))
head (x ∷ all) zero q rest e = ap (λ xs. slice_get xs 0) e
head (x ∷ all) (suc at) q rest e = head all at q rest e

abbrev the_empty : List Place
the_empty = []

drop_nil : (n : ℕ) → drop n (the_empty) ≡ the_empty
drop_nil zero = refl
drop_nil (suc n) = refl

drop_plus : (i k : ℕ) (xs : List Place) → drop (i + k) xs ≡ drop k (drop i xs)
drop_plus zero k xs = let same : 0 + k ≡ k = omega arith in ap (λ n. drop n xs) same
drop_plus (suc i) k [] = drop_nil (suc i + k) ∙ sym (drop_nil k)
drop_plus (suc i) k (x ∷ xs) = let same : suc i + k ≡ suc (i + k) = omega arith in ap (λ n. drop n (x ∷ xs)) same ∙ drop_plus i k xs

past : (all : List Place) (at : ℕ) (ps rest : List Place) → drop at all ≡ ps ++ rest → drop (at + length ps) all ≡ rest
past all at ps rest e = drop_plus at (length ps) all ∙ ap (drop (length ps)) e ∙ drop-append_seam ps rest

module _ (all : List Place) (last : ℕ) (absent : slice_get all last ≡ Some any_place) (q : Place) where
  -- the number of a child schema leads to its place, and behind it come the others
  leads : (at : ℕ) (p : Path) (o : Option Node) (rest : List Place) → drop at all ≡ all_of (kid q p o) ++ rest
      → (slice_get all (number_of last at o) ≡ Some (place_under q p o)) × (drop (at + count_at o) all ≡ rest)
  leads at p None rest e = (absent, let none : at + 0 ≡ at = omega arith in ap (λ k. drop k all) none ∙ e)
  leads at p (Some n) rest e =
      let here = place_at (q.path ++ p) n q.settings in
      let alone : drop at all ≡ whole here ++ rest = e ∙ ap (λ ps. ps ++ rest) (append-nil (whole here)) in
      let size : length (whole here) ≡ node_count n = sym (ap length (opens (q.path ++ p) n q.settings)) ∙ count_placed (q.path ++ p) q.settings n in
      (head all at here _ alone, sym (ap (λ k. drop (at + k) all) size) ∙ past all at (whole here) rest alone)

  following : (at : ℕ) (ss : List (Slot Node)) (rest : List Place) → drop at all ≡ all_of (kids q ss) ++ rest
      → map (slice_get all) (numbers last at ss) ≡ map Some (map (child_at q) ss)
  following at [] rest e = refl
  following at (slot ∷ ss) rest e =
      let apart = flat_map-append whole (kid q slot.path slot.node) (kids q ss) in
      let split = e ∙ ap (λ ps. ps ++ rest) apart ∙ append_assoc (all_of (kid q slot.path slot.node)) (all_of (kids q ss)) rest in
      let here = leads at slot.path slot.node (all_of (kids q ss) ++ rest) split in
      ap (λ o. o ∷ map (slice_get all) (numbers last (at + count_at slot.node) ss)) here.0
      ∙ ap (λ os. Some (child_at q slot) ∷ os) (following (at + count_at slot.node) ss rest here.1)

-- the number of a name leads to the place that has it
module _ (all : List Place) (last : ℕ) (absent : slice_get all last ≡ Some any_place) (name : List ℕ) where
  led_by : (b : Bool) (at : ℕ) (p : Place) (number : Option ℕ) (found : Option Place) → slice_get all at ≡ Some p
      → slice_get all (unwrap_or number last) ≡ Some (place_or_any found)
      → slice_get all (unwrap_or (if b then Some at else number) last) ≡ Some (place_or_any (if b then Some p else found))
  led_by true at p number found here rest = here
  led_by false at p number found here rest = rest

  led : (at : ℕ) (ps rest : List Place) → drop at all ≡ ps ++ rest
      → slice_get all (unwrap_or (number_from at name (map (λ p. p.node) ps)) last) ≡ Some (place_or_any (find (λ p. has_name name p.node) ps))
  led at [] rest e = absent
  led at (p ∷ ps) rest e =
      led_by (has_name name p.node) at p (number_from (at + 1) name (map (λ q. q.node) ps)) (find (λ q. has_name name q.node) ps) (head all at p (ps ++ rest) e)
      (led (at + 1) ps rest (past all at (p ∷ []) (ps ++ rest) e))

numbered : (root : Node) (last at : ℕ) (ps : List Place) (i : ℕ) (q : Place) → slice_get ps i ≡ Some q → slice_get (table_from root last at ps) i ≡ Some (record_at root last (at + i) q)
unfolding table_from
numbered root last at [] i q e = absurd (true≢false (sym (ap is_some e)))
numbered root last at (m ∷ ps) zero q e =
    let here : m ≡ q = ap (λ o. unwrap_or o m) e in
    let same : at ≡ at + 0 = omega arith in ap (λ x. Some (record_at root last at x)) here ∙ ap (λ k. Some (record_at root last k q)) same
numbered root last at (m ∷ ps) (suc i) q e =
    let same : at + 1 + i ≡ at + suc i = omega arith in numbered root last (at + 1) ps i q e ∙ ap (λ k. Some (record_at root last k q)) same

module _ (root : Node) where
  alone : whole any_place ≡ any_place ∷ []
  alone = ap (λ ss. any_place ∷ flat_map (places_in [] plain) ss) no_slots

  two : all_of (root_place root ∷ any_place ∷ []) ≡ all_places root
  two = ap (λ ps. ps ++ (whole any_place ++ [])) (sym (opens [] root plain)) ∙ ap (λ ps. places root ++ (ps ++ [])) alone

  absent_is : slice_get (all_places root) (node_count root) ≡ Some any_place
  unfolding node_count
  absent_is = head (all_places root) (length (places root)) any_place [] (drop-append_seam (places root) (any_place ∷ []))

  named : (name : List ℕ) → slice_get (all_places root) (number_named root (node_count root) name) ≡ Some (target root name)
  unfolding preorder place_named
  named name = led (all_places root) (node_count root) absent_is name 0 (places root) (any_place ∷ []) refl

  abbrev Leads : ℕ → Place → Option (List ℕ) → Type 0
  Leads i q o = map (slice_get (all_places root)) (children_at root (node_count root) (i + 1) q o) ≡ map Some (children_by root q o)

  leading : (i : ℕ) (q : Place) (rest : List Place) → drop (i + 1) (all_places root) ≡ all_of (kids q (slots_of q.node)) ++ rest → (o : Option (List ℕ)) → Leads i q o
  leading i q rest e None = following (all_places root) (node_count root) absent_is q (i + 1) (slots_of q.node) rest e
  leading i q rest e (Some name) = ap (λ o. o ∷ []) (named name)

  pub stands : Stands root (table_of root)
  unfolding Stands table_of
  stands i q e =
      let all = all_of (root_place root ∷ any_place ∷ []) in
      let at = forest (length all) (root_place root ∷ any_place ∷ []) i q (omega arith) (ap (λ xs. slice_get xs i) two ∙ e) in
      let here : drop i (all_places root) ≡ whole q ++ at.0 = ap (drop i) (sym two) ∙ at.1 in
      let next = past (all_places root) i (q ∷ []) (flat_map (places_in q.path q.settings) (slots_of q.node) ++ at.0) here in
      let inside = next ∙ ap (λ ps. ps ++ at.0) (inside_all q (slots_of q.node)) in
      let same : 0 + i ≡ i = omega arith in (
        record_at root (node_count root) i q,
        numbered root (node_count root) 0 (all_places root) i q e ∙ ap (λ k. Some (record_at root (node_count root) k q)) same,
        record { op = refl; children = leading i q at.0 inside (reference_of (body_of q.node)); strict = refl; validate_default = refl },
      )
