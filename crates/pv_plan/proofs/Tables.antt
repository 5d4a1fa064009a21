-- Tables grow at their ends.
use Rattle.std.proofs.Common.{◌≡◌, ℕ, suc, ◌+◌, ◌-◌, ◌<◌, false, List, [], ◌∷◌, ◌++◌, length, take, drop, slice_get, slice_set, true, Option, Some, None, is_some, true≢false, refl, ap, sym, ◌∙◌, arith}
use Rattle.std.specs.List.{flat_map}
use Rattle.std.specs.Option.{option_or}
use Rattle.std.proofs.lemmas.List.{length-append, append-nil, append_assoc, set-append_right}
use Rattle.std.proofs.lemmas.Grind.{flat_map-append}
use Rattle.pv_rules.specs.Settings.{plain}
use Rattle.pv_rules.specs.declared.Settings.{Settings}
use Rattle.pv_rules.specs.declared.ScalarRule.TheVariants as rule
use Rattle.pv_node.specs.declared.Node.{Node}
use Rattle.pv_node.specs.Places.{Path, Slot, Place, place_at, places, places_at, places_of, places_in, under, body_of, slots, slots_of}
use Rattle.pv_node.specs.declared.Body.{Body}
use Rattle.pv_node.specs.declared.Body.TheOpen.{Body-F}
use Rattle.pv_node.specs.Preorder.{node_count, count_at, slots_count, first_in}
use Rattle.pv_node.proofs.Openings.{opens}
use Rattle.pv_node.proofs.Counts.{count_inside, count_first}
use Rattle.pv_references.specs.Targets.{reference_of}
use Rattle.pv_references.proofs.Lists.{take_here, drop_here, take_past, drop_past, get_behind}
use Rattle.pv_plan.specs.declared.record.Op.TheVariants as op
use Rattle.pv_plan.specs.declared.record.Record.{Record}
use Rattle.pv_plan.specs.Records.{any_place, all_places}
use Rattle.pv_plan.specs.BadPatterns.{bad_in}
use Rattle.pv_plan.proofs.Absent.{any_record}
use Rattle.pv_plan.specs.Layout.{number_of, numbers, target_number, children_at, record_with, record_at, table_from, table_of}

-- past a slot without a bad pattern
pub first_more : (ss : List (Slot Node)) (i : ℕ) (slot : Slot Node) (whole : Option Path) → slice_get ss i ≡ Some slot → bad_in slot ≡ None
    → first_in bad_in (drop i ss) ≡ whole → first_in bad_in (drop (i + 1) ss) ≡ whole
first_more ss i slot whole here none e =
    sym (ap (λ o. option_or o (first_in bad_in (drop (i + 1) ss))) none) ∙ sym (ap (first_in bad_in) (drop_here ss i slot here)) ∙ e

pub first_past : (ss : List (Slot Node)) (i : ℕ) → slice_get ss i ≡ None → first_in bad_in (drop i ss) ≡ first_in bad_in ss → first_in bad_in ss ≡ None
first_past ss i past e = sym e ∙ ap (first_in bad_in) (drop_past ss i past)

module _ (root : Node) (last : ℕ) where
  length-table : (at : ℕ) (ps : List Place) → length (table_from root last at ps) ≡ length ps
  unfolding table_from
  length-table at [] = refl
  length-table at (p ∷ ps) = ap suc (length-table (at + 1) ps)

  pub table-append : (at : ℕ) (ps qs : List Place) → table_from root last at (ps ++ qs) ≡ table_from root last at ps ++ table_from root last (at + length ps) qs
  unfolding table_from
  table-append at [] qs = let none : at ≡ at + 0 = omega arith in ap (λ k. table_from root last k qs) none
  table-append at (p ∷ ps) qs =
      let same : at + 1 + length ps ≡ at + suc (length ps) = omega arith in
      ap (λ rs. record_at root last at p ∷ rs) (table-append (at + 1) ps qs ∙ ap (λ k. table_from root last (at + 1) ps ++ table_from root last k qs) same)

  length_laid : (old table : List Record) (ps : List Place) → table ≡ old ++ table_from root last (length old) ps → length table ≡ length old + length ps
  length_laid old table ps e = ap length e ∙ length-append old (table_from root last (length old) ps) ∙ ap (λ k. length old + k) (length-table (length old) ps)

  -- two parts, one after the other
  joined : (old table new : List Record) (ps qs : List Place) → table ≡ old ++ table_from root last (length old) ps → new ≡ table ++ table_from root last (length table) qs
      → new ≡ old ++ table_from root last (length old) (ps ++ qs)
  joined old table new ps qs e f =
      f ∙ ap (λ k. table ++ table_from root last k qs) (length_laid old table ps e) ∙ ap (λ t. t ++ table_from root last (length old + length ps) qs) e
      ∙ append_assoc old (table_from root last (length old) ps) _ ∙ ap (λ rs. old ++ rs) (sym (table-append (length old) ps qs))

  -- one more slot
  pub laid_more : (p : Path) (s : Settings) (old table new : List Record) (ss : List (Slot Node)) (i : ℕ) (slot : Slot Node) → slice_get ss i ≡ Some slot
      → table ≡ old ++ table_from root last (length old) (flat_map (places_in p s) (take i ss)) → new ≡ table ++ table_from root last (length table) (places_in p s slot)
      → new ≡ old ++ table_from root last (length old) (flat_map (places_in p s) (take (i + 1) ss))
  laid_more p s old table new ss i slot here e f =
      let more : flat_map (places_in p s) (take i ss) ++ places_in p s slot ≡ flat_map (places_in p s) (take (i + 1) ss) =
      ap (λ qs. flat_map (places_in p s) (take i ss) ++ qs) (sym (append-nil (places_in p s slot)))
      ∙ sym (flat_map-append (places_in p s) (take i ss) (slot ∷ [])) ∙ sym (ap (flat_map (places_in p s)) (take_here ss i slot here)) in
      joined old table new (flat_map (places_in p s) (take i ss)) (places_in p s slot) e f
      ∙ ap (λ ps. old ++ table_from root last (length old) ps) more

  pub laid_all : (p : Path) (s : Settings) (old table : List Record) (ss : List (Slot Node)) (i : ℕ) → slice_get ss i ≡ None
      → table ≡ old ++ table_from root last (length old) (flat_map (places_in p s) (take i ss)) → table ≡ old ++ table_from root last (length old) (flat_map (places_in p s) ss)
  laid_all p s old table ss i past e = e ∙ ap (λ xs. old ++ table_from root last (length old) (flat_map (places_in p s) xs)) (take_past ss i past)

  numbers_push : (at : ℕ) (ss : List (Slot Node)) (slot : Slot Node) → numbers last at (ss ++ slot ∷ []) ≡ numbers last at ss ++ number_of last (at + slots_count ss) slot.node ∷ []
  numbers_push at [] slot = let none : at ≡ at + slots_count [] = omega arith in ap (λ k. number_of last k slot.node ∷ []) none
  numbers_push at (x ∷ ss) slot =
      let size = count_first x ss in
      let same : at + count_at x.node + slots_count ss ≡ at + slots_count (x ∷ ss) = omega (arith, size) in
      ap (λ ks. number_of last at x.node ∷ ks) (numbers_push (at + count_at x.node) ss slot ∙ ap (λ k. numbers last (at + count_at x.node) ss ++ number_of last k slot.node ∷ []) same)

  pub numbers_more : (s : Settings) (old table : List Record) (start some new : List ℕ) (ss : List (Slot Node)) (i : ℕ) (slot : Slot Node) → slice_get ss i ≡ Some slot
      → table ≡ old ++ table_from root last (length old) (flat_map (places_in [] s) (take i ss))
      → some ≡ start ++ numbers last (length old) (take i ss) → new ≡ some ++ number_of last (length table) slot.node ∷ []
      → new ≡ start ++ numbers last (length old) (take (i + 1) ss)
  numbers_more s old table start some new ss i slot here t f g =
      let before = numbers last (length old) (take i ss) in
      let size : length table ≡ length old + slots_count (take i ss) = length_laid old table _ t ∙ ap (λ k. length old + k) (count_inside [] s (take i ss)) in
      g ∙ ap (λ ks. ks ++ number_of last (length table) slot.node ∷ []) f ∙ append_assoc start before (number_of last (length table) slot.node ∷ [])
      ∙ ap (λ k. start ++ (before ++ number_of last k slot.node ∷ [])) size
      ∙ ap (λ ks. start ++ ks) (sym (numbers_push (length old) (take i ss) slot))
      ∙ sym (ap (λ xs. start ++ numbers last (length old) xs) (take_here ss i slot here))

  pub numbers_all : (at : ℕ) (start all : List ℕ) (ss : List (Slot Node)) (i : ℕ) → slice_get ss i ≡ None → all ≡ start ++ numbers last at (take i ss) → all ≡ start ++ numbers last at ss
  numbers_all at start all ss i past e = e ∙ ap (λ xs. start ++ numbers last at xs) (take_past ss i past)

  -- in a slot with nothing
  pub laid_none : (p : Path) (s : Settings) (old : List Record) (slot : Slot Node) → slot.node ≡ None → old ≡ old ++ table_from root last (length old) (places_in p s slot)
  unfolding table_from
  laid_none p s old slot none = sym (append-nil old) ∙ sym (ap (λ o. old ++ table_from root last (length old) (places_at (p ++ slot.path) s o)) none)

  -- the record of a node is there while what is inside it is laid
  pub later : (old mid table : List Record) (at : ℕ) (r : Record) (ps : List Place) → at ≡ length old → mid ≡ old ++ r ∷ [] → table ≡ mid ++ table_from root last (length mid) ps
      → at < length table
  later old mid table at r ps place e f =
      let size = ap length e ∙ length-append old (r ∷ []) in
      let all = length_laid mid table ps f in
      omega (arith, place, size, all)

  -- the numbers of the children, those of child schemas first, and then that of a reference
  children_told : (at : ℕ) (q : Place) (o : Option (List ℕ)) (ss : List (Slot Node)) → slots_of q.node ≡ ss → (is_some o ≡ true → ss ≡ [])
      → numbers last at ss ++ target_number root last o ≡ children_at root last at q o
  children_told at q None ss e alone = append-nil (numbers last at ss) ∙ sym (ap (numbers last at) e)
  children_told at q (Some name) ss e alone = ap (λ xs. numbers last at xs ++ target_number root last (Some name)) (alone refl)

  -- a reference has no child schemas
  pub alone : (b : Body-F Body Node) → is_some (reference_of b) ≡ true → slots b ≡ []
  alone (Body-F.DefinitionRef name) e = refl
  alone (Body-F.Scalar r) e = refl
  alone (Body-F.Plain r) e = refl
  alone (Body-F.Sequence r items) e = absurd (true≢false (sym e))
  alone (Body-F.Tuple r items) e = absurd (true≢false (sym e))
  alone (Body-F.Dict r keys values) e = absurd (true≢false (sym e))
  alone (Body-F.Nullable inner) e = absurd (true≢false (sym e))
  alone (Body-F.Fields r fields extras config cls) e = absurd (true≢false (sym e))
  alone (Body-F.Model cls root config inner) e = absurd (true≢false (sym e))
  alone (Body-F.Default default validates failing inner) e = absurd (true≢false (sym e))
  alone (Body-F.Union r choices) e = absurd (true≢false (sym e))
  alone (Body-F.TaggedUnion r choices) e = absurd (true≢false (sym e))
  alone (Body-F.LaxOrStrict lax strict) e = absurd (true≢false (sym e))
  alone (Body-F.JsonOrPython json) e = absurd (true≢false (sym e))
  alone (Body-F.CustomError kind message inner) e = absurd (true≢false (sym e))
  alone (Body-F.Before r inner) e = absurd (true≢false (sym e))
  alone (Body-F.After r inner) e = absurd (true≢false (sym e))
  alone (Body-F.Wrap r inner) e = absurd (true≢false (sym e))
  alone (Body-F.Definitions inner definitions) e = absurd (true≢false (sym e))

  -- a record that is completed once what follows it is laid
  pub laid : (p : Path) (s t : Settings) (n : Node) (old mid table new : List Record) (at : ℕ) (none some cs : List ℕ) → t ≡ under n s → at ≡ length old
      → mid ≡ old ++ record_with root (length old) (record { path = p; node = n; settings = t }) [] ∷ []
      → table ≡ mid ++ table_from root last (length mid) (flat_map (places_in p t) (slots_of n)) → none ≡ [] → some ≡ none ++ numbers last (length mid) (slots_of n)
      → cs ≡ some ++ target_number root last (reference_of (body_of n))
      → ((r : Record) → slice_get table at ≡ Some r → new ≡ slice_set table at (record { op = r.op; children = cs; strict = r.strict; validate_default = r.validate_default }))
      → new ≡ old ++ table_from root last (length old) (places_of p n s)
  unfolding table_from
  laid p s t n old mid table new at none some cs force place begun grown empty num target g =
      let here = place_at p n s in
      let inner = flat_map (places_in p (under n s)) (slots_of n) in
      let e : mid ≡ old ++ record_with root (length old) here [] ∷ [] = begun ∙ ap (λ u. old ++ record_with root (length old) (record { path = p; node = n; settings = u }) [] ∷ []) force in
      let f : table ≡ mid ++ table_from root last (length mid) inner = grown ∙ ap (λ u. mid ++ table_from root last (length mid) (flat_map (places_in p u) (slots_of n))) force in
      let bare = record_with root (length old) here [] in
      let size : length mid ≡ length old + 1 = ap length e ∙ length-append old (bare ∷ []) in
      let rest = table_from root last (length old + 1) inner in
      let whole : table ≡ old ++ bare ∷ rest =
      f ∙ ap (λ k. mid ++ table_from root last k inner) size ∙ ap (λ t. t ++ rest) e ∙ append_assoc old (bare ∷ []) _ in
      let found : slice_get table at ≡ Some bare = ap (slice_get table) place ∙ ap (λ t. slice_get t (length old)) whole ∙ get_behind old bare rest in
      let same : length old - length old ≡ 0 = omega arith in
      let numbered : cs ≡ children_at root last (length old + 1) here (reference_of (body_of n)) =
      target ∙ ap (λ ks. ks ++ target_number root last (reference_of (body_of n)))
      (num ∙ ap (λ ks. ks ++ numbers last (length mid) (slots_of n)) empty ∙ ap (λ k. numbers last k (slots_of n)) size)
      ∙ children_told (length old + 1) here (reference_of (body_of n)) (slots_of n) refl (alone (body_of n)) in
      g bare found
      ∙ ap (λ k. slice_set table k (record_with root (length old) here cs)) place
      ∙ ap (λ t. slice_set t (length old) (record_with root (length old) here cs)) whole
      ∙ set-append_right old _ (length old) (length old) (record_with root (length old) here cs) refl (omega arith)
      ∙ ap (λ k. old ++ slice_set (bare ∷ rest) k (record_with root (length old) here cs)) same
      ∙ ap (λ ks. old ++ record_with root (length old) here ks ∷ rest) numbered
      ∙ ap (λ ps. old ++ table_from root last (length old) ps) (sym (opens p n s))

length-table_of : (root : Node) → length (table_of root) ≡ node_count root + 1
unfolding table_of node_count
length-table_of root = length-table root (node_count root) 0 (all_places root) ∙ length-append (places root) (any_place ∷ [])

pub counted : (root seen : Node) (table : List Record) → table ≡ table_of seen → seen ≡ root → length table ≡ node_count root + 1
counted root seen table e f = ap length e ∙ length-table_of seen ∙ ap (λ n. node_count n + 1) f

-- the records of all places, and one more
pub finished : (root seen : Node) (mid table new : List Record) (last : ℕ) (s : Settings) (r : Record) → seen ≡ root → mid ≡ [] → last ≡ node_count root → s ≡ plain
    → table ≡ mid ++ table_from seen last (length mid) (places_of [] root s)
    → r ≡ record { op = op.Scalar (rule.Any, plain); children = []; strict = false; validate_default = false } → new ≡ table ++ r ∷ [] → new ≡ table_of root
unfolding table_of table_from node_count
finished root seen mid table new last s r same none count bare e f g =
    let nodes = places root in
    g ∙ ap (λ t. t ++ r ∷ []) (e ∙ ap (λ x. mid ++ table_from x last (length mid) (places_of [] root s)) same ∙ ap (λ m. m ++ table_from root last (length m) (places_of [] root s)) none ∙ ap (λ t. table_from root last 0 (places_of [] root t)) bare ∙ ap (λ k. table_from root k 0 nodes) count)
    ∙ ap (λ x. table_from root (length nodes) 0 nodes ++ x ∷ []) (f ∙ sym (any_record root (length nodes) (0 + length nodes)))
    ∙ sym (table-append root (length nodes) 0 nodes (any_place ∷ []))
