-- The location of each error leads to its input.
use Rattle.std.proofs.Common.{◌≡◌, ℕ, zero, suc, Bool, true, false, not, drop, sym, ◌∙◌, get_or, subst, Option, None, Some, Ok, Err, List, [], ◌∷◌, ◌++◌, map, flat_map, length, slice_get, codes, refl, ap, arith}
use Rattle.std.proofs.lemmas.List.Elements.{All-contains_itself, recursion_from_All}
use Rattle.std.specs.Prelude.{unwrap_or}
use Rattle.std.specs.List.{AllByRecursion, Contains}
use Rattle.pv_tree.specs.declared.Tree.{Tree, out-Tree}
use Rattle.pv_tree.specs.declared.Tree.TheOpen.{Tree-F}
use Rattle.pv_tree.specs.Parts.{items_at, members_at, null_at}
use Rattle.pv_tree.specs.declared.Value.{Value}
use Rattle.pv_rules.specs.declared.Collection.{Collection}
use Rattle.pv_rules.specs.declared.Collection.TheVariants as kinds
use Rattle.pv_rules.specs.declared.GatherRule.{GatherRule}
use Rattle.pv_fault.specs.declared.Grade.{Grade}
use Rattle.pv_fault.specs.declared.Grade.TheVariants as grade
use Rattle.pv_fault.specs.declared.Kind.{Kind}
use Rattle.pv_fault.specs.declared.LineError.{LineError}
use Rattle.pv_fault.specs.declared.Kind.TheVariants as kind
use Rattle.pv_fault.specs.declared.Outcome.{Outcome}
use Rattle.pv_fault.specs.declared.Outcome.TheVariants.{Good, Bad}
use Rattle.pv_fault.specs.Single.{one_error}
use Rattle.pv_node.specs.declared.Node.{Node}
use Rattle.pv_node.specs.declared.Body.{Body}
use Rattle.pv_node.specs.declared.Body.TheOpen.{Body-F}
use Rattle.pv_node.specs.Places.{Slot, Place, body_of, slots, slots_of, places, places_of, root_place, items_slot, position_slots, keys_slot, values_slot, inner_slot, whole_slot, field_slots, extras_slots}
use Rattle.pv_references.specs.Targets.{reference_of}
use Rattle.pv_plan.specs.Records.{Stands, all_places, any_place, child_at, children_by, children_of, target, own_strict, own_validates, validates_at, is_default}
use Rattle.pv_plan.proofs.Absent.{any_body}
use Rattle.pv_plan.proofs.Placed.{stands}
use Rattle.pv_scalar.specs.Tests.{Graded, outcome_of}
use Rattle.pv_scalar.specs.Scalars.{scalar_of, answer_of}
use Rattle.pv_collect.specs.Gathering.{Part, Pair, items_errors, missing_of, wanted, measured, unless_errors, type_error, pair_errors, gather_items, gather_pairs}
use Rattle.pv_walk.specs.Rules.{Child, part, takers, placed, pair, sequence, sequence_in, tuple, tuple_in, dict, dict_in, first, second, collection, collection_of, nullable, nullable_in}
use Rattle.pv_walk.specs.Fields.{missing_value}
use Rattle.pv_walk.specs.Wrapping.{model, modelled, model_value, model_in, default, default_in}
use Rattle.pv_engine.specs.Meaning.{meaning, meaning_at, node, node_at, by_slot, default_with, default_at, default_by_slot}
use Rattle.pv_walk.specs.Context.{Context, strict_in}
use Rattle.pv_walk.specs.Choices.{lax_or_strict, replaced, custom_error}
use Rattle.pv_func.specs.Raised.{raised}
use Rattle.pv_walk.specs.Functions.{made_with, after_by, after, plain}
use Rattle.pv_walk.specs.Unions.{union}
use Rattle.pv_union.specs.Unions.{union_of}
use Rattle.pv_func.specs.Functions.{after_named, plain_named}
use Rattle.pv_func.specs.declared.Made.{Made}
use Rattle.pv_func.specs.declared.Made.TheVariants as made
use Rattle.pv_laws.specs.Located.{IsOutcomeOf}
use Rattle.pv_laws.specs.Locations.{keeps_locations, KeepsLocations}
use Rattle.pv_laws.proofs.Each.{each_append, found_is}
use Rattle.std.specs.Option.{IfSome}
use Rattle.pv_laws.proofs.LocatedFields.{IsQuiet, fields_located}
use Rattle.pv_laws.proofs.LocatedParts.{IsAt, Locates, AreParts, here, items_located, sequence_parts, tuple_parts, missing_located, pairs_located}

-- one error at the tree itself
one_located : (k : Kind) (t : Tree) → IsOutcomeOf t (one_error k t)
one_located k t = record { some = omega arith; located = (here t k, tt) }

unless_located : (t : Tree) (es : List LineError) (whole : Outcome) → AllByRecursion (IsAt t) es → IsOutcomeOf t whole → IsOutcomeOf t (unless_errors es whole)
unless_located t [] whole h is = is
unless_located t (e ∷ es) whole h is = record { some = omega arith; located = h }

measured_located : (o : Option Kind) (t : Tree) (whole : Outcome) → IsOutcomeOf t whole → IsOutcomeOf t (measured o t whole)
measured_located None t whole h = h
measured_located (Some k) t whole h = one_located k t

-- an array by its parts, and an object by its pairs
array_located : (r : GatherRule) (t : Tree) (ts : List Tree) (ps : List Part) → out-Tree t ≡ Tree-F.Array ts → AreParts t 0 ps → IsOutcomeOf t (gather_items r (length ts) t ps)
unfolding gather_items
array_located r t ts ps opens are =
    unless_located t (items_errors r.kind 0 ps ++ missing_of (wanted r (length ts)) (length ts) t) _
    (each_append (IsAt t) (items_errors r.kind 0 ps) (missing_of (wanted r (length ts)) (length ts) t) (items_located r.kind t 0 ps are) (missing_located t ts opens (wanted r (length ts))))
    (search measured_located)

object_located : (r : GatherRule) (t : Tree) (ps : List Pair) → AllByRecursion (IsAt t) (flat_map pair_errors ps) → IsOutcomeOf t (gather_pairs r t ps)
unfolding gather_pairs
object_located r t ps are = unless_located t (flat_map pair_errors ps) _ are (search measured_located)

-- a tree by its opened level
sequence_located : (r : GatherRule) (item : Child) → Locates item → (t : Tree) (x : Tree-F Tree) → out-Tree t ≡ x → IsOutcomeOf t (sequence_in r item t (items_at x))
sequence_located r item is t (Tree-F.Array ts) opens =
    array_located r t ts (map (part item) ts) opens (sequence_parts t ts opens item is 0 ts (λ j k e. ap (slice_get ts) (omega arith)))
sequence_located r item is t x opens = one_located (type_error r.kind) t

tuple_located : (r : GatherRule) (children : List Child) → AllByRecursion Locates children → (t : Tree) (x : Tree-F Tree) → out-Tree t ≡ x → IsOutcomeOf t (tuple_in r children t (items_at x))
tuple_located r children are t (Tree-F.Array ts) opens =
    array_located r t ts (placed children (takers r (length ts)) ts) opens
    (tuple_parts t ts opens children are (takers r (length ts)) 0 ts (λ j k e. ap (slice_get ts) (omega arith)))
tuple_located r children are t x opens = one_located (type_error r.kind) t

dict_located : (r : GatherRule) (key value : Child) → Locates key → Locates value → (t : Tree) (x : Tree-F Tree) → out-Tree t ≡ x → IsOutcomeOf t (dict_in r key value t (members_at x))
dict_located r key value keys values t (Tree-F.Object d) opens =
    let ms = d.members in
    object_located r t (map (pair key value) ms) (pairs_located t d opens key value keys values ms (recursion_from_All (Contains ms) ms (All-contains_itself ms)))
dict_located r key value keys values t x opens = one_located (type_error r.kind) t

-- a child that is not there gives one error too
first_located : (children : List Child) → AllByRecursion Locates children → Locates (first children)
first_located [] are = λ t. one_located kind.RecursionLoop t
first_located (c ∷ cs) are = are.0

second_located : (children : List Child) → AllByRecursion Locates children → Locates (second children)
second_located [] are = λ t. one_located kind.RecursionLoop t
second_located (c ∷ cs) are = first_located cs are.1

by_kind : (k : Collection) (r : GatherRule) (children : List Child) → AllByRecursion Locates children → Locates (collection_of k r children)
unfolding sequence tuple dict
by_kind kinds.List r children are t = sequence_located r (first children) (first_located children are) t (out-Tree t) refl
by_kind kinds.Set r children are t = sequence_located r (first children) (first_located children are) t (out-Tree t) refl
by_kind kinds.Frozen r children are t = sequence_located r (first children) (first_located children are) t (out-Tree t) refl
by_kind kinds.Tuple r children are t = tuple_located r children are t (out-Tree t) refl
by_kind kinds.Dict r children are t = dict_located r (first children) (second children) (first_located children are) (second_located children are) t (out-Tree t) refl

collection_located : (r : GatherRule) (children : List Child) → AllByRecursion Locates children → Locates (collection r children)
unfolding collection
collection_located r = by_kind r.kind r

nullable_located : (inner : Child) → Locates inner → (t : Tree) (x : Tree-F Tree) → IsOutcomeOf t (nullable_in inner t (null_at x))
nullable_located inner is t Tree-F.Null = tt
nullable_located inner is t x = is t

scalar_located : (t : Tree) (answer : Graded Value) → IsOutcomeOf t (outcome_of t answer)
scalar_located t (Ok x) = tt
scalar_located t (Err k) = one_located k t

-- models and defaults
model_located : (cls : List ℕ) (root_model : Bool) (t : Tree) (o : Outcome) → IsOutcomeOf t o → IsOutcomeOf t (model_in cls root_model t o)
model_located cls root_model t (Bad es) h = h
model_located cls root_model t (Good v g n) h = modelled_located (model_value cls root_model v)
  where
    modelled_located : (x : Option Value) → IsOutcomeOf t (modelled t g n x)
    modelled_located None = one_located kind.ModelType t
    modelled_located (Some w) = tt

default_located : (stands_in validates : Bool) (child : Child) (d t : Tree) (o : Outcome) → not validates ≡ true → IsOutcomeOf t o → IsOutcomeOf t (default_in stands_in validates child d o)
default_located stands_in true child d t o keeps h = cc
default_located stands_in false child d t (Good v g n) keeps h = h
default_located true false child d t (Bad es) keeps h = tt
default_located false false child d t (Bad es) keeps h = h

-- nodes that pass on what a child gives
choice_located : (is_strict : Bool) (lax strict : Child) → Locates lax → Locates strict → Locates (lax_or_strict is_strict lax strict)
choice_located false lax strict is_lax is_strict t = is_lax t
choice_located true lax strict is_lax is_strict t = is_strict t

replaced_located : (error_type message : List ℕ) (t : Tree) (o : Outcome) → IsOutcomeOf t (replaced error_type message t o)
replaced_located error_type message t (Good v g n) = tt
replaced_located error_type message t (Bad es) = one_located (kind.Custom error_type message) t

-- functions
made_located : (g : Grade) (n : Option ℕ) (t : Tree) (m : Made) → IsOutcomeOf t (made_with g n t m)
made_located g n t (made.Give v) = tt
made_located g n t (made.Raise r) = one_located (raised r) t

after_by_located : (f : Value → Made) (t : Tree) (o : Outcome) → IsOutcomeOf t o → IsOutcomeOf t (after_by f t o)
after_by_located f t (Good v g n) h = made_located g n t (f v)
after_by_located f t (Bad es) h = h

after_located : (o : Option (Value → Made)) (child : Child) → Locates child → Locates (after o child)
after_located None child is t = one_located kind.RecursionLoop t
after_located (Some f) child is t = after_by_located f t (child t) (is t)

plain_located : (o : Option (Tree → Made)) → Locates (plain o)
plain_located None t = one_located kind.RecursionLoop t
plain_located (Some f) t = made_located grade.Lax None t (f t)

-- a default that is not validated gives no error
quiet_value : (validates : Bool) (child : Child) (d : Tree) → not validates ≡ true → IsQuiet (Some (missing_value validates child d))
quiet_value true child d keeps = cc
quiet_value false child d keeps = refl

quiet_with : (child : Place → Child) (place : Place) (b : Body-F Body Node) → body_of place.node ≡ b → keeps_locations place.settings (body_of place.node) ≡ true → IsQuiet (default_with child place b)
quiet_with child place (Body-F.Default d validates failing inner) is keeps =
    quiet_value (own_validates place) (child (child_at place (inner_slot inner))) d
    (ap (λ x. not (unwrap_or (validates_at x) place.settings.validate_default)) is ∙ sym (ap (keeps_locations place.settings) is) ∙ keeps)
quiet_with child place (Body-F.Scalar r) is keeps = tt
quiet_with child place (Body-F.Sequence r items) is keeps = tt
quiet_with child place (Body-F.Tuple r items) is keeps = tt
quiet_with child place (Body-F.Dict r keys values) is keeps = tt
quiet_with child place (Body-F.Nullable inner) is keeps = tt
quiet_with child place (Body-F.Fields r schemas extras config cls) is keeps = tt
quiet_with child place (Body-F.Model cls root_model config inner) is keeps = tt
quiet_with child place (Body-F.Union r choices) is keeps = tt
quiet_with child place (Body-F.TaggedUnion r choices) is keeps = tt
quiet_with child place (Body-F.LaxOrStrict lax strict) is keeps = tt
quiet_with child place (Body-F.JsonOrPython json) is keeps = tt
quiet_with child place (Body-F.CustomError error_type message inner) is keeps = tt
quiet_with child place (Body-F.Before r inner) is keeps = tt
quiet_with child place (Body-F.After r inner) is keeps = tt
quiet_with child place (Body-F.Wrap r inner) is keeps = tt
quiet_with child place (Body-F.Plain r) is keeps = tt
quiet_with child place (Body-F.Definitions inner definitions) is keeps = tt
quiet_with child place (Body-F.DefinitionRef name) is keeps = tt

-- what holds of each part that a function makes of what stands in slots
of_slots : {X : Type 0} (P : X → Type 0) (f : Place → X) (g : Slot Node → Place) (ss : List (Slot Node)) → AllByRecursion (λ q. P (f q)) (map g ss) → AllByRecursion P (map (λ slot. f (g slot)) ss)
of_slots P f g [] h = tt
of_slots P f g (slot ∷ ss) h = (h.0, of_slots P f g ss h.1)

-- what holds of all that the places give that a place leads to, by its slots and by the name that it refers to
abbrev Reached : {X : Type 0} → (X → Type 0) → (Place → X) → Node → Place → List (Slot Node) → Option (List ℕ) → Type 0
Reached P give root place ss None = AllByRecursion P (map (λ slot. give (child_at place slot)) ss)
Reached P give root place ss (Some name) = P (give (target root name))

reached : {X : Type 0} (P : X → Type 0) (give : Place → X) (root : Node) (place : Place) (name : Option (List ℕ))
    → AllByRecursion (λ q. P (give q)) (children_by root place name) → Reached P give root place (slots_of place.node) name
reached P give root place None h = of_slots P give (child_at place) (slots_of place.node) h
reached P give root place (Some name) h = h.0

-- a place whose children have their errors located
body_located : (run : Context) (child : Place → Child) (root : Node) (place : Place) (b : Body-F Body Node) → body_of place.node ≡ b → keeps_locations place.settings b ≡ true
    → Reached Locates child root place (slots b) (reference_of b) → Reached IsQuiet (default_at child) root place (slots b) (reference_of b) → Locates (node_at run child root place b)
unfolding scalar_of nullable model default union union_of custom_error
body_located run child root place (Body-F.Scalar r) is keeps are quiet t = scalar_located t (answer_of r place.settings (strict_in run.strict (own_strict place)) t)
body_located run child root place (Body-F.Sequence r items) is keeps are quiet t = collection_located r (map (by_slot run child root place) (items_slot items ∷ [])) are t
body_located run child root place (Body-F.Tuple r items) is keeps are quiet t = collection_located r (map (by_slot run child root place) (position_slots items)) are t
body_located run child root place (Body-F.Dict r keys values) is keeps are quiet t = collection_located r (map (by_slot run child root place) (keys_slot keys ∷ values_slot values ∷ [])) are t
body_located run child root place (Body-F.Nullable inner) is keeps are quiet t = nullable_located (by_slot run child root place (inner_slot inner)) are.0 t (out-Tree t)
body_located run child root place (Body-F.Fields r schemas extras config cls) is keeps are quiet t =
    fields_located r place.settings (map (by_slot run child root place) (field_slots r.fields schemas ++ extras_slots extras))
    (map (default_by_slot run child root place) (field_slots r.fields schemas ++ extras_slots extras)) keeps are quiet t
body_located run child root place (Body-F.Model cls root_model config inner) is keeps are quiet t =
    model_located cls root_model t (by_slot run child root place (inner_slot inner) t) (are.0 t)
body_located run child root place (Body-F.Default d validates failing inner) is keeps are quiet t =
    default_located (is_default failing) (own_validates place) (by_slot run child root place (inner_slot inner)) d t (by_slot run child root place (inner_slot inner) t)
    (ap (λ x. not (unwrap_or (validates_at x) place.settings.validate_default)) is ∙ keeps) (are.0 t)
body_located run child root place (Body-F.Union r []) is keeps are quiet t = cc
body_located run child root place (Body-F.Union r (choice ∷ [])) is keeps are quiet t = are.0 t
body_located run child root place (Body-F.Union r (choice ∷ next ∷ choices)) is keeps are quiet t = cc
body_located run child root place (Body-F.TaggedUnion r choices) is keeps are quiet t = cc
body_located run child root place (Body-F.LaxOrStrict lax strict) is keeps are quiet t =
    choice_located (strict_in run.strict (own_strict place)) (by_slot run child root place (whole_slot (codes "lax_schema") lax)) (by_slot run child root place (whole_slot (codes "strict_schema") strict))
    are.0 are.1.0 t
body_located run child root place (Body-F.JsonOrPython json) is keeps are quiet t = are.0 t
body_located run child root place (Body-F.CustomError error_type message inner) is keeps are quiet t =
    replaced_located error_type message t (by_slot run child root place (inner_slot inner) t)
body_located run child root place (Body-F.Before r inner) is keeps are quiet t = cc
body_located run child root place (Body-F.After r inner) is keeps are quiet t =
    after_located (after_named run.functions r.function) (by_slot run child root place (inner_slot inner)) are.0 t
body_located run child root place (Body-F.Wrap r inner) is keeps are quiet t = cc
body_located run child root place (Body-F.Plain r) is keeps are quiet t = plain_located (plain_named run.functions r.function) t
body_located run child root place (Body-F.Definitions inner definitions) is keeps are quiet t = are.0 t
body_located run child root place (Body-F.DefinitionRef name) is keeps are quiet t = are t

-- what holds at the ends of numbers holds of the places that they lead to
led : (look : ℕ → Option Place) (P : Place → Type 0) → ((i : ℕ) (q : Place) → look i ≡ Some q → P q) → (cs : List ℕ) (qs : List Place) → map look cs ≡ map Some qs → AllByRecursion P qs
led look P h [] [] e = tt
led look P h [] (q ∷ qs) e = absurd (let l = ap length e in omega (arith, l))
led look P h (c ∷ cs) [] e = absurd (let l = ap length e in omega (arith, l))
led look P h (c ∷ cs) (q ∷ qs) e = (h c q (ap (λ xs. get_or xs 0 None) e), led look P h cs qs (ap (drop 1) e))

abbrev Keeps : Place → Type 0
Keeps place = keeps_locations place.settings (body_of place.node) ≡ true

module _ (run : Context) (root : Node) (keeps : KeepsLocations root) where
  all_keep : AllByRecursion Keeps (all_places root)
  all_keep = each_append Keeps (places root) (any_place ∷ []) keeps (ap (keeps_locations any_place.settings) any_body, tt)

  keeps_at : (i : ℕ) (place : Place) → slice_get (all_places root) i ≡ Some place → Keeps place
  keeps_at i place here = subst (λ o. IfSome o Keeps) here (found_is Keeps (all_places root) i all_keep)

  located_at : (depth i : ℕ) (place : Place) → slice_get (all_places root) i ≡ Some place → Locates (meaning_at run root depth place)
  unfolding meaning_at node Stands
  located_at zero i place here document = one_located kind.RecursionLoop document
  located_at (suc depth) i place here document =
      let at = stands root i place here in
      let next = meaning_at run root depth in
      let children = led (slice_get (all_places root)) (λ q. Locates (next q)) (located_at depth) at.0.children (children_of root place) at.2.children in
      let quiet = led (slice_get (all_places root)) (λ q. IsQuiet (default_at next q)) (λ j q at. quiet_with next q (body_of q.node) refl (keeps_at j q at)) at.0.children (children_of root place) at.2.children in
      let name = reference_of (body_of place.node) in
      body_located run next root place (body_of place.node) refl (keeps_at i place here)
      (reached Locates next root place name children) (reached IsQuiet (default_at next) root place name quiet) document

pub outcome_is_located : (run : Context) (depth : ℕ) (schema : Node) (document : Tree) → KeepsLocations schema → IsOutcomeOf document (meaning run depth schema document)
unfolding places_of
outcome_is_located run depth schema document keeps = located_at run schema keeps depth 0 (root_place schema) refl document
