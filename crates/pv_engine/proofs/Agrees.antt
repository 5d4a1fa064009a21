-- A table that stands for a schema means what the schema means.
use Rattle.std.proofs.Common.{◌≡◌, ℕ, zero, suc, Bool, List, [], ◌∷◌, map, length, drop, Option, Some, None, slice_get, refl, ap, ◌∙◌, arith, get_or}
use Rattle.std.proofs.Math.Path.{fun_ext}
use Rattle.pv_tree.specs.declared.Tree.{Tree}
use Rattle.pv_fault.specs.declared.Outcome.{Outcome}
use Rattle.pv_node.specs.declared.Node.{Node}
use Rattle.pv_node.specs.declared.Body.{Body}
use Rattle.pv_node.specs.declared.Body.TheOpen.{Body-F}
use Rattle.pv_node.specs.Places.{Place, Slot, body_of, slots, slots_of}
use Rattle.pv_references.specs.Targets.{reference_of}
use Rattle.pv_plan.specs.Records.{Stands, all_places, child_at, op_of, own_strict, own_validates, target, children_by, children_of}
use Rattle.pv_plan.specs.declared.Record.{Record}
use Rattle.pv_walk.specs.Context.{Context, strict_in}
use Rattle.pv_engine.specs.Meaning.{meaning_at, node, node_at, default_at, default_with}
use Rattle.pv_walk.specs.Run.{run_table, operation, at_record, default_of, default_record, default_op}

twice : {X Y Z : Type 0} (f : Y → Z) (g : X → Y) (xs : List X) → map f (map g xs) ≡ map (λ x. f (g x)) xs
twice f g [] = refl
twice f g (x ∷ xs) = ap (λ ys. f (g x) ∷ ys) (twice f g xs)

-- what the places give that a place leads to, by its slots and by the name that it refers to
abbrev given_by : {X : Type 0} → (Place → X) → Node → Place → List (Slot Node) → Option (List ℕ) → List X
given_by give root place ss None = map (λ slot. give (child_at place slot)) ss
given_by give root place ss (Some name) = give (target root name) ∷ []

given_all : {X : Type 0} (give : Place → X) (root : Node) (place : Place) (name : Option (List ℕ)) → map give (children_by root place name) ≡ given_by give root place (slots_of place.node) name
given_all give root place None = twice give (child_at place) (slots_of place.node)
given_all give root place (Some name) = refl

-- a place is its op on the places that it leads to
by_op : (run : Context) (child : Place → Tree → Outcome) (root : Node) (place : Place) (b : Body-F Body Node) (t : Tree)
    → operation run.functions (op_of place.settings b) (strict_in run.strict (own_strict place)) (own_validates place) (given_by child root place (slots b) (reference_of b))
    (given_by (default_at child) root place (slots b) (reference_of b)) t ≡ node_at run child root place b t
unfolding operation
by_op run child root place (Body-F.Scalar r) t = refl
by_op run child root place (Body-F.Sequence r items) t = refl
by_op run child root place (Body-F.Tuple r items) t = refl
by_op run child root place (Body-F.Dict r keys values) t = refl
by_op run child root place (Body-F.Nullable inner) t = refl
by_op run child root place (Body-F.Fields r schemas extras config cls) t = refl
by_op run child root place (Body-F.Model cls root_model config inner) t = refl
by_op run child root place (Body-F.Default d validates failing inner) t = refl
by_op run child root place (Body-F.Union r choices) t = refl
by_op run child root place (Body-F.TaggedUnion r choices) t = refl
by_op run child root place (Body-F.LaxOrStrict lax strict) t = refl
by_op run child root place (Body-F.JsonOrPython json) t = refl
by_op run child root place (Body-F.CustomError error_type message inner) t = refl
by_op run child root place (Body-F.Before r inner) t = refl
by_op run child root place (Body-F.After r inner) t = refl
by_op run child root place (Body-F.Wrap r inner) t = refl
by_op run child root place (Body-F.Plain r) t = refl
by_op run child root place (Body-F.Definitions inner definitions) t = refl
by_op run child root place (Body-F.DefinitionRef name) t = refl

-- what stands in for a place, by its op and by the places that it leads to
by_default : (child : Place → Tree → Outcome) (root : Node) (place : Place) (b : Body-F Body Node)
    → default_op (op_of place.settings b) (own_validates place) (given_by child root place (slots b) (reference_of b)) ≡ default_with child place b
by_default child root place (Body-F.Scalar r) = refl
by_default child root place (Body-F.Sequence r items) = refl
by_default child root place (Body-F.Tuple r items) = refl
by_default child root place (Body-F.Dict r keys values) = refl
by_default child root place (Body-F.Nullable inner) = refl
by_default child root place (Body-F.Fields r schemas extras config cls) = refl
by_default child root place (Body-F.Model cls root_model config inner) = refl
by_default child root place (Body-F.Default d validates failing inner) = refl
by_default child root place (Body-F.Union r choices) = refl
by_default child root place (Body-F.TaggedUnion r choices) = refl
by_default child root place (Body-F.LaxOrStrict lax strict) = refl
by_default child root place (Body-F.JsonOrPython json) = refl
by_default child root place (Body-F.CustomError error_type message inner) = refl
by_default child root place (Body-F.Before r inner) = refl
by_default child root place (Body-F.After r inner) = refl
by_default child root place (Body-F.Wrap r inner) = refl
by_default child root place (Body-F.Plain r) = refl
by_default child root place (Body-F.Definitions inner definitions) = refl
by_default child root place (Body-F.DefinitionRef name) = refl

-- numbers that lead to places, and functions that agree there
agreeing : {C N R : Type 0} (look : C → Option N) (f : C → R) (g : N → R)
    → ((c : C) (n : N) → look c ≡ Some n → f c ≡ g n) → (cs : List C) (ns : List N) → map look cs ≡ map Some ns → map f cs ≡ map g ns
agreeing look f g h [] [] e = refl
agreeing look f g h [] (n ∷ ns) e = absurd (let l = ap length e in omega (arith, l))
agreeing look f g h (c ∷ cs) [] e = absurd (let l = ap length e in omega (arith, l))
agreeing look f g h (c ∷ cs) (n ∷ ns) e =
    ap (λ x. x ∷ map f cs) (h c n (ap (λ xs. get_or xs 0 None) e))
    ∙ ap (λ xs. g n ∷ xs) (agreeing look f g h cs ns (ap (drop 1) e))

-- at a depth at which records mean what places mean, what stands in for them is the same
module _ (root : Node) (table : List Record) (stands : Stands root table) (child : ℕ → Tree → Outcome) (next : Place → Tree → Outcome)
    (below : (c : ℕ) (m : Place) → slice_get (all_places root) c ≡ Some m → child c ≡ next m) where
  defaults_agree : (c : ℕ) (m : Place) → slice_get (all_places root) c ≡ Some m → default_of table child c ≡ default_at next m
  unfolding Stands
  defaults_agree c m here =
      let at = stands c m here in
      let r = at.0 in
      ap (default_record child) at.1
      ∙ ap (λ fs. default_op r.op r.validate_default fs) (agreeing (slice_get (all_places root)) child next below r.children (children_of root m) at.2.children)
      ∙ ap (λ v. default_op r.op v (map next (children_of root m))) at.2.validate_default
      ∙ ap (λ o. default_op o (own_validates m) (map next (children_of root m))) at.2.op
      ∙ ap (default_op (op_of m.settings (body_of m.node)) (own_validates m)) (given_all next root m (reference_of (body_of m.node)))
      ∙ by_default next root m (body_of m.node)

pub agrees : (root : Node) (table : List Record) (run : Context) → Stands root table
    → (d i : ℕ) (place : Place) (t : Tree) → slice_get (all_places root) i ≡ Some place → run_table table run d i t ≡ meaning_at run root d place t
unfolding run_table meaning_at Stands node
agrees root table run stands zero i place t here = refl
agrees root table run stands (suc d) i place t here =
    let at = stands i place here in
    let r = at.0 in
    let fs = run.functions in
    let next = meaning_at run root d in
    let below : (c : ℕ) (m : Place) → slice_get (all_places root) c ≡ Some m → run_table table run d c ≡ next m =
    λ c m e. fun_ext (λ u. agrees root table run stands d c m u e) in
    let look = slice_get (all_places root) in
    let defaults = map (default_of table (run_table table run d)) r.children in
    let name = reference_of (body_of place.node) in
    ap (λ o. at_record table run (run_table table run d) o t) at.1
    ∙ ap (λ cs. operation fs r.op (strict_in run.strict r.strict) r.validate_default cs defaults t) (agreeing look (run_table table run d) next below r.children (children_of root place) at.2.children)
    ∙ ap (λ ds. operation fs r.op (strict_in run.strict r.strict) r.validate_default (map next (children_of root place)) ds t)
    (agreeing look (default_of table (run_table table run d)) (default_at next) (defaults_agree root table stands (run_table table run d) next below) r.children (children_of root place) at.2.children)
    ∙ ap (λ s. operation fs r.op (strict_in run.strict s) r.validate_default (map next (children_of root place)) (map (default_at next) (children_of root place)) t) at.2.strict
    ∙ ap (λ v. operation fs r.op (strict_in run.strict (own_strict place)) v (map next (children_of root place)) (map (default_at next) (children_of root place)) t) at.2.validate_default
    ∙ ap (λ o. operation fs o (strict_in run.strict (own_strict place)) (own_validates place) (map next (children_of root place)) (map (default_at next) (children_of root place)) t) at.2.op
    ∙ ap (λ cs. operation fs (op_of place.settings (body_of place.node)) (strict_in run.strict (own_strict place)) (own_validates place) cs (map (default_at next) (children_of root place)) t)
    (given_all next root place name)
    ∙ ap (λ ds. operation fs (op_of place.settings (body_of place.node)) (strict_in run.strict (own_strict place)) (own_validates place) (given_by next root place (slots_of place.node) name) ds t)
    (given_all (default_at next) root place name)
    ∙ by_op run next root place (body_of place.node) t
