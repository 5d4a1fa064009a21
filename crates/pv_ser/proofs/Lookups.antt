-- What is found under a name after names were put.
use Rattle.std.proofs.Common.{◌≡◌, ℕ, Bool, true, false, cond, List, [], ◌∷◌, refl, sym, ap, ◌∙◌}
use Rattle.std.proofs.lemmas.Bool.{false≢true}
use Rattle.std.specs.Prelude.{Option, None, Some, bytes_eq}
use Rattle.std.specs.declared.cmp.Ordering.{Ordering}
use Rattle.std.specs.declared.cmp.Ordering.TheVariants.{Less, Equal, Greater}
use Rattle.std.specs.Ordering.{is_eq, match_ordering}
use Rattle.std.specs.BTreeMap.{insert_entry}
use Rattle.std.specs.Cmp.Lexicographic.{texts_ties, bytes_decides}
use Rattle.pv_tree.specs.Merging.{name_cmp}
use Rattle.pv_tree.specs.Merged.{or_else, last_value}
use Rattle.pv_ser.specs.declared.pick.Pick.{Pick}
use Rattle.pv_ser.specs.Names.{value_under}
use Rattle.pv_ser.specs.Picks.{Picked, put_all, by_name}

-- two names are the same
same : (a b : List ℕ) → bytes_eq a b ≡ is_eq (name_cmp a b)
same a b = texts_ties a b

names_same : (a b : List ℕ) → is_eq (name_cmp a b) ≡ true → a ≡ b
names_same a b e = (bytes_decides a b).0 (same a b ∙ e)

is_same : (a b : List ℕ) → a ≡ b → is_eq (name_cmp a b) ≡ true
is_same a b e = sym (same a b) ∙ (bytes_decides a b).1 e

-- one answer is asked for twice
twice : {X : Type 0} (b : Bool) (x y z : X) → cond b x z ≡ cond b x (cond b y z)
twice true x y z = refl
twice false x y z = refl

-- of two answers at most one is asked for
swap : {X : Type 0} (b c : Bool) (x y z : X) → (b ≡ true → c ≡ true → ⊥) → cond b x (cond c y z) ≡ cond c y (cond b x z)
swap true true x y z no_both = absurd (no_both refl refl)
swap true false x y z no_both = refl
swap false true x y z no_both = refl
swap false false x y z no_both = refl

greater : (a b : List ℕ) → name_cmp a b ≡ Greater → a ≡ b → ⊥
greater a b e f = false≢true (sym (ap is_eq e) ∙ is_same a b f)

-- a name is put before the first of the others, in its place, or behind it
put_by : (o : Ordering) (k name : List ℕ) (v : Pick) (e : List ℕ × Pick) (es more : Picked) → name_cmp k e.0 ≡ o
    → value_under name more ≡ cond (is_eq (name_cmp name k)) (Some v) (value_under name es)
    → value_under name (match_ordering o ((k, v) ∷ e ∷ es) ((e.0, v) ∷ es) (e ∷ more))
    ≡ cond (is_eq (name_cmp name k)) (Some v) (value_under name (e ∷ es))
put_by Less k name v e es more is h = refl
put_by Equal k name v e es more is h =
    twice (is_eq (name_cmp name e.0)) (Some v) (Some e.1) (value_under name es)
    ∙ ap (λ x. cond (is_eq (name_cmp name x)) (Some v) (value_under name (e ∷ es))) (sym (names_same k e.0 (ap is_eq is)))
put_by Greater k name v e es more is h =
    ap (cond (is_eq (name_cmp name e.0)) (Some e.1)) h
    ∙ swap (is_eq (name_cmp name e.0)) (is_eq (name_cmp name k)) (Some e.1) (Some v) (value_under name es)
    (λ at_e at_k. greater k e.0 is (sym (names_same name k at_k) ∙ names_same name e.0 at_e))

put_found : (es : Picked) (k name : List ℕ) (v : Pick) → value_under name (insert_entry name_cmp es k v) ≡ cond (is_eq (name_cmp name k)) (Some v) (value_under name es)
put_found [] k name v = refl
put_found (e ∷ es) k name v = put_by (name_cmp k e.0) k name v e es (insert_entry name_cmp es k v) refl (put_found es k name v)

or_cond : (b : Bool) (v : Pick) (o : Option Pick) → cond b (Some v) o ≡ or_else (cond b (Some v) None) o
or_cond true v o = refl
or_cond false v o = refl

or_else_assoc : (a b c : Option Pick) → or_else a (or_else b c) ≡ or_else (or_else a b) c
or_else_assoc None b c = refl
or_else_assoc (Some v) b c = refl

all_found : (done ms : Picked) (name : List ℕ) → value_under name (put_all done ms) ≡ or_else (last_value ms name) (value_under name done)
all_found done [] name = refl
all_found done (m ∷ ms) name =
    all_found (insert_entry name_cmp done m.0 m.1) ms name
    ∙ ap (or_else (last_value ms name)) (put_found done m.0 name m.1
    ∙ ap (λ b. cond b (Some m.1) (value_under name done)) (sym (same name m.0))
    ∙ or_cond (bytes_eq name m.0) m.1 (value_under name done))
    ∙ or_else_assoc (last_value ms name) (cond (bytes_eq name m.0) (Some m.1) None) (value_under name done)

or_none : (o : Option Pick) → or_else o None ≡ o
or_none None = refl
or_none (Some v) = refl

pub last_is_found : (ms : Picked) (name : List ℕ) → value_under name (by_name ms) ≡ last_value ms name
last_is_found ms name = all_found [] ms name ∙ or_none (last_value ms name)
