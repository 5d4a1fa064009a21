-- Merging keeps first places and last values.
use Rattle.std.proofs.Common.{◌≡◌, ℕ, Bool, true, false, cond, ◌||◌, ◌&&◌, List, [], ◌∷◌, ◌++◌, map, refl, sym, ap, ◌∙◌, append_assoc, append-nil}
use Rattle.std.specs.Prelude.{not, filter, Option, None, Some, bytes_eq}
use Rattle.std.specs.List.{list_any}
use Rattle.std.proofs.lemmas.Bool.{false≢true}
use Rattle.std.specs.Cmp.Lexicographic.{bytes_decides}
use Rattle.pv_tree.specs.Merging.{put, put_all, merged}
use Rattle.pv_tree.specs.Merged.{first_names, or_else, value_at, last_value}

-- values
or_else_assoc : {V : Type 0} (a b c : Option V) → or_else a (or_else b c) ≡ or_else (or_else a b) c
or_else_assoc None b c = refl
or_else_assoc (Some v) b c = refl

equal : (a b : List ℕ) → bytes_eq a b ≡ true → a ≡ b
equal a b e = (bytes_decides a b).0 e

-- one name is equal to two others, which are told apart
apart : (a b c : List ℕ) → a ≡ b → a ≡ c → bytes_eq b c ≡ false → ⊥
apart a b c e f g = false≢true (sym g ∙ (bytes_decides b c).1 (sym e ∙ f))

module _ {V : Type 0} where
  -- a value that was put is found under its name alone
  put_by : (s t u : Bool) (m : List ℕ × V) (ms : List (List ℕ × V)) (k name : List ℕ) (v : V)
      → bytes_eq k m.0 ≡ s → bytes_eq name m.0 ≡ t → bytes_eq name k ≡ u
      → value_at (put ms k v) name ≡ cond u (Some v) (value_at ms name)
      → value_at (cond s ((m.0, v) ∷ ms) (m ∷ put ms k v)) name ≡ cond u (Some v) (cond t (Some m.1) (value_at ms name))
  put_by true true true m ms k name v e f g h = rw f refl
  put_by true false false m ms k name v e f g h = rw f refl
  put_by true true false m ms k name v e f g h = absurd (apart m.0 name k (sym (equal name m.0 f)) (sym (equal k m.0 e)) g)
  put_by true false true m ms k name v e f g h = absurd (apart k name m.0 (sym (equal name k g)) (equal k m.0 e) f)
  put_by false true true m ms k name v e f g h = absurd (apart name k m.0 (equal name k g) (equal name m.0 f) e)
  put_by false true false m ms k name v e f g h = rw f refl
  put_by false false u m ms k name v e f g h = rw f h

  value_put : (ms : List (List ℕ × V)) (k name : List ℕ) (v : V) → value_at (put ms k v) name ≡ cond (bytes_eq name k) (Some v) (value_at ms name)
  value_put [] k name v = refl
  value_put (m ∷ ms) k name v = put_by (bytes_eq k m.0) (bytes_eq name m.0) (bytes_eq name k) m ms k name v refl refl refl (value_put ms k name v)

  or_cond : (t : Bool) (v : V) (o : Option V) → cond t (Some v) o ≡ or_else (cond t (Some v) None) o
  or_cond true v o = refl
  or_cond false v o = refl

  values_all : (done ms : List (List ℕ × V)) (name : List ℕ) → value_at (put_all done ms) name ≡ or_else (last_value ms name) (value_at done name)
  values_all done [] name = refl
  values_all done (m ∷ ms) name =
      values_all (put done m.0 m.1) ms name
      ∙ ap (or_else (last_value ms name)) (value_put done m.0 name m.1 ∙ or_cond (bytes_eq name m.0) m.1 (value_at done name))
      ∙ or_else_assoc (last_value ms name) (cond (bytes_eq name m.0) (Some m.1) None) (value_at done name)

  or_none : (o : Option V) → or_else o None ≡ o
  or_none None = refl
  or_none (Some v) = refl

  pub values_merged : (ms : List (List ℕ × V)) (name : List ℕ) → value_at (merged ms) name ≡ last_value ms name
  unfolding merged
  values_merged ms name = values_all [] ms name ∙ or_none (last_value ms name)

-- names
abbrev names_of : {V : Type 0} → List (List ℕ × V) → List (List ℕ)
names_of ms = map (λ m. m.0) ms

abbrev is_in : List (List ℕ) → List ℕ → Bool
is_in ns x = list_any (λ n. bytes_eq x n) ns

abbrev is_new : List (List ℕ) → List ℕ → Bool
is_new ns x = not (is_in ns x)

module _ {A : Type 0} (p q : A → Bool) where
  twice_by : (t : Bool) (x : A) (xs : List A) → filter p (filter q xs) ≡ filter (λ y. q y && p y) xs
      → filter p (cond t (x ∷ filter q xs) (filter q xs)) ≡ cond (t && p x) (x ∷ filter (λ y. q y && p y) xs) (filter (λ y. q y && p y) xs)
  twice_by true x xs h = ap (λ ys. cond (p x) (x ∷ ys) ys) h
  twice_by false x xs h = h

  filter_twice : (xs : List A) → filter p (filter q xs) ≡ filter (λ x. q x && p x) xs
  filter_twice [] = refl
  filter_twice (x ∷ xs) = twice_by (q x) x xs (filter_twice xs)

  filter_same : ((x : A) → p x ≡ q x) → (xs : List A) → filter p xs ≡ filter q xs
  filter_same e [] = refl
  filter_same e (x ∷ xs) = ap (λ t. cond t (x ∷ filter p xs) (filter p xs)) (e x) ∙ ap (λ ys. cond (q x) (x ∷ ys) ys) (filter_same e xs)

module _ {V : Type 0} where
  names_by : (s c : Bool) (m : List ℕ × V) (ms : List (List ℕ × V)) (k : List ℕ) (v : V)
      → names_of (put ms k v) ≡ cond c (names_of ms) (names_of ms ++ k ∷ [])
      → names_of (cond s ((m.0, v) ∷ ms) (m ∷ put ms k v)) ≡ cond (s || c) (m.0 ∷ names_of ms) (m.0 ∷ names_of ms ++ k ∷ [])
  names_by true c m ms k v h = refl
  names_by false true m ms k v h = ap (λ ns. m.0 ∷ ns) h
  names_by false false m ms k v h = ap (λ ns. m.0 ∷ ns) h

  names_put : (ms : List (List ℕ × V)) (k : List ℕ) (v : V) → names_of (put ms k v) ≡ cond (is_in (names_of ms) k) (names_of ms) (names_of ms ++ k ∷ [])
  names_put [] k v = refl
  names_put (m ∷ ms) k v = names_by (bytes_eq k m.0) (is_in (names_of ms) k) m ms k v (names_put ms k v)

-- of names that are kept, and one more
kept_by : (t : Bool) (ns : List (List ℕ)) (n x : List ℕ) → bytes_eq x n ≡ t → is_in ns n ≡ true → is_new ns x ≡ (not t && is_new ns x)
kept_by true ns n x e h = ap not (ap (is_in ns) (equal x n e) ∙ h)
kept_by false ns n x e h = refl

last_in : (ns : List (List ℕ)) (n x : List ℕ) → is_new (ns ++ n ∷ []) x ≡ (not (bytes_eq x n) && is_new ns x)
last_in [] n x = ends (bytes_eq x n)
  where
    ends : (t : Bool) → not (t || false) ≡ (not t && true)
    ends true = refl
    ends false = refl
last_in (y ∷ ns) n x = goes (bytes_eq x y) (bytes_eq x n) (last_in ns n x)
  where
    goes : (t u : Bool) → is_new (ns ++ n ∷ []) x ≡ (not u && is_new ns x) → not (t || is_in (ns ++ n ∷ []) x) ≡ (not u && not (t || is_in ns x))
    goes true true h = refl
    goes true false h = refl
    goes false u h = h

one_name : (t : Bool) (ns fs : List (List ℕ)) (n : List ℕ) → is_in ns n ≡ t
    → cond t ns (ns ++ n ∷ []) ++ filter (is_new (cond t ns (ns ++ n ∷ []))) fs
    ≡ ns ++ cond (not t) (n ∷ filter (is_new ns) (filter (λ x. not (bytes_eq x n)) fs)) (filter (is_new ns) (filter (λ x. not (bytes_eq x n)) fs))
one_name true ns fs n h =
    ap (λ ys. ns ++ ys) (filter_same (is_new ns) (λ x. not (bytes_eq x n) && is_new ns x) (λ x. kept_by (bytes_eq x n) ns n x refl h) fs
    ∙ sym (filter_twice (is_new ns) (λ x. not (bytes_eq x n)) fs))
one_name false ns fs n h =
    append_assoc ns (n ∷ []) (filter (is_new (ns ++ n ∷ [])) fs)
    ∙ ap (λ ys. ns ++ n ∷ ys) (filter_same (is_new (ns ++ n ∷ [])) (λ x. not (bytes_eq x n) && is_new ns x) (last_in ns n) fs
    ∙ sym (filter_twice (is_new ns) (λ x. not (bytes_eq x n)) fs))

all_new : (fs : List (List ℕ)) → filter (is_new []) fs ≡ fs
all_new [] = refl
all_new (f ∷ fs) = ap (λ ys. f ∷ ys) (all_new fs)

module _ {V : Type 0} where
  names_all : (done ms : List (List ℕ × V)) → names_of (put_all done ms) ≡ names_of done ++ filter (is_new (names_of done)) (first_names (names_of ms))
  names_all done [] = sym (append-nil (names_of done))
  names_all done (m ∷ ms) =
      names_all (put done m.0 m.1) ms
      ∙ ap (λ ns. ns ++ filter (is_new ns) (first_names (names_of ms))) (names_put done m.0 m.1)
      ∙ one_name (is_in (names_of done) m.0) (names_of done) (first_names (names_of ms)) m.0 refl

  pub names_merged : (ms : List (List ℕ × V)) → names_of (merged ms) ≡ first_names (names_of ms)
  unfolding merged
  names_merged ms = names_all [] ms ∙ all_new (first_names (names_of ms))
