-- Two values are the same exactly where their keys are alike.
use Rattle.std.proofs.Common.{◌≡◌, ◌&&◌, ◌==◌, inl, inr, ℕ, Bool, true, false, List, [], ◌∷◌, ◌++◌, map, refl, sym, ap, ◌∙◌, subst, append_assoc, append-nil, arith}
use Rattle.std.specs.Prelude.{bytes_eq, if◌then◌else◌, nat_lt}
use Rattle.std.specs.List.{AllByRecursion}
use Rattle.std.specs.declared.cmp.Ordering.TheVariants.{Equal}
use Rattle.std.specs.Ordering.{is_eq, eq_by_cmp}
use Rattle.std.proofs.lemmas.Bool.Decides.{nat_tests}
use Rattle.std.proofs.lemmas.Cmp.{alike_right}
use Rattle.std.proofs.Math.Bool.{and-true}
use lib.Pointwise.{pointwise}
use Rattle.pv_tree.specs.declared.Value.{Value}
use Rattle.pv_tree.specs.declared.Value.TheOpen.{Value-F}
use Rattle.pv_tree.specs.declared.Value.TheViews.{roll-Value}
use Rattle.pv_equality.specs.Equality.{same, mutual_inclusion}
use Rattle.pv_equality.proofs.Bools.{both, first, second, same_test}
use Rattle.pv_equality.proofs.Inclusion.{In, at, each, each_so, Included, told, tell}
use Rattle.pv_equality.proofs.Shapes.{Shape, Part, shape, same_shape, same_part, same_own, same_inside, AllWithin}
use Rattle.pv_equality.proofs.Levels.{same_by_shapes, by_shapes}
use Rattle.pv_distinct.specs.declared.token.Token.TheVariants as token
use Rattle.pv_distinct.specs.Tokens.{token_kind}
use Rattle.pv_distinct.specs.TokenOrder.{keys_total}
use Rattle.pv_distinct.specs.Keys.{KeyTokens, key, key_cmp, joined, ordered, start_at}
use Rattle.pv_distinct.proofs.Ordering.{equal_told, all_ordered, ascends, has, same_lists, like_among, like_back}
use Rattle.pv_distinct.proofs.Cutting.{alike, alike_keys, token_told, keys_compared, kinds_alike, joins, all_join, Begins, Ends, cut_list}
use Rattle.pv_distinct.proofs.Levels.{none_told, own_told, own_kind, key_level, part_key, parts_key, inside_key, rest_key}

-- what is to be shown of each value
abbrev Forth : Value → Type 0
Forth v = (w : Value) → same v w ≡ true → alike_keys (key v) (key w) ≡ true

abbrev Back : Value → Type 0
Back v = (w : Value) (r s : KeyTokens) → alike_keys (key v ++ r) (key w ++ s) ≡ true → (same v w ≡ true) × (alike_keys r s ≡ true)

abbrev Tells : Value → Type 0
Tells v = Forth v × Back v

-- keys begin with a value's own token
abbrev starts_value : ℕ → Bool
starts_value k = nat_lt k 12

abbrev starts_part : ℕ → Bool
starts_part k = nat_lt k 13

abbrev starts_parts : ℕ → Bool
starts_parts k = k == 13

own_starts : (x : Value-F Value) → starts_value (token_kind (start_at x)) ≡ true
own_starts Value-F.None = refl
own_starts (Value-F.Bool b) = refl
own_starts (Value-F.Int n) = refl
own_starts (Value-F.Lexeme lexeme) = refl
own_starts (Value-F.Str text) = refl
own_starts (Value-F.Bytes bytes) = refl
own_starts (Value-F.Atom kind text) = refl
own_starts (Value-F.Enum cls name v) = refl
own_starts (Value-F.List vs) = refl
own_starts (Value-F.Tuple vs) = refl
own_starts (Value-F.Set vs) = refl
own_starts (Value-F.Frozen vs) = refl
own_starts (Value-F.Dict es) = refl
own_starts (Value-F.Model cls fs set es) = refl
own_starts (Value-F.Root cls v) = refl

key_begins : (v : Value) → Unit {0} → Begins starts_value (key v)
key_begins = by_shapes (λ v. Unit {0} → Begins starts_value (key v)) (λ x _ _. subst (Begins starts_value) (sym (key_level x)) (own_starts x))

below : (k : ℕ) → nat_lt k 12 ≡ true → nat_lt k 13 ≡ true
below k h = grind (arith, nat_tests)

-- tokens that are marks
name_alike : (n m : List ℕ) → alike (token.Name n) (token.Name m) ≡ bytes_eq n m
name_alike n m = token_told (token.Name n) (token.Name m) ∙ (λ i. none_told i && (bytes_eq n m && true)) ∙ and-true (bytes_eq n m)

open_alike : alike token.Open token.Open ≡ true
open_alike = token_told token.Open token.Open ∙ (λ i. none_told i && true)

end_alike : alike token.End token.End ≡ true
end_alike = token_told token.End token.End ∙ (λ i. none_told i && true)

-- values in order
all_units : {X : Type 0} (xs : List X) → AllByRecursion (λ _. Unit {0}) xs
all_units xs = each (λ _. Unit {0}) xs (λ _ _. tt)

items_forth : (vs ws : List Value) → AllByRecursion Tells vs → pointwise same vs ws ≡ true → pointwise alike_keys (map key vs) (map key ws) ≡ true
items_forth [] [] a h = refl
items_forth [] (w ∷ ws) a h = cc
items_forth (v ∷ vs) [] a h = cc
items_forth (v ∷ vs) (w ∷ ws) a h = both (a.0.0 w (first (same v w) (pointwise same vs ws) h)) (items_forth vs ws a.1 (second (same v w) (pointwise same vs ws) h))

items_back : (vs ws : List Value) → AllByRecursion Tells vs → (r s : KeyTokens) → Ends starts_value r → Ends starts_value s
    → alike_keys (joined (map key vs) ++ r) (joined (map key ws) ++ s) ≡ true → (pointwise same vs ws ≡ true) × (alike_keys r s ≡ true)
items_back vs ws a = cut_list key same (λ _. Unit {0}) starts_value key_begins vs ws (all_units vs) (each_so Tells (λ v t w _. t.1 w) vs a) (all_units ws)

-- a part
abbrev TellsPart : Part Value → Type 0
TellsPart p = AllByRecursion Tells p.1

part_forth : (p q : Part Value) → TellsPart p → same_part same p q ≡ true → alike_keys (part_key p) (part_key q) ≡ true
part_forth p q a h =
    joins (joined (map key p.1)) (joined (map key q.1)) (token.Name p.0 ∷ []) (token.Name q.0 ∷ [])
    (all_join (map key p.1) (map key q.1) (items_forth p.1 q.1 a (second (bytes_eq p.0 q.0) (pointwise same p.1 q.1) h)))
    (both (name_alike p.0 q.0 ∙ first (bytes_eq p.0 q.0) (pointwise same p.1 q.1) h) refl)

part_back : (p q : Part Value) → TellsPart p → (r s : KeyTokens) → alike_keys (part_key p ++ r) (part_key q ++ s) ≡ true → (same_part same p q ≡ true) × (alike_keys r s ≡ true)
part_back p q a r s h =
    let h1 : alike_keys (joined (map key p.1) ++ token.Name p.0 ∷ r) (joined (map key q.1) ++ token.Name q.0 ∷ s) ≡ true
    = sym (λ i. alike_keys (append_assoc (joined (map key p.1)) (token.Name p.0 ∷ []) r i) (append_assoc (joined (map key q.1)) (token.Name q.0 ∷ []) s i)) ∙ h in
    let k = items_back p.1 q.1 a (token.Name p.0 ∷ r) (token.Name q.0 ∷ s) refl refl h1 in
    let n : bytes_eq p.0 q.0 ≡ true = sym (name_alike p.0 q.0) ∙ first (alike (token.Name p.0) (token.Name q.0)) (alike_keys r s) k.1 in
    (both n k.0, second (alike (token.Name p.0) (token.Name q.0)) (alike_keys r s) k.1)

items_begin : (vs : List Value) (n : List ℕ) → Begins starts_part (joined (map key vs) ++ token.Name n ∷ [])
items_begin [] n = refl
items_begin (v ∷ vs) n = begin (key v) (joined (map key vs)) (key_begins v tt)
  where
    begin : (k l : KeyTokens) → Begins starts_value k → Begins starts_part ((k ++ l) ++ token.Name n ∷ [])
    begin [] l b = absurd b
    begin (t ∷ k) l b = below (token_kind t) b

-- sets of parts
abbrev IsPart : List (Part Value) → KeyTokens → Type 0
IsPart ps k = (p : Part Value) × In p ps × (part_key p ≡ k)

parts_of : (ps : List (Part Value)) → AllByRecursion (IsPart ps) (map part_key ps)
parts_of ps = make ps (λ p i. i)
  where
    make : (qs : List (Part Value)) → ((p : Part Value) → In p qs → In p ps) → AllByRecursion (IsPart ps) (map part_key qs)
    make [] f = tt
    make (q ∷ qs) f = ((q, f q (inl refl), refl), make qs (λ p i. f p (inr i)))

in_map : (ps : List (Part Value)) (p : Part Value) → In p ps → In (part_key p) (map part_key ps)
in_map [] p i = absurd i
in_map (q ∷ ps) p (inl e) = inl (ap part_key e)
in_map (q ∷ ps) p (inr i) = inr (in_map ps p i)

abbrev keys_of : List (Part Value) → List KeyTokens
keys_of ps = ordered (map part_key ps)

from_parts : (ps : List (Part Value)) → AllByRecursion (IsPart ps) (keys_of ps)
from_parts ps = all_ordered key_cmp (IsPart ps) [] (map part_key ps) tt (parts_of ps)

alike_tests : (ks ls : List KeyTokens) → pointwise (eq_by_cmp key_cmp) ks ls ≡ pointwise alike_keys ks ls
alike_tests ks ls = λ i. pointwise (λ k l. keys_compared k l i) ks ls

abbrev IsKey : KeyTokens → Type 0
IsKey k = (p : Part Value) × (part_key p ≡ k)

key_of_part_begins : (k : KeyTokens) → IsKey k → Begins starts_part k
key_of_part_begins k p = subst (Begins starts_part) p.1 (items_begin p.0.1 p.0.0)

map_same : (ks : List KeyTokens) → map (λ k. k) ks ≡ ks
map_same [] = refl
map_same (k ∷ ks) = ap (λ ls. k ∷ ls) (map_same ks)

module _ (ps : List (Part Value)) (a : AllByRecursion TellsPart ps) (qs : List (Part Value)) where
  ordered_alike : Included (same_part same) ps qs → pointwise alike_keys (keys_of ps) (keys_of qs) ≡ true
  ordered_alike h =
      sym (alike_tests (keys_of ps) (keys_of qs))
      ∙ same_lists key_cmp keys_total (keys_of ps) (keys_of qs) (ascends key_cmp keys_total [] (map part_key ps) tt) (ascends key_cmp keys_total [] (map part_key qs) tt)
      (λ k i.
      let p = at (IsPart ps) (keys_of ps) k (from_parts ps) i in
      let q = h.among p.0 p.1 in
      let l = has key_cmp keys_total [] (map part_key qs) (part_key q.0) (in_map qs q.0 q.1) in
      let e : key_cmp (part_key p.0) (part_key q.0) ≡ Equal = equal_told _ (keys_compared (part_key p.0) (part_key q.0) ∙ part_forth p.0 q.0 (at TellsPart ps p.0 a p.1) q.2) in
      (l.0, l.1, subst (λ z. key_cmp z l.0 ≡ Equal) p.2 (keys_total.congr (part_key p.0) (part_key q.0) l.0 e ∙ l.2)))
      (λ k i.
      let q = at (IsPart qs) (keys_of qs) k (from_parts qs) i in
      let p = h.back q.0 q.1 in
      let l = has key_cmp keys_total [] (map part_key ps) (part_key p.0) (in_map ps p.0 p.1) in
      let e : key_cmp (part_key p.0) (part_key q.0) ≡ Equal = equal_told _ (keys_compared (part_key p.0) (part_key q.0) ∙ part_forth p.0 q.0 (at TellsPart ps p.0 a p.1) p.2) in
      (l.0, l.1, subst (λ z. key_cmp l.0 z ≡ Equal) q.2 (sym (keys_total.congr (part_key p.0) l.0 (part_key q.0) l.2) ∙ e)))

  parts_forth : mutual_inclusion (same_part same) ps qs ≡ true → alike_keys (parts_key ps) (parts_key qs) ≡ true
  parts_forth h =
      both open_alike
      (joins (joined (keys_of ps)) (joined (keys_of qs)) (token.End ∷ []) (token.End ∷ []) (all_join (keys_of ps) (keys_of qs) (ordered_alike (told (same_part same) ps qs h))) (both end_alike refl))

  alike_parts : (p q : Part Value) → In p ps → alike_keys (part_key p) (part_key q) ≡ true → same_part same p q ≡ true
  alike_parts p q i h =
      (part_back p q (at TellsPart ps p a i) [] [] ((λ j. alike_keys (append-nil (part_key p) j) (append-nil (part_key q) j)) ∙ h)).0

  included : pointwise alike_keys (keys_of ps) (keys_of qs) ≡ true → Included (same_part same) ps qs
  included h =
      let g : pointwise (eq_by_cmp key_cmp) (keys_of ps) (keys_of qs) ≡ true = alike_tests (keys_of ps) (keys_of qs) ∙ h in
      record {
        among = λ p i.
            let k = has key_cmp keys_total [] (map part_key ps) (part_key p) (in_map ps p i) in
            let l = like_among key_cmp (keys_of ps) (keys_of qs) g k.0 k.1 in
            let q = at (IsPart qs) (keys_of qs) l.0 (from_parts qs) l.1 in
            let e : key_cmp (part_key p) l.0 ≡ Equal = keys_total.congr (part_key p) k.0 l.0 k.2 ∙ equal_told _ l.2 in
            (q.0, q.1, alike_parts p q.0 i (subst (λ z. alike_keys (part_key p) z ≡ true) (sym q.2) (sym (keys_compared (part_key p) l.0) ∙ ap is_eq e)));
        back = λ q i.
            let l = has key_cmp keys_total [] (map part_key qs) (part_key q) (in_map qs q i) in
            let k = like_back key_cmp (keys_of ps) (keys_of qs) g l.0 l.1 in
            let p = at (IsPart ps) (keys_of ps) k.0 (from_parts ps) k.1 in
            let e : key_cmp k.0 (part_key q) ≡ Equal = alike_right keys_total (part_key q) l.0 k.0 l.2 ∙ equal_told _ k.2 in
            (p.0, p.1, alike_parts p.0 q p.1 (subst (λ z. alike_keys z (part_key q) ≡ true) (sym p.2) (sym (keys_compared k.0 (part_key q)) ∙ ap is_eq e)));
      }

  cut_parts : (k : KeyTokens) → IsPart ps k → (l : KeyTokens) → IsKey l → (r s : KeyTokens) → alike_keys (k ++ r) (l ++ s) ≡ true → (alike_keys k l ≡ true) × (alike_keys r s ≡ true)
  cut_parts k p l q r s h =
      let c = part_back p.0 q.0 (at TellsPart ps p.0 a p.1) r s ((λ i. alike_keys (p.2 i ++ r) (q.1 i ++ s)) ∙ h) in
      (sym (λ i. alike_keys (p.2 i) (q.1 i)) ∙ part_forth p.0 q.0 (at TellsPart ps p.0 a p.1) c.0, c.1)

  behind : (ls : List KeyTokens) (r : KeyTokens) → (joined ls ++ token.End ∷ []) ++ r ≡ joined (map (λ k. k) ls) ++ token.End ∷ r
  behind ls r = append_assoc (joined ls) (token.End ∷ []) r ∙ (λ i. joined (sym (map_same ls) i) ++ token.End ∷ r)

  parts_back : (r s : KeyTokens) → alike_keys (parts_key ps ++ r) (parts_key qs ++ s) ≡ true → (mutual_inclusion (same_part same) ps qs ≡ true) × (alike_keys r s ≡ true)
  parts_back r s h =
      let g : alike_keys (joined (map (λ k. k) (keys_of ps)) ++ token.End ∷ r) (joined (map (λ k. k) (keys_of qs)) ++ token.End ∷ s) ≡ true
      = sym (λ i. alike_keys (behind (keys_of ps) r i) (behind (keys_of qs) s i))
      ∙ second (alike token.Open token.Open) (alike_keys ((joined (keys_of ps) ++ token.End ∷ []) ++ r) ((joined (keys_of qs) ++ token.End ∷ []) ++ s)) h in
      let c = cut_list (λ k. k) alike_keys IsKey starts_part key_of_part_begins (keys_of ps) (keys_of qs)
      (each_so (IsPart ps) (λ k p. (p.0, p.2)) (keys_of ps) (from_parts ps)) (each_so (IsPart ps) cut_parts (keys_of ps) (from_parts ps))
      (each_so (IsPart qs) (λ k p. (p.0, p.2)) (keys_of qs) (from_parts qs)) (token.End ∷ r) (token.End ∷ s) refl refl g in
      (tell (same_part same) ps qs (included c.0), second (alike token.End token.End) (alike_keys r s) c.1)

-- the sets of a level
sets_forth : (ss ts : List (List (Part Value))) → AllByRecursion (AllByRecursion TellsPart) ss → pointwise (mutual_inclusion (same_part same)) ss ts ≡ true
    → pointwise alike_keys (map parts_key ss) (map parts_key ts) ≡ true
sets_forth [] [] a h = refl
sets_forth [] (t ∷ ts) a h = cc
sets_forth (s ∷ ss) [] a h = cc
sets_forth (s ∷ ss) (t ∷ ts) a h =
    both (parts_forth s a.0 t (first (mutual_inclusion (same_part same) s t) (pointwise (mutual_inclusion (same_part same)) ss ts) h))
    (sets_forth ss ts a.1 (second (mutual_inclusion (same_part same) s t) (pointwise (mutual_inclusion (same_part same)) ss ts) h))

sets_back : (ss ts : List (List (Part Value))) → AllByRecursion (AllByRecursion TellsPart) ss → (r s : KeyTokens) → Ends starts_parts r → Ends starts_parts s
    → alike_keys (joined (map parts_key ss) ++ r) (joined (map parts_key ts) ++ s) ≡ true → (pointwise (mutual_inclusion (same_part same)) ss ts ≡ true) × (alike_keys r s ≡ true)
sets_back ss ts a =
    cut_list parts_key (mutual_inclusion (same_part same)) (λ _. Unit {0}) starts_parts (λ ps _. refl) ss ts (all_units ss)
    (each_so (AllByRecursion TellsPart) (λ ps b qs _ r s. parts_back ps b qs r s) ss a) (all_units ts)

-- what stands inside a level
sets_end : (ss : List (List (Part Value))) (r : KeyTokens) → Ends starts_value (joined (map parts_key ss) ++ token.End ∷ r)
sets_end [] r = refl
sets_end (s ∷ ss) r = refl

inside_forth : (s t : Shape Value) → AllWithin Tells s → same_inside same s t ≡ true → alike_keys (inside_key s) (inside_key t) ≡ true
inside_forth s t a h =
    joins (joined (map key s.items)) (joined (map key t.items)) _ _
    (all_join (map key s.items) (map key t.items) (items_forth s.items t.items a.0 (first (pointwise same s.items t.items) (pointwise (mutual_inclusion (same_part same)) s.sets t.sets) h)))
    (joins (joined (map parts_key s.sets)) (joined (map parts_key t.sets)) (token.End ∷ []) (token.End ∷ [])
    (all_join (map parts_key s.sets) (map parts_key t.sets) (sets_forth s.sets t.sets a.1 (second (pointwise same s.items t.items) (pointwise (mutual_inclusion (same_part same)) s.sets t.sets) h)))
    (both end_alike refl))

inside_whole : (s : Shape Value) (r : KeyTokens) → inside_key s ++ r ≡ joined (map key s.items) ++ (joined (map parts_key s.sets) ++ token.End ∷ r)
inside_whole s r =
    append_assoc (joined (map key s.items)) (joined (map parts_key s.sets) ++ token.End ∷ []) r
    ∙ (λ i. joined (map key s.items) ++ append_assoc (joined (map parts_key s.sets)) (token.End ∷ []) r i)

inside_back : (s t : Shape Value) → AllWithin Tells s → (q r : KeyTokens) → alike_keys (inside_key s ++ q) (inside_key t ++ r) ≡ true → (same_inside same s t ≡ true) × (alike_keys q r ≡ true)
inside_back s t a q r h =
    let g = sym (λ i. alike_keys (inside_whole s q i) (inside_whole t r i)) ∙ h in
    let k = items_back s.items t.items a.0 (joined (map parts_key s.sets) ++ token.End ∷ q) (joined (map parts_key t.sets) ++ token.End ∷ r) (sets_end s.sets q) (sets_end t.sets r) g in
    let l = sets_back s.sets t.sets a.1 (token.End ∷ q) (token.End ∷ r) refl refl k.1 in
    (both k.0 l.0, second (alike token.End token.End) (alike_keys q r) l.1)

-- leaves have nothing inside
leaf_empty : (x : Value-F Value) → nat_lt (shape x).kind 5 ≡ true → ((shape x).items ≡ []) × ((shape x).sets ≡ [])
leaf_empty Value-F.None h = (refl, refl)
leaf_empty (Value-F.Bool b) h = (refl, refl)
leaf_empty (Value-F.Int n) h = (refl, refl)
leaf_empty (Value-F.Lexeme lexeme) h = (refl, refl)
leaf_empty (Value-F.Str text) h = (refl, refl)
leaf_empty (Value-F.Bytes bytes) h = (refl, refl)
leaf_empty (Value-F.Atom kind text) h = (refl, refl)
leaf_empty (Value-F.Enum cls name v) h = cc
leaf_empty (Value-F.List vs) h = cc
leaf_empty (Value-F.Tuple vs) h = cc
leaf_empty (Value-F.Set vs) h = cc
leaf_empty (Value-F.Frozen vs) h = cc
leaf_empty (Value-F.Dict es) h = cc
leaf_empty (Value-F.Model cls fs set es) h = cc
leaf_empty (Value-F.Root cls v) h = cc

leaves_inside : (x y : Value-F Value) → nat_lt (shape x).kind 5 ≡ true → nat_lt (shape y).kind 5 ≡ true → same_inside same (shape x) (shape y) ≡ true
leaves_inside x y h g =
    let k = leaf_empty x h in
    let l = leaf_empty y g in
    λ i. pointwise same (k.0 i) (l.0 i) && pointwise (mutual_inclusion (same_part same)) (k.1 i) (l.1 i)

abbrev rest_at : Bool → Shape Value → KeyTokens
rest_at b s = if b then [] else inside_key s

rests_forth : (b c : Bool) (s t : Shape Value) → b ≡ c → AllWithin Tells s → same_inside same s t ≡ true → alike_keys (rest_at b s) (rest_at c t) ≡ true
rests_forth true true s t e a h = refl
rests_forth true false s t e a h = cc
rests_forth false true s t e a h = cc
rests_forth false false s t e a h = inside_forth s t a h

rests_back : (b c : Bool) (s t : Shape Value) → b ≡ c → AllWithin Tells s → (b ≡ true → c ≡ true → same_inside same s t ≡ true) → (q r : KeyTokens)
    → alike_keys (rest_at b s ++ q) (rest_at c t ++ r) ≡ true → (same_inside same s t ≡ true) × (alike_keys q r ≡ true)
rests_back true true s t e a f q r h = (f refl refl, h)
rests_back true false s t e a f q r h = cc
rests_back false true s t e a f q r h = cc
rests_back false false s t e a f q r h = inside_back s t a q r h

abbrev is_leaf : Value-F Value → Bool
is_leaf x = nat_lt (shape x).kind 5

leaves_alike : (x y : Value-F Value) → alike (start_at x) (start_at y) ≡ true → is_leaf x ≡ is_leaf y
leaves_alike x y h = λ i. nat_lt ((sym (own_kind x) ∙ kinds_alike (start_at x) (start_at y) h ∙ own_kind y) i) 5

module _ (x : Value-F Value) (a : AllWithin Tells (shape x)) (y : Value-F Value) where
  level_forth : same (roll-Value x) (roll-Value y) ≡ true → alike_keys (key (roll-Value x)) (key (roll-Value y)) ≡ true
  level_forth h =
      let g : same_shape same (shape x) (shape y) ≡ true = sym (same_by_shapes x y) ∙ h in
      let o : alike (start_at x) (start_at y) ≡ true = own_told x y ∙ first (same_own (shape x) (shape y)) (same_inside same (shape x) (shape y)) g in
      (λ i. alike_keys (key_level x i) (key_level y i))
      ∙ both o (rests_forth (is_leaf x) (is_leaf y) (shape x) (shape y) (leaves_alike x y o) a (second (same_own (shape x) (shape y)) (same_inside same (shape x) (shape y)) g))

  level_back : (r s : KeyTokens) → alike_keys (key (roll-Value x) ++ r) (key (roll-Value y) ++ s) ≡ true → (same (roll-Value x) (roll-Value y) ≡ true) × (alike_keys r s ≡ true)
  level_back r s h =
      let g : alike_keys (start_at x ∷ (rest_key (shape x) ++ r)) (start_at y ∷ (rest_key (shape y) ++ s)) ≡ true = sym (λ i. alike_keys (key_level x i ++ r) (key_level y i ++ s)) ∙ h in
      let o : alike (start_at x) (start_at y) ≡ true = first (alike (start_at x) (start_at y)) (alike_keys (rest_key (shape x) ++ r) (rest_key (shape y) ++ s)) g in
      let k = rests_back (is_leaf x) (is_leaf y) (shape x) (shape y) (leaves_alike x y o) a (leaves_inside x y) r s
      (second (alike (start_at x) (start_at y)) (alike_keys (rest_key (shape x) ++ r) (rest_key (shape y) ++ s)) g) in
      (same_by_shapes x y ∙ both (sym (own_told x y) ∙ o) k.0, k.1)

rolled : (P : Value → Type 0) → ((x : Value-F Value) → P (roll-Value x)) → (v : Value) → P v
rolled P f = by_shapes P (λ x _. f x)

tells : (v : Value) → Tells v
tells = by_shapes Tells (λ x a. (
  rolled (λ w. same (roll-Value x) w ≡ true → alike_keys (key (roll-Value x)) (key w) ≡ true) (level_forth x a),
  rolled (λ w. (r s : KeyTokens) → alike_keys (key (roll-Value x) ++ r) (key w ++ s) ≡ true → (same (roll-Value x) w ≡ true) × (alike_keys r s ≡ true)) (level_back x a),
))

pub keys_tell : (v w : Value) → is_eq (key_cmp (key v) (key w)) ≡ same v w
keys_tell v w =
    keys_compared (key v) (key w)
    ∙ same_test (alike_keys (key v) (key w)) (same v w) (λ h. ((tells v).1 w [] [] ((λ i. alike_keys (append-nil (key v) i) (append-nil (key w) i)) ∙ h)).0) ((tells v).0 w)
