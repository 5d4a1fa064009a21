-- A value, or an entry, put among others at the place that an index found for it.
use Rattle.std.proofs.Common.{◌≡◌, ℕ, ◌+◌, ◌<◌, List, [], ◌∷◌, ◌++◌, length, get_or, take, length-append, sym, ap, ◌∙◌, subst, arith}
use Rattle.std.specs.Prelude.{slice_set}
use Rattle.std.proofs.Math.Seq.{get_or-append_seam, take-append_seam}
use Rattle.std.proofs.lemmas.List.{same_from_push}
use Rattle.pv_tree.specs.declared.Value.{Value}
use Rattle.pv_equality.specs.Steps.{put_item, put_entry}
use Rattle.pv_equality.proofs.Merging.{keys_more}
use Rattle.pv_distinct.specs.Sightings.{IsSeen, place_of}
use Rattle.pv_distinct.specs.declared.seen.Seen.{Seen}
use Rattle.pv_distinct.specs.declared.seen.Place.{Place}
use Rattle.pv_distinct.specs.declared.seen.Place.TheVariants as place
use Rattle.pv_distinct.proofs.Placing.{keys, item_new, item_old, entry_new, entry_old, entry_within}

-- the last of some values is the one that was added
pub last_is : {X : Type 0} → (xs ys : List X) (x y : X) (n : ℕ) → n ≡ length xs → ys ≡ xs ++ x ∷ [] → y ≡ get_or ys n y → y ≡ x
last_is xs ys x y n p q e = e ∙ ap (λ us. get_or us n y) q ∙ ap (λ k. get_or (xs ++ x ∷ []) k y) p ∙ get_or-append_seam xs x [] y

-- what is left when the last of some is cut off
pub cut_last : {X : Type 0} → (xs us ws : List X) (x : X) (n : ℕ) → n ≡ length xs → us ≡ xs ++ x ∷ [] → ws ≡ take n us → ws ≡ xs
cut_last xs us ws x n p q e = e ∙ ap (take n) q ∙ ap (λ k. take k (xs ++ x ∷ [])) p ∙ take-append_seam xs (x ∷ [])

-- what the index found, and what was made of it
pub value_found : (vs whole us : List Value) (v x : Value) (n : ℕ) (p : Place) → us ≡ vs → vs ≡ whole → x ≡ v → p ≡ place_of vs x → p ≡ place.Old n → us ≡ put_item whole v
value_found vs whole us v x n p cut same_list last told is =
    cut ∙ sym (item_old vs x n (sym told ∙ is)) ∙ ap (λ y. put_item vs y) last ∙ ap (λ ws. put_item ws v) same_list

pub value_added : (vs whole ws : List Value) (v x : Value) (p : Place) → vs ≡ whole → x ≡ v → p ≡ place_of vs x → p ≡ place.New → ws ≡ vs ++ v ∷ [] → ws ≡ put_item whole v
value_added vs whole ws v x p same_list last told is made =
    made ∙ ap (λ y. vs ++ y ∷ []) (sym last) ∙ sym (item_new vs x (sym told ∙ is)) ∙ ap (λ y. put_item vs y) last ∙ ap (λ us. put_item us v) same_list

pub seen_found : (s : Seen) (vs us : List Value) (x : Value) (n : ℕ) (p : Place) → us ≡ vs → p ≡ place_of vs x → p ≡ place.Old n → IsSeen s (put_item vs x) → IsSeen s us
seen_found s vs us x n p cut told is h = subst (IsSeen s) (item_old vs x n (sym told ∙ is) ∙ sym cut) h

pub seen_added : (s : Seen) (vs ws : List Value) (v x : Value) (p : Place) → x ≡ v → p ≡ place_of vs x → p ≡ place.New → ws ≡ vs ++ v ∷ [] → IsSeen s (put_item vs x) → IsSeen s ws
seen_added s vs ws v x p last told is made h = subst (IsSeen s) (item_new vs x (sym told ∙ is) ∙ ap (λ y. vs ++ y ∷ []) last ∙ sym made) h

-- entries
pub moved : (es before after : List (Value × Value)) (e x : Value × Value) (n : ℕ) → before ++ x ∷ [] ≡ es ++ e ∷ []
    → ((d : Value × Value) → after ≡ slice_set before n ((get_or before n d).0, x.1)) → after ≡ slice_set es n ((get_or es n e).0, e.1)
moved es before after e x n same_list h =
    let parts = same_from_push before es x e same_list in
    h e ∙ ap (λ ys. slice_set ys n ((get_or ys n e).0, x.1)) parts.0 ∙ ap (λ y. slice_set es n ((get_or es n e).0, y.1)) parts.1

pub moved_entry : (n : ℕ) (es whole fs us : List (Value × Value)) (e : Value × Value) (k : Value) (p : Place) → es ≡ whole → k ≡ e.0 → p ≡ place_of (keys es) k → p ≡ place.Old n
    → us ≡ es ++ e ∷ [] → ((xs : List (Value × Value)) (x : Value × Value) → us ≡ xs ++ x ∷ [] → fs ≡ slice_set xs n ((get_or xs n x).0, x.1)) → fs ≡ put_entry whole e.0 e.1
moved_entry n es whole fs us e k p same_list key told is pushed made =
    made es e pushed ∙ sym (entry_old e.0 e.1 es n e (ap (place_of (keys es)) (sym key) ∙ sym told ∙ is)) ∙ ap (λ gs. put_entry gs e.0 e.1) same_list

pub pushed_entry : (es whole fs : List (Value × Value)) (e : Value × Value) (k : Value) (p : Place) → es ≡ whole → k ≡ e.0 → p ≡ place_of (keys es) k → p ≡ place.New → fs ≡ es ++ e ∷ []
    → fs ≡ put_entry whole e.0 e.1
pushed_entry es whole fs e k p same_list key told is made =
    made ∙ sym (entry_new e.0 e.1 es (ap (place_of (keys es)) (sym key) ∙ sym told ∙ is)) ∙ ap (λ gs. put_entry gs e.0 e.1) same_list

pub within : (n : ℕ) (es us : List (Value × Value)) (x : Value × Value) (k : Value) (p : Place) → us ≡ es ++ x ∷ [] → p ≡ place_of (keys es) k → p ≡ place.Old n → n + 1 < length us
within n es us x k p pushed told is =
    let below : n < length es = entry_within k k es n (sym told ∙ is) in
    omega (arith, ap length pushed, length-append es (x ∷ []), below)

pub seen_put : (s : Seen) (es fs : List (Value × Value)) (e : Value × Value) (k : Value) → k ≡ e.0 → fs ≡ put_entry es e.0 e.1 → IsSeen s (put_item (keys es) k) → IsSeen s (keys fs)
seen_put s es fs e k key made h =
    subst (IsSeen s) (sym (ap keys made ∙ keys_more es e.0 e.1)) (subst (λ w. IsSeen s (put_item (keys es) w)) key h)
