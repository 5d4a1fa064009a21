-- First places of tags in a list that grows.
use Rattle.std.proofs.Common.{◌≡◌, ℕ, ◌+◌, ◌<◌, Bool, true, false, true≢false, cond, List, [], ◌∷◌, ◌++◌, length, take, get_or, refl, sym, ap, ◌∙◌, arith}
use Rattle.std.specs.Prelude.{Option, None, Some, is_some, bytes_eq, String}
use Rattle.std.specs.Option.{option_or}
use Rattle.std.specs.BTreeMap.{BTreeMap, get_by_text, Updates}
use Rattle.std.specs.Cmp.Lexicographic.{bytes_decides, nat_list_eq_equiv}
use Rattle.std.proofs.lemmas.List.{take_more, length-take-le}
use Rattle.std.specs.String.{string_bytes, string_cmp}
use Rattle.std.proofs.lemmas.Map.Text.{btree_map_updates_text}
use Rattle.pv_union.specs.Tags.{place_from}
use Rattle.pv_union.specs.TagPlaces.{KeepsPlaces}

or_none : (o : Option ℕ) → o ≡ option_or o None
or_none None = refl
or_none (Some x) = refl

-- one tag more
more_by : (b c : Bool) (i last : ℕ) (o new : Option ℕ) → new ≡ option_or o (cond c (Some last) None) → cond b (Some i) new ≡ option_or (cond b (Some i) o) (cond c (Some last) None)
more_by true c i last o new h = refl
more_by false c i last o new h = h

place_more : (i last : ℕ) (tags : List (List ℕ)) (tag key : List ℕ) → last ≡ i + length tags
    → place_from i (tags ++ tag ∷ []) key ≡ option_or (place_from i tags key) (cond (bytes_eq key tag) (Some last) None)
place_more i last [] tag key e = let same : i ≡ last = omega (arith, e) in ap (λ j. cond (bytes_eq key tag) (Some j) None) same
place_more i last (t ∷ tags) tag key e =
    more_by (bytes_eq key t) (bytes_eq key tag) i last (place_from (i + 1) tags key) (place_from (i + 1) (tags ++ tag ∷ []) key) (place_more (i + 1) last tags tag key (omega (arith, e)))

abbrev pub Notes : {Y : Type 0} → BTreeMap (String Y) ℕ → BTreeMap (String Y) ℕ → List ℕ → ℕ → Type 0
Notes old new tag place = (key : List ℕ) → get_by_text new key ≡ option_or (get_by_text old key) (cond (bytes_eq key tag) (Some place) None)

-- the key is that of the tag, or another one
noted_by : (b : Bool) (key tag : List ℕ) (place : ℕ) (found new : Option ℕ) → (b ≡ true → key ≡ tag) → (key ≡ tag → is_some found ≡ false)
    → new ≡ cond b (Some place) found → new ≡ option_or found (cond b (Some place) None)
noted_by true key tag place None new same absent e = e
noted_by true key tag place (Some x) new same absent e = absurd (true≢false (absent (same refl)))
noted_by false key tag place found new same absent e = e ∙ or_none found

pub noted : {Y : Type 0} (old new : BTreeMap (String Y) ℕ) (tag : List ℕ) (shared : String Y) (place : ℕ) → is_some (get_by_text old tag) ≡ false → string_bytes shared ≡ tag
    → Updates string_cmp old new shared (Some place) → Notes old new tag place
noted old new tag shared place absent same u = λ key.
    let w = btree_map_updates_text (string_bytes shared) old new (Some place) u key in
    noted_by (bytes_eq key tag) key tag place (get_by_text old key) (get_by_text new key) ((bytes_decides key tag).0) (λ e. ap (λ k. is_some (get_by_text old k)) e ∙ absent)
    (w ∙ ap (λ b. cond b (Some place) (get_by_text old key)) (ap (λ t. bytes_eq t key) same ∙ nat_list_eq_equiv.symm tag key))

pub keeps_more : {Y : Type 0} (old new : BTreeMap (String Y) ℕ) (tags : List (List ℕ)) (i : ℕ) (tag : List ℕ) → i < length tags → get_or tags i tag ≡ tag
    → KeepsPlaces old (take i tags) → Notes old new tag i → KeepsPlaces new (take (i + 1) tags)
keeps_more old new tags i tag h at keeps notes = λ key.
    let front : length (take i tags) ≡ i = length-take-le i tags (omega arith) in
    let more : take (i + 1) tags ≡ take i tags ++ tag ∷ [] = take_more tags i tag h ∙ ap (λ t. take i tags ++ t ∷ []) at in
    notes key ∙ ap (λ o. option_or o (cond (bytes_eq key tag) (Some i) None)) (keeps key)
    ∙ sym (place_more 0 i (take i tags) tag key (omega arith))
    ∙ ap (λ ts. place_from 0 ts key) (sym more)
