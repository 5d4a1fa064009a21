-- Bytes that pass a limit.
use Rattle.std.proofs.Common.{◌≡◌, ℕ, suc, ◌+◌, ◌-◌, ◌<◌, ◌≤◌, ◌⊎◌, inl, inr, cond, true, false, List, [], ◌∷◌, length, take, drop, get_or, Option, Some, None, refl, sym, ap, ◌∙◌, subst, arith}
use Rattle.std.specs.Prelude.{Bool, IfNone}
use Rattle.std.proofs.lemmas.Bool.{cases_lt, false≢true, lt-ltb}
use Rattle.std.proofs.lemmas.List.{take_all, take-take, length-take-le}
use Rattle.std.proofs.lemmas.List.Elements.{All-take}
use Rattle.std.proofs.lemmas.List.Splits.{slice_split_at, slice_split_none}
use Rattle.std.proofs.Math.Seq.{split_at}
use Rattle.pv_edge.specs.Cutting.{HasNoFeed, behind, earlier, ended, ended_lines, fault_place, further, is_feed, line_feed, long_in, pieces}
use Rattle.pv_edge.specs.Reading.{IsTooLarge}

-- the place is there, and not behind the bound
abbrev Before : Option ℕ → ℕ → Type 0
Before None bound = ⊥
Before (Some at) bound = at ≤ bound

earlier_left : (p q : Option ℕ) (bound : ℕ) → Before p bound → Before (earlier p q) bound
earlier_left None q bound b = absurd b
earlier_left (Some at) None bound b = b
earlier_left (Some at) (Some other) bound b = omega (arith, b)

earlier_right : (p q : Option ℕ) (bound : ℕ) → Before q bound → Before (earlier p q) bound
earlier_right p None bound b = absurd b
earlier_right None (Some other) bound b = b
earlier_right (Some at) (Some other) bound b = omega (arith, b)

-- a first piece that is longer than the limit
long_first : (limit : ℕ) (piece : List ℕ) (later : List (List ℕ)) → limit < length piece → Before (long_in limit (piece ∷ later)) (length piece)
unfolding long_in
long_first limit piece later long =
    subst (λ p. Before p (length piece)) (sym (ap (λ b. cond b (Some limit) (further (length piece + 1) (long_in limit later))) (lt-ltb limit (length piece) long))) (omega (arith, long))

-- more bytes than may be
behind_some : (room bound : ℕ) (bytes : List ℕ) → room < length bytes → room ≤ bound → Before (behind room bytes) bound
behind_some room bound bytes more within = subst (λ p. Before p bound) (sym (ap (λ b. cond b (Some room) None) (lt-ltb room (length bytes) more))) within

-- no line ends before a place up to which there is no line feed
none_ended : (bytes : List ℕ) (at : ℕ) → HasNoFeed (take at bytes) → ended_lines (take at bytes) ≡ []
unfolding ended
none_ended bytes at h = ap ended (slice_split_none is_feed (take at bytes) h)

no_feed_before : (bytes : List ℕ) (at bound : ℕ) → at ≤ bound → HasNoFeed (take bound bytes) → HasNoFeed (take at bytes)
no_feed_before bytes at bound within h = subst HasNoFeed (take-take at bound bytes within) (All-take (λ b. is_feed b ≡ false) at (take bound bytes) h)

too_large_by : (line_limit file_limit place : ℕ) (bytes : List ℕ) (bound : ℕ) (fault : Option ℕ) → fault_place line_limit (file_limit - place) bytes ≡ fault → Before fault bound
    → HasNoFeed (take bound bytes) → IsTooLarge line_limit file_limit place bytes
too_large_by line_limit file_limit place bytes bound None e b h = absurd b
too_large_by line_limit file_limit place bytes bound (Some at) e b h = record { at = at; fault = e; none = none_ended bytes at (no_feed_before bytes at bound b h) }

-- a line that a line feed ends, and that passes a limit
first_piece : (bytes : List ℕ) (at : ℕ) → at < length bytes → get_or bytes at 0 ≡ line_feed → HasNoFeed (take at bytes) → pieces bytes ≡ take at bytes ∷ pieces (drop (suc at) bytes)
first_piece bytes at within feed h =
    ap pieces (split_at bytes at 0 within) ∙ slice_split_at is_feed (take at bytes) (get_or bytes at 0) (drop (suc at) bytes) h (ap is_feed feed)

pub ended_too_large : (line_limit file_limit place : ℕ) (bytes : List ℕ) (at : ℕ) → at < length bytes → get_or bytes at 0 ≡ line_feed → HasNoFeed (take at bytes)
    → (line_limit < at) ⊎ (file_limit - place ≤ at) → IsTooLarge line_limit file_limit place bytes
ended_too_large line_limit file_limit place bytes at within feed h (inl long) =
    let size : length (take at bytes) ≡ at = length-take-le at bytes (omega (arith, within)) in
    let first = long_first line_limit (take at bytes) (pieces (drop (suc at) bytes)) (omega (arith, size, long)) in
    let there : Before (long_in line_limit (pieces bytes)) at = subst (λ ps. Before (long_in line_limit ps) at) (sym (first_piece bytes at within feed h)) (subst (λ n. Before (long_in line_limit (take at bytes ∷ pieces (drop (suc at) bytes))) n) size first) in
    too_large_by line_limit file_limit place bytes at _ refl (earlier_left _ (behind (file_limit - place) bytes) at there) h
ended_too_large line_limit file_limit place bytes at within feed h (inr more) =
    too_large_by line_limit file_limit place bytes at _ refl (earlier_right (long_in line_limit (pieces bytes)) _ at (behind_some (file_limit - place) at bytes (omega (arith, within, more)) more)) h

-- bytes without a line feed that pass a limit
pub waiting_too_large : (line_limit file_limit place : ℕ) (bytes : List ℕ) → HasNoFeed bytes → (line_limit < length bytes) ⊎ (file_limit - place < length bytes) → IsTooLarge line_limit file_limit place bytes
waiting_too_large line_limit file_limit place bytes h (inl long) =
    let whole : take (length bytes) bytes ≡ bytes = take_all (length bytes) bytes (omega arith) in
    let there : Before (long_in line_limit (pieces bytes)) (length bytes) =
    subst (λ ps. Before (long_in line_limit ps) (length bytes)) (sym (slice_split_none is_feed bytes h)) (long_first line_limit bytes [] long) in
    too_large_by line_limit file_limit place bytes (length bytes) _ refl (earlier_left _ (behind (file_limit - place) bytes) (length bytes) there) (subst HasNoFeed (sym whole) h)
waiting_too_large line_limit file_limit place bytes h (inr more) =
    let whole : take (length bytes) bytes ≡ bytes = take_all (length bytes) bytes (omega arith) in
    too_large_by line_limit file_limit place bytes (length bytes) _ refl
    (earlier_right (long_in line_limit (pieces bytes)) _ (length bytes) (behind_some (file_limit - place) (length bytes) bytes more (omega (arith, more)))) (subst HasNoFeed (sym whole) h)

either : (line_limit room size : ℕ) → (line_limit < size) ⊎ (size ≤ line_limit) → (room < size) ⊎ (size ≤ room) → (size ≤ line_limit → size ≤ room → ⊥) → (line_limit < size) ⊎ (room < size)
either line_limit room size (inl long) r never = inl long
either line_limit room size (inr short) (inl more) never = inr more
either line_limit room size (inr short) (inr less) never = absurd (never short less)

-- bytes without a line feed of which it is told that they pass a limit
pub not_fitting : (fits : Bool) (line_limit file_limit place : ℕ) (bytes : List ℕ) → place ≤ file_limit → ((length bytes ≤ line_limit) × (place + length bytes ≤ file_limit) → fits ≡ true) → fits ≡ false
    → HasNoFeed bytes → IsTooLarge line_limit file_limit place bytes
not_fitting fits line_limit file_limit place bytes within back refused h =
    waiting_too_large line_limit file_limit place bytes h
    (either line_limit (file_limit - place) (length bytes) (cases_lt line_limit (length bytes)) (cases_lt (file_limit - place) (length bytes))
    (λ short less. false≢true (sym refused ∙ back (short, omega (arith, less, within)))))

-- where nothing is found
pub none_found : (r : Option ℕ) (P : Type 0) → IfNone r P → ((at : ℕ) → r ≡ Some at → ⊥) → P
none_found None P h never = h
none_found (Some at) P h never = absurd (never at refl)
