-- The lines of a file, one after another.
use Rattle.std.proofs.Common.{◌≡◌, ℕ, suc, ◌+◌, ◌-◌, ◌<◌, ◌≤◌, ◌⊎◌, inl, inr, cond, false, List, [], ◌∷◌, ◌++◌, length, take, Option, Some, None, refl, sym, ap, ◌∙◌, append_assoc, arith, length-append}
use Rattle.std.specs.Prelude.{nat_lt}
use Rattle.std.proofs.lemmas.Bool.{cases_lt, lt-ltb, ltb-true, false_from_ne_true}
use Rattle.std.proofs.lemmas.List.Elements.{All-from_recursion}
use Rattle.std.proofs.lemmas.List.Splits.{slice_split_at, slice_split_none, length-slice_split}
use Rattle.std.proofs.Math.Seq.{take-append-add}
use Rattle.pv_edge.specs.Cutting.{HasNoFeed, behind, earlier, ended, ended_lines, fault_place, filled, further, is_feed, line_feed, lines_of, lines_up_to, long_in, pieces}
use Rattle.pv_edge.specs.Reading.{IsEnded, IsUnended}

-- there is a piece at least
pub record Some_piece (ps : List (List ℕ)) : Type 0 where
  pub first : List ℕ
  pub rest : List (List ℕ)
  pub whole : ps ≡ first ∷ rest

some_in : (ps : List (List ℕ)) → 0 < length ps → Some_piece ps
some_in [] l = absurd (omega arith)
some_in (p ∷ ps) l = record { first = p; rest = ps; whole = refl }

pub some_piece : (bytes : List ℕ) → Some_piece (pieces bytes)
some_piece bytes = some_in (pieces bytes) (omega (arith, length-slice_split is_feed bytes))

ended_first : (line : List ℕ) (ps : List (List ℕ)) → Some_piece ps → ended (line ∷ ps) ≡ line ∷ ended ps
unfolding ended
ended_first line ps s = rw s.whole refl

filled_by : (line first : List ℕ) (rest : List (List ℕ)) → filled (line ∷ first ∷ rest) ≡ line ∷ filled (first ∷ rest)
unfolding filled
filled_by [] first rest = refl
filled_by (b ∷ bs) first rest = refl

filled_first : (line : List ℕ) (ps : List (List ℕ)) → Some_piece ps → filled (line ∷ ps) ≡ line ∷ filled ps
filled_first line ps s = rw s.whole (filled_by line s.first s.rest)

cut_first : (line rest : List ℕ) → HasNoFeed line → pieces (line ++ line_feed ∷ rest) ≡ line ∷ pieces rest
cut_first line rest h = slice_split_at is_feed line line_feed rest h refl

pub lt_false : (m n : ℕ) → n ≤ m → nat_lt m n ≡ false
lt_false m n l = false_from_ne_true (nat_lt m n) (λ t. omega (arith, ltb-true m n t, l))

-- ---- a line that ends before a fault

pub long_further : (limit : ℕ) (line : List ℕ) (ps : List (List ℕ)) → length line ≤ limit → long_in limit (line ∷ ps) ≡ further (length line + 1) (long_in limit ps)
unfolding long_in
long_further limit line ps short = ap (λ b. cond b (Some limit) (further (length line + 1) (long_in limit ps))) (lt_false limit (length line) short)

behind_by : (room n : ℕ) (rest : List ℕ) (all : List ℕ) → length all ≡ n + length rest → n ≤ room → (room - n < length rest) ⊎ (length rest ≤ room - n) → behind room all ≡ further n (behind (room - n) rest)
behind_by room n rest all e within (inl more) =
    let long : room < length all = omega (arith, e, within, more) in
    ap (λ b. cond b (Some room) None) (lt-ltb room (length all) long) ∙ ap Some (omega (arith, within))
    ∙ sym (ap (λ b. further n (cond b (Some (room - n)) None)) (lt-ltb (room - n) (length rest) more))
behind_by room n rest all e within (inr less) =
    ap (λ b. cond b (Some room) None) (lt_false room (length all) (omega (arith, e, within, less)))
    ∙ sym (ap (λ b. further n (cond b (Some (room - n)) None)) (lt_false (room - n) (length rest) less))

behind_further : (room n : ℕ) (rest all : List ℕ) → length all ≡ n + length rest → n ≤ room → behind room all ≡ further n (behind (room - n) rest)
behind_further room n rest all e within = behind_by room n rest all e within (cases_lt (room - n) (length rest))

earlier_further : (n : ℕ) (p q : Option ℕ) → earlier (further n p) (further n q) ≡ further n (earlier p q)
earlier_further n None q = refl
earlier_further n (Some a) None = refl
earlier_further n (Some a) (Some b) = ap Some (omega arith)

fault_further : (limit room : ℕ) (line rest : List ℕ) → HasNoFeed line → length line ≤ limit → length line + 1 ≤ room
    → fault_place limit room (line ++ line_feed ∷ rest) ≡ further (length line + 1) (fault_place limit (room - (length line + 1)) rest)
fault_further limit room line rest h short within =
    let n = length line + 1 in
    let long : long_in limit (pieces (line ++ line_feed ∷ rest)) ≡ further n (long_in limit (pieces rest)) = ap (long_in limit) (cut_first line rest h) ∙ long_further limit line (pieces rest) short in
    let size : length (line ++ line_feed ∷ rest) ≡ n + length rest = omega (arith, length-append line (line_feed ∷ rest)) in
    ap (λ p. earlier p (behind room (line ++ line_feed ∷ rest))) long ∙ ap (earlier (further n (long_in limit (pieces rest)))) (behind_further room n rest (line ++ line_feed ∷ rest) size within)
    ∙ earlier_further n (long_in limit (pieces rest)) (behind (room - n) rest)

lines_further : (line rest : List ℕ) (place : Option ℕ) → HasNoFeed line → lines_up_to (further (length line + 1) place) (line ++ line_feed ∷ rest) ≡ line ∷ lines_up_to place rest
lines_further line rest None h = ap filled (cut_first line rest h) ∙ filled_first line (pieces rest) (some_piece rest)
lines_further line rest (Some at) h =
    let size : length line + 1 + at ≡ length line + suc at = omega arith in
    let front : take (length line + 1 + at) (line ++ line_feed ∷ rest) ≡ line ++ line_feed ∷ take at rest =
    ap (λ n. take n (line ++ line_feed ∷ rest)) size ∙ take-append-add line (line_feed ∷ rest) (suc at) in
    ap ended_lines front ∙ ap ended (cut_first line (take at rest) h) ∙ ended_first line (pieces (take at rest)) (some_piece (take at rest))

-- a line that ends is the first of the lines, and the others are those of what follows it
pub first_line : (line_limit file_limit place : ℕ) (bytes line rest : List ℕ) → IsEnded line_limit file_limit place bytes line rest
    → lines_of line_limit (file_limit - place) bytes ≡ line ∷ lines_of line_limit (file_limit - (place + length line + 1)) rest
first_line line_limit file_limit place bytes line rest e =
    let room = file_limit - place in
    let less : room - (length line + 1) ≡ file_limit - (place + length line + 1) = omega (arith, e.within) in
    rw e.cut (
    ap (λ p. lines_up_to p (line ++ line_feed ∷ rest)) (fault_further line_limit room line rest e.one e.short (omega (arith, e.within)))
    ∙ lines_further line rest (fault_place line_limit (room - (length line + 1)) rest) e.one
    ∙ ap (λ r. line ∷ lines_of line_limit r rest) less)

-- and a fault comes as far behind it as one comes in what follows it
pub first_fault : (line_limit file_limit place : ℕ) (bytes line rest : List ℕ) → IsEnded line_limit file_limit place bytes line rest
    → fault_place line_limit (file_limit - place) bytes ≡ further (length line + 1) (fault_place line_limit (file_limit - (place + length line + 1)) rest)
first_fault line_limit file_limit place bytes line rest e =
    let room = file_limit - place in
    let less : room - (length line + 1) ≡ file_limit - (place + length line + 1) = omega (arith, e.within) in
    rw e.cut (fault_further line_limit room line rest e.one e.short (omega (arith, e.within)) ∙ ap (λ r. further (length line + 1) (fault_place line_limit r rest)) less)

-- it is the first of those that end
pub first_ended : (line_limit file_limit place : ℕ) (bytes line rest : List ℕ) → IsEnded line_limit file_limit place bytes line rest → ended_lines bytes ≡ line ∷ ended_lines rest
first_ended line_limit file_limit place bytes line rest e = rw e.cut (ap ended (cut_first line rest e.one) ∙ ended_first line (pieces rest) (some_piece rest))

-- whatever follows
pub ended_with_more : (line_limit file_limit place : ℕ) (bytes line rest more : List ℕ) → IsEnded line_limit file_limit place bytes line rest → IsEnded line_limit file_limit place (bytes ++ more) line (rest ++ more)
ended_with_more line_limit file_limit place bytes line rest more e = record {
  cut = ap (λ b. b ++ more) e.cut ∙ append_assoc line (line_feed ∷ rest) more;
  one = e.one;
  short = e.short;
  within = e.within;
}

-- ---- the end of a file

long_none : (limit : ℕ) (bytes : List ℕ) → length bytes ≤ limit → long_in limit (bytes ∷ []) ≡ None
unfolding long_in
long_none limit bytes short = long_further limit bytes [] short

no_fault : (limit room : ℕ) (bytes : List ℕ) → HasNoFeed bytes → length bytes ≤ limit → length bytes ≤ room → fault_place limit room bytes ≡ None
no_fault limit room bytes h short within =
    ap (λ p. earlier p (behind room bytes)) (ap (long_in limit) (slice_split_none is_feed bytes h) ∙ long_none limit bytes short) ∙ ap (λ b. cond b (Some room) None) (lt_false room (length bytes) within)

filled_last : (bytes : List ℕ) → 0 < length bytes → filled (bytes ∷ []) ≡ bytes ∷ []
unfolding filled
filled_last [] some = absurd (omega arith)
filled_last (b ∷ bs) some = refl

-- what no line feed ends is the last line
pub last_line : (line_limit file_limit place : ℕ) (bytes : List ℕ) → IsUnended line_limit file_limit place bytes → 0 < length bytes → lines_of line_limit (file_limit - place) bytes ≡ bytes ∷ []
last_line line_limit file_limit place bytes u some =
    ap (λ p. lines_up_to p bytes) (no_fault line_limit (file_limit - place) bytes u.one u.short (omega (arith, u.within)))
    ∙ ap filled (slice_split_none is_feed bytes u.one) ∙ filled_last bytes some

-- none of it has ended, and nothing of it is at fault
pub none_ended : (line_limit file_limit place : ℕ) (bytes : List ℕ) → IsUnended line_limit file_limit place bytes → ended_lines bytes ≡ []
unfolding ended
none_ended line_limit file_limit place bytes u = ap ended (slice_split_none is_feed bytes u.one)

pub none_at_fault : (line_limit file_limit place : ℕ) (bytes : List ℕ) → IsUnended line_limit file_limit place bytes → fault_place line_limit (file_limit - place) bytes ≡ None
none_at_fault line_limit file_limit place bytes u = no_fault line_limit (file_limit - place) bytes u.one u.short (omega (arith, u.within))

pub nothing_at_fault : (line_limit room : ℕ) → fault_place line_limit room [] ≡ None
nothing_at_fault line_limit room = no_fault line_limit room [] (All-from_recursion (λ b. is_feed b ≡ false) [] tt) (omega arith) (omega arith)

-- and where nothing is left there is none
pub no_line : (line_limit room : ℕ) → lines_of line_limit room [] ≡ []
unfolding filled
no_line line_limit room = ap (λ p. lines_up_to p []) (nothing_at_fault line_limit room)
