-- What reading leaves is the end of what it was given.
use Rattle.std.proofs.Common.{◌≡◌, ℕ, ◌+◌, ◌-◌, ◌≤◌, Bool, true, false, cond, List, [], ◌∷◌, ◌++◌, length, length-append, drop, Ok, Err, refl, sym, ap, ◌∙◌, arith}
use Rattle.std.specs.Prelude.{Result, ◌==◌}
use Rattle.pv_json_grammar.specs.Reading.{after}
use Rattle.pv_json_grammar.specs.Strings.{string}
use Rattle.pv_json_grammar.specs.SpelledStrings.{spelled}
use Rattle.pv_json_grammar.proofs.StringSound.{string_sound}

word_by : (t : Bool) (ws bs rest : List ℕ) → (after ws bs ≡ Ok rest → (length ws ≤ length bs) × (rest ≡ drop (length ws) bs))
    → cond t (after ws bs) (Err (length bs + 1)) ≡ Ok rest → (length ws ≤ length bs) × (rest ≡ drop (length ws) bs)
word_by true ws bs rest f h = f h
word_by false ws bs rest f h = cc

same_ok : (xs ys : List ℕ) → (let a : Result (List ℕ) ℕ = Ok xs in a) ≡ Ok ys → xs ≡ ys
same_ok xs ys h = cc

word_left : (ws bs rest : List ℕ) → after ws bs ≡ Ok rest → (length ws ≤ length bs) × (rest ≡ drop (length ws) bs)
unfolding after
word_left [] bs rest h = (omega arith, sym (same_ok bs rest h))
word_left (w ∷ ws) [] rest h = cc
word_left (w ∷ ws) (b ∷ bs) rest h =
    let more = word_by (b == w) ws bs rest (word_left ws bs rest) h in
    (omega (arith, more.0), more.1)

pub word_within : (ws bs rest : List ℕ) → after ws bs ≡ Ok rest → length ws ≤ length bs
word_within ws bs rest h = (word_left ws bs rest h).0

pub word_behind : (ws bs rest more : List ℕ) → after ws bs ≡ Ok rest → more ≡ drop (length ws) bs → after ws bs ≡ Ok more
word_behind ws bs rest more h e = h ∙ ap Ok ((word_left ws bs rest h).1 ∙ sym e)

drop_front : (xs ys : List ℕ) → drop (length xs) (xs ++ ys) ≡ ys
drop_front [] ys = refl
drop_front (x ∷ xs) ys = drop_front xs ys

-- behind the front of a list
behind : (bs xs rest : List ℕ) → bs ≡ xs ++ rest → (length rest ≤ length bs) × (rest ≡ drop (length bs - length rest) bs)
behind bs xs rest e =
    let size : length bs ≡ length xs + length rest = ap length e ∙ length-append xs rest in
    let place : length bs - length rest ≡ length xs = omega (arith, size) in
    (omega (arith, size), sym (ap (λ n. drop n bs) place ∙ ap (drop (length xs)) e ∙ drop_front xs rest))

tail : List ℕ → List ℕ
tail [] = []
tail (x ∷ xs) = xs

string_left : (bs out rest : List ℕ) → string bs ≡ Ok (out, rest) → (length rest ≤ length bs) × (rest ≡ drop (length bs - length rest) bs)
unfolding tail
string_left bs out rest h =
    let read = string_sound bs (out, rest) h in
    let inside : List ℕ = spelled read.1.units ++ 34 ∷ [] in
    let whole : 34 ∷ bs ≡ (34 ∷ inside) ++ rest = read.2 ∙ ap (λ t. t ++ rest) read.1.whole in
    behind bs inside rest (ap tail whole)

pub string_within : (bs out rest : List ℕ) → string bs ≡ Ok (out, rest) → length rest ≤ length bs
string_within bs out rest h = (string_left bs out rest h).0

pub string_behind : (bs out rest more : List ℕ) → string bs ≡ Ok (out, rest) → more ≡ drop (length bs - length rest) bs → string bs ≡ Ok (out, more)
string_behind bs out rest more h e = h ∙ ap (λ r. Ok (out, r)) ((string_left bs out rest h).1 ∙ sym e)

pub ruleset string_rest = (string_within, string_behind)
