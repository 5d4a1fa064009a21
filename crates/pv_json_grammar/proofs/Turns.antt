-- One turn of the loop.
use Rattle.std.proofs.Common.{◌≡◌, ℕ, suc, ◌+◌, ◌-◌, ◌<◌, Bool, List, Ok, false, ap, ◌∙◌, arith}
use Rattle.pv_json_grammar.specs.Strings.{Turn, turn, after_turn, string_from}

pub one_turn : (n i : ℕ) (out rest : List ℕ) (r : Turn) → i < n → turn out rest ≡ r → string_from (n - i) out rest ≡ after_turn (string_from (n - (i + 1))) r
unfolding string_from
one_turn n i out rest r l e =
    let one : n - i ≡ suc (n - (i + 1)) = omega arith in
    ap (λ m. string_from m out rest) one ∙ ap (after_turn (string_from (n - (i + 1)))) e

pub goes : (n i : ℕ) (out rest new more : List ℕ) (b : Bool) → i < n → turn out rest ≡ Ok (b, new, more) → b ≡ false → string_from (n - i) out rest ≡ string_from (n - (i + 1)) new more
goes n i out rest new more b l e f = one_turn n i out rest (Ok (b, new, more)) l e ∙ ap (λ b. after_turn (string_from (n - (i + 1))) (Ok (b, new, more))) f
