-- What follows the first bytes of a block's end is one too.
use Rattle.std.proofs.Common.{◌≡◌, ℕ, ◌+◌, ◌-◌, ◌≤◌, List, length, drop, take, ap, ◌∙◌, arith, length-drop}
use Rattle.std.proofs.lemmas.List.{drop-drop, take_rest}
use Rattle.pv_json.specs.Ends.{IsEnd}

end_drop : (n : ℕ) (s b : List ℕ) → IsEnd s b → n ≤ length s → IsEnd (drop n s) b
end_drop n s b e l =
    let left : length (drop n s) ≡ length s - n = length-drop n s in
    let place : (length b - length s) + n ≡ length b - length (drop n s) = omega (arith, e.short, left) in
    record {
      short = omega (arith, e.short, left);
      last = ap (drop n) e.last ∙ drop-drop n (length b - length s) b ∙ ap (λ k. drop k b) place;
    }

-- what the code's `&s[n..]` is
pub end_after : (n : ℕ) (s b : List ℕ) → IsEnd s b → n ≤ length s → IsEnd (take (length s - n) (drop n s)) b
end_after n s b e l = rw (take_rest s n) (end_drop n s b e l)
