-- The order of tokens is total.
use Rattle.std.specs.Cmp.{IsTotalOrder}
use Rattle.std.specs.Cmp.{nat_cmp_total, on_total, then_total}
use Rattle.std.specs.Cmp.Lexicographic.{nat_list_cmp_total, lists_total}
use Rattle.pv_number.proofs.NumberLaws.{cmp_total}
use Rattle.pv_distinct.specs.Tokens.{token_cmp, token_kind, token_number, token_first, token_second}
use Rattle.pv_distinct.specs.Keys.{key_cmp}

-- of tokens
pub tokens_total : IsTotalOrder token_cmp
unfolding token_cmp
tokens_total =
    then_total (on_total token_kind nat_cmp_total)
    (then_total (on_total token_number cmp_total)
    (then_total (on_total token_first nat_list_cmp_total)
    (on_total token_second nat_list_cmp_total)))

-- of keys
pub keys_total : IsTotalOrder key_cmp
keys_total = lists_total tokens_total
