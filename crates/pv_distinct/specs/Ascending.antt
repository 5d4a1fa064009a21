-- Values that ascend.
use Rattle.std.specs.Prelude.{Bool, false}
use Rattle.std.specs.Ordering.{int_cmp, is_lt}
use Rattle.pv_tree.specs.declared.Value.{Value}
use Rattle.pv_tree.specs.declared.Value.TheOpen.{Value-F}
use Rattle.pv_distinct.specs.Tokens.{bytes_cmp}

-- two ints, or two texts in the order of their bytes, the first of which is the lesser
abbrev pub ascend_at : Value-F Value → Value-F Value → Bool
ascend_at (Value-F.Int m) (Value-F.Int n) = is_lt (int_cmp m n)
ascend_at (Value-F.Str t) (Value-F.Str u) = is_lt (bytes_cmp t u)
ascend_at v w = false
