-- What the tests' own functions do.
use Rattle.std.specs.Prelude.{ℕ, Bool, ◌==◌, if◌then◌else◌, codes, [], ◌∷◌}
use Rattle.pv_tree.specs.declared.Tree.{Tree}
use Rattle.pv_tree.specs.declared.Tree.TheVariants as tree
use Rattle.pv_func.specs.declared.Answer.{Answer}
use Rattle.pv_func.specs.declared.Answer.TheVariants as answer
use Rattle.pv_func.specs.declared.First.TheVariants as first
use Rattle.pv_tree.specs.declared.Value.TheVariants as value
use Rattle.pv_func.specs.declared.Made.{Made}
use Rattle.pv_func.specs.declared.Made.TheVariants as made
use Rattle.pv_func.specs.declared.Raise.TheVariants as raise
use Rattle.pv_func.specs.declared.Raw.{Raw}
use Rattle.pv_func.specs.declared.Raw.TheVariants as raw
use Rattle.pv_func.specs.declared.Turn.{Turn}
use Rattle.pv_func.specs.declared.Turn.TheVariants as turn
use Rattle.pv_func.specs.Wrapper.{Wrapper}

-- the array of this tree alone
abbrev pub array_of : Tree → Tree
array_of t = tree.Array (t ∷ [])

-- gives this tree
abbrev pub given : Tree → Raw
given t = raw.Give t

-- says yes or no
abbrev pub said : Bool → Made
said flag = made.Give (value.Bool flag)

-- refuses
abbrev pub never : Made
never = made.Raise (raise.Assertion (codes "never"))

-- asks again with one array more around its last tree, while an ask is left
abbrev pub deeper : Tree → ℕ → Turn
deeper state left =
    if left == 0 then turn.Pass else turn.Ask (array_of state) (array_of state)

-- asks three times, each time with one array more
abbrev pub ask_thrice : Wrapper
ask_thrice = record {
  asks = 3;
  start = λ t. first.Ask t t;
  next = λ state left answer. deeper state left;
}

-- refuses what the inner schema takes
abbrev pub refusing : Answer → Turn
refusing (answer.Good value) = turn.Raise (raise.Value (codes "too good"))
refusing (answer.Bad errors) = turn.Pass

-- asks once
abbrev pub refuse_good : Wrapper
refuse_good = record {
  asks = 1;
  start = λ t. first.Ask tree.Null t;
  next = λ state left answer. refusing answer;
}
