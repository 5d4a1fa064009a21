-- What the shipped functions do.
use Rattle.std.specs.Prelude.{ℕ, zero, suc, [], ◌∷◌, ℤ, Bool, ◌%◌, ◌==◌, if◌then◌else◌, List, map, codes, Option, Some, None, Result, Ok, Err, pos, int_lt, unsigned_abs}
use Rattle.std.specs.List.{slice_split}
use Rattle.std.specs.Char.{to_ascii_uppercase}
use Rattle.std.specs.Str.{trim}
use Rattle.hex.specs.declared.FromHexError.{FromHexError}
use Rattle.hex.specs.Hex.{decode_of}
use Rattle.pv_tree.specs.declared.Tree.{Tree, out-Tree}
use Rattle.pv_tree.specs.declared.Tree.TheVariants as tree
use Rattle.pv_tree.specs.declared.Value.{Value}
use Rattle.pv_tree.specs.declared.Value.TheViews.{out-Value}
use Rattle.pv_tree.specs.declared.Value.TheOpen.{Value-F}
use Rattle.pv_tree.specs.declared.Value.TheVariants as value
use Rattle.pv_tree.specs.Parts.{text_at}
use Rattle.pv_func.specs.declared.Raise.{Raise}
use Rattle.pv_func.specs.declared.Raise.TheVariants as raise
use Rattle.pv_func.specs.declared.Raw.{Raw}
use Rattle.pv_func.specs.declared.Raw.TheVariants as raw
use Rattle.pv_func.specs.declared.Made.{Made}
use Rattle.pv_func.specs.declared.Made.TheVariants as made
use Rattle.pv_func.specs.declared.Answer.{Answer}
use Rattle.pv_func.specs.declared.Answer.TheVariants as answer
use Rattle.pv_func.specs.declared.First.TheVariants as first
use Rattle.pv_func.specs.declared.Turn.{Turn}
use Rattle.pv_func.specs.declared.Turn.TheVariants as turn
use Rattle.pv_func.specs.Wrapper.{Wrapper}

-- the byte of a comma
abbrev pub comma : ℕ
comma = 44

-- what is made of a text, and what stands for any other tree
abbrev pub of_text : {A : Type 0} → A → (List ℕ → A) → Option (List ℕ) → A
of_text other f None = other
of_text other f (Some text) = f text

-- a string without the Unicode white space around it; other trees as they are
abbrev pub strip : Tree → Raw
strip t = raw.Give (of_text t (λ text. tree.Str (trim text)) (text_at (out-Tree t)))

-- a string as the array of its parts between commas; other trees as they are
abbrev pub split_commas : Tree → Raw
split_commas t =
    raw.Give
    (of_text t (λ text. tree.Array (map tree.Str (slice_split (λ b. b == comma) text)))
    (text_at (out-Tree t)))

-- the whole number that a level of a value is
abbrev pub int_at : {X : Type 0} → Value-F X → Option ℤ
int_at (Value-F.Int n) = Some n
int_at v = None

-- a whole number that passes a test as it is, and nothing else
abbrev pub int_that : (ℤ → Bool) → Raise → Option ℤ → Made
int_that test wrong None = made.Raise wrong
int_that test wrong (Some n) = if test n then made.Give (value.Int n) else made.Raise wrong

-- twice another one
abbrev pub is_even : ℤ → Bool
is_even n = unsigned_abs n % 2 == 0

-- above 0
abbrev pub is_positive : ℤ → Bool
is_positive n = int_lt (pos 0) n

-- an even whole number as it is, and nothing else
abbrev pub even : Value → Made
even v = int_that is_even (raise.Value (codes "not even")) (int_at (out-Value v))

-- a whole number above 0 as it is, and nothing else
abbrev pub positive : Value → Made
positive v = int_that is_positive (raise.Assertion (codes "not positive")) (int_at (out-Value v))

-- what any tree but a string is told
abbrev pub not_text : Made
not_text = made.Raise (raise.Custom (codes "not_text") (codes "A text is wanted"))

-- a string with its ASCII letters in upper case, and nothing else
abbrev pub upper : Tree → Made
upper t =
    of_text not_text (λ text. made.Give (value.Str (map to_ascii_uppercase text)))
    (text_at (out-Tree t))

-- what all is told but a string of an even number of hexadecimal digits
abbrev pub not_hexadecimal : Made
not_hexadecimal = made.Raise (raise.Value (codes "not hexadecimal"))

-- the bytes of digits as a value
abbrev pub bytes_or_raise : Result (List ℕ) FromHexError → Made
bytes_or_raise (Ok bytes) = made.Give (value.Bytes bytes)
bytes_or_raise (Err fault) = not_hexadecimal

-- an even number of hexadecimal digits, of either case, as the bytes that they stand for
abbrev pub decoded : List ℕ → Made
decoded text = bytes_or_raise (decode_of text)

-- the same of a string, and nothing else
abbrev pub unhex : Tree → Made
unhex t = of_text not_hexadecimal decoded (text_at (out-Tree t))

-- the array of this tree alone
abbrev pub array_of : Tree → Tree
array_of t = tree.Array (t ∷ [])

-- what follows an ask of `listify` that failed: where another is left, an ask with the array of the
-- state alone
abbrev pub listify_failed : Tree → ℕ → Turn
listify_failed state zero = turn.Pass
listify_failed state (suc left) = turn.Ask tree.Null (array_of state)

-- what follows an ask of `listify`
abbrev pub listify_next : Tree → ℕ → Answer → Turn
listify_next state left (answer.Good value) = turn.Pass
listify_next state left (answer.Bad errors) = listify_failed state left

-- asks with the input, and where that fails with the array of the input alone
abbrev pub listify : Wrapper
listify = record { asks = 2; start = λ t. first.Ask t t; next = listify_next }

-- what follows the ask of `or_null`
abbrev pub or_null_next : Answer → Turn
or_null_next (answer.Good value) = turn.Pass
or_null_next (answer.Bad errors) = turn.Done value.None

-- asks with the input, and where that fails gives None
abbrev pub or_null : Wrapper
or_null = record {
  asks = 1;
  start = λ t. first.Ask tree.Null t;
  next = λ state left answer. or_null_next answer;
}

-- the tuple of a value and again the value
abbrev pub twice : Value → Value
twice v = value.Tuple (v ∷ v ∷ [])

-- what follows the ask of `pair`
abbrev pub pair_next : Answer → Turn
pair_next (answer.Good v) = turn.Done (twice v)
pair_next (answer.Bad errors) = turn.Pass

-- asks with the input, and gives the value twice as a tuple
abbrev pub pair : Wrapper
pair = record {
  asks = 1;
  start = λ t. first.Ask tree.Null t;
  next = λ state left answer. pair_next answer;
}

-- asks with the array of the array of the input
abbrev pub deepen : Wrapper
deepen = record {
  asks = 1;
  start = λ t. first.Ask tree.Null (array_of (array_of t));
  next = λ state left answer. turn.Pass;
}

-- asks nothing, and gives a text of its own
abbrev pub constant : Wrapper
constant = record {
  asks = 0;
  start = λ t. first.Done (value.Str (codes "constant"));
  next = λ state left answer. turn.Pass;
}
