-- When two values are the same.
use Rattle.std.specs.Prelude.{ℕ, pos, if◌then◌else◌, ◌&&◌, Bool, true, false, List, bytes_eq}
use Rattle.std.specs.List.{list_all, list_any}
use Rattle.std.specs.Ordering.{is_eq}
use lib.Pointwise.{pointwise}
use Rattle.pv_number.specs.ExactNumber.{Number, number}
use Rattle.pv_number.specs.NumberEquality.{number_cmp, int_number}
use Rattle.pv_tree.specs.declared.Value.{Value, fold-Value}
use Rattle.pv_tree.specs.declared.Value.TheOpen.{Value-F}
use Rattle.pv_tree.specs.declared.Value.TheViews.{out-Value}
use Rattle.pv_tree.specs.declared.AtomKind.{AtomKind}
use Rattle.pv_tree.specs.declared.AtomKind.TheVariants.{Uuid, Url, Date, Time, DateTime, Decimal}

-- numbers that are equal
abbrev pub same_number : Number → Number → Bool
same_number m n = is_eq (number_cmp m n)

-- a flag as a number: 0 or 1
abbrev pub flag_number : Bool → Number
flag_number b = int_number (pos (if b then 1 else 0))

-- kinds of atoms that are equal
abbrev pub same_kind : AtomKind → AtomKind → Bool
same_kind Uuid Uuid = true
same_kind Url Url = true
same_kind Date Date = true
same_kind Time Time = true
same_kind DateTime DateTime = true
same_kind Decimal Decimal = true
same_kind k l = false

-- each of the first has a like one among the second, and each of the second among the first
abbrev pub mutual_inclusion : {A B : Type 0} → (A → B → Bool) → List A → List B → Bool
mutual_inclusion like xs ys =
    list_all (λ x. list_any (λ y. like x y) ys) xs
    && list_all (λ y. list_any (λ x. like x y) xs) ys

-- below, what stands inside the first value is given as its test of another value
abbrev pub Test : Type 0
Test = Value → Bool

-- entries whose keys and values are the same
abbrev pub same_entry : Test × Test → Value × Value → Bool
same_entry f e = f.0 e.0 && f.1 e.1

-- fields of one name whose values are the same
abbrev pub same_field : List ℕ × Test → List ℕ × Value → Bool
same_field f e = bytes_eq f.0 e.0 && f.1 e.1

-- items that are the same place by place
abbrev pub same_items : List Test → List Value → Bool
same_items = pointwise (λ f v. f v)

-- items that are the same in any order
abbrev pub same_set : List Test → List Value → Bool
same_set = mutual_inclusion (λ f v. f v)

-- entries that are the same in any order
abbrev pub same_dict : List (Test × Test) → List (Value × Value) → Bool
same_dict = mutual_inclusion same_entry

-- fields that are the same in any order
abbrev pub same_fields : List (List ℕ × Test) → List (List ℕ × Value) → Bool
same_fields = mutual_inclusion same_field

-- the other is none
abbrev pub is_none : Value-F Value → Bool
is_none Value-F.None = true
is_none y = false

-- the other is a flag, an int or a lexeme of this number
abbrev pub is_number : Number → Value-F Value → Bool
is_number m (Value-F.Bool b) = same_number m (flag_number b)
is_number m (Value-F.Int n) = same_number m (int_number n)
is_number m (Value-F.Lexeme lexeme) = same_number m (number lexeme)
is_number m y = false

-- the other is this text
abbrev pub is_str : List ℕ → Value-F Value → Bool
is_str t (Value-F.Str text) = bytes_eq t text
is_str t y = false

-- the other is these bytes
abbrev pub is_bytes : List ℕ → Value-F Value → Bool
is_bytes t (Value-F.Bytes bytes) = bytes_eq t bytes
is_bytes t y = false

-- the other is an atom of this kind and text
abbrev pub is_atom : AtomKind → List ℕ → Value-F Value → Bool
is_atom k t (Value-F.Atom kind text) = same_kind k kind && bytes_eq t text
is_atom k t y = false

-- the other is the enum's member of this class and name, and its value the same
abbrev pub is_enum : List ℕ → List ℕ → Test → Value-F Value → Bool
is_enum c n f (Value-F.Enum cls name value) = bytes_eq c cls && bytes_eq n name && f value
is_enum c n f y = false

-- the other is a list of the same items
abbrev pub is_list : List Test → Value-F Value → Bool
is_list fs (Value-F.List values) = same_items fs values
is_list fs y = false

-- the other is a tuple of the same items
abbrev pub is_tuple : List Test → Value-F Value → Bool
is_tuple fs (Value-F.Tuple values) = same_items fs values
is_tuple fs y = false

-- the other is a set or a frozen set of the same items
abbrev pub is_set : List Test → Value-F Value → Bool
is_set fs (Value-F.Set values) = same_set fs values
is_set fs (Value-F.Frozen values) = same_set fs values
is_set fs y = false

-- the other is a dict of the same entries
abbrev pub is_dict : List (Test × Test) → Value-F Value → Bool
is_dict fs (Value-F.Dict entries) = same_dict fs entries
is_dict fs y = false

-- the other is a model of this class with the same fields and the same besides; which fields were
-- given does not matter
abbrev pub is_model : List ℕ → List (List ℕ × Test) → List (List ℕ × Test) → Value-F Value → Bool
is_model c fs es (Value-F.Model cls fields set extra) =
    bytes_eq c cls && same_fields fs fields && same_fields es extra
is_model c fs es y = false

-- the other is a root model of this class with the same value
abbrev pub is_root : List ℕ → Test → Value-F Value → Bool
is_root c f (Value-F.Root cls value) = bytes_eq c cls && f value
is_root c f y = false

-- one level, by the tests of the values inside
abbrev pub same_at : Value-F Test → Value-F Value → Bool
same_at Value-F.None y = is_none y
same_at (Value-F.Bool b) y = is_number (flag_number b) y
same_at (Value-F.Int n) y = is_number (int_number n) y
same_at (Value-F.Lexeme lexeme) y = is_number (number lexeme) y
same_at (Value-F.Str text) y = is_str text y
same_at (Value-F.Bytes bytes) y = is_bytes bytes y
same_at (Value-F.Atom kind text) y = is_atom kind text y
same_at (Value-F.Enum cls name f) y = is_enum cls name f y
same_at (Value-F.List fs) y = is_list fs y
same_at (Value-F.Tuple fs) y = is_tuple fs y
same_at (Value-F.Set fs) y = is_set fs y
same_at (Value-F.Frozen fs) y = is_set fs y
same_at (Value-F.Dict fs) y = is_dict fs y
same_at (Value-F.Model cls fs set es) y = is_model cls fs es y
same_at (Value-F.Root cls f) y = is_root cls f y

-- two values
abbrev pub same : Value → Value → Bool
same = fold-Value Test (λ x b. same_at x (out-Value b))
