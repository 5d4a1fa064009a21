-- Equality of two values is that of the shapes of their levels.
use Rattle.std.proofs.Common.{◌≡◌, ◌&&◌, ◌==◌, ℕ, Bool, true, List, [], ◌∷◌, map, refl, sym, ◌∙◌, subst, bytes_eq}
use Rattle.std.specs.List.{AllByRecursion}
use Rattle.std.proofs.Math.Bool.{and-true}
use lib.Pointwise.{pointwise}
use Rattle.pv_number.specs.ExactNumber.{Number, number}
use Rattle.pv_number.specs.NumberEquality.{int_number}
use Rattle.pv_tree.specs.declared.Value.{Value, map-Value}
use Rattle.pv_tree.specs.declared.Value.TheOpen.{Value-F}
use Rattle.pv_tree.specs.declared.Value.TheViews.{roll-Value}
use Rattle.pv_tree.specs.declared.Value.TheFolds.{ind-Value}
use Rattle.pv_tree.specs.declared.AtomKind.{AtomKind}
use Rattle.pv_tree.specs.declared.AtomKind.TheVariants.{Uuid, Url, Date, Time, DateTime, Decimal}
use Rattle.pv_equality.specs.Equality.{Test, same, same_at, same_number, same_kind, flag_number, mutual_inclusion, same_entry, same_field, same_set, same_fields, same_dict, same_items}
use Rattle.pv_equality.proofs.Bools.{and_assoc}
use Rattle.pv_equality.proofs.Inclusion.{inclusion_made}
use Rattle.pv_equality.proofs.Equivalence.{Refl, Symm, Trans}
use Rattle.pv_equality.proofs.SameLevels.{tests, same_levels, pointwise_map, inclusion_map}
use Rattle.pv_equality.proofs.Shapes.{Part, shape, same_shape, same_part, lone, pair, named, atom_number, AllWithin, shape_refl, shape_symm, shape_trans}

kinds_told : (k l : AtomKind) → same_kind k l ≡ (atom_number k == atom_number l)
kinds_told Uuid Uuid = refl
kinds_told Url Url = refl
kinds_told Date Date = refl
kinds_told Time Time = refl
kinds_told DateTime DateTime = refl
kinds_told Decimal Decimal = refl
kinds_told k l = refl

number_told : (m n : Number) → same_number m n ≡ ((true && (same_number m n && true) && true) && true)
number_told m n = simp and-true

text_told : (t u : List ℕ) → bytes_eq t u ≡ ((true && true && (bytes_eq t u && true)) && true)
text_told t u = simp and-true

atom_told : (k l : AtomKind) (t u : List ℕ) → (same_kind k l && bytes_eq t u) ≡ ((true && true && (((atom_number k == atom_number l) && true) && (bytes_eq t u && true))) && true)
atom_told k l t u = (λ i. kinds_told k l i && bytes_eq t u) ∙ simp and-true

enum_told : (c d n m : List ℕ) (v w : Value) → (bytes_eq c d && bytes_eq n m && same v w) ≡ ((true && true && (bytes_eq c d && (bytes_eq n m && true))) && ((same v w && true) && true))
enum_told c d n m v w = simp and-true

root_told : (c d : List ℕ) (v w : Value) → (bytes_eq c d && same v w) ≡ ((true && true && (bytes_eq c d && true)) && ((same v w && true) && true))
root_told c d v w = simp and-true

items_told : (vs ws : List Value) → same_items (map same vs) ws ≡ (true && (pointwise same vs ws && true))
items_told vs ws = pointwise_map (λ (f : Test) v. f v) same vs ws ∙ sym (and-true (pointwise same vs ws))

abbrev sets : List (Part Value) → List (Part Value) → Bool
sets = mutual_inclusion (same_part same)

lone_like : (v w : Value) → same_part same (lone v) (lone w) ≡ same v w
lone_like v w = and-true (same v w)

pair_like : (d e : Value × Value) → same_part same (pair d) (pair e) ≡ (same d.0 e.0 && same d.1 e.1)
pair_like d e = λ i. same d.0 e.0 && and-true (same d.1 e.1) i

named_like : (d e : List ℕ × Value) → same_part same (named d) (named e) ≡ (bytes_eq d.0 e.0 && same d.1 e.1)
named_like d e = λ i. bytes_eq d.0 e.0 && and-true (same d.1 e.1) i

sets_told : (vs ws : List Value) → same_set (map same vs) ws ≡ sets (map lone vs) (map lone ws)
sets_told vs ws =
    inclusion_map (λ (f : Test) v. f v) same vs ws
    ∙ sym (inclusion_made (same_part same) lone lone vs ws ∙ (λ i. mutual_inclusion (λ v w. lone_like v w i) vs ws))

dicts_told : (ds es : List (Value × Value)) → same_dict (map (λ d. (same d.0, same d.1)) ds) es ≡ sets (map pair ds) (map pair es)
dicts_told ds es =
    inclusion_map same_entry (λ (d : Value × Value). (same d.0, same d.1)) ds es
    ∙ sym (inclusion_made (same_part same) pair pair ds es ∙ (λ i. mutual_inclusion (λ d e. pair_like d e i) ds es))

fields_told : (ds es : List (List ℕ × Value)) → same_fields (map (λ d. (d.0, same d.1)) ds) es ≡ sets (map named ds) (map named es)
fields_told ds es =
    inclusion_map same_field (λ (d : List ℕ × Value). (d.0, same d.1)) ds es
    ∙ sym (inclusion_made (same_part same) named named ds es ∙ (λ i. mutual_inclusion (λ d e. named_like d e i) ds es))

model_told : (c d : List ℕ) (fs gs es ks : List (List ℕ × Value))
    → (bytes_eq c d && same_fields (map (λ d. (d.0, same d.1)) fs) gs && same_fields (map (λ d. (d.0, same d.1)) es) ks)
    ≡ ((true && true && (bytes_eq c d && true)) && (true && (sets (map named fs) (map named gs) && (sets (map named es) (map named ks) && true))))
model_told c d fs gs es ks = (λ i. bytes_eq c d && fields_told fs gs i && fields_told es ks i)
    ∙ and_assoc (bytes_eq c d) (sets (map named fs) (map named gs)) (sets (map named es) (map named ks)) ∙ simp and-true

level : (x y : Value-F Value) → same_at (tests x) y ≡ same_shape same (shape x) (shape y)
level Value-F.None Value-F.None = refl
level (Value-F.Bool b) (Value-F.Bool c) = number_told (flag_number b) (flag_number c)
level (Value-F.Bool b) (Value-F.Int n) = number_told (flag_number b) (int_number n)
level (Value-F.Bool b) (Value-F.Lexeme l) = number_told (flag_number b) (number l)
level (Value-F.Int n) (Value-F.Bool c) = number_told (int_number n) (flag_number c)
level (Value-F.Int n) (Value-F.Int m) = number_told (int_number n) (int_number m)
level (Value-F.Int n) (Value-F.Lexeme l) = number_told (int_number n) (number l)
level (Value-F.Lexeme l) (Value-F.Bool c) = number_told (number l) (flag_number c)
level (Value-F.Lexeme l) (Value-F.Int n) = number_told (number l) (int_number n)
level (Value-F.Lexeme l) (Value-F.Lexeme k) = number_told (number l) (number k)
level (Value-F.Str t) (Value-F.Str u) = text_told t u
level (Value-F.Bytes t) (Value-F.Bytes u) = text_told t u
level (Value-F.Atom k t) (Value-F.Atom l u) = atom_told k l t u
level (Value-F.Enum c n v) (Value-F.Enum d m w) = enum_told c d n m v w
level (Value-F.List vs) (Value-F.List ws) = items_told vs ws
level (Value-F.Tuple vs) (Value-F.Tuple ws) = items_told vs ws
level (Value-F.Set vs) (Value-F.Set ws) = sets_told vs ws ∙ sym (and-true (sets (map lone vs) (map lone ws)))
level (Value-F.Set vs) (Value-F.Frozen ws) = sets_told vs ws ∙ sym (and-true (sets (map lone vs) (map lone ws)))
level (Value-F.Frozen vs) (Value-F.Set ws) = sets_told vs ws ∙ sym (and-true (sets (map lone vs) (map lone ws)))
level (Value-F.Frozen vs) (Value-F.Frozen ws) = sets_told vs ws ∙ sym (and-true (sets (map lone vs) (map lone ws)))
level (Value-F.Dict ds) (Value-F.Dict es) = dicts_told ds es ∙ sym (and-true (sets (map pair ds) (map pair es)))
level (Value-F.Model c fs s es) (Value-F.Model d gs t ks) = model_told c d fs gs es ks
level (Value-F.Root c v) (Value-F.Root d w) = root_told c d v w
level x y = refl

pub same_by_shapes : (x y : Value-F Value) → same (roll-Value x) (roll-Value y) ≡ same_shape same (shape x) (shape y)
same_by_shapes x y = same_levels x y ∙ level x y

-- induction by the shapes of levels
abbrev Held : (Value → Type 0) → Type 0
Held P = (v : Value) × P v

module _ (P : Value → Type 0) where
  items_held : (es : List (Held P)) → AllByRecursion P (map (λ e. e.0) es)
  items_held [] = tt
  items_held (e ∷ es) = (e.1, items_held es)

  lones_held : (es : List (Held P)) → AllByRecursion (λ p. AllByRecursion P p.1) (map lone (map (λ e. e.0) es))
  lones_held [] = tt
  lones_held (e ∷ es) = ((e.1, tt), lones_held es)

  pairs_held : (es : List (Held P × Held P)) → AllByRecursion (λ p. AllByRecursion P p.1) (map pair (map (λ e. (e.0.0, e.1.0)) es))
  pairs_held [] = tt
  pairs_held (e ∷ es) = ((e.0.1, (e.1.1, tt)), pairs_held es)

  named_held : (es : List (List ℕ × Held P)) → AllByRecursion (λ p. AllByRecursion P p.1) (map named (map (λ e. (e.0, e.1.0)) es))
  named_held [] = tt
  named_held (e ∷ es) = ((e.1.1, tt), named_held es)

  shape_held : (y : Value-F (Held P)) → AllWithin P (shape (map-Value (Held P) Value (λ e. e.0) y))
  shape_held Value-F.None = (tt, tt)
  shape_held (Value-F.Bool b) = (tt, tt)
  shape_held (Value-F.Int n) = (tt, tt)
  shape_held (Value-F.Lexeme lexeme) = (tt, tt)
  shape_held (Value-F.Str text) = (tt, tt)
  shape_held (Value-F.Bytes bytes) = (tt, tt)
  shape_held (Value-F.Atom kind text) = (tt, tt)
  shape_held (Value-F.Enum cls name value) = ((value.1, tt), tt)
  shape_held (Value-F.List values) = (items_held values, tt)
  shape_held (Value-F.Tuple values) = (items_held values, tt)
  shape_held (Value-F.Set values) = (tt, (lones_held values, tt))
  shape_held (Value-F.Frozen values) = (tt, (lones_held values, tt))
  shape_held (Value-F.Dict entries) = (tt, (pairs_held entries, tt))
  shape_held (Value-F.Model cls fields set extra) = (tt, (named_held fields, (named_held extra, tt)))
  shape_held (Value-F.Root cls value) = ((value.1, tt), tt)

  pub by_shapes : ((x : Value-F Value) → AllWithin P (shape x) → P (roll-Value x)) → (v : Value) → P v
  by_shapes step = ind-Value P (λ x y is. step x (subst (λ z. AllWithin P (shape z)) is (shape_held y)))

-- the laws
pub same_refl : (v : Value) → same v v ≡ true
same_refl = by_shapes (Refl same) (λ x a. same_by_shapes x x ∙ shape_refl same (shape x) a)

rolled : (P : Value → Type 0) → ((x : Value-F Value) → P (roll-Value x)) → (v : Value) → P v
rolled P f = by_shapes P (λ x _. f x)

pub same_symm : (v w : Value) → same v w ≡ true → same w v ≡ true
same_symm = by_shapes (Symm same) (λ x a. rolled (λ w. same (roll-Value x) w ≡ true → same w (roll-Value x) ≡ true) (λ y h.
    same_by_shapes y x ∙ shape_symm same (shape x) a (shape y) (sym (same_by_shapes x y) ∙ h)))

pub same_trans : (u v w : Value) → same u v ≡ true → same v w ≡ true → same u w ≡ true
same_trans = by_shapes (Trans same) (λ x a.
    rolled (λ v. (w : Value) → same (roll-Value x) v ≡ true → same v w ≡ true → same (roll-Value x) w ≡ true) (λ y.
    rolled (λ w. same (roll-Value x) (roll-Value y) ≡ true → same (roll-Value y) w ≡ true → same (roll-Value x) w ≡ true) (λ z h k.
    same_by_shapes x z ∙ shape_trans same (shape x) a (shape y) (shape z) (sym (same_by_shapes x y) ∙ h) (sym (same_by_shapes y z) ∙ k))))
