-- Two values of one notation are one value.
use Rattle.std.proofs.Common.{◌≡◌, ◌≢◌, ℕ, ◌==◌, Bool, true, false, List, [], ◌∷◌, ◌++◌, map, refl, sym, ap, ◌∙◌, subst, append-nil, arith}
use Rattle.std.specs.Prelude.{codes, if◌then◌else◌, length}
use Rattle.std.specs.List.{AllByRecursion, flat_map}
use Rattle.std.proofs.lemmas.Bool.{false≢true}
use Rattle.std.proofs.lemmas.Bool.Decides.{Decides-eqb}
use Rattle.std.proofs.lemmas.List.{append_cancel_left}
use Rattle.std.proofs.lemmas.Simd.{map-map}
use Rattle.pv_tree.specs.declared.Value.{Value, map-Value}
use Rattle.pv_tree.specs.declared.Value.TheOpen.{Value-F}
use Rattle.pv_tree.specs.declared.Value.TheViews.{out-Value, roll-Value, out-roll-Value, roll-out-Value}
use Rattle.pv_tree.specs.declared.Value.TheFolds.{fold-roll-Value, every_here-Value, every_held-Value}
use Rattle.pv_tree.specs.declared.AtomKind.{AtomKind}
use Rattle.pv_tree.specs.declared.AtomKind.TheVariants.{Uuid, Url, Date, Time, DateTime, Decimal}
use Rattle.pv_notation.specs.Strings.{quoted, hex_byte}
use Rattle.pv_notation.specs.Lists.{list_text}
use Rattle.pv_notation.specs.Notation.{notation, notation_step, named_text, entry_text, named_notation, entry_notation, tagged, atom_name}
use Rattle.pv_notation.specs.Numbers.{IntAt, IsSound}
use Rattle.pv_notation.proofs.Inside.{AllInside, inside_held, by_levels}
use Rattle.pv_notation.proofs.Codes.{first}
use Rattle.pv_notation.proofs.Same.{Same, same_so, same_at, signed_same, quoted_same, quoted_hex_same, tagged_same, tag_same, two_same, three_same, four_same, Tells, items_same}
use Rattle.pv_notation.proofs.ValueKinds.{kind, kind_of, short_int, kind_told, level_start}

-- a level with the notation of each value inside
abbrev written : Value-F Value → Value-F (List ℕ)
written = map-Value Value (List ℕ) notation

int_written : (x : Value-F Value) → IntAt x → IntAt (written x)
int_written Value-F.None i = i
int_written (Value-F.Bool b) i = i
int_written (Value-F.Int n) i = i
int_written (Value-F.Lexeme lexeme) i = i
int_written (Value-F.Str text) i = i
int_written (Value-F.Bytes bytes) i = i
int_written (Value-F.Atom k text) i = i
int_written (Value-F.Enum cls name value) i = i
int_written (Value-F.List values) i = i
int_written (Value-F.Tuple values) i = i
int_written (Value-F.Set values) i = i
int_written (Value-F.Frozen values) i = i
int_written (Value-F.Dict entries) i = i
int_written (Value-F.Model cls fields set extra) i = i
int_written (Value-F.Root cls value) i = i

kind_written : (x : Value-F Value) → kind (written x) ≡ kind x
kind_written Value-F.None = refl
kind_written (Value-F.Bool b) = refl
kind_written (Value-F.Int n) = refl
kind_written (Value-F.Lexeme lexeme) = refl
kind_written (Value-F.Str text) = refl
kind_written (Value-F.Bytes bytes) = refl
kind_written (Value-F.Atom k text) = refl
kind_written (Value-F.Enum cls name value) = refl
kind_written (Value-F.List values) = refl
kind_written (Value-F.Tuple values) = refl
kind_written (Value-F.Set values) = refl
kind_written (Value-F.Frozen values) = refl
kind_written (Value-F.Dict entries) = refl
kind_written (Value-F.Model cls fields set extra) = refl
kind_written (Value-F.Root cls value) = refl

-- a sound value's own level, and the values inside
sound_here : (x : Value-F Value) → IsSound (roll-Value x) → IntAt x
sound_here x h = subst IntAt (out-roll-Value x) (every_here-Value IntAt (roll-Value x) h)

sound_inside : (x : Value-F Value) → IsSound (roll-Value x) → AllInside IsSound x
sound_inside x h =
    let held = every_held-Value IntAt (roll-Value x) h in
    subst (AllInside IsSound) (held.1 ∙ out-roll-Value x) (inside_held IsSound held.0)

abbrev TellsValue : Value → Type 0
TellsValue = Tells notation IsSound

value_start : (v : Value) (r : List ℕ) → IsSound v → first (notation v ++ r) ≢ 93
value_start = by_levels (λ v. (r : List ℕ) → IsSound v → first (notation v ++ r) ≢ 93) (λ x p r h.
    subst (λ t. first (t ++ r) ≢ 93) (sym (fold-roll-Value (List ℕ) notation_step x)) (level_start (written x) r (int_written x (sound_here x h))))

module _ {X : Type 0} (P : X → Type 0) where
  everywhere : ((x : X) → P x) → (xs : List X) → AllByRecursion P xs
  everywhere p [] = tt
  everywhere p (x ∷ xs) = (p x, everywhere p xs)

names_same : (xs ys : List (List ℕ)) → Same (list_text (map quoted xs)) (list_text (map quoted ys)) (xs ≡ ys)
names_same xs ys =
    items_same quoted (λ _. Unit {0}) (λ x r _. omega arith) xs ys
    (everywhere (Tells quoted (λ _. Unit {0})) (λ x y _ _. quoted_same x y) xs) (everywhere (λ _. Unit {0}) (λ _. tt) xs) (everywhere (λ _. Unit {0}) (λ _. tt) ys)

values_same : (xs ys : List Value) → AllByRecursion TellsValue xs → AllByRecursion IsSound xs → AllByRecursion IsSound ys → Same (list_text (map notation xs)) (list_text (map notation ys)) (xs ≡ ys)
values_same = items_same notation IsSound value_start

-- a pair of a name and a value, and one of a key and a value
abbrev SoundNamed : List ℕ × Value → Type 0
SoundNamed m = IsSound m.1

named_tells : (ms : List (List ℕ × Value)) → AllByRecursion (λ m. TellsValue m.1) ms → AllByRecursion (Tells named_notation SoundNamed) ms
named_tells [] t = tt
named_tells (m ∷ ms) t = (
  λ n g h. same_so (named_notation m) (named_notation n) (λ k. ap (λ x. (x, m.1)) k.0 ∙ ap (λ x. (n.0, x)) k.1.0)
      (two_same (quoted m.0) (quoted n.0) (notation m.1) (notation n.1) (quoted_same m.0 n.0) (t.0 n.1 g h)),
  named_tells ms t.1,
)

named_same : (xs ys : List (List ℕ × Value)) → AllByRecursion (λ m. TellsValue m.1) xs → AllByRecursion SoundNamed xs → AllByRecursion SoundNamed ys
    → Same (list_text (map named_text (map (λ m. (m.0, notation m.1)) xs))) (list_text (map named_text (map (λ m. (m.0, notation m.1)) ys))) (xs ≡ ys)
named_same xs ys t g h =
    same_at _ _ (list_text (map named_notation xs)) (list_text (map named_notation ys)) (ap list_text (map-map named_text (λ (m : List ℕ × Value). (m.0, notation m.1)) xs))
    (ap list_text (map-map named_text (λ (m : List ℕ × Value). (m.0, notation m.1)) ys))
    (items_same named_notation SoundNamed (λ m r _. omega arith) xs ys (named_tells xs t) g h)

abbrev SoundEntry : Value × Value → Type 0
SoundEntry e = IsSound e.0 × IsSound e.1

entries_tell : (es : List (Value × Value)) → AllByRecursion (λ e. TellsValue e.0 × TellsValue e.1) es → AllByRecursion (Tells entry_notation SoundEntry) es
entries_tell [] t = tt
entries_tell (e ∷ es) t = (
  λ n g h. same_so (entry_notation e) (entry_notation n) (λ k. ap (λ x. (x, e.1)) k.0 ∙ ap (λ x. (n.0, x)) k.1.0)
      (two_same (notation e.0) (notation n.0) (notation e.1) (notation n.1) (t.0.0 n.0 g.0 h.0) (t.0.1 n.1 g.1 h.1)),
  entries_tell es t.1,
)

entries_same : (xs ys : List (Value × Value)) → AllByRecursion (λ e. TellsValue e.0 × TellsValue e.1) xs → AllByRecursion SoundEntry xs → AllByRecursion SoundEntry ys
    → Same (list_text (map entry_text (map (λ e. (notation e.0, notation e.1)) xs))) (list_text (map entry_text (map (λ e. (notation e.0, notation e.1)) ys))) (xs ≡ ys)
entries_same xs ys t g h =
    same_at _ _ (list_text (map entry_notation xs)) (list_text (map entry_notation ys)) (ap list_text (map-map entry_text (λ (e : Value × Value). (notation e.0, notation e.1)) xs))
    (ap list_text (map-map entry_text (λ (e : Value × Value). (notation e.0, notation e.1)) ys))
    (items_same entry_notation SoundEntry (λ e r _. omega arith) xs ys (entries_tell xs t) g h)

-- the same kind, by its number
abbrev OneKind : Value-F Value → Value-F Value → Type 0
OneKind x z = (kind x == kind z) ≡ true

-- two levels whose texts, with what follows, are the same
SameLevel : Value-F Value → Value-F Value → Type 0
SameLevel x z = Same (notation_step (written x)) (notation_step (written z)) (x ≡ z)

level_so : {E : Type 0} (x z : Value-F Value) → (E → x ≡ z) → Same (notation_step (written x)) (notation_step (written z)) E → SameLevel x z
unfolding SameLevel
level_so x z = same_so (notation_step (written x)) (notation_step (written z))

bools_same : (b c : Bool) → SameLevel (Value-F.Bool b) (Value-F.Bool c)
unfolding SameLevel
bools_same true true r s p q e = (refl, append_cancel_left (codes "true") r s e)
bools_same true false r s p q e = absurd (omega (arith, ap first e))
bools_same false true r s p q e = absurd (omega (arith, ap first e))
bools_same false false r s p q e = (refl, append_cancel_left (codes "false") r s e)

abbrev kind_named : List ℕ → AtomKind
kind_named name =
    if length name == 3 then Url else (if length name == 7 then Decimal else (if length name == 8 then DateTime else (if first name == 117 then Uuid else (if first name == 100 then Date else Time))))

kind_is : (k : AtomKind) → kind_named (atom_name k) ≡ k
kind_is Uuid = refl
kind_is Url = refl
kind_is Date = refl
kind_is Time = refl
kind_is DateTime = refl
kind_is Decimal = refl

atoms_same : (k l : AtomKind) (t u : List ℕ) → SameLevel (Value-F.Atom k t) (Value-F.Atom l u)
unfolding SameLevel
atoms_same k l t u r s p q e =
    let n : atom_name k ≡ atom_name l = tag_same (atom_name k) (atom_name l) (quoted t) (quoted u) r s e in
    let o = tagged_same (atom_name k) (quoted t) (quoted u) (quoted_same t u) r s p q (e ∙ ap (λ x. tagged x (quoted u) ++ s) (sym n)) in
    (ap (λ x. Value-F.Atom x t) (sym (kind_is k) ∙ ap kind_named n ∙ kind_is l) ∙ ap (λ x. Value-F.Atom l x) o.0, o.1)

nones_same : SameLevel Value-F.None Value-F.None
unfolding SameLevel
nones_same r s p q e = (refl, append_cancel_left (codes "null") r s e)

enums_same : (c d n m : List ℕ) (v w : Value) → Same (notation v) (notation w) (v ≡ w) → SameLevel (Value-F.Enum c n v) (Value-F.Enum d m w)
enums_same c d n m v w h =
    level_so (Value-F.Enum c n v) (Value-F.Enum d m w)
    (λ k. ap (λ x. Value-F.Enum x n v) k.0 ∙ ap (λ x. Value-F.Enum d x v) k.1.0 ∙ ap (λ x. Value-F.Enum d m x) k.1.1.0)
    (tagged_same (codes "enum") (list_text (quoted c ∷ quoted n ∷ notation v ∷ [])) (list_text (quoted d ∷ quoted m ∷ notation w ∷ []))
    (three_same (quoted c) (quoted d) (quoted n) (quoted m) (notation v) (notation w) (quoted_same c d) (quoted_same n m) h))

roots_same : (c d : List ℕ) (v w : Value) → Same (notation v) (notation w) (v ≡ w) → SameLevel (Value-F.Root c v) (Value-F.Root d w)
roots_same c d v w h =
    level_so (Value-F.Root c v) (Value-F.Root d w) (λ k. ap (λ x. Value-F.Root x v) k.0 ∙ ap (λ x. Value-F.Root d x) k.1.0)
    (tagged_same (codes "root") (list_text (quoted c ∷ notation v ∷ [])) (list_text (quoted d ∷ notation w ∷ []))
    (two_same (quoted c) (quoted d) (notation v) (notation w) (quoted_same c d) h))

-- the list of a model's fields, or of what was there besides
abbrev named_list : List (List ℕ × Value) → List ℕ
named_list ms = list_text (map named_text (map (λ m. (m.0, notation m.1)) ms))

models_same : (c d : List ℕ) (f l : List (List ℕ × Value)) (s u : List (List ℕ)) (e x : List (List ℕ × Value)) → Same (named_list f) (named_list l) (f ≡ l) → Same (named_list e) (named_list x) (e ≡ x)
    → SameLevel (Value-F.Model c f s e) (Value-F.Model d l u x)
models_same c d f l s u e x h g =
    level_so (Value-F.Model c f s e) (Value-F.Model d l u x)
    (λ k. ap (λ y. Value-F.Model y f s e) k.0 ∙ ap (λ y. Value-F.Model d y s e) k.1.0 ∙ ap (λ y. Value-F.Model d l y e) k.1.1.0 ∙ ap (λ y. Value-F.Model d l u y) k.1.1.1.0)
    (tagged_same (codes "model") (list_text (quoted c ∷ named_list f ∷ list_text (map quoted s) ∷ named_list e ∷ [])) (list_text (quoted d ∷ named_list l ∷ list_text (map quoted u) ∷ named_list x ∷ []))
    (four_same (quoted c) (quoted d) (named_list f) (named_list l) (list_text (map quoted s)) (list_text (map quoted u)) (named_list e) (named_list x) (quoted_same c d) h (names_same s u) g))

level_same : (x z : Value-F Value) → AllInside TellsValue x → IntAt x → AllInside IsSound x → IntAt z → AllInside IsSound z → OneKind x z → SameLevel x z
level_same Value-F.None Value-F.None t i g j h o = nones_same
level_same (Value-F.Bool b) (Value-F.Bool c) t i g j h o = bools_same b c
level_same (Value-F.Int m) (Value-F.Int n) t i g j h o = level_so (Value-F.Int m) (Value-F.Int n) (ap Value-F.Int) (signed_same m n (short_int m i) (short_int n j))
level_same (Value-F.Lexeme a) (Value-F.Lexeme b) t i g j h o =
    level_so (Value-F.Lexeme a) (Value-F.Lexeme b) (ap Value-F.Lexeme) (tagged_same (codes "number") (quoted a) (quoted b) (quoted_same a b))
level_same (Value-F.Str a) (Value-F.Str b) t i g j h o = level_so (Value-F.Str a) (Value-F.Str b) (ap Value-F.Str) (quoted_same a b)
level_same (Value-F.Bytes a) (Value-F.Bytes b) t i g j h o =
    level_so (Value-F.Bytes a) (Value-F.Bytes b) (ap Value-F.Bytes)
    (tagged_same (codes "bytes") (34 ∷ flat_map hex_byte a ++ 34 ∷ []) (34 ∷ flat_map hex_byte b ++ 34 ∷ []) (quoted_hex_same a b))
level_same (Value-F.Atom k a) (Value-F.Atom l b) t i g j h o = atoms_same k l a b
level_same (Value-F.Enum c n v) (Value-F.Enum d m w) t i g j h o = enums_same c d n m v w (t w g h)
level_same (Value-F.List a) (Value-F.List b) t i g j h o = level_so (Value-F.List a) (Value-F.List b) (ap Value-F.List) (values_same a b t g h)
level_same (Value-F.Tuple a) (Value-F.Tuple b) t i g j h o =
    level_so (Value-F.Tuple a) (Value-F.Tuple b) (ap Value-F.Tuple)
    (tagged_same (codes "tuple") (list_text (map notation a)) (list_text (map notation b)) (values_same a b t g h))
level_same (Value-F.Set a) (Value-F.Set b) t i g j h o =
    level_so (Value-F.Set a) (Value-F.Set b) (ap Value-F.Set)
    (tagged_same (codes "set") (list_text (map notation a)) (list_text (map notation b)) (values_same a b t g h))
level_same (Value-F.Frozen a) (Value-F.Frozen b) t i g j h o =
    level_so (Value-F.Frozen a) (Value-F.Frozen b) (ap Value-F.Frozen)
    (tagged_same (codes "frozenset") (list_text (map notation a)) (list_text (map notation b)) (values_same a b t g h))
level_same (Value-F.Dict a) (Value-F.Dict b) t i g j h o =
    level_so (Value-F.Dict a) (Value-F.Dict b) (ap Value-F.Dict)
    (tagged_same (codes "dict") (list_text (map entry_text (map (λ (e : Value × Value). (notation e.0, notation e.1)) a)))
    (list_text (map entry_text (map (λ (e : Value × Value). (notation e.0, notation e.1)) b))) (entries_same a b t g h))
level_same (Value-F.Model c f s e) (Value-F.Model d l u x) t i g j h o = models_same c d f l s u e x (named_same f l t.0 g.0 h.0) (named_same e x t.1 g.1 h.1)
level_same (Value-F.Root c v) (Value-F.Root d w) t i g j h o = roots_same c d v w (t w g h)
level_same x z t i g j h o = absurd (false≢true o)

one_kind : (x z : Value-F Value) (r s : List ℕ) → IntAt x → IntAt z → notation_step (written x) ++ r ≡ notation_step (written z) ++ s → OneKind x z
one_kind x z r s i j e =
    (Decides-eqb (kind x) (kind z)).1
    (sym (kind_written x) ∙ sym (kind_told (written x) r (int_written x i)) ∙ ap kind_of e ∙ kind_told (written z) s (int_written z j) ∙ kind_written z)

both_same : (x z : Value-F Value) → AllInside TellsValue x → IsSound (roll-Value x) → IsSound (roll-Value z) → SameLevel x z
unfolding SameLevel
both_same x z t g h r s p q e =
    level_same x z t (sound_here x g) (sound_inside x g) (sound_here z h) (sound_inside z h) (one_kind x z r s (sound_here x g) (sound_here z h) e) r s p q e

rolled_same : (x z : Value-F Value) → SameLevel x z → Same (notation (roll-Value x)) (notation (roll-Value z)) (roll-Value x ≡ roll-Value z)
unfolding SameLevel
rolled_same x z h =
    same_at (notation (roll-Value x)) (notation (roll-Value z)) (notation_step (written x)) (notation_step (written z))
    (fold-roll-Value (List ℕ) notation_step x) (fold-roll-Value (List ℕ) notation_step z)
    (same_so (notation_step (written x)) (notation_step (written z)) (ap roll-Value) h)

values_tell : (v : Value) → TellsValue v
values_tell = by_levels TellsValue (λ x t w g h.
    let z : Value-F Value = out-Value w in
    let e : roll-Value z ≡ w = roll-out-Value w in
    subst (λ y. Same (notation (roll-Value x)) (notation y) (roll-Value x ≡ y)) e (rolled_same x z (both_same x z t g (subst IsSound (sym e) h))))

pub notations_differ : (v w : Value) → IsSound v → IsSound w → notation v ≡ notation w → v ≡ w
notations_differ v w g h e = (values_tell v w g h [] [] tt tt (append-nil (notation v) ∙ e ∙ sym (append-nil (notation w)))).0
