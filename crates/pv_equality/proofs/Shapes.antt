-- Each level of a value in one form: what stands there itself, the values inside in order, and the sets of parts inside.
use Rattle.std.proofs.Common.{◌≡◌, ◌&&◌, ◌==◌, ℕ, Bool, true, List, [], ◌∷◌, map, ◌∙◌, bytes_eq}
use Rattle.std.specs.List.{AllByRecursion}
use Rattle.std.specs.Cmp.{IsEquivalence}
use Rattle.std.proofs.lemmas.Cmp.{and_equiv, on_equiv, lists_equiv, nat_list_eq_equiv, nat_eq_equiv}
use lib.Pointwise.{pointwise}
use Rattle.pv_number.specs.ExactNumber.{Number, number}
use Rattle.pv_number.specs.NumberEquality.{int_number}
use Rattle.pv_tree.specs.declared.Value.TheOpen.{Value-F}
use Rattle.pv_tree.specs.declared.AtomKind.{AtomKind}
use Rattle.pv_tree.specs.declared.AtomKind.TheVariants.{Uuid, Url, Date, Time, DateTime, Decimal}
use Rattle.pv_equality.specs.Equality.{same_number, flag_number, mutual_inclusion}
use Rattle.pv_equality.proofs.Numbers.{numbers_equiv}
use Rattle.pv_equality.proofs.Bools.{both, first, second}
use Rattle.pv_equality.proofs.Inclusion.{each_so}
use Rattle.pv_equality.proofs.Equivalence.{Refl, Symm, Trans, items_refl, items_symm, items_trans, sets_refl, sets_symm, sets_trans}

-- a name and the values that it stands for
abbrev pub Part : Type 0 → Type 0
Part X = List ℕ × List X

pub record Shape (X : Type 0) : Type 0 where
  pub kind : ℕ
  pub numbers : List Number
  pub texts : List (List ℕ)
  pub items : List X
  pub sets : List (List (Part X))

abbrev pub same_part : {X : Type 0} → (X → X → Bool) → Part X → Part X → Bool
same_part f p q = bytes_eq p.0 q.0 && pointwise f p.1 q.1

abbrev pub same_own : {X : Type 0} → Shape X → Shape X → Bool
same_own s t = s.kind == t.kind && pointwise same_number s.numbers t.numbers && pointwise bytes_eq s.texts t.texts

abbrev pub same_inside : {X : Type 0} → (X → X → Bool) → Shape X → Shape X → Bool
same_inside f s t = pointwise f s.items t.items && pointwise (mutual_inclusion (same_part f)) s.sets t.sets

abbrev pub same_shape : {X : Type 0} → (X → X → Bool) → Shape X → Shape X → Bool
same_shape f s t = same_own s t && same_inside f s t

abbrev pub atom_number : AtomKind → ℕ
atom_number Uuid = 0
atom_number Url = 1
atom_number Date = 2
atom_number Time = 3
atom_number DateTime = 4
atom_number Decimal = 5

abbrev pub lone : {X : Type 0} → X → Part X
lone v = ([], v ∷ [])

abbrev pub pair : {X : Type 0} → X × X → Part X
pair e = ([], e.0 ∷ e.1 ∷ [])

abbrev pub named : {X : Type 0} → List ℕ × X → Part X
named e = (e.0, e.1 ∷ [])

abbrev pub shape : {X : Type 0} → Value-F X → Shape X
shape Value-F.None = record { kind = 0; numbers = []; texts = []; items = []; sets = [] }
shape (Value-F.Bool b) = record { kind = 1; numbers = flag_number b ∷ []; texts = []; items = []; sets = [] }
shape (Value-F.Int n) = record { kind = 1; numbers = int_number n ∷ []; texts = []; items = []; sets = [] }
shape (Value-F.Lexeme lexeme) = record { kind = 1; numbers = number lexeme ∷ []; texts = []; items = []; sets = [] }
shape (Value-F.Str text) = record { kind = 2; numbers = []; texts = text ∷ []; items = []; sets = [] }
shape (Value-F.Bytes bytes) = record { kind = 3; numbers = []; texts = bytes ∷ []; items = []; sets = [] }
shape (Value-F.Atom kind text) = record { kind = 4; numbers = []; texts = (atom_number kind ∷ []) ∷ text ∷ []; items = []; sets = [] }
shape (Value-F.Enum cls name value) = record { kind = 5; numbers = []; texts = cls ∷ name ∷ []; items = value ∷ []; sets = [] }
shape (Value-F.List values) = record { kind = 6; numbers = []; texts = []; items = values; sets = [] }
shape (Value-F.Tuple values) = record { kind = 7; numbers = []; texts = []; items = values; sets = [] }
shape (Value-F.Set values) = record { kind = 8; numbers = []; texts = []; items = []; sets = map lone values ∷ [] }
shape (Value-F.Frozen values) = record { kind = 8; numbers = []; texts = []; items = []; sets = map lone values ∷ [] }
shape (Value-F.Dict entries) = record { kind = 9; numbers = []; texts = []; items = []; sets = map pair entries ∷ [] }
shape (Value-F.Model cls fields set extra) = record { kind = 10; numbers = []; texts = cls ∷ []; items = []; sets = map named fields ∷ map named extra ∷ [] }
shape (Value-F.Root cls value) = record { kind = 11; numbers = []; texts = cls ∷ []; items = value ∷ []; sets = [] }

-- equality of shapes is an equivalence, where that of what stands inside is
abbrev pub AllWithin : {X : Type 0} → (X → Type 0) → Shape X → Type 0
AllWithin P s = AllByRecursion P s.items × AllByRecursion (AllByRecursion (λ p. AllByRecursion P p.1)) s.sets

texts_equiv : IsEquivalence (pointwise bytes_eq)
texts_equiv = lists_equiv nat_list_eq_equiv

many_numbers_equiv : IsEquivalence (pointwise same_number)
many_numbers_equiv = lists_equiv numbers_equiv

-- the three laws of one test
record Laws {X : Type 0} (f : X → X → Bool) : Type 0 where
  reflexive : (x : X) → Refl f x
  symmetric : (x : X) → Symm f x
  transitive : (x : X) → Trans f x

laws_of : {X : Type 0} (f : X → X → Bool) → IsEquivalence f → Laws f
laws_of f e = record {
  reflexive = e.refl;
  symmetric = λ x y h. e.symm y x ∙ h;
  transitive = λ x y z h k. e.congr x y z h ∙ k;
}

module _ {X : Type 0} (f : X → X → Bool) where
  part_refl : (p : Part X) → AllByRecursion (Refl f) p.1 → Refl (same_part f) p
  part_refl p a = both ((laws_of bytes_eq nat_list_eq_equiv).reflexive p.0) (items_refl f p.1 a)

  part_symm : (p : Part X) → AllByRecursion (Symm f) p.1 → Symm (same_part f) p
  part_symm p a q h =
      both ((laws_of bytes_eq nat_list_eq_equiv).symmetric p.0 q.0 (first (bytes_eq p.0 q.0) (pointwise f p.1 q.1) h))
      (items_symm f p.1 a q.1 (second (bytes_eq p.0 q.0) (pointwise f p.1 q.1) h))

  part_trans : (p : Part X) → AllByRecursion (Trans f) p.1 → Trans (same_part f) p
  part_trans p a q r h k =
      both ((laws_of bytes_eq nat_list_eq_equiv).transitive p.0 q.0 r.0 (first (bytes_eq p.0 q.0) (pointwise f p.1 q.1) h) (first (bytes_eq q.0 r.0) (pointwise f q.1 r.1) k))
      (items_trans f p.1 a q.1 r.1 (second (bytes_eq p.0 q.0) (pointwise f p.1 q.1) h) (second (bytes_eq q.0 r.0) (pointwise f q.1 r.1) k))

  set_refl : (ps : List (Part X)) → AllByRecursion (λ p. AllByRecursion (Refl f) p.1) ps → Refl (mutual_inclusion (same_part f)) ps
  set_refl ps a = sets_refl (same_part f) ps (each_so (λ (p : Part X). AllByRecursion (Refl f) p.1) part_refl ps a)

  set_symm : (ps : List (Part X)) → AllByRecursion (λ p. AllByRecursion (Symm f) p.1) ps → Symm (mutual_inclusion (same_part f)) ps
  set_symm ps a = sets_symm (same_part f) ps (each_so (λ (p : Part X). AllByRecursion (Symm f) p.1) part_symm ps a)

  set_trans : (ps : List (Part X)) → AllByRecursion (λ p. AllByRecursion (Trans f) p.1) ps → Trans (mutual_inclusion (same_part f)) ps
  set_trans ps a = sets_trans (same_part f) ps (each_so (λ (p : Part X). AllByRecursion (Trans f) p.1) part_trans ps a)

  abbrev sets : List (List (Part X)) → List (List (Part X)) → Bool
  sets = pointwise (mutual_inclusion (same_part f))

  inside_refl : (s : Shape X) → AllWithin (Refl f) s → same_inside f s s ≡ true
  inside_refl s a = both (items_refl f s.items a.0) (items_refl (mutual_inclusion (same_part f)) s.sets (each_so (AllByRecursion (λ (p : Part X). AllByRecursion (Refl f) p.1)) set_refl s.sets a.1))

  inside_symm : (s : Shape X) → AllWithin (Symm f) s → (t : Shape X) → same_inside f s t ≡ true → same_inside f t s ≡ true
  inside_symm s a t h =
      both (items_symm f s.items a.0 t.items (first (pointwise f s.items t.items) (sets s.sets t.sets) h))
      (items_symm (mutual_inclusion (same_part f)) s.sets (each_so (AllByRecursion (λ (p : Part X). AllByRecursion (Symm f) p.1)) set_symm s.sets a.1) t.sets
      (second (pointwise f s.items t.items) (sets s.sets t.sets) h))

  inside_trans : (s : Shape X) → AllWithin (Trans f) s → (t u : Shape X) → same_inside f s t ≡ true → same_inside f t u ≡ true → same_inside f s u ≡ true
  inside_trans s a t u h k =
      both (items_trans f s.items a.0 t.items u.items (first (pointwise f s.items t.items) (sets s.sets t.sets) h) (first (pointwise f t.items u.items) (sets t.sets u.sets) k))
      (items_trans (mutual_inclusion (same_part f)) s.sets (each_so (AllByRecursion (λ (p : Part X). AllByRecursion (Trans f) p.1)) set_trans s.sets a.1) t.sets u.sets
      (second (pointwise f s.items t.items) (sets s.sets t.sets) h) (second (pointwise f t.items u.items) (sets t.sets u.sets) k))

  own_equiv : IsEquivalence (same_own {X = X})
  own_equiv =
      and_equiv (and_equiv (on_equiv (λ (s : Shape X). s.kind) nat_eq_equiv) (on_equiv (λ (s : Shape X). s.numbers) many_numbers_equiv))
      (on_equiv (λ (s : Shape X). s.texts) texts_equiv)

  pub shape_refl : (s : Shape X) → AllWithin (Refl f) s → same_shape f s s ≡ true
  shape_refl s a = both ((laws_of same_own own_equiv).reflexive s) (inside_refl s a)

  pub shape_symm : (s : Shape X) → AllWithin (Symm f) s → (t : Shape X) → same_shape f s t ≡ true → same_shape f t s ≡ true
  shape_symm s a t h =
      both ((laws_of same_own own_equiv).symmetric s t (first (same_own s t) (same_inside f s t) h)) (inside_symm s a t (second (same_own s t) (same_inside f s t) h))

  pub shape_trans : (s : Shape X) → AllWithin (Trans f) s → (t u : Shape X) → same_shape f s t ≡ true → same_shape f t u ≡ true → same_shape f s u ≡ true
  shape_trans s a t u h k =
      both ((laws_of same_own own_equiv).transitive s t u (first (same_own s t) (same_inside f s t) h) (first (same_own t u) (same_inside f t u) k))
      (inside_trans s a t u (second (same_own s t) (same_inside f s t) h) (second (same_own t u) (same_inside f t u) k))
