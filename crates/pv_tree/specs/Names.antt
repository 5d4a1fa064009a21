-- Members with distinct names.
use Rattle.std.specs.Prelude.{◌≡◌, ℕ, List, map, bytes_eq}
use Rattle.std.specs.List.{IsDistinct, IsDistinct-prop}
use Rattle.std.specs.Coded.{Coded, coded_list, coded×, coded_ℕ}
use base.Stored.{coded_via}
use mathlib.Core.HLevel.{is_prop→PathP}

-- the names of members, in order
abbrev pub names : {V : Type 0} → List (List ℕ × V) → List (List ℕ)
names ms = map (λ m. m.0) ms

-- no name comes twice
abbrev pub HasDistinctNames : {V : Type 0} → List (List ℕ × V) → Type 0
HasDistinctNames ms = IsDistinct bytes_eq (names ms)

-- in at most one way
pub names_prop : {V : Type 0} (ms : List (List ℕ × V)) → IsProp (HasDistinctNames ms)
names_prop ms = IsDistinct-prop bytes_eq (names ms)

-- members, of which no two have one name
pub record Distinct (V : Type 0) : Type 0 where
  pub members : List (List ℕ × V)
  pub distinct : HasDistinctNames members

-- they are told apart by their list alone
pub same_distinct : {V : Type 0} (d e : Distinct V) → d.members ≡ e.members → d ≡ e
same_distinct d e p = λ i. record {
  members = p i;
  distinct =
      is_prop→PathP (λ j. HasDistinctNames (p j)) (λ j. IsDistinct-prop bytes_eq (names (p j)))
      d.distinct e.distinct i;
}

-- how they are stored, by how their values are
abbrev pub distinct_code : {V : Type 0} → Coded V → Coded (Distinct V)
distinct_code c =
    coded_via (coded_list (coded× (coded_list coded_ℕ) c)) (λ d. d.members) same_distinct
