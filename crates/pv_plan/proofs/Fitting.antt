-- The functions that nodes name, one node after another.
use Rattle.std.proofs.Common.{◌≡◌, ℕ, ◌+◌, Bool, true, false, not, ◌&&◌, if◌then◌else◌, List, [], ◌∷◌, ◌++◌, map, Option, Some, None, is_some, refl, ap, ◌∙◌}
use Rattle.std.specs.Option.{option_or}
use Rattle.pv_rules.specs.declared.Settings.{Settings}
use Rattle.pv_func.specs.Functions.{Named, Meaning, kind_named}
use Rattle.pv_func.specs.declared.FuncKind.{FuncKind}
use Rattle.pv_node.specs.declared.Node.{Node}
use Rattle.pv_node.specs.declared.Body.{Body}
use Rattle.pv_node.specs.declared.Body.TheOpen.{Body-F}
use Rattle.pv_node.specs.Places.{Place, body_of, places}
use Rattle.pv_node.specs.Preorder.{preorder, first_in, node_count}
use Rattle.pv_plan.proofs.Absent.{any_body}
use Rattle.pv_plan.specs.Records.{op_of, any_place, all_places}
use Rattle.pv_plan.specs.Layout.{table_from, table_of}
use Rattle.pv_plan.specs.Functions.{Wanted, wanted_by, wanted_of, same_kind, fits_by, unknown_by, wrong_by, unknown_in, wrong_in, unknown_at, wrong_at, first_unknown, first_wrong, fits, fits_in, records_fit}

-- a record names the function that its node names
same_wanted : (s : Settings) (b : Body-F Body Node) → wanted_of (op_of s b) ≡ wanted_by b
same_wanted s (Body-F.Scalar r) = refl
same_wanted s (Body-F.Sequence r items) = refl
same_wanted s (Body-F.Tuple r items) = refl
same_wanted s (Body-F.Dict r keys values) = refl
same_wanted s (Body-F.Nullable inner) = refl
same_wanted s (Body-F.Fields r fields extras config cls) = refl
same_wanted s (Body-F.Model cls root config inner) = refl
same_wanted s (Body-F.Default default validates failing inner) = refl
same_wanted s (Body-F.Union r choices) = refl
same_wanted s (Body-F.TaggedUnion r choices) = refl
same_wanted s (Body-F.LaxOrStrict lax strict) = refl
same_wanted s (Body-F.JsonOrPython json) = refl
same_wanted s (Body-F.CustomError kind message inner) = refl
same_wanted s (Body-F.Before r inner) = refl
same_wanted s (Body-F.After r inner) = refl
same_wanted s (Body-F.Wrap r inner) = refl
same_wanted s (Body-F.Plain r) = refl
same_wanted s (Body-F.Definitions inner definitions) = refl
same_wanted s (Body-F.DefinitionRef name) = refl

module _ (fs : Named Meaning) where
  -- the functions that nodes name are there, each of its kind
  abbrev nodes_fit : List Node → Bool
  nodes_fit [] = true
  nodes_fit (n ∷ ns) = fits_in fs (wanted_by (body_of n)) && nodes_fit ns

  abbrev finds_none : Option (List ℕ) → Option (List ℕ) → Bool
  finds_none a b = not (is_some a) && not (is_some b)

  of_kind : (same rest : Bool) (name : List ℕ) (a b : Option (List ℕ)) → rest ≡ finds_none a b
      → (same && rest) ≡ finds_none a (option_or (if same then None else Some name) b)
  of_kind true rest name a b e = e
  of_kind false rest name None b e = refl
  of_kind false rest name (Some x) b e = refl

  found_kind : (w : Wanted) (found : Option FuncKind) (rest : Bool) (a b : Option (List ℕ)) → rest ≡ finds_none a b
      → (fits_by w.kind found && rest) ≡ finds_none (option_or (unknown_by w.name found) a) (option_or (wrong_by w found) b)
  found_kind w None rest a b e = refl
  found_kind w (Some k) rest a b e = of_kind (same_kind w.kind k) rest w.name a b e

  one_node : (o : Option Wanted) (rest : Bool) (a b : Option (List ℕ)) → rest ≡ finds_none a b
      → (fits_in fs o && rest) ≡ finds_none (option_or (unknown_in fs o) a) (option_or (wrong_in fs o) b)
  one_node None rest a b e = e
  one_node (Some w) rest a b e = found_kind w (kind_named fs w.name) rest a b e

  nodes_fitting : (ns : List Node) → nodes_fit ns ≡ finds_none (first_in (unknown_at fs) ns) (first_in (wrong_at fs) ns)
  nodes_fitting [] = refl
  nodes_fitting (n ∷ ns) = one_node (wanted_by (body_of n)) (nodes_fit ns) (first_in (unknown_at fs) ns) (first_in (wrong_at fs) ns) (nodes_fitting ns)

  records_fitting : (root : Node) (last at : ℕ) (ps : List Place) → records_fit fs (table_from root last at ps) ≡ nodes_fit (map (λ p. p.node) ps)
  unfolding table_from
  records_fitting root last at [] = refl
  records_fitting root last at (p ∷ ps) =
      ap (λ o. fits_in fs o && records_fit fs (table_from root last (at + 1) ps)) (same_wanted p.settings (body_of p.node))
      ∙ ap (λ b. fits_in fs (wanted_by (body_of p.node)) && b) (records_fitting root last (at + 1) ps)

  absent_fits : (ps : List Place) → nodes_fit (map (λ p. p.node) (ps ++ any_place ∷ [])) ≡ nodes_fit (map (λ p. p.node) ps)
  absent_fits [] = ap (λ b. fits_in fs (wanted_by b) && true) any_body
  absent_fits (p ∷ ps) = ap (λ b. fits_in fs (wanted_by (body_of p.node)) && b) (absent_fits ps)

  -- the table of a schema names the functions that the schema names
  pub table_fits : (root : Node) → records_fit fs (table_of root) ≡ fits fs root
  unfolding table_of preorder first_unknown first_wrong
  table_fits root =
      records_fitting root (node_count root) 0 (all_places root) ∙ absent_fits (places root) ∙ nodes_fitting (preorder root)
