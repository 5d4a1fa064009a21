-- The first place that passes a test, slot by slot.
use Rattle.std.proofs.Common.{◌≡◌, Bool, true, false, if◌then◌else◌, List, [], ◌∷◌, ◌++◌, map, Option, Some, None, refl, ap, sym, ◌∙◌}
use Rattle.std.proofs.lemmas.List.{append-nil}
use Rattle.std.proofs.lemmas.List.Folds.{find-append}
use Rattle.std.specs.List.{flat_map, find}
use Rattle.std.specs.Option.{option_map, option_or}
use Rattle.std.proofs.lemmas.Iterator.Adapters.{option_map_id}
use Rattle.pv_rules.specs.Settings.{plain}
use Rattle.pv_rules.specs.declared.Settings.{Settings}
use Rattle.pv_node.specs.declared.node.Node.{Node}
use Rattle.pv_node.specs.Places.{Path, Slot, slots_of, under, Place, place_at, places_of, places_at, places_in}
use Rattle.pv_node.specs.Preorder.{first_path, first_in, path_at, path_in, path_of}
use Rattle.pv_node.proofs.Openings.{opens}
use Rattle.pv_node.proofs.Shapes.{behind, unset, moves, free}

find_in : (test : Place → Bool) (f : Slot Node → List Place) (ss : List (Slot Node)) → find test (flat_map f ss) ≡ first_in (λ slot. find test (f slot)) ss
find_in test f [] = refl
find_in test f (slot ∷ ss) = find-append test (f slot) (flat_map f ss) ∙ ap (option_or (find test (f slot))) (find_in test f ss)

find_opens : (test : Place → Bool) (p : Path) (n : Node) (s : Settings) → find test (places_of p n s)
    ≡ (if test (place_at p n s) then Some (place_at p n s) else first_in (λ slot. find test (places_in p (under n s) slot)) (slots_of n))
find_opens test p n s =
    ap (find test) (opens p n s)
    ∙ ap (λ o. if test (place_at p n s) then Some (place_at p n s) else o) (find_in test (places_in p (under n s)) (slots_of n))

abbrev path_to : Option Place → Option Path
path_to o = option_map (λ p. p.path) o

module _ (h : Place → Place) (g : Path → Path) (paths : (p : Place) → (h p).path ≡ g p.path) where
  picked : (b : Bool) (p : Place) (o o' : Option Place) → path_to o ≡ option_map g (path_to o')
      → path_to (if b then Some (h p) else o) ≡ option_map g (path_to (if b then Some p else o'))
  picked true p o o' e = ap Some (paths p)
  picked false p o o' e = e

  found_moved : (test : Place → Bool) → ((p : Place) → test (h p) ≡ test p) → (ps : List Place) → path_to (find test (map h ps)) ≡ option_map g (path_to (find test ps))
  found_moved test same [] = refl
  found_moved test same (p ∷ ps) =
      ap (λ b. path_to (if b then Some (h p) else find test (map h ps))) (same p)
      ∙ picked (test p) p (find test (map h ps)) (find test ps) (found_moved test same ps)

module _ (passes : Node → Bool) where
  abbrev test : Place → Bool
  test p = passes p.node

  found_unset : (ps : List Place) → path_to (find test (map unset ps)) ≡ path_to (find test ps)
  found_unset ps = found_moved unset (λ p. p) (λ p. refl) test (λ p. refl) ps ∙ option_map_id (path_to (find test ps))

  placed : (p : Path) (s : Settings) (o : Option Node) → path_to (find test (places_at p s o)) ≡ path_at passes p o
  unfolding first_path
  placed p s None = refl
  placed p s (Some n) =
      ap (λ q. path_to (find test (places_of q n s))) (sym (append-nil p))
      ∙ ap (λ ps. path_to (find test ps)) (moves n p [] s)
      ∙ found_moved (behind p) (λ q. p ++ q) (λ q. refl) test (λ q. refl) (places_of [] n s)
      ∙ ap (option_map (λ q. p ++ q)) (sym (found_unset (places_of [] n s)) ∙ ap (λ ps. path_to (find test ps)) (free n [] s plain) ∙ found_unset (places_of [] n plain))

  path_or : (a b : Option Place) → path_to (option_or a b) ≡ option_or (path_to a) (path_to b)
  path_or None b = refl
  path_or (Some p) b = refl

  in_slots : (s : Settings) (ss : List (Slot Node)) → path_to (first_in (λ slot. find test (places_in [] s slot)) ss) ≡ first_in (path_in passes) ss
  in_slots s [] = refl
  in_slots s (slot ∷ ss) =
      path_or (find test (places_in [] s slot)) (first_in (λ slot. find test (places_in [] s slot)) ss)
      ∙ ap (λ o. option_or o (path_to (first_in (λ slot. find test (places_in [] s slot)) ss))) (placed slot.path s slot.node)
      ∙ ap (option_or (path_in passes slot)) (in_slots s ss)

  chosen : (b : Bool) (p : Place) (o : Option Place) → path_to (if b then Some p else o) ≡ (if b then Some p.path else path_to o)
  chosen true p o = refl
  chosen false p o = refl

  pub first_opens : (n : Node) → first_path passes n ≡ path_of passes n
  unfolding first_path
  first_opens n =
      ap path_to (find_opens test [] n plain)
      ∙ chosen (passes n) (place_at [] n plain) _
      ∙ ap (λ o. if passes n then Some [] else o) (in_slots (under n plain) (slots_of n))
