-- The patterns of a schema, place by place.
use Rattle.std.proofs.Common.{◌≡◌, ◌↔◌, Bool, true, false, List, [], ◌∷◌, ◌++◌, map, Option, None, Some, is_some, true≢false, if◌then◌else◌, refl, ap, sym, ◌∙◌}
use Rattle.std.specs.List.{AllByRecursion, find}
use Rattle.std.specs.Option.{option_map}
use Rattle.pv_node.specs.declared.Node.{Node}
use Rattle.pv_node.specs.Places.{Path, Place, places}
use Rattle.pv_node.specs.Preorder.{preorder, first_path}
use Rattle.pv_plan.specs.BadPatterns.{bad_pattern, has_bad_pattern, to_pattern}
use Rattle.pv_laws.specs.Patterns.{HasGoodPattern}

abbrev found : List Place → Option Path
found ps = option_map (λ path. path ++ to_pattern) (option_map (λ p. p.path) (find (λ p. has_bad_pattern p.node) ps))

abbrev AllGood : List Place → Type 0
AllGood ps = AllByRecursion HasGoodPattern (map (λ p. p.node) ps)

-- where the first is bad or not
first_good : (b : Bool) (p : Place) (o : Option Place)
    → option_map (λ path. path ++ to_pattern) (option_map (λ q. q.path) (if b then Some p else o)) ≡ None → b ≡ false
first_good false p o e = refl
first_good true p o e = absurd (true≢false (ap is_some e))

good : (ps : List Place) → found ps ≡ None → AllGood ps
good [] e = tt
good (p ∷ ps) e =
    let here = first_good (has_bad_pattern p.node) p (find (λ q. has_bad_pattern q.node) ps) e in
    let with : Bool → Option Path = λ b. option_map (λ path. path ++ to_pattern) (option_map (λ q. q.path) (if b then Some p else find (λ q. has_bad_pattern q.node) ps)) in
    (here, good ps (sym (ap with here) ∙ e))

none : (ps : List Place) → AllGood ps → found ps ≡ None
none [] h = refl
none (p ∷ ps) h =
    let with : Bool → Option Path = λ b. option_map (λ path. path ++ to_pattern) (option_map (λ q. q.path) (if b then Some p else find (λ q. has_bad_pattern q.node) ps)) in
    ap with h.0 ∙ none ps h.1

pub good_throughout : (root : Node) → (bad_pattern root ≡ None) ↔ AllByRecursion HasGoodPattern (preorder root)
unfolding bad_pattern first_path preorder
good_throughout root = (good (places root), none (places root))
