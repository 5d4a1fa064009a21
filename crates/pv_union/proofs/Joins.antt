-- Texts with a separator between them, by the first and the others.
use Rattle.std.proofs.Common.{◌≡◌, ℕ, ◌+◌, ◌≤◌, length, List, [], ◌∷◌, ◌++◌, Option, codes, drop, ap, sym, ◌∙◌}
use Rattle.std.proofs.Math.ListN.{drop_of_length-le}
use Rattle.std.proofs.lemmas.List.{append-nil, append_assoc}
use Rattle.std.specs.List.{flat_map}
use Rattle.pv_node.specs.declared.Node.{Node}
use Rattle.pv_union.specs.Labels.{joined_by, label, position_labels}

pub joined_first : (between text : List ℕ) (texts : List (List ℕ)) → joined_by between (text ∷ texts) ≡ text ++ flat_map (λ t. between ++ t) texts
joined_first between text [] = sym (append-nil text)
joined_first between text (next ∷ texts) =
    ap (λ more. text ++ between ++ more) (joined_first between next texts)
    ∙ append_assoc text between (next ++ flat_map (λ t. between ++ t) texts)
    ∙ ap (λ more. text ++ more) (sym (append_assoc between next (flat_map (λ t. between ++ t) texts)))

pub joined_more : (between first : List ℕ) (rest texts : List (List ℕ)) (old front new : List ℕ) → texts ≡ first ∷ rest → front ≡ old ++ first → new ≡ front ++ flat_map (λ t. between ++ t) rest
    → new ≡ old ++ joined_by between texts
joined_more between first rest texts old front new split begun more =
    more ∙ ap (λ bs. bs ++ flat_map (λ t. between ++ t) rest) begun
    ∙ append_assoc old first (flat_map (λ t. between ++ t) rest)
    ∙ ap (λ bs. old ++ bs) (sym (joined_first between first rest) ∙ ap (joined_by between) (sym split))

-- past the last position
pub positions_end : (variadic : Option ℕ) (i : ℕ) (rest : List Node) (out whole : List ℕ) → length rest ≤ i
    → out ++ flat_map (λ t. codes ", " ++ t) (position_labels label variadic (i + 1) (drop i rest)) ≡ whole → out ≡ whole
positions_end variadic i rest out whole past is =
    sym (append-nil out) ∙ ap (λ ns. out ++ flat_map (λ t. codes ", " ++ t) (position_labels label variadic (i + 1) ns)) (sym (drop_of_length-le rest past)) ∙ is
