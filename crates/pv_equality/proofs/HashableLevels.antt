-- Which tuples and frozen sets are hashable, by the values in them.
use Rattle.std.proofs.Common.{◌≡◌, List, Bool, sym, ap, ◌∙◌}
use Rattle.std.specs.List.{list_all}
use Rattle.std.proofs.lemmas.List.Folds.{list_all-map}
use Rattle.pv_tree.specs.declared.Value.{Value}
use Rattle.pv_tree.specs.declared.Value.TheVariants as value
use Rattle.pv_tree.specs.declared.Value.TheVariants.{rolls-Tuple, rolls-Frozen}
use Rattle.pv_tree.specs.declared.Value.TheOpen.{Value-F}
use Rattle.pv_tree.specs.declared.Value.TheFolds.{fold-roll-Value}
use Rattle.pv_equality.specs.Hashable.{hashable, hashable_at}

pub hashable_tuple : (vs : List Value) → hashable (value.Tuple vs) ≡ list_all hashable vs
hashable_tuple vs = ap hashable (sym (rolls-Tuple vs)) ∙ fold-roll-Value Bool hashable_at (Value-F.Tuple vs) ∙ list_all-map (λ h. h) hashable vs

pub hashable_frozen : (vs : List Value) → hashable (value.Frozen vs) ≡ list_all hashable vs
hashable_frozen vs = ap hashable (sym (rolls-Frozen vs)) ∙ fold-roll-Value Bool hashable_at (Value-F.Frozen vs) ∙ list_all-map (λ h. h) hashable vs

pub ruleset hashable_levels = (hashable_tuple, hashable_frozen)
