-- What the trees of each kind can be in a pick.
use Rattle.std.proofs.Common.{◌≡◌, ℕ, Bool, false, List, map, sym, ap, ◌∙◌}
use Rattle.std.specs.List.{list_all}
use Rattle.std.proofs.lemmas.List.Folds.{list_all-map}
use Rattle.pv_tree.specs.Names.{Distinct}
use Rattle.pv_tree.specs.declared.Tree.{Tree}
use Rattle.pv_tree.specs.declared.Tree.TheVariants as tree
use Rattle.pv_tree.specs.declared.Tree.TheVariants.{rolls-Null, rolls-Bool, rolls-Num, rolls-Str, rolls-Array, rolls-Object}
use Rattle.pv_tree.specs.declared.Tree.TheOpen.{Tree-F}
use Rattle.pv_tree.specs.declared.Tree.TheFolds.{fold-roll-Tree}
use Rattle.pv_pick.specs.Picks.{Role, role_step, role, is_pick, is_item}

pub role_null : role tree.Null ≡ role_step Tree-F.Null
role_null = ap role (sym rolls-Null) ∙ fold-roll-Tree Role role_step Tree-F.Null

pub role_bool : (b : Bool) → role (tree.Bool b) ≡ role_step (Tree-F.Bool b)
role_bool b = ap role (sym (rolls-Bool b)) ∙ fold-roll-Tree Role role_step (Tree-F.Bool b)

pub role_num : (lexeme : List ℕ) → role (tree.Num lexeme) ≡ role_step (Tree-F.Num lexeme)
role_num lexeme = ap role (sym (rolls-Num lexeme)) ∙ fold-roll-Tree Role role_step (Tree-F.Num lexeme)

pub role_str : (text : List ℕ) → role (tree.Str text) ≡ role_step (Tree-F.Str text)
role_str text = ap role (sym (rolls-Str text)) ∙ fold-roll-Tree Role role_step (Tree-F.Str text)

pub role_array : (ts : List Tree) → role (tree.Array ts) ≡ role_step (Tree-F.Array (map role ts))
role_array ts = ap role (sym (rolls-Array ts)) ∙ fold-roll-Tree Role role_step (Tree-F.Array ts)

abbrev with_role : List ℕ × Tree → List ℕ × Role
with_role m = (m.0, role m.1)

-- a role of an object whose members have these roles
abbrev object_role : List (List ℕ × Role) → Role
object_role ms = record { is_pick = list_all (λ m. m.1.is_pick) ms; is_item = false }

pub role_object : (d : Distinct Tree) → role (tree.Object d) ≡ object_role (map with_role d.members)
role_object d = ap role (sym (rolls-Object d)) ∙ fold-roll-Tree Role role_step (Tree-F.Object d)

pub pick_array : (ts : List Tree) → is_pick (tree.Array ts) ≡ list_all is_item ts
pick_array ts = ap (λ (r : Role). r.is_pick) (role_array ts) ∙ list_all-map (λ (r : Role). r.is_item) role ts

pub pick_object : (d : Distinct Tree) → is_pick (tree.Object d) ≡ list_all (λ m. is_pick m.1) d.members
pick_object d = ap (λ (r : Role). r.is_pick) (role_object d) ∙ list_all-map (λ (m : List ℕ × Role). m.1.is_pick) with_role d.members
