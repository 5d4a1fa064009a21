-- What an array is read as.
use Rattle.std.proofs.Common.{◌≡◌, List, map, sym, ap, ◌∙◌, subst}
use Rattle.std.specs.Prelude.{Result}
use Rattle.pv_tree.specs.declared.Tree.{Tree}
use Rattle.pv_tree.specs.declared.Tree.TheVariants as tree
use Rattle.pv_tree.specs.declared.Tree.TheVariants.{rolls-Null, rolls-Bool, rolls-Num, rolls-Str, rolls-Array, rolls-Object}
use Rattle.pv_tree.specs.declared.Tree.TheOpen.{Tree-F}
use Rattle.pv_tree.specs.declared.Tree.TheFolds.{fold-roll-Tree}
use Rattle.pv_ser.specs.Answers.{Answers}
use Rattle.pv_ser.specs.declared.pick.Pick.{Pick}
use Rattle.pv_ser.specs.declared.pick.PickFault.{PickFault}
use Rattle.pv_ser.specs.Picks.{Reading, reading_step, reading, pick_read, listed, items_read}

pub reading_array : (ts : List Tree) → reading (tree.Array ts) ≡ reading_step (Tree-F.Array (map reading ts))
reading_array ts = ap reading (sym (rolls-Array ts)) ∙ fold-roll-Tree Reading reading_step (Tree-F.Array ts)

-- an answer to the items of an array is one to the array
pub list_told : (t : Tree) (ts now : List Tree) (answer : Result Pick PickFault) → t ≡ tree.Array ts → now ≡ ts
    → Answers answer (listed (items_read 0 (map reading now))) → Answers answer (pick_read t)
list_told t ts now answer e f told =
    subst (Answers answer) (ap (λ (us : List Tree). listed (items_read 0 (map reading us))) f
    ∙ sym (ap (λ (r : Reading). r.as_pick) (ap reading e ∙ reading_array ts))) told
