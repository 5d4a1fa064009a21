-- Orders of names in which the members of a document often stand.
use Rattle.std.specs.Prelude.{ℕ, List, length}
use Rattle.std.specs.declared.cmp.Ordering.{Ordering}
use Rattle.std.specs.Ordering.{nat_cmp, on, then_cmp}
use Rattle.pv_tree.specs.Merging.{name_cmp}
use Rattle.pv_tree.specs.declared.name_order.NameOrder.{NameOrder}
use Rattle.pv_tree.specs.declared.name_order.NameOrder.TheVariants.{ByBytes, ByLength}

-- by their bytes, or by their lengths and those of one length by their bytes
abbrev pub order_of : NameOrder → List ℕ → List ℕ → Ordering
order_of ByBytes = name_cmp
order_of ByLength = then_cmp (on length nat_cmp) name_cmp
