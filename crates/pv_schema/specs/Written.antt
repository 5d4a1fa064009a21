-- What is written under a key, or what stands for it where nothing is.
use Rattle.std.specs.Prelude.{Bool, List, [], Option, None, Some, unwrap_or}
use Rattle.pv_tree.specs.declared.Tree.{Tree}
use Rattle.pv_tree.specs.declared.Tree.TheVariants as tree
use Rattle.pv_schema_values.specs.Values.{flag_of}

-- what a tree stands for, where there is one
abbrev pub read : {Y : Type 0} → (Tree → Option Y) → Option Tree → Option Y
read f None = None
read f (Some t) = f t

-- a list, or the empty one where there is none
abbrev pub or_empty : {Y : Type 0} → Option (List Y) → List Y
or_empty None = []
or_empty (Some ys) = ys

-- a flag, or another one where there is none
abbrev pub flag_or : Bool → Option Tree → Bool
flag_or b t = unwrap_or (read flag_of t) b

-- a tree, or null where there is none
abbrev pub or_null : Option Tree → Tree
or_null None = tree.Null
or_null (Some t) = t
