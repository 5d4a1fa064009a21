-- Why no tree is answered.
use Rattle.std.specs.Prelude.{◌≡◌, ℕ, List}
use Rattle.pv_tree.specs.declared.Tree.{Tree}
use Rattle.pv_json_grammar.specs.Documents.{Document, bad, ends_early}
use Rattle.pv_json_grammar.specs.Spells.{SpellsDocument}
use Rattle.pv_json.specs.declared.fault.ReadFault.{ReadFault}
use Rattle.pv_json.specs.declared.fault.ReadFault.TheVariants as faults

-- what the input is as a document; of want of memory nothing is said
abbrev pub Refuses : ReadFault → Document → Type 0
Refuses (faults.Bad at) read = read ≡ bad at
Refuses faults.End read = read ≡ ends_early
Refuses faults.Memory read = Unit {0}

-- the input spells no tree; want of memory does not say so
abbrev pub IsWithoutTree : ReadFault → ℕ → List ℕ → Type 0
IsWithoutTree (faults.Bad at) nesting bs = (t : Tree) → ¬ SpellsDocument nesting bs t
IsWithoutTree faults.End nesting bs = (t : Tree) → ¬ SpellsDocument nesting bs t
IsWithoutTree faults.Memory nesting bs = Unit {0}
