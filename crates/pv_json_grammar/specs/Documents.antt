-- What an input is as a document, by the reading of values in order.
use Rattle.std.specs.Prelude.{ℕ, zero, suc, ◌-◌, List, length, Result, Ok, Err}
use Rattle.pv_tree.specs.declared.Tree.{Tree}
use Rattle.pv_json_grammar.specs.Values.{document}

-- what an input is as a document: it spells this tree; or the byte at this place, from 0, fits
-- nowhere behind those before it; or all bytes fit, and a document wants more of them
pub data Document : Type 0 where
  whole : Tree → Document
  bad : ℕ → Document
  ends_early : Document

-- where reading of so many bytes stopped, by how many of them were left
abbrev pub stopped : ℕ → ℕ → Document
stopped size zero = ends_early
stopped size (suc left) = bad (size - suc left)

-- what an input of so many bytes is, by what reading gives
abbrev pub by_reading : ℕ → Result Tree ℕ → Document
by_reading size (Ok t) = whole t
by_reading size (Err left) = stopped size left

-- what an input is as a document in which at most so many containers nest
unfoldable pub reading : ℕ → List ℕ → Document
reading n bs = by_reading (length bs) (document n bs)
