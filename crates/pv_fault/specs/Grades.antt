-- The least of grades.
use Rattle.std.specs.Prelude.{List, [], ◌∷◌}
use Rattle.pv_fault.specs.declared.grade.Grade.{Grade}
use Rattle.pv_fault.specs.declared.grade.Grade.TheVariants.{Lax, Strict, Exact}

-- the lower of two grades
abbrev pub least : Grade → Grade → Grade
least Lax g = Lax
least Strict Lax = Lax
least Strict Strict = Strict
least Strict Exact = Strict
least Exact g = g

-- the grade of a whole, from its own and those of its parts
abbrev pub least_of : Grade → List Grade → Grade
least_of own [] = own
least_of own (g ∷ gs) = least g (least_of own gs)
