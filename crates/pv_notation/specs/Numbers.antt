-- The numbers that trees and values keep, as their types say.
use Rattle.std.specs.Prelude.{⊤, FitsSigned}
use Rattle.std.specs.Int.{w128}
use Rattle.pv_tree.specs.declared.Tree.{Tree}
use Rattle.pv_tree.specs.declared.Tree.TheOpen.{Tree-F}
use Rattle.pv_tree.specs.declared.Tree.TheFolds.{every-Tree}
use Rattle.pv_tree.specs.declared.Value.{Value}
use Rattle.pv_tree.specs.declared.Value.TheOpen.{Value-F}
use Rattle.pv_tree.specs.declared.Value.TheFolds.{every-Value}
use Rattle.pv_number.specs.Grammar.{IsNumber}

-- a level that is a lexeme is a JSON number
abbrev pub NumberAt : Tree-F Tree → Type 0
NumberAt Tree-F.Null = ⊤
NumberAt (Tree-F.Bool b) = ⊤
NumberAt (Tree-F.Num lexeme) = IsNumber lexeme
NumberAt (Tree-F.Str text) = ⊤
NumberAt (Tree-F.Array ts) = ⊤
NumberAt (Tree-F.Object d) = ⊤

-- each lexeme is a JSON number
abbrev pub HasNumbers : Tree → Type 0
HasNumbers = every-Tree NumberAt

-- a level that is a whole number has 128 bits
abbrev pub IntAt : {X : Type 0} → Value-F X → Type 0
IntAt Value-F.None = ⊤
IntAt (Value-F.Bool b) = ⊤
IntAt (Value-F.Int n) = FitsSigned w128 n
IntAt (Value-F.Lexeme lexeme) = ⊤
IntAt (Value-F.Str text) = ⊤
IntAt (Value-F.Bytes bytes) = ⊤
IntAt (Value-F.Atom kind text) = ⊤
IntAt (Value-F.Enum cls name value) = ⊤
IntAt (Value-F.List values) = ⊤
IntAt (Value-F.Tuple values) = ⊤
IntAt (Value-F.Set values) = ⊤
IntAt (Value-F.Frozen values) = ⊤
IntAt (Value-F.Dict entries) = ⊤
IntAt (Value-F.Model cls fields set extra) = ⊤
IntAt (Value-F.Root cls value) = ⊤

-- each whole number is one of 128 bits
abbrev pub IsSound : Value → Type 0
IsSound = every-Value IntAt
