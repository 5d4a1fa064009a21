-- What functions give is sound: each value that is printed has one notation, on one line.
use Rattle.std.specs.Prelude.{⊤, List, [], ◌∷◌}
use Rattle.pv_fault.specs.declared.LineError.{LineError}
use Rattle.pv_fault.specs.declared.Outcome.{Outcome}
use Rattle.pv_fault.specs.declared.Outcome.TheVariants.{Good, Bad}
use Rattle.pv_notation.specs.Numbers.{HasNumbers, IsSound}
use Rattle.pv_func.specs.declared.exchange.Move.{Move}
use Rattle.pv_func.specs.declared.exchange.Move.TheVariants as move
use Rattle.pv_func.specs.declared.raise.Raw.{Raw}
use Rattle.pv_func.specs.declared.raise.Raw.TheVariants as raw
use Rattle.pv_func.specs.declared.raise.Made.{Made}
use Rattle.pv_func.specs.declared.raise.Made.TheVariants as made
use Rattle.pv_func.specs.declared.turn.Answer.{Answer}
use Rattle.pv_func.specs.declared.turn.Answer.TheVariants as answer
use Rattle.pv_func.specs.declared.turn.First.{First}
use Rattle.pv_func.specs.declared.turn.First.TheVariants as first
use Rattle.pv_func.specs.declared.turn.Turn.{Turn}
use Rattle.pv_func.specs.declared.turn.Turn.TheVariants as turn

-- each lexeme of a tree that is given is a JSON number
abbrev pub RawIsSound : Raw → Type 0
RawIsSound (raw.Give tree) = HasNumbers tree
RawIsSound (raw.Raise raise) = ⊤

-- each whole number of a value that is given has 128 bits
abbrev pub MadeIsSound : Made → Type 0
MadeIsSound (made.Give value) = IsSound value
MadeIsSound (made.Raise raise) = ⊤

-- the lexemes of each input of these errors are JSON numbers
abbrev pub HaveNumbers : List LineError → Type 0
HaveNumbers [] = ⊤
HaveNumbers (e ∷ es) = HasNumbers e.input × HaveNumbers es

-- what came of an ask is sound: its value, or the inputs of its errors
abbrev pub AnswerIsSound : Answer → Type 0
AnswerIsSound (answer.Good value) = IsSound value
AnswerIsSound (answer.Bad errors) = HaveNumbers errors

-- the lexemes of both trees of an ask are JSON numbers, and a value that is given is sound
abbrev pub FirstIsSound : First → Type 0
FirstIsSound (first.Ask state input) = HasNumbers state × HasNumbers input
FirstIsSound (first.Done value) = IsSound value
FirstIsSound (first.Raise raise) = ⊤

-- the same of a later turn
abbrev pub TurnIsSound : Turn → Type 0
TurnIsSound (turn.Ask state input) = HasNumbers state × HasNumbers input
TurnIsSound (turn.Done value) = IsSound value
TurnIsSound (turn.Raise raise) = ⊤
TurnIsSound turn.Pass = ⊤

-- what came of validation is sound: its value, or the inputs of its errors
abbrev pub OutcomeIsSound : Outcome → Type 0
OutcomeIsSound (Good value grade fields) = IsSound value
OutcomeIsSound (Bad errors) = HaveNumbers errors

-- the lexemes of both trees of an ask that waits are JSON numbers, and an end is sound
abbrev pub MoveIsSound : Move → Type 0
MoveIsSound (move.Ask run input) = HasNumbers run.state × HasNumbers input
MoveIsSound (move.End outcome) = OutcomeIsSound outcome
