-- An exchange: a function around validation asks what its inner schema gives for trees, and is
-- answered, until it ends. Each turn is a function of the outcomes of all asks so far.
use Rattle.std.specs.Prelude.{ℕ, zero, suc, ◌-◌, List, [], ◌∷◌, length, Option, None}
use Rattle.pv_tree.specs.declared.Tree.{Tree}
use Rattle.pv_fault.specs.declared.Grade.{Grade}
use Rattle.pv_fault.specs.declared.Grade.TheVariants as grade
use Rattle.pv_fault.specs.declared.Kind.TheVariants as kind
use Rattle.pv_fault.specs.declared.Outcome.{Outcome}
use Rattle.pv_fault.specs.declared.Outcome.TheVariants.{Good, Bad}
use Rattle.pv_fault.specs.Single.{one_error}
use Rattle.pv_func.specs.declared.exchange.Move.{Move}
use Rattle.pv_func.specs.declared.exchange.Move.TheVariants as move
use Rattle.pv_func.specs.declared.exchange.WrapRun.{WrapRun}
use Rattle.pv_func.specs.declared.turn.Answer.{Answer}
use Rattle.pv_func.specs.declared.turn.Answer.TheVariants as answer
use Rattle.pv_func.specs.declared.turn.First.{First}
use Rattle.pv_func.specs.declared.turn.First.TheVariants as first
use Rattle.pv_func.specs.declared.turn.Turn.{Turn}
use Rattle.pv_func.specs.declared.turn.Turn.TheVariants as turn
use Rattle.pv_func.specs.Raised.{raised}
use Rattle.pv_func.specs.Wrapper.{Wrapper}

-- the first turn, as one of those that follow
abbrev pub begun : First → Turn
begun (first.Ask state input) = turn.Ask state input
begun (first.Done value) = turn.Done value
begun (first.Raise raise) = turn.Raise raise

-- an outcome as the object sees it: the value or the errors
abbrev pub answer_of : Outcome → Answer
answer_of (Good v g n) = answer.Good v
answer_of (Bad es) = answer.Bad es

-- an outcome of what the object sees and of what it does not see
abbrev pub joined : Answer → Grade → Option ℕ → Outcome
joined (answer.Good v) g n = Good v g n
joined (answer.Bad es) g n = Bad es

-- the outcome of an ask where none is left: an error with an empty text. No lawful object asks so.
abbrev pub asked_too_often : Tree → Outcome
asked_too_often t = one_error (kind.ValueError []) t

-- the outcome that a turn ends with; one that asks goes on with the state and the tree of its ask
abbrev pub by_turn : Tree → Turn → Outcome → (Tree → Tree → Outcome) → Outcome
by_turn t (turn.Ask state input) last more = more state input
by_turn t (turn.Done value) last more = Good value grade.Lax None
by_turn t (turn.Raise raise) last more = one_error (raised raise) t
by_turn t turn.Pass last more = last

-- the last outcome; a first turn does not pass, so there is one
abbrev pub last_of : Tree → List Outcome → Outcome
last_of t [] = asked_too_often t
last_of t (o ∷ os) = o

-- The exchange of an object about the tree of its node.
module _ (w : Wrapper) (t : Tree) where
  -- the turn that follows an ask, by the asks left and the outcome; other turns were the last ones
  abbrev pub replied : Turn → ℕ → Outcome → Turn
  replied (turn.Ask state input) left o = w.next state left (answer_of o)
  replied (turn.Done value) left o = turn.Done value
  replied (turn.Raise raise) left o = turn.Raise raise
  replied turn.Pass left o = turn.Pass

  -- the turn after these outcomes, of which the last comes first
  unfoldable pub turn_after : List Outcome → Turn
  turn_after [] = begun (w.start t)
  turn_after (o ∷ os) = replied (turn_after os) (w.asks - length (o ∷ os)) o

  module _ (inner : Tree → Outcome) where
    -- what comes of it after these outcomes, where so many asks are left: while it asks, the
    -- outcome of the inner schema for the tree that it asks with is added to them
    unfoldable pub exchanged : ℕ → List Outcome → Outcome
    exchanged zero os =
        by_turn t (turn_after os) (last_of t os) (λ state input. asked_too_often t)
    exchanged (suc left) os =
        by_turn t (turn_after os) (last_of t os) (λ state input. exchanged left (inner input ∷ os))

    -- what comes of all of it
    unfoldable pub exchange : Outcome
    exchange = exchanged w.asks []

-- One move after another, as they are made: an ask that waits keeps the state and the asks left.

-- the move that asks, by the asks left; where none is, it is the end
abbrev pub ask_move : Tree → ℕ → Tree → Tree → Move
ask_move t zero state input = move.End (asked_too_often t)
ask_move t (suc left) state input = move.Ask (record { state = state; left = left }) input

-- the move that a turn is, by the asks left and by the last outcome
abbrev pub move_of : Tree → ℕ → Turn → Outcome → Move
move_of t left (turn.Ask state input) last = ask_move t left state input
move_of t left (turn.Done value) last = move.End (Good value grade.Lax None)
move_of t left (turn.Raise raise) last = move.End (one_error (raised raise) t)
move_of t left turn.Pass last = move.End last

-- the first move
unfoldable pub first_move : Wrapper → Tree → Move
first_move w t = move_of t w.asks (begun (w.start t)) (asked_too_often t)

-- the move after the ask that waits, by its outcome
unfoldable pub next_move : Wrapper → Tree → WrapRun → Outcome → Move
next_move w t run o = move_of t run.left (w.next run.state run.left (answer_of o)) o

-- The same exchange from a turn on, by the state alone.
module _ (w : Wrapper) (t : Tree) (inner : Tree → Outcome) where
  -- with the state and the tree of an ask, by the asks left before it
  unfoldable pub asked : ℕ → Tree → Tree → Outcome
  asked zero state input = asked_too_often t
  asked (suc left) state input =
      by_turn t (w.next state left (answer_of (inner input))) (inner input) (asked left)

  -- what comes of a move
  abbrev pub comes_to : Move → Outcome
  comes_to (move.Ask run input) = asked (suc run.left) run.state input
  comes_to (move.End o) = o

-- how many asks may be made from a move on
abbrev pub asks_from : Move → ℕ
asks_from (move.Ask run input) = suc run.left
asks_from (move.End o) = 0
