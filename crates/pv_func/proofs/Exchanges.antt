-- The moves of an exchange are the exchange.
use Rattle.std.proofs.Common.{◌≡◌, ℕ, zero, suc, ◌+◌, ◌-◌, ◌<◌, ◌≤◌, List, [], ◌∷◌, length, refl, sym, ap, ◌∙◌, arith}
use Rattle.pv_tree.specs.declared.Tree.{Tree}
use Rattle.pv_fault.specs.declared.Outcome.{Outcome}
use Rattle.pv_func.specs.declared.exchange.Move.TheVariants as move
use Rattle.pv_func.specs.declared.exchange.WrapRun.{WrapRun}
use Rattle.pv_func.specs.declared.turn.Turn.{Turn}
use Rattle.pv_func.specs.declared.turn.Turn.TheVariants as turn
use Rattle.pv_func.specs.Wrapper.{Wrapper}
use Rattle.pv_func.specs.Exchange.{begun, answer_of, asked_too_often, by_turn, last_of, replied, turn_after, exchanged, exchange, ask_move, move_of, first_move, next_move, asked, comes_to, asks_from}

-- an ask where one is left
pub asks_again : (t : Tree) (left : ℕ) (state input : Tree) → 0 < left → ask_move t left state input ≡ move.Ask (record { state = state; left = left - 1 }) input
asks_again t zero state input some = absurd (omega arith)
asks_again t (suc left) state input some = let one : left ≡ suc left - 1 = omega arith in ap (λ n. move.Ask (record { state = state; left = n }) input) one

module _ (w : Wrapper) (t : Tree) (inner : Tree → Outcome) where
  -- what comes of an ask
  comes_of_ask : (left : ℕ) (state input : Tree) → comes_to w t inner (ask_move t left state input) ≡ asked w t inner left state input
  unfolding asked
  comes_of_ask zero state input = refl
  comes_of_ask (suc left) state input = refl

  -- what comes of a turn
  comes_of_turn : (left : ℕ) (r : Turn) (last : Outcome) → comes_to w t inner (move_of t left r last) ≡ by_turn t r last (asked w t inner left)
  comes_of_turn left (turn.Ask state input) last = comes_of_ask left state input
  comes_of_turn left (turn.Done value) last = refl
  comes_of_turn left (turn.Raise raise) last = refl
  comes_of_turn left turn.Pass last = refl

  -- two ways on that agree where a turn asks
  same_way : (r : Turn) (last : Outcome) (more after : Tree → Tree → Outcome)
      → ((state input : Tree) → r ≡ turn.Ask state input → more state input ≡ after state input) → by_turn t r last more ≡ by_turn t r last after
  same_way (turn.Ask state input) last more after same = same state input refl
  same_way (turn.Done value) last more after same = refl
  same_way (turn.Raise raise) last more after same = refl
  same_way turn.Pass last more after same = refl

  -- the state of an ask stands for the outcomes so far
  from_turn : (left : ℕ) (os : List Outcome) (r : Turn) → w.asks ≡ left + length os → turn_after w t os ≡ r
      → exchanged w t inner left os ≡ by_turn t r (last_of t os) (asked w t inner left)
  unfolding exchanged asked turn_after
  from_turn zero os r count e = ap (λ x. by_turn t x (last_of t os) (λ state input. asked_too_often t)) e
  from_turn (suc left) os r count e =
      ap (λ x. by_turn t x (last_of t os) (λ state input. exchanged w t inner left (inner input ∷ os))) e
      ∙ same_way r (last_of t os) (λ state input. exchanged w t inner left (inner input ∷ os)) (asked w t inner (suc left)) (λ state input asks.
      let same : w.asks - length (inner input ∷ os) ≡ left = omega arith in
      let next : turn_after w t (inner input ∷ os) ≡ w.next state left (answer_of (inner input)) =
      ap (λ x. replied w t x (w.asks - length (inner input ∷ os)) (inner input)) (e ∙ asks) ∙ ap (λ n. w.next state n (answer_of (inner input))) same in
      from_turn left (inner input ∷ os) (w.next state left (answer_of (inner input))) (omega arith) next)

  -- the whole exchange comes of its first move
  pub begins : comes_to w t inner (first_move w t) ≡ exchange w t inner
  unfolding first_move exchange turn_after
  begins = comes_of_turn w.asks (begun (w.start t)) (asked_too_often t) ∙ sym (from_turn w.asks [] (begun (w.start t)) (omega arith) refl)

  -- what comes of an ask that waits comes of the move after it
  pub goes_on : (run : WrapRun) (input : Tree) → comes_to w t inner (next_move w t run (inner input)) ≡ comes_to w t inner (move.Ask run input)
  unfolding next_move asked
  goes_on run input = comes_of_turn run.left (w.next run.state run.left (answer_of (inner input))) (inner input)

-- as many asks as are left
few : (t : Tree) (left : ℕ) (r : Turn) (last : Outcome) → asks_from (move_of t left r last) ≤ left
few t zero (turn.Ask state input) last = omega arith
few t (suc left) (turn.Ask state input) last = omega arith
few t left (turn.Done value) last = omega arith
few t left (turn.Raise raise) last = omega arith
few t left turn.Pass last = omega arith

-- after each ask there are fewer
pub fewer : (w : Wrapper) (t : Tree) (run : WrapRun) (input : Tree) (o : Outcome) → asks_from (next_move w t run o) < asks_from (move.Ask run input)
unfolding next_move
fewer w t run input o = let most : asks_from (move_of t run.left (w.next run.state run.left (answer_of o)) o) ≤ run.left = few t run.left (w.next run.state run.left (answer_of o)) o in omega arith
