-- Where words are refused.
use Rattle.std.proofs.Common.{◌≡◌, ℕ, zero, suc, ◌+◌, ◌-◌, ◌≤◌, List, [], ◌∷◌, ◌++◌, length, take, refl, ap, ◌∙◌, sym, arith}
use Rattle.std.specs.Prelude.{Option, Some, None, Ok, Err}
use Rattle.pv_command.specs.declared.asked.Command.{Command}
use Rattle.pv_command.specs.Command.{State, a_name, step, finished, Parsed, at_end, onward, asked_from, command}
use Rattle.pv_command.proofs.Completions.{complete}

abbrev Words : Type 0
Words = List (List ℕ)

missing : (place at : ℕ) (o : Option Command) → at_end place o ≡ Err at → at ≡ place
missing place at None e = cc
missing place at (Some c) e = cc

-- the word is refused, or one behind it is
pub data Refuses (place at : ℕ) (next : State → Parsed) (moved : Option State) : Type 0 where
  here : moved ≡ None → at ≡ place → Refuses place at next moved
  later : (t : State) → moved ≡ Some t → next t ≡ Err at → Refuses place at next moved

refuses : (place at : ℕ) (next : State → Parsed) (moved : Option State) → onward place next moved ≡ Err at → Refuses place at next moved
refuses place at next None e = here refl (cc)
refuses place at next (Some t) e = later t refl e

at_word : (s : State) (place at : ℕ) (word : List ℕ) (words : Words) → asked_from s place (word ∷ words) ≡ Err at → Refuses place at (λ t. asked_from t (place + 1) words) (step s word)
unfolding asked_from
at_word s place at word words e = refuses place at (λ t. asked_from t (place + 1) words) (step s word) e

at_none : (s : State) (place at : ℕ) → asked_from s place [] ≡ Err at → at ≡ place
unfolding asked_from
at_none s place at e = missing place at (finished s) e

-- one more word
moves : (s t : State) (place : ℕ) (word : List ℕ) (words : Words) → step s word ≡ Some t → asked_from s place (word ∷ words) ≡ asked_from t (place + 1) words
unfolding asked_from
moves s t place word words e = rw e refl

stops : (s : State) (place : ℕ) (word : List ℕ) (words : Words) → step s word ≡ None → asked_from s place (word ∷ words) ≡ Err place
unfolding asked_from
stops s place word words e = rw e refl

record IsPlaced (place size at : ℕ) : Type 0 where
  first : place ≤ at
  last : at ≤ place + size

placed : (s : State) (place at : ℕ) (words : Words) → asked_from s place words ≡ Err at → IsPlaced place (length words) at
placed s place at [] e = let h : at ≡ place = at_none s place at e in record { first = omega arith; last = omega arith }
placed s place at (word ∷ words) e = elim (at_word s place at word words e) [
  | here none h ↦ record { first = omega arith; last = omega arith }
  | later t some more ↦ let p : IsPlaced (place + 1) (length words) at = placed t (place + 1) at words more in record { first = omega arith; last = omega arith }
]

pub first_place : (words : Words) (at : ℕ) → command words ≡ Err at → 1 ≤ at
unfolding command
first_place words at e = (placed a_name 1 at words e).first

pub last_place : (words : Words) (at : ℕ) → command words ≡ Err at → at ≤ length words + 1
unfolding command
last_place words at e = let p : IsPlaced 1 (length words) at = placed a_name 1 at words e in omega arith

-- with `count` words, of which the last is refused
there_from : (s : State) (place at count : ℕ) (words more : Words) → asked_from s place words ≡ Err at → at + 1 ≡ place + count → count ≤ length words → asked_from s place (take count words ++ more) ≡ Err at
there_from s place at zero words more e is some = let p : IsPlaced place (length words) at = placed s place at words e in absurd (omega arith)
there_from s place at (suc count) [] more e is some = absurd (omega arith)
there_from s place at (suc count) (word ∷ words) more e is some = elim (at_word s place at word words e) [
  | here none h ↦ stops s place word (take count words ++ more) none ∙ ap Err (sym h)
  | later t moved rest ↦ moves s t place word (take count words ++ more) moved ∙ there_from t (place + 1) at count words more rest (omega arith) (omega arith)
]

pub there : (words more : Words) (at : ℕ) → command words ≡ Err at → at ≤ length words → command (take at words ++ more) ≡ Err at
unfolding command
there words more at e within = there_from a_name 1 at at words more e (omega arith) within

-- with the words before it, of which there are `count`
before_from : (s : State) (place at count : ℕ) (words : Words) → asked_from s place words ≡ Err at → at ≡ place + count
    → (more : Words) × (c : Command) × (asked_from s place (take count words ++ more) ≡ Ok c)
before_from s place at zero words e is = let r = complete s in (r.words, r.command, r.asked place)
before_from s place at (suc count) [] e is = let h : at ≡ place = at_none s place at e in absurd (omega arith)
before_from s place at (suc count) (word ∷ words) e is = elim (at_word s place at word words e) [
  | here none h ↦ absurd (omega arith)
  | later t moved rest ↦ let r = before_from t (place + 1) at count words rest (omega arith) in
      (r.0, r.1, moves s t place word (take count words ++ r.0) moved ∙ r.2)
]

pub before : (words : Words) (at : ℕ) → command words ≡ Err at → (more : Words) × (c : Command) × (command (take (at - 1) words ++ more) ≡ Ok c)
unfolding command
before words at e = let p : 1 ≤ at = first_place words at e in before_from a_name 1 at (at - 1) words e (omega arith)
