-- Whatever words stood, some words behind them complete a command.
use Rattle.std.proofs.Common.{◌≡◌, ℕ, ◌+◌, ◌&&◌, Bool, true, false, cond, List, [], ◌∷◌, codes, refl, ap, ◌∙◌}
use Rattle.std.specs.Prelude.{Some, None, Ok}
use Rattle.pv_tree.specs.declared.Tree.{Tree}
use Rattle.pv_tree.specs.declared.Tree.TheVariants as tree
use Rattle.pv_json_grammar.specs.Spells.{spells_true}
use Rattle.pv_json_grammar.proofs.Readings.{scalar_whole}
use Rattle.pv_pick.specs.Picks.{Role, pick_of, pick_read}
use Rattle.pv_command.specs.Numbers.{number_below}
use Rattle.pv_command.specs.declared.options.Options.{Options}
use Rattle.pv_command.specs.Options.{is_option}
use Rattle.pv_command.specs.declared.asked.Command.{Command}
use Rattle.pv_command.specs.declared.asked.Command.TheVariants.{Check}
use Rattle.pv_command.specs.Operands.{Operands, whole, a_file, a_file_beside, a_seed, a_count, behind, is_input}
use Rattle.pv_pick.proofs.Levels.{role_bool}
use Rattle.pv_command.specs.Command.{Form, State, a_name, options_from, a_pick, operands_from, step, asked_from}

abbrev file : List ℕ
file = codes "S"

abbrev zero_word : List ℕ
zero_word = codes "0"

pub record Completes (s : State) : Type 0 where
  pub words : List (List ℕ)
  pub command : Command
  pub asked : (place : ℕ) → asked_from s place words ≡ Ok command

and_false : (b : Bool) → (b && false) ≡ false
and_false true = refl
and_false false = refl

beside : (other : List ℕ) (next : List ℕ → Operands) → behind (a_file_beside other next) file ≡ Some (next file)
unfolding behind
beside other next = ap (λ b. cond b None (Some (next file))) (and_false (is_input other))

seed_zero : (next : ℕ → Operands) → behind (a_seed next) zero_word ≡ Some (next 0)
unfolding behind number_below
seed_zero next = refl

count_zero : (next : ℕ → Operands) → behind (a_count next) zero_word ≡ Some (next 0)
unfolding behind number_below
count_zero next = refl

file_any : (next : List ℕ → Operands) → behind (a_file next) file ≡ Some (next file)
unfolding behind
file_any next = refl

-- one more operand
one_more : (o rest : Operands) (word : List ℕ) → behind o word ≡ Some rest → Completes (operands_from rest) → Completes (operands_from o)
unfolding asked_from step
one_more o rest word e r = record {
  words = word ∷ r.words;
  command = r.command;
  asked = λ place. rw e (r.asked (place + 1));
}

operands_complete : (o : Operands) → Completes (operands_from o)
unfolding asked_from
operands_complete (whole c) = record { words = []; command = c; asked = λ place. refl }
operands_complete (a_file next) = one_more _ _ _ (file_any next) (operands_complete (next file))
operands_complete (a_file_beside other next) = one_more _ _ _ (beside other next) (operands_complete (next file))
operands_complete (a_seed next) = one_more _ _ _ (seed_zero next) (operands_complete (next 0))
operands_complete (a_count next) = one_more _ _ _ (count_zero next) (operands_complete (next 0))

-- the first operand
first_operand : (f : Form) (o : Options) (rest : Operands) (word : List ℕ) → is_option word ≡ false → behind (f.operands o) word ≡ Some rest → Completes (operands_from rest) → Completes (options_from f o)
unfolding asked_from step
first_operand f o rest word plain e r = record {
  words = word ∷ r.words;
  command = r.command;
  asked = λ place. rw (plain, e) (r.asked (place + 1));
}

options_at : (f : Form) (o : Options) (operands : Operands) → f.operands o ≡ operands → Completes (options_from f o)
unfolding asked_from
options_at f o (whole c) is = record { words = []; command = c; asked = λ place. rw is refl }
options_at f o (a_file next) is = first_operand f o (next file) file refl (rw is (file_any next)) (operands_complete (next file))
options_at f o (a_file_beside other next) is = first_operand f o (next file) file refl (rw is (beside other next)) (operands_complete (next file))
options_at f o (a_seed next) is = first_operand f o (next 0) zero_word refl (rw is (seed_zero next)) (operands_complete (next 0))
options_at f o (a_count next) is = first_operand f o (next 0) zero_word refl (rw is (count_zero next)) (operands_complete (next 0))

pub true_is_pick : pick_of (codes "true") ≡ Some (tree.Bool true)
unfolding pick_of
true_is_pick =
    ap pick_read (scalar_whole 128 (codes "true") (tree.Bool true) (spells_true refl refl))
    ∙ ap (λ (r : Role). cond r.is_pick (Some (tree.Bool true)) None) (role_bool true)

pick_complete : (f : Form) (next : Tree → Options) → Completes (options_from f (next (tree.Bool true))) → Completes (a_pick f next)
unfolding asked_from step
pick_complete f next r = record {
  words = codes "true" ∷ r.words;
  command = r.command;
  asked = λ place. rw true_is_pick (r.asked (place + 1));
}

pub complete : (s : State) → Completes s
unfolding asked_from step behind
complete a_name = record { words = codes "check" ∷ file ∷ []; command = Check file; asked = λ place. refl }
complete (options_from f o) = options_at f o (f.operands o) refl
complete (a_pick f next) = pick_complete f next (options_at f _ _ refl)
complete (operands_from o) = operands_complete o
