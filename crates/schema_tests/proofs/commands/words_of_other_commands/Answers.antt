use Rattle.std.proofs.Common.{◌≡◌, ◌∷◌, [], codes, cond, refl, ap}
use Rattle.std.specs.Prelude.{None, Some}
use Rattle.pv_number.specs.Scanning.{digits, minus_len, sign_len, whole_len, fraction_len, exponent_len, number_len}
use Rattle.pv_tree.specs.declared.Tree.TheVariants as tree
use Rattle.pv_json_grammar.specs.Reading.{number, after, skip}
use Rattle.pv_json_grammar.specs.Documents.{reading}
use Rattle.pv_json_grammar.specs.Values.{document, value}
use Rattle.pv_command.specs.Numbers.{number_below}
use Rattle.pv_pick.specs.Picks.{Role, pick_of}
use Rattle.pv_command.specs.Options.{effect_of}
use Rattle.pv_command.specs.Operands.{behind}
use Rattle.pv_command.specs.Command.{asked_from, step, command}
use Rattle.pv_command.proofs.Completions.{true_is_pick}
use Rattle.pv_pick.proofs.Levels.{role_num}
use Rattle.schema_tests.proofs.commands.words_of_other_commands.Goals as goal

three_is_none : pick_of (codes "3") ≡ None
unfolding pick_of reading document value after skip number number_len digits minus_len sign_len whole_len fraction_len exponent_len
three_is_none = ap (λ (r : Role). cond r.is_pick (Some (tree.Num (51 ∷ []))) None) (role_num (51 ∷ []))

dashes_are_none : pick_of (codes "--exclude") ≡ None
unfolding pick_of reading document value after skip number number_len digits minus_len sign_len whole_len fraction_len exponent_len
dashes_are_none = refl

pub returns-clause-check : goal.returns-clause-check
unfolding command asked_from step behind effect_of number_below
returns-clause-check c = refl

pub returns-clause-check_more : goal.returns-clause-check_more
unfolding command asked_from step behind effect_of number_below
returns-clause-check_more c = refl

pub returns-clause-check_strict : goal.returns-clause-check_strict
unfolding command asked_from step behind effect_of number_below
returns-clause-check_strict c = refl

pub returns-clause-jsonschema : goal.returns-clause-jsonschema
unfolding command asked_from step behind effect_of number_below
returns-clause-jsonschema c = refl

pub returns-clause-lines : goal.returns-clause-lines
unfolding command asked_from step behind effect_of number_below
returns-clause-lines c = refl

pub returns-clause-lines_alias : goal.returns-clause-lines_alias
unfolding command asked_from step behind effect_of number_below
returns-clause-lines_alias c = refl

pub returns-clause-seed_zero : goal.returns-clause-seed_zero
unfolding command asked_from step behind effect_of number_below
returns-clause-seed_zero c = refl

pub returns-clause-seed_most : goal.returns-clause-seed_most
unfolding command asked_from step behind effect_of number_below
returns-clause-seed_most c = refl

pub returns-clause-seed_large : goal.returns-clause-seed_large
unfolding command asked_from step behind effect_of number_below
returns-clause-seed_large c = refl

pub returns-clause-count_large : goal.returns-clause-count_large
unfolding command asked_from step behind effect_of number_below
returns-clause-count_large c = refl

pub returns-clause-seed_sign : goal.returns-clause-seed_sign
unfolding command asked_from step behind effect_of number_below
returns-clause-seed_sign c = refl

pub returns-clause-count_none : goal.returns-clause-count_none
unfolding command asked_from step behind effect_of number_below
returns-clause-count_none c = refl

pub returns-clause-pick_missing : goal.returns-clause-pick_missing
unfolding command asked_from step behind effect_of number_below
returns-clause-pick_missing c = refl

pub returns-clause-pick_number : goal.returns-clause-pick_number
unfolding command asked_from step behind effect_of number_below
returns-clause-pick_number c = rw three_is_none refl

pub returns-clause-pick_option : goal.returns-clause-pick_option
unfolding command asked_from step behind effect_of number_below
returns-clause-pick_option c = rw dashes_are_none refl

pub returns-clause-flag_twice : goal.returns-clause-flag_twice
unfolding command asked_from step behind effect_of number_below
returns-clause-flag_twice c = refl

pub returns-clause-dump : goal.returns-clause-dump
unfolding command asked_from step behind effect_of number_below
returns-clause-dump c = rw true_is_pick refl
