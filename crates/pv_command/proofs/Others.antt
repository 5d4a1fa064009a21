-- No other command than `validate` is asked for by `validate`.
use Rattle.std.proofs.Common.{◌≡◌, ℕ, ◌+◌, ◌⊎◌, inl, inr, Bool, true, false, cond, List, [], ◌∷◌, codes, drop, refl, ap, sym, subst}
use Rattle.std.specs.Prelude.{Option, Some, None, Ok, bytes_eq, ◌^◌, ◌&&◌}
use Rattle.std.specs.List.{find}
use Rattle.std.specs.Option.{option_map}
use Rattle.std.proofs.lemmas.Slice.Eq.{bytes_eq-Decides}
use Rattle.pv_tree.specs.declared.Tree.{Tree}
use Rattle.pv_pick.specs.Picks.{pick_of}
use Rattle.pv_command.specs.Numbers.{number_below}
use Rattle.pv_command.specs.declared.options.Options.{Options}
use Rattle.pv_command.specs.Options.{is_option, Effect, flag, with_pick, effect_of}
use Rattle.pv_command.specs.declared.asked.Command.{Command}
use Rattle.pv_command.specs.declared.asked.Command.TheVariants.{Validate, Dump, Lines, Check, JsonSchema, Workload}
use Rattle.pv_command.specs.Operands.{Operands, whole, a_file, a_file_beside, a_seed, a_count, behind, completed, number_by, is_input}
use Rattle.pv_command.specs.Command.{Form, validate_form, CommandRow, built, commands, form_named, State, a_name, options_from, a_pick, operands_from, step, finished, behind_operand, behind_option, behind_pick, Parsed, at_end, onward, asked_from}

-- ---- what an answer comes from

pub chosen : {A : Type 0} (b : Bool) (x y z : A) → cond b x y ≡ z → ((b ≡ true) × (x ≡ z)) ⊎ ((b ≡ false) × (y ≡ z))
chosen true x y z e = inl (refl, e)
chosen false x y z e = inr (refl, e)

pub completes : (place : ℕ) (o : Option Command) (c : Command) → at_end place o ≡ Ok c → o ≡ Some c
completes place None c e = cc
completes place (Some d) c e = cc

pub moves_on : (place : ℕ) (next : State → Parsed) (o : Option State) (c : Command) → onward place next o ≡ Ok c → (t : State) × (o ≡ Some t) × (next t ≡ Ok c)
moves_on place next None c e = cc
moves_on place next (Some t) c e = (t, refl, e)

some_same : {A : Type 0} (x y : A) → Some x ≡ Some y → x ≡ y
some_same x y e = cc

-- ---- commands other than `validate`

abbrev pub is_validate : Command → Bool
is_validate (Validate strict schema document) = true
is_validate (Dump options schema document) = false
is_validate (Lines strict schema document) = false
is_validate (Check schema) = false
is_validate (JsonSchema schema) = false
is_validate (Workload seed count) = false

abbrev AskOther : Operands → Type 0
AskOther (whole c) = is_validate c ≡ false
AskOther (a_file next) = (word : List ℕ) → AskOther (next word)
AskOther (a_file_beside other next) = (word : List ℕ) → AskOther (next word)
AskOther (a_seed next) = (n : ℕ) → AskOther (next n)
AskOther (a_count next) = (n : ℕ) → AskOther (next n)

abbrev FormsOther : Form → Type 0
FormsOther f = (o : Options) → AskOther (f.operands o)

abbrev LeadsOther : State → Type 0
LeadsOther a_name = ⊥
LeadsOther (options_from f o) = FormsOther f
LeadsOther (a_pick f next) = FormsOther f
LeadsOther (operands_from operands) = AskOther operands

operands_other : (o : Operands) (c : Command) → AskOther o → completed o ≡ Some c → is_validate c ≡ false
operands_other (whole d) c other e = let same : d ≡ c = cc in subst (λ x. is_validate x ≡ false) same other
operands_other (a_file next) c other e = cc
operands_other (a_file_beside word next) c other e = cc
operands_other (a_seed next) c other e = cc
operands_other (a_count next) c other e = cc

finished_other : (s : State) (c : Command) → LeadsOther s → finished s ≡ Some c → is_validate c ≡ false
finished_other a_name c other e = absurd other
finished_other (options_from f o) c other e = operands_other (f.operands o) c (other o) e
finished_other (a_pick f next) c other e = cc
finished_other (operands_from operands) c other e = operands_other operands c other e

number_other : (next : ℕ → Operands) (n : Option ℕ) (rest : Operands) → ((k : ℕ) → AskOther (next k)) → number_by next n ≡ Some rest → AskOther rest
number_other next None rest other e = cc
number_other next (Some k) rest other e = let same : next k ≡ rest = cc in subst AskOther same (other k)

behind_other : (o rest : Operands) (word : List ℕ) → AskOther o → behind o word ≡ Some rest → AskOther rest
unfolding behind
behind_other (whole c) rest word other e = cc
behind_other (a_file next) rest word other e = let same : next word ≡ rest = cc in subst AskOther same (other word)
behind_other (a_file_beside first next) rest word other e = elim (chosen (is_input first && is_input word) None (Some (next word)) (Some rest) e) [
  | inl w ↦ let none : None ≡ Some rest = w.1 in cc
  | inr w ↦ let same : next word ≡ rest = cc in subst AskOther same (other word)
]
behind_other (a_seed next) rest word other e = number_other next (number_below (2 ^ 64) word) rest other e
behind_other (a_count next) rest word other e = number_other next (number_below 100001 word) rest other e

then_other : (o : Option Operands) (t : State) → ((rest : Operands) → o ≡ Some rest → AskOther rest) → behind_operand o ≡ Some t → LeadsOther t
then_other None t other e = cc
then_other (Some rest) t other e = let same : operands_from rest ≡ t = cc in subst LeadsOther same (other rest refl)

option_other : (f : Form) (effect : Option Effect) (t : State) → FormsOther f → behind_option f effect ≡ Some t → LeadsOther t
option_other f None t other e = cc
option_other f (Some (flag o)) t other e = let same : options_from f o ≡ t = cc in subst LeadsOther same other
option_other f (Some (with_pick next)) t other e = let same : a_pick f next ≡ t = cc in subst LeadsOther same other

pick_other : (f : Form) (next : Tree → Options) (read : Option Tree) (t : State) → FormsOther f → behind_pick f next read ≡ Some t → LeadsOther t
pick_other f next None t other e = cc
pick_other f next (Some tree) t other e = let same : options_from f (next tree) ≡ t = cc in subst LeadsOther same other

step_other : (s t : State) (word : List ℕ) → LeadsOther s → step s word ≡ Some t → LeadsOther t
unfolding step
step_other a_name t word other e = absurd other
step_other (options_from f o) t word other e = elim (chosen (is_option word) (behind_option f (effect_of f.options o word)) (behind_operand (behind (f.operands o) word)) (Some t) e) [
  | inl w ↦ option_other f (effect_of f.options o word) t other w.1
  | inr w ↦ then_other (behind (f.operands o) word) t (λ rest. behind_other (f.operands o) rest word (other o)) w.1
]
step_other (a_pick f next) t word other e = pick_other f next (pick_of word) t other e
step_other (operands_from operands) t word other e = then_other (behind operands word) t (λ rest. behind_other operands rest word other) e

pub leads_other : (s : State) (place : ℕ) (words : List (List ℕ)) (c : Command) → LeadsOther s → asked_from s place words ≡ Ok c → is_validate c ≡ false
unfolding asked_from
leads_other s place [] c other e = finished_other s c other (completes place (finished s) c e)
leads_other s place (word ∷ words) c other e =
    let m = moves_on place (λ t. asked_from t (place + 1) words) (step s word) c e in
    leads_other m.0 (place + 1) words c (step_other s m.0 word other m.1) m.2

-- ---- the name

abbrev Named : List ℕ → Form → Type 0
Named name f = ((name ≡ codes "validate") × (f ≡ validate_form)) ⊎ FormsOther f

abbrev Others : List CommandRow → Type 0
Others [] = Unit {0}
Others (r ∷ rs) = FormsOther r.form × Others rs

abbrev found_in : List ℕ → List CommandRow → Option CommandRow
found_in name rs = find (λ r. bytes_eq name r.name) rs

form_in : (o : Option CommandRow) (f : Form) → option_map (λ (r : CommandRow). r.form) o ≡ Some f → (r : CommandRow) × (o ≡ Some r) × (r.form ≡ f)
form_in None f e = cc
form_in (Some r) f e = (r, refl, some_same r.form f e)

found : (name : List ℕ) (r : CommandRow) (rs : List CommandRow) → Others rs → found_in name rs ≡ Some r → FormsOther r.form
found name r [] others e = cc
found name r (q ∷ qs) others e = elim (chosen (bytes_eq name q.name) (Some q) (found_in name qs) (Some r) e) [
  | inl w ↦ subst (λ (x : CommandRow). FormsOther x.form) (some_same q r w.1) others.0
  | inr w ↦ found name r qs others.1 w.1
]

abbrev validate_row : CommandRow
validate_row = built (codes "validate") validate_form

named_in : (name : List ℕ) (r : CommandRow) (rs : List CommandRow) → Others rs → found_in name (validate_row ∷ rs) ≡ Some r → Named name r.form
named_in name r rs others e = elim (chosen (bytes_eq name (codes "validate")) (Some validate_row) (found_in name rs) (Some r) e) [
  | inl w ↦ inl ((bytes_eq-Decides name (codes "validate")).0 w.0, sym (ap (λ (x : CommandRow). x.form) (some_same validate_row r w.1)))
  | inr w ↦ inr (found name r rs others w.1)
]

pub named : (name : List ℕ) (f : Form) → form_named name ≡ Some f → Named name f
named name f e =
    let r = form_in (found_in name commands) f e in
    subst (λ g. Named name g) r.2
    (named_in name r.0 (drop 1 commands)
    (λ o schema document. refl, (λ o schema document. refl, (λ o schema. refl, (λ o schema. refl, (λ o seed count. refl, tt))))) r.1)
