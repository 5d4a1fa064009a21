-- How the walk over the words leads to what the definition says of them.
use Rattle.std.proofs.Common.{◌≡◌, ℕ, ◌+◌, ◌<◌, ◌≤◌, ◌&&◌, not, Bool, true, false, cond, List, [], ◌∷◌, ◌++◌, length, get_or, take, drop, refl, ap, sym, ◌∙◌, subst, arith}
use Rattle.std.specs.Prelude.{Option, Some, None, Ok, Err, bytes_eq}
use Rattle.std.specs.List.{find}
use Rattle.std.proofs.lemmas.List.{drop_more, drop_all, take_more, take_all, length-drop}
use Rattle.pv_command.specs.declared.options.Options.{Options}
use Rattle.pv_command.specs.declared.options.Setting.{Setting}
use Rattle.pv_command.specs.declared.asked.Command.{Command}
use Rattle.pv_command.specs.declared.table.OptionEntry.{OptionEntry}
use Rattle.pv_command.specs.declared.table.CommandEntry.{CommandEntry}
use Rattle.pv_command.specs.declared.table.Operand.{Operand}
use Rattle.pv_command.specs.declared.table.Operand.TheVariants.{File, OtherFile}
use Rattle.pv_command.specs.Options.{Effect, flag, Row, row, is_option, effect_by, effect_of}
use Rattle.pv_command.specs.Operands.{whole, behind, is_input}
use Rattle.pv_command.specs.Command.{Form, CommandRow, State, options_from, operands_from, step, Parsed, onward, behind_operand, asked_from}
use Rattle.pv_command.specs.Entries.{AddsOption, bars, with_setting, rows_of, word_at, operands_by, fits, setting_named, IsEntry, AreEntries, IsFound}

abbrev Words : Type 0
Words = List (List ℕ)

-- ---- names

-- what a setting makes of the options
abbrev effect_with : Options → Option Setting → Option Effect
effect_with o None = None
effect_with o (Some s) = cond (bars s o) None (Some (flag (with_setting s o)))

entry_effect : (b : Bool) (o : Options) (e : OptionEntry) (x : Option Row) (y : Option Setting) → effect_by o x ≡ effect_with o y
    → effect_by o (cond b (Some (row e.name.now (λ p. bars e.asks p) (λ p. flag (with_setting e.asks p)))) x) ≡ effect_with o (cond b (Some e.asks) y)
entry_effect true o e x y h = refl
entry_effect false o e x y h = h

pub effect_is : (es : List OptionEntry) (o : Options) (word : List ℕ) → effect_of (rows_of es) o word ≡ effect_with o (setting_named es word)
unfolding effect_of
effect_is [] o word = refl
effect_is (e ∷ es) o word =
    entry_effect (bytes_eq word e.name.now) o e (find (λ r. bytes_eq word r.name) (rows_of es)) (setting_named es word) (effect_is es o word)

pub setting_barred : (es : List OptionEntry) (o : Options) (word : List ℕ) (named : Option Setting) (s : Setting) (b : Bool) → named ≡ setting_named es word → named ≡ Some s → b ≡ bars s o → b ≡ true
    → effect_of (rows_of es) o word ≡ None
setting_barred es o word named s b e is bar t =
    let n : setting_named es word ≡ Some s = cc in
    let r : bars s o ≡ true = cc in
    effect_is es o word ∙ rw (n, r) refl

pub setting_added : (es : List OptionEntry) (o new : Options) (word : List ℕ) (named : Option Setting) (s : Setting) (b : Bool) → named ≡ setting_named es word → named ≡ Some s → b ≡ bars s o → b ≡ false
    → new ≡ with_setting s o → effect_of (rows_of es) o word ≡ Some (flag new)
setting_added es o new word named s b e is bar t is_new =
    let n : setting_named es word ≡ Some s = cc in
    let r : bars s o ≡ false = cc in
    effect_is es o word ∙ rw (n, r, is_new) refl

pub setting_unknown : (es : List OptionEntry) (o : Options) (word : List ℕ) (named : Option Setting) → named ≡ setting_named es word → named ≡ None → effect_of (rows_of es) o word ≡ None
setting_unknown es o word named e is =
    let n : setting_named es word ≡ None = cc in
    effect_is es o word ∙ rw n refl

found_one : (b c : Bool) (e : CommandEntry) (r : CommandRow) (x : Option CommandEntry) (y : Option CommandRow) → b ≡ c → IsEntry e r → IsFound x y → IsFound (cond b (Some e) x) (cond c (Some r) y)
found_one true true e r x y same is h = is
found_one true false e r x y same is h = cc
found_one false true e r x y same is h = cc
found_one false false e r x y same is h = h

pub found : (es : List CommandEntry) (rs : List CommandRow) (name : List ℕ) → AreEntries es rs → IsFound (find (λ e. bytes_eq name e.name.now) es) (find (λ r. bytes_eq name r.name) rs)
found [] [] name are = tt
found [] (r ∷ rs) name are = absurd are
found (e ∷ es) [] name are = absurd are
found (e ∷ es) (r ∷ rs) name are =
    found_one (bytes_eq name e.name.now) (bytes_eq name r.name) e r (find (λ e. bytes_eq name e.name.now) es) (find (λ r. bytes_eq name r.name) rs)
    (ap (λ n. bytes_eq name n) are.0.name) are.0 (found es rs name are.1)

-- ---- options

opened : (s : State) (place at : ℕ) (words : Words) (word : List ℕ) → at < length words → word ≡ get_or words at word
    → asked_from s place (drop at words) ≡ onward place (λ t. asked_from t (place + 1) (drop (at + 1) words)) (step s word)
unfolding asked_from
opened s place at words word some is =
    let e : drop at words ≡ word ∷ drop (at + 1) words = drop_more words at word some ∙ ap (λ w. w ∷ drop (at + 1) words) (sym is) in
    rw e refl

next_place : (at : ℕ) → 2 + at + 1 ≡ 2 + (at + 1)
next_place at = omega arith

pub option_behind : (f : Form) (o p : Options) (at : ℕ) (words : Words) (word : List ℕ) → at < length words → word ≡ get_or words at word → is_option word ≡ true
    → effect_of f.options o word ≡ Some (flag p) → asked_from (options_from f o) (2 + at) (drop at words) ≡ asked_from (options_from f p) (2 + (at + 1)) (drop (at + 1) words)
unfolding step
option_behind f o p at words word some is option effect =
    rw (opened (options_from f o) (2 + at) at words word some is, option, effect) (ap (λ n. asked_from (options_from f p) n (drop (at + 1) words)) (next_place at))

pub option_stops : (f : Form) (o : Options) (at : ℕ) (words : Words) (word : List ℕ) → at < length words → word ≡ get_or words at word → is_option word ≡ true
    → effect_of f.options o word ≡ None → asked_from (options_from f o) (2 + at) (drop at words) ≡ Err (2 + at)
unfolding step
option_stops f o at words word some is option effect = rw (opened (options_from f o) (2 + at) at words word some is, option, effect) refl

pub options_end : (f : Form) (o : Options) (at : ℕ) (words : Words) (word : List ℕ) → at < length words → word ≡ get_or words at word → is_option word ≡ false
    → asked_from (options_from f o) (2 + at) (drop at words) ≡ asked_from (operands_from (f.operands o)) (2 + at) (drop at words)
unfolding step
options_end f o at words word some is plain =
    rw (opened (options_from f o) (2 + at) at words word some is, opened (operands_from (f.operands o)) (2 + at) at words word some is, plain) refl

pub options_all : (f : Form) (o : Options) (at : ℕ) (words : Words) → at ≡ length words
    → asked_from (options_from f o) (2 + at) (drop at words) ≡ asked_from (operands_from (f.operands o)) (2 + length words) (drop (length words) words)
unfolding asked_from
options_all f o at words all = rw (all, drop_all (length words) words (omega arith)) refl

-- what an option's adding says, of the word as a text and of the rows that the entries are
pub added : (rows known : List Row) (o new : Options) (text word : List ℕ) {b : Bool} → rows ≡ known → text ≡ word → b ≡ true → AddsOption b (effect_of rows o text) new → effect_of known o word ≡ Some (flag new)
added rows known o new text word {b} same is stood adds =
    let a : effect_of rows o text ≡ Some (flag new) = subst (λ x. AddsOption x (effect_of rows o text) new) stood adds in
    subst (λ r. effect_of r o word ≡ Some (flag new)) same (subst (λ w. effect_of rows o w ≡ Some (flag new)) is a)

pub not_added : (rows known : List Row) (o new : Options) (text word : List ℕ) {b : Bool} → rows ≡ known → text ≡ word → b ≡ false → AddsOption b (effect_of rows o text) new → effect_of known o word ≡ None
not_added rows known o new text word {b} same is barred adds =
    let a : effect_of rows o text ≡ None = subst (λ x. AddsOption x (effect_of rows o text) new) barred adds in
    subst (λ r. effect_of r o word ≡ None) same (subst (λ w. effect_of rows o w ≡ None) is a)

-- ---- operands

-- behind the last operand no word can stand
too_many : (c : Command) (place : ℕ) (words : Words) → 0 < length words → asked_from (operands_from (whole c)) place words ≡ Err place
unfolding asked_from step behind
too_many c place [] some = absurd (omega arith)
too_many c place (word ∷ words) some = refl

unless : {A : Type 0} (b : Bool) (x : A) → cond b None (Some x) ≡ cond (not b) (Some x) None
unless true x = refl
unless false x = refl

behind_kind : (kind : Operand) (kinds : List Operand) (before : Words) (word : List ℕ) (make : Words → Command)
    → behind (operands_by (kind ∷ kinds) before make) word ≡ cond (fits kind before word) (Some (operands_by kinds (before ++ word ∷ []) make)) None
unfolding behind
behind_kind File kinds before word make = refl
behind_kind OtherFile kinds before word make = unless (is_input (word_at 0 before) && is_input word) (operands_by kinds (before ++ word ∷ []) make)

-- the operands from a place on, and what is made of them and of those before
abbrev Stand : List Operand → ℕ → ℕ → Words → (Words → Command) → Parsed
Stand kinds at place words make = asked_from (operands_from (operands_by (drop at kinds) (take at words) make)) (place + at) (drop at words)

kind_opened : (kinds : List Operand) (at place : ℕ) (words : Words) (make : Words → Command) (kind : Operand) (word : List ℕ) → at < length words → word ≡ get_or words at word
    → at < length kinds → kind ≡ get_or kinds at File
    → Stand kinds at place words make
    ≡ onward (place + at) (λ t. asked_from t (place + at + 1) (drop (at + 1) words)) (behind_operand (cond (fits kind (take at words) word) (Some (operands_by (drop (at + 1) kinds) (take at words ++ word ∷ []) make)) None))
unfolding step
kind_opened kinds at place words make kind word some is more kind_is =
    let e : drop at kinds ≡ kind ∷ drop (at + 1) kinds = drop_more kinds at File more ∙ ap (λ k. k ∷ drop (at + 1) kinds) (sym kind_is) in
    opened (operands_from (operands_by (drop at kinds) (take at words) make)) (place + at) at words word some is
    ∙ ap (λ ks. onward (place + at) (λ t. asked_from t (place + at + 1) (drop (at + 1) words)) (behind_operand (behind (operands_by ks (take at words) make) word))) e
    ∙ ap (λ o. onward (place + at) (λ t. asked_from t (place + at + 1) (drop (at + 1) words)) (behind_operand o)) (behind_kind kind (drop (at + 1) kinds) (take at words) word make)

one_more_place : (place at : ℕ) → place + at + 1 ≡ place + (at + 1)
one_more_place place at = omega arith

pub operand_behind : (kinds : List Operand) (at place : ℕ) (words : Words) (make : Words → Command) (kind : Operand) (word : List ℕ) → at < length words → word ≡ get_or words at word
    → at < length kinds → kind ≡ get_or kinds at File → fits kind (take at words) word ≡ true → Stand kinds at place words make ≡ Stand kinds (at + 1) place words make
operand_behind kinds at place words make kind word some is more kind_is fit =
    let taken : take (at + 1) words ≡ take at words ++ word ∷ [] = take_more words at word some ∙ ap (λ w. take at words ++ w ∷ []) (sym is) in
    kind_opened kinds at place words make kind word some is more kind_is
    ∙ rw (fit, ← taken) (ap (λ n. asked_from (operands_from (operands_by (drop (at + 1) kinds) (take (at + 1) words) make)) n (drop (at + 1) words)) (one_more_place place at))

pub operand_stops : (kinds : List Operand) (at place : ℕ) (words : Words) (make : Words → Command) (kind : Operand) (word : List ℕ) → at < length words → word ≡ get_or words at word
    → at < length kinds → kind ≡ get_or kinds at File → fits kind (take at words) word ≡ false → Stand kinds at place words make ≡ Err (place + at)
operand_stops kinds at place words make kind word some is more kind_is fit =
    kind_opened kinds at place words make kind word some is more kind_is ∙ rw fit refl

none_completed : (kind : Operand) (kinds : List Operand) (before : Words) (place : ℕ) (make : Words → Command) → asked_from (operands_from (operands_by (kind ∷ kinds) before make)) place [] ≡ Err place
unfolding asked_from
none_completed File kinds before place make = refl
none_completed OtherFile kinds before place make = refl

pub operand_missing : (kinds : List Operand) (at place : ℕ) (words : Words) (make : Words → Command) → length words ≤ at → at < length kinds → Stand kinds at place words make ≡ Err (place + at)
operand_missing kinds at place words make none more =
    rw (drop_all at words none) (by_kind (drop at kinds) (λ e. absurd (short e)))
  where
    short : drop at kinds ≡ [] → ⊥
    short e = let l : length (drop at kinds) ≡ 0 = ap length e in omega (arith, length-drop at kinds)

    by_kind : (ks : List Operand) → (ks ≡ [] → ⊥) → asked_from (operands_from (operands_by ks (take at words) make)) (place + at) [] ≡ Err (place + at)
    by_kind [] some = absurd (some refl)
    by_kind (k ∷ ks) some = none_completed k ks (take at words) (place + at) make

pub operands_all : (kinds : List Operand) (at place : ℕ) (words : Words) (make : Words → Command) → at ≡ length kinds → at ≡ length words → Stand kinds at place words make ≡ Ok (make words)
unfolding asked_from
operands_all kinds at place words make all read =
    rw (drop_all at kinds (omega arith), drop_all at words (omega arith), take_all at words (omega arith)) refl

pub operands_over : (kinds : List Operand) (at place : ℕ) (words : Words) (make : Words → Command) → at ≡ length kinds → at < length words → Stand kinds at place words make ≡ Err (place + at)
operands_over kinds at place words make all over =
    rw (drop_all at kinds (omega arith)) (too_many (make (take at words)) (place + at) (drop at words) (omega (arith, length-drop at words)))
