-- The words of `validate` are those that it says, and no others.
use Rattle.std.proofs.Common.{◌≡◌, ℕ, ◌+◌, ◌⊎◌, inl, inr, Bool, true, false, cond, List, [], ◌∷◌, ◌++◌, codes, refl, ap, ◌∙◌, subst}
use Rattle.std.specs.Prelude.{Option, Some, None, Ok, bytes_eq, ◌&&◌, ◌↔◌, is_some}
use Rattle.std.proofs.lemmas.Slice.Eq.{bytes_eq-Decides}
use Rattle.pv_command.specs.declared.options.Options.{Options}
use Rattle.pv_command.specs.Options.{no_options, is_option, Effect, flag, row, strictness, effect_by, effect_of}
use Rattle.pv_command.specs.declared.asked.Command.{Command}
use Rattle.pv_command.specs.declared.asked.Command.TheVariants.{Validate}
use Rattle.pv_command.specs.Operands.{whole, behind, schema_and_document, is_input}
use Rattle.pv_command.specs.Command.{Form, validate_form, form_named, State, options_from, operands_from, step, behind_name, behind_option, behind_operand, Parsed, onward, asked_from, command}
use Rattle.pv_command.specs.Validating.{said, IsValidate}
use Rattle.pv_command.proofs.Others.{leads_other, named}

abbrev Words : Type 0
Words = List (List ℕ)

-- the options of one that says whether it is strict
abbrev strictly : Bool → Options
strictly strict = record no_options { strict = Some strict }

-- what may follow the name `validate` and these options
abbrev options_behind : Options → State
options_behind o = options_from validate_form o

-- what may follow the options of `validate`
abbrev operands_behind : Option Bool → State
operands_behind strict = operands_from (schema_and_document (Validate strict))

-- ---- from the words to the command

read_plain : (schema document : List ℕ) → is_option schema ≡ false → (is_input schema && is_input document) ≡ false
    → command (codes "validate" ∷ schema ∷ document ∷ []) ≡ Ok (Validate None schema document)
unfolding command asked_from step behind
read_plain schema document plain apart = rw (plain, apart) refl

read_strict : (schema document : List ℕ) → is_option schema ≡ false → (is_input schema && is_input document) ≡ false
    → command (codes "validate" ∷ codes "--strict" ∷ schema ∷ document ∷ []) ≡ Ok (Validate (Some true) schema document)
unfolding command asked_from step behind effect_of
read_strict schema document plain apart = rw (plain, apart) refl

read_lax : (schema document : List ℕ) → is_option schema ≡ false → (is_input schema && is_input document) ≡ false
    → command (codes "validate" ∷ codes "--lax" ∷ schema ∷ document ∷ []) ≡ Ok (Validate (Some false) schema document)
unfolding command asked_from step behind effect_of
read_lax schema document plain apart = rw (plain, apart) refl

read_said : (strict : Option Bool) (schema document : List ℕ) → is_option schema ≡ false → (is_input schema && is_input document) ≡ false
    → command (codes "validate" ∷ said strict ++ schema ∷ document ∷ []) ≡ Ok (Validate strict schema document)
read_said None = read_plain
read_said (Some true) = read_strict
read_said (Some false) = read_lax

read_so : (words : Words) (strict : Option Bool) (schema document : List ℕ) → IsValidate words strict schema document → command words ≡ Ok (Validate strict schema document)
read_so words strict schema document w = ap command w.whole ∙ read_said strict schema document w.plain w.apart

-- ---- from the command to the words

pair : (b : Bool) (strict : Option Bool) (place : ℕ) (x y : List ℕ) (more : Words) (c : Command)
    → onward place (λ t. asked_from t (place + 1) more) (behind_operand (cond b None (Some (whole (Validate strict x y))))) ≡ Ok c
    → (b ≡ false) × (more ≡ []) × (Validate strict x y ≡ c)
unfolding asked_from step behind
pair true strict place x y more c e = cc
pair false strict place x y [] c e = (refl, refl, cc)
pair false strict place x y (w ∷ ws) c e = cc

record AreFiles (words : Words) (schema document : List ℕ) : Type 0 where
  whole : words ≡ schema ∷ document ∷ []
  apart : (is_input schema && is_input document) ≡ false

files : (told strict : Option Bool) (place : ℕ) (words : Words) (schema document : List ℕ) → asked_from (operands_behind told) place words ≡ Ok (Validate strict schema document)
    → AreFiles words schema document × (told ≡ strict)
unfolding asked_from step behind
files told strict place [] schema document e = cc
files told strict place (x ∷ []) schema document e = cc
files told strict place (x ∷ y ∷ more) schema document e =
    let p = pair (is_input x && is_input y) told (place + 1) x y more (Validate strict schema document) e in
    let first : x ≡ schema = cc in
    let second : y ≡ document = cc in (
      record {
        whole = ap (λ (w : Words). x ∷ y ∷ w) p.1 ∙ ap (λ (w : List ℕ). w ∷ y ∷ []) first ∙ ap (λ (w : List ℕ). schema ∷ w ∷ []) second;
        apart = subst (λ w. (is_input schema && is_input w) ≡ false) second (subst (λ w. (is_input w && is_input y) ≡ false) first p.0);
      },
      cc,
    )

-- the first of two ways, or the second
either : (b : Bool) (place : ℕ) (next : State → Parsed) (x y : Option State) (c : Command) → onward place next (cond b x y) ≡ Ok c
    → ((b ≡ true) × (onward place next x ≡ Ok c)) ⊎ ((b ≡ false) × (onward place next y ≡ Ok c))
either true place next x y c e = inl (refl, e)
either false place next x y c e = inr (refl, e)

-- an option, or an operand
at_option : (o : Options) (place : ℕ) (x : List ℕ) (more : Words) (c : Command) → asked_from (options_behind o) place (x ∷ more) ≡ Ok c
    → ((is_option x ≡ true) × (onward place (λ t. asked_from t (place + 1) more) (behind_option validate_form (effect_of strictness o x)) ≡ Ok c))
    ⊎ ((is_option x ≡ false) × (asked_from (operands_behind o.strict) place (x ∷ more) ≡ Ok c))
unfolding asked_from step
at_option o place x more c e =
    either (is_option x) place (λ t. asked_from t (place + 1) more) (behind_option validate_form (effect_of strictness o x))
    (behind_operand (behind (validate_form.operands o) x)) c e

second_barred : (b p q : Bool) (x y : Options → Effect) (n m : List ℕ) → effect_by (strictly b) (cond p (Some (row n (λ o. is_some o.strict) x)) (cond q (Some (row m (λ o. is_some o.strict) y)) None)) ≡ None
second_barred b true q x y n m = refl
second_barred b false true x y n m = refl
second_barred b false false x y n m = refl

second : (b : Bool) (x : List ℕ) → effect_of strictness (strictly b) x ≡ None
unfolding effect_of
second b x =
    second_barred b (bytes_eq x (codes "--strict")) (bytes_eq x (codes "--lax")) _ _ (codes "--strict") (codes "--lax")

-- behind an option of strictness
record IsBehind (words : Words) (told strict : Option Bool) (schema document : List ℕ) : Type 0 where
  whole : words ≡ schema ∷ document ∷ []
  plain : is_option schema ≡ false
  apart : (is_input schema && is_input document) ≡ false
  same : told ≡ strict

operands_only : (told strict : Option Bool) (place : ℕ) (x : List ℕ) (more : Words) (schema document : List ℕ) → is_option x ≡ false → asked_from (operands_behind told) place (x ∷ more) ≡ Ok (Validate strict schema document)
    → IsBehind (x ∷ more) told strict schema document
operands_only told strict place x more schema document plain e =
    let f = files told strict place (x ∷ more) schema document e in
    let is : x ∷ more ≡ schema ∷ document ∷ [] = f.0.whole in
    let first : x ≡ schema = cc in
    record { whole = is; plain = subst (λ w. is_option w ≡ false) first plain; apart = f.0.apart; same = f.1 }

behind_first : (b : Bool) (strict : Option Bool) (place : ℕ) (words : Words) (schema document : List ℕ) → asked_from (options_behind (strictly b)) place words ≡ Ok (Validate strict schema document)
    → IsBehind words (Some b) strict schema document
unfolding asked_from step
behind_first b strict place [] schema document e = cc
behind_first b strict place (x ∷ more) schema document e = elim (at_option (strictly b) place x more (Validate strict schema document) e) [
  | inl w ↦ let stopped : onward place (λ t. asked_from t (place + 1) more) (behind_option validate_form None) ≡ Ok (Validate strict schema document) = rw (second b x) at w.1 in cc
  | inr w ↦ operands_only (Some b) strict place x more schema document w.0 w.1
]

first_at : (p q : Bool) (place : ℕ) (next : State → Parsed) (n m : List ℕ) (c : Command)
    → onward place next (behind_option validate_form (effect_by no_options (cond p (Some (row n (λ o. is_some o.strict) (λ o. flag (record o { strict = Some true })))) (cond q (Some (row m (λ o. is_some o.strict) (λ o. flag (record o { strict = Some false })))) None)))) ≡ Ok c
    → ((p ≡ true) × (next (options_behind (strictly true)) ≡ Ok c)) ⊎ ((q ≡ true) × (next (options_behind (strictly false)) ≡ Ok c))
first_at true q place next n m c e = inl (refl, e)
first_at false true place next n m c e = inr (refl, e)
first_at false false place next n m c e = cc

first : (x : List ℕ) (place : ℕ) (next : State → Parsed) (c : Command) → onward place next (behind_option validate_form (effect_of strictness no_options x)) ≡ Ok c
    → ((x ≡ codes "--strict") × (next (options_behind (strictly true)) ≡ Ok c)) ⊎ ((x ≡ codes "--lax") × (next (options_behind (strictly false)) ≡ Ok c))
unfolding effect_of
first x place next c e = elim (first_at (bytes_eq x (codes "--strict")) (bytes_eq x (codes "--lax")) place next (codes "--strict") (codes "--lax") c e) [
  | inl w ↦ inl ((bytes_eq-Decides x (codes "--strict")).0 w.0, w.1)
  | inr w ↦ inr ((bytes_eq-Decides x (codes "--lax")).0 w.0, w.1)
]

-- the words behind the name
record IsRest (words : Words) (strict : Option Bool) (schema document : List ℕ) : Type 0 where
  whole : words ≡ said strict ++ schema ∷ document ∷ []
  plain : is_option schema ≡ false
  apart : (is_input schema && is_input document) ≡ false

without : (words : Words) (strict : Option Bool) (schema document : List ℕ) → IsBehind words None strict schema document → IsRest words strict schema document
without words strict schema document i = record { whole = subst (λ s. words ≡ said s ++ schema ∷ document ∷ []) i.same i.whole; plain = i.plain; apart = i.apart }

with_option : (b : Bool) (x : List ℕ) (words : Words) (strict : Option Bool) (schema document : List ℕ) → x ∷ [] ≡ said (Some b) → IsBehind words (Some b) strict schema document → IsRest (x ∷ words) strict schema document
with_option b x words strict schema document is i = record {
  whole = subst (λ s. x ∷ words ≡ said s ++ schema ∷ document ∷ []) i.same (ap (λ w. x ∷ w) i.whole ∙ ap (λ w. w ++ schema ∷ document ∷ []) is);
  plain = i.plain;
  apart = i.apart;
}

rest : (words : Words) (strict : Option Bool) (schema document : List ℕ) → asked_from (options_behind no_options) 2 words ≡ Ok (Validate strict schema document) → IsRest words strict schema document
unfolding asked_from step
rest [] strict schema document e = cc
rest (x ∷ more) strict schema document e = elim (at_option no_options 2 x more (Validate strict schema document) e) [
  | inl w ↦ elim (first x 2 (λ t. asked_from t 3 more) (Validate strict schema document) w.1) [
    | inl v ↦ with_option true x more strict schema document (ap (λ y. y ∷ []) v.0) (behind_first true strict 3 more schema document v.1)
    | inr v ↦ with_option false x more strict schema document (ap (λ y. y ∷ []) v.0) (behind_first false strict 3 more schema document v.1)
  ]
  | inr w ↦ without (x ∷ more) strict schema document (operands_only None strict 2 x more schema document w.0 w.1)
]

by_form : (name : List ℕ) (words : Words) (o : Option Form) (strict : Option Bool) (schema document : List ℕ) → form_named name ≡ o
    → onward 1 (λ t. asked_from t 2 words) (behind_name o) ≡ Ok (Validate strict schema document) → IsValidate (name ∷ words) strict schema document
by_form name words None strict schema document is e = cc
by_form name words (Some f) strict schema document is e = elim (named name f is) [
  | inl w ↦ let r = rest words strict schema document (subst (λ g. asked_from (options_from g no_options) 2 words ≡ Ok (Validate strict schema document)) w.1 e) in
      record { whole = ap (λ n. n ∷ words) w.0 ∙ ap (λ t. codes "validate" ∷ t) r.whole; plain = r.plain; apart = r.apart }
  | inr other ↦ let never : true ≡ false = leads_other (options_from f no_options) 2 words (Validate strict schema document) other e in cc
]

written_so : (words : Words) (strict : Option Bool) (schema document : List ℕ) → command words ≡ Ok (Validate strict schema document) → IsValidate words strict schema document
unfolding command asked_from step
written_so [] strict schema document e = cc
written_so (name ∷ words) strict schema document e = by_form name words (form_named name) strict schema document refl e

pub validates : (words : Words) (strict : Option Bool) (schema document : List ℕ) → (command words ≡ Ok (Validate strict schema document)) ↔ IsValidate words strict schema document
validates words strict schema document = (written_so words strict schema document, read_so words strict schema document)
