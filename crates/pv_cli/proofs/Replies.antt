-- How each step leads to the answer.
use Rattle.std.proofs.Common.{◌≡◌, ℕ, ◌+◌, ◌<◌, ◌≤◌, List, [], ◌∷◌, length, Some, None, refl, sym, ap, ◌∙◌, subst, inl, inr, arith}
use Rattle.std.specs.Prelude.{Option, MatchOption, IsSome, IsSomeAnd, unwrap_or, Result, Ok, Err, IfOk}
use Rattle.std.proofs.lemmas.Bool.{le-leb, lt-leb}
use Rattle.pv_edge.specs.Files.{file}
use Rattle.pv_edge.specs.Rising.{Rose}
use Rattle.pv_edge.specs.Loading.{IsContent, IsOverLimit, LoadFails, GivesUpToEnd}
use Rattle.pv_edge.specs.declared.LoadFault.{LoadFault}
use Rattle.pv_edge.specs.declared.LoadFault.TheVariants as fault
use Rattle.pv_command.specs.declared.Asked.{Asked}
use Rattle.pv_cli.specs.Answering.{Reads, a_file, answer_of}
use Rattle.pv_cli.specs.Asking.{files_of}
use Rattle.pv_cli.specs.Documents.{refused}
use Rattle.pv_cli.specs.Lines.{read_failed, too_large, IsOfFile, IsLineOf}
use Rattle.pv_cli.specs.Running.{Held, Replies, StopsAt, WhereTold, size_of}
use Rattle.pv_cli.specs.Steps.{IsRefusal}
use Rattle.pv_cli.specs.declared.answer.Answer.{Answer}
use Rattle.pv_cli.specs.declared.status.Status.TheVariants as status

abbrev Files : Type 0
Files = List (List ℕ × List ℕ)

pub sooner : (before mid now : ℕ) → before ≤ mid → Rose mid now → Rose before now
sooner before mid now later r = omega arith

later_on : (before mid now : ℕ) → Rose before mid → mid ≤ now → Rose before now
later_on before mid now r later = omega arith

-- an earlier start
pub replies_sooner : (held : Held) (f : Files → Answer) (before mid now : ℕ) (a : Answer) → before ≤ mid → Replies held f mid now a → Replies held f before now a
replies_sooner None f before mid now a l r = λ e. sooner before mid now l (r e)
replies_sooner (Some files) f before mid now a l (inl e) = inl e
replies_sooner (Some files) f before mid now a l (inr p) = inr (p.0, sooner before mid now l p.1)

-- the answer to a file, where this is its content
pub of_loaded : (files : Files) (name bytes : List ℕ) (limit : ℕ) (next : List ℕ → Reads) → file files name ≡ Some bytes → length bytes ≤ limit
    → answer_of files (a_file name limit next) ≡ answer_of files (next bytes)
of_loaded files name bytes limit next is small = rw (is, le-leb (length bytes) limit small) refl

of_missing : (files : Files) (name : List ℕ) (limit : ℕ) (next : List ℕ → Reads) → file files name ≡ None
    → answer_of files (a_file name limit next) ≡ refused (read_failed name) status.ReadFault
of_missing files name limit next is = rw is refl

of_overfull : (files : Files) (name bytes : List ℕ) (limit : ℕ) (next : List ℕ → Reads) → file files name ≡ Some bytes → limit < length bytes
    → answer_of files (a_file name limit next) ≡ refused (too_large name) status.TooLarge
of_overfull files name bytes limit next is over = rw (is, lt-leb (length bytes) limit over) refl

-- a file was loaded
pub loaded : (held : Held) (name bytes : List ℕ) (limit : ℕ) (next : List ℕ → Reads) (before now : ℕ) (a : Answer) → IsContent held name bytes → length bytes ≤ limit
    → Replies held (λ files. answer_of files (next bytes)) before now a → Replies held (λ files. answer_of files (a_file name limit next)) before now a
loaded None name bytes limit next before now a is small r = r
loaded (Some files) name bytes limit next before now a is small (inl e) = inl (e ∙ sym (of_loaded files name bytes limit next is small))
loaded (Some files) name bytes limit next before now a is small (inr p) = inr p

-- a file could not be read
pub unread : (held : Held) (name : List ℕ) (limit : ℕ) (next : List ℕ → Reads) (before now : ℕ) → LoadFails held name before now
    → Replies held (λ files. answer_of files (a_file name limit next)) before now (refused (read_failed name) status.ReadFault)
unread None name limit next before now fails = λ _. fails
unread (Some files) name limit next before now fails = by (file files name) refl fails
  where
    by : (c : Option (List ℕ)) → file files name ≡ c → MatchOption c (Unit {0}) (λ _. Rose before now)
        → Replies (Some files) (λ files. answer_of files (a_file name limit next)) before now (refused (read_failed name) status.ReadFault)
    by None e f = inl (sym (of_missing files name limit next e))
    by (Some bytes) e f = inr (refl, f)

-- a file is too large
pub overfull : (held : Held) (name : List ℕ) (limit : ℕ) (next : List ℕ → Reads) (before now : ℕ) → IsOverLimit held name limit
    → Replies held (λ files. answer_of files (a_file name limit next)) before now (refused (too_large name) status.TooLarge)
overfull None name limit next before now over = λ e. absurd (distinct e)
  where
    distinct : status.TooLarge ≡ status.ReadFault → ⊥
    distinct e = cc
overfull (Some files) name limit next before now over = by (file files name) refl over
  where
    by : (c : Option (List ℕ)) → file files name ≡ c → IsSomeAnd c (λ bytes. limit < length bytes)
        → Replies (Some files) (λ files. answer_of files (a_file name limit next)) before now (refused (too_large name) status.TooLarge)
    by None e f = absurd f
    by (Some bytes) e f = inl (sym (of_overfull files name bytes limit next e f))

-- what loading answers, which failed for this reason
abbrev pub failed_by : LoadFault → Result (List ℕ) LoadFault
failed_by f = Err f

-- a file was not loaded, for this reason
pub refusal_reply : (f : LoadFault) (held : Held) (name : List ℕ) (limit : ℕ) (next : List ℕ → Reads) (before now : ℕ) (a : Answer) → (failed_by f ≡ failed_by fault.Failed → LoadFails held name before now)
    → (failed_by f ≡ failed_by fault.TooLarge → IsOverLimit held name limit) → IsRefusal name f a → Replies held (λ files. answer_of files (a_file name limit next)) before now a
refusal_reply fault.Failed held name limit next before now a fails over is = subst (λ x. Replies held (λ files. answer_of files (a_file name limit next)) before now x) (sym is) (unread held name limit next before now (fails refl))
refusal_reply fault.TooLarge held name limit next before now a fails over is = subst (λ x. Replies held (λ files. answer_of files (a_file name limit next)) before now x) (sym is) (overfull held name limit next before now (over refl))
refusal_reply fault.Memory held name limit next before now a fails over is = absurd is

-- ---- the line of a file that was not loaded

-- it tells of that file, wherever it stands among those that are read
pub refusal_line : (f : LoadFault) (name : List ℕ) (a : Answer) (asked : Asked) → ((of : List ℕ → List ℕ) → IsOfFile of (files_of asked) (of name)) → IsRefusal name f a → IsLineOf asked a.status a.line
refusal_line fault.Failed name a asked among is = subst (λ x. IsLineOf asked x.status x.line) (sym is) (among read_failed)
refusal_line fault.TooLarge name a asked among is = subst (λ x. IsLineOf asked x.status x.line) (sym is) (among too_large)
refusal_line fault.Memory name a asked among is = absurd is

-- no more was given than it has
pub stops_here : (held : Held) (name : List ℕ) (names : List (List ℕ)) (before now : ℕ) → GivesUpToEnd held name before now → WhereTold held (λ files. StopsAt files (name ∷ names) before now (read_failed name))
stops_here None name names before now given = tt
stops_here (Some files) name names before now given = inl (refl, given)

pub refusal_stops : (f : LoadFault) (held : Held) (name : List ℕ) (names : List (List ℕ)) (before now : ℕ) (a : Answer) → GivesUpToEnd held name before now → IsRefusal name f a → a.status ≡ status.ReadFault
    → WhereTold held (λ files. StopsAt files (name ∷ names) before now a.line)
refusal_stops fault.Failed held name names before now a given is e = subst (λ (x : Answer). WhereTold held (λ files. StopsAt files (name ∷ names) before now x.line)) (sym is) (stops_here held name names before now given)
refusal_stops fault.TooLarge held name names before now a given is e = let wrong : status.TooLarge ≡ status.ReadFault = ap (λ (x : Answer). x.status) (sym is) ∙ e in absurd (distinct wrong)
  where
    distinct : status.TooLarge ≡ status.ReadFault → ⊥
    distinct e = cc
refusal_stops fault.Memory held name names before now a given is e = absurd is

-- a file before it was given whole
pub stops_later : (held : Held) (name bytes : List ℕ) (names : List (List ℕ)) (before mid now : ℕ) (text : List ℕ) → IsContent held name bytes → mid ≡ before + length bytes → mid ≤ now
    → WhereTold held (λ files. StopsAt files names mid now text) → WhereTold held (λ files. StopsAt files (name ∷ names) before now text)
stops_later None name bytes names before mid now text is given later stops = tt
stops_later (Some files) name bytes names before mid now text is given later stops =
    let size : size_of files name ≡ length bytes = ap (λ c. length (unwrap_or c [])) is in
    let there : IsSome (file files name) = rw is refl in
    let whole : before + size_of files name ≡ mid = omega arith in
    inr (there, omega arith, subst (λ n. StopsAt files names n now text) (sym whole) stops)

-- an earlier end
pub replies_later : (held : Held) (f : Files → Answer) (before mid now : ℕ) (a : Answer) → mid ≤ now → Replies held f before mid a → Replies held f before now a
replies_later None f before mid now a l r = λ e. later_on before mid now (r e) l
replies_later (Some files) f before mid now a l (inl e) = inl e
replies_later (Some files) f before mid now a l (inr p) = inr (p.0, later_on before mid now p.1 l)

-- it is decided whatever is held
pub decided : (held : Held) (f : Files → Answer) (before now : ℕ) (a : Answer) → (a.status ≡ status.ReadFault → ⊥) → ((files : Files) → a ≡ f files) → Replies held f before now a
decided None f before now a never e = λ r. absurd (never r)
decided (Some files) f before now a never e = inl (e files)

-- a fact of the only value that a call answers
pub ok_of : {A E : Type 0} (r : Result A E) (v : A) (P : A → Type 0) → IfOk r (λ a. a ≡ v) → P v → IfOk r P
ok_of (Ok a) v P e p = subst P (sym e) p
ok_of (Err x) v P e p = tt

-- a weaker fact of the value that a call answers
pub ok_then : {A E : Type 0} (r : Result A E) (P Q : A → Type 0) → IfOk r P → ((a : A) → P a → Q a) → IfOk r Q
ok_then (Ok a) P Q p f = f a p
ok_then (Err x) P Q p f = tt
