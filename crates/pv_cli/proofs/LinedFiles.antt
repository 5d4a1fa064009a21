-- What is known when the lines of a picked file have been answered, or as many as could be.
use Rattle.std.proofs.Common.{◌≡◌, ℕ, ◌+◌, ◌-◌, ◌<◌, ◌≤◌, ◌⊎◌, inl, inr, Bool, true, false, List, [], ◌∷◌, ◌++◌, length, take, Option, Some, None, refl, sym, ap, ◌∙◌, subst, append_assoc, append-nil, arith, length-append}
use Rattle.std.specs.Prelude.{◌≢◌, IfOk, IfSome, IsErrOf, IsSome, MatchOption, Result, Ok, Err, unwrap_or}
use Rattle.std.specs.List.{list_all}
use Rattle.std.specs.Io.KnownBytes.{Appends, Consumes, IsAtEnd}
use Rattle.std.proofs.lemmas.Grind.{flat_map-append}
use Rattle.std.proofs.lemmas.List.{take-append-le, take_all}
use Rattle.pv_edge.specs.Cutting.{ended_lines, ended, fault_place, lines_of}
use Rattle.pv_edge.specs.Files.{file}
use Rattle.pv_edge.specs.Picking.{PickFails, Picks}
use Rattle.pv_edge.specs.Rising.{Rose}
use Rattle.pv_edge.specs.Sending.{SentInPart}
use Rattle.pv_edge.proofs.Staying.{fault_within, lines_stay}
use Rattle.pv_line_mode.specs.OnePass.{AnsweredInPart, EndsBy, IsFront, OnePass, size_of, texts}
use Rattle.pv_line_mode.specs.declared.Stop.{Stop}
use Rattle.pv_line_mode.specs.declared.Stop.TheVariants as stop
use Rattle.pv_line_mode.proofs.Ending.{nothing_yet}
use Rattle.pv_command.specs.declared.Asked.{Asked}
use Rattle.pv_cli.specs.Answering.{LineMeaning, after_lines, answer_of, by_lines, of_lines}
use Rattle.pv_cli.specs.Asking.{files_of, line_limit, lines_limit}
use Rattle.pv_cli.specs.Documents.{refused, validity}
use Rattle.pv_cli.specs.Lines.{IsLineOf, IsOfFile, read_failed, too_large}
use Rattle.pv_cli.specs.Passing.{LinedFile, PrintedLines, PrintedOf, lined}
use Rattle.pv_cli.specs.Running as running
use Rattle.pv_cli.specs.Running.{Held, StopsAt, WhereTold, is_early, is_printed}
use Rattle.pv_cli.specs.Steps.{IsEndBy, IsEndOf, LinesEnded, Settles, status_of}
use Rattle.pv_cli.specs.declared.answer.Answer.{Answer}
use Rattle.pv_cli.specs.declared.ending.Ending.{Ending}
use Rattle.pv_cli.specs.declared.ending.NoAnswer.{NoAnswer}
use Rattle.pv_cli.specs.declared.ending.NoAnswer.TheVariants as why
use Rattle.pv_cli.specs.declared.status.Status.{Status}
use Rattle.pv_cli.specs.declared.status.Status.TheVariants as status

abbrev pub Files : Type 0
Files = List (List ℕ × List ℕ)

-- ---- no line was answered

no_ended : (given : ℕ) (content : List ℕ) → given ≡ 0 → [] ≡ ended_lines (take given content)
unfolding ended
no_ended given content e = rw e refl

pub none_printed : (took : Option (List ℕ)) (given : ℕ) (end : Status) (f : Option LinedFile) → given ≡ 0 → PrintedOf took took given end f
none_printed took given end None e = nothing_yet took
none_printed took given end (Some f) e = record {
  lines = [];
  part = [];
  first = record { later = lines_of line_limit lines_limit f.content; whole = refl };
  grew = nothing_yet took;
  delay = omega (arith, e);
  whole = λ _. refl;
  before_fault = λ _. no_ended given f.content e;
}

-- ---- the content of the picked file

pub record Picked (files : Files) (name : List ℕ) (rest : Option (List ℕ)) : Type 0 where
  pub content : List ℕ
  pub held : file files name ≡ Some content
  pub left : rest ≡ Some content

pub picked : (files : Files) (name : List ℕ) (rest : Option (List ℕ)) → Picks (Some files) name rest → Picked files name rest
picked files name rest p = by (file files name) refl
  where
    by : (c : Option (List ℕ)) → file files name ≡ c → Picked files name rest
    by None e = let wrong : false ≡ true = subst (λ o. IsSome o) e p.0 in absurd (cc)
    by (Some c) e = record { content = c; held = e; left = p.1 ∙ e }

-- what is left of it
pub record Left (content bytes : List ℕ) (rest_after : Option (List ℕ)) : Type 0 where
  pub more : List ℕ
  pub whole : content ≡ bytes ++ more
  pub left : rest_after ≡ Some more

left_by : (content bytes : List ℕ) (rest_after : Option (List ℕ)) → Consumes (Some content) rest_after bytes → Left content bytes rest_after
left_by content bytes None t = absurd t
left_by content bytes (Some more) t = record { more = more; whole = t; left = refl }

pub left_of : (content bytes : List ℕ) (rest rest_after : Option (List ℕ)) → rest ≡ Some content → Consumes rest rest_after bytes → Left content bytes rest_after
left_of content bytes rest rest_after e t = left_by content bytes rest_after (subst (λ r. Consumes r rest_after bytes) e t)

pub front_of : (content bytes more : List ℕ) → content ≡ bytes ++ more → take (length bytes) content ≡ bytes
front_of content bytes more e = ap (take (length bytes)) e ∙ take-append-le (length bytes) bytes more (omega arith) ∙ take_all (length bytes) bytes (omega arith)

-- ---- what standard error and the status say

pub line_by : (asked : Asked) (a : Answer) (e : Ending) → IsEndOf a e → IsLineOf asked a.status a.line → IsLineOf asked e.status e.line
line_by asked a e is l = subst (λ s. IsLineOf asked s e.line) (sym is.1) (subst (λ t. IsLineOf asked a.status t) (sym is.0) l)

-- a line about the second of two files
second_file : (of : List ℕ → List ℕ) (first name : List ℕ) (names : List (List ℕ)) → names ≡ first ∷ name ∷ [] → IsOfFile of names (of name)
second_file of first name names e = subst (λ ns. IsOfFile of ns (of name)) (sym e) (inr (inl refl))

module _ (name : List ℕ) (m : LineMeaning) (faults faults_after given given_after : ℕ) (took took_after : Option (List ℕ)) where
  abbrev decided : Files → Answer
  decided files = answer_of files (by_lines name m)

  -- the answer that the files decide
  settle : (files : Files) (a : Answer) (e : Ending) → decided files ≡ a → IsEndOf a e → Appends took took_after a.out → Settles (Some files) decided faults faults_after took took_after e
  settle files a e is end grew = inl (subst (λ x. IsEndOf x e × Appends took took_after x.out) (sym is) (end, grew))

  module _ (rest rest_after : Option (List ℕ)) where
    abbrev Pass : (List ℕ → List (List ℕ) → List ℕ → Type 0) → Type 0
    Pass G = OnePass m.text line_limit lines_limit rest rest_after given given_after took took_after G

    -- all of an answer's part is there
    grew_whole : (lines : List (List ℕ)) (part : List ℕ) → part ≡ [] → Appends took took_after (texts m.text lines ++ part) → Appends took took_after (texts m.text lines)
    grew_whole lines part e g = subst (Appends took took_after) (ap (λ p. texts m.text lines ++ p) e ∙ append-nil (texts m.text lines)) g

    -- ---- a byte at fault came

    large_decided : (files : Files) (e : Ending) → IsEndOf (refused (too_large name) status.TooLarge) e → Picks (Some files) name rest → Pass (EndsBy (Err stop.TooLarge) m.text m.valid line_limit lines_limit rest rest_after)
        → Settles (Some files) decided faults faults_after took took_after e
    large_decided files e end p pass =
        let c = picked files name rest p in
        let l = left_of c.content pass.bytes rest rest_after c.left pass.taken in
        let stay = lines_stay line_limit lines_limit pass.bytes l.more pass.ends.at pass.ends.fault in
        let is : decided files ≡ after_lines name m pass.lines (Some pass.ends.at) =
        ap (of_lines name m) c.held ∙ ap (λ b. after_lines name m (lines_of line_limit lines_limit b) (fault_place line_limit lines_limit b)) l.whole
        ∙ ap (λ f. after_lines name m (lines_of line_limit lines_limit (pass.bytes ++ l.more)) f) stay.0 ∙ ap (λ ls. after_lines name m ls (Some pass.ends.at)) (stay.1 ∙ sym pass.ends.all) in
        settle files (after_lines name m pass.lines (Some pass.ends.at)) e is end (grew_whole pass.lines pass.part pass.ends.whole pass.grew)

    pub large_ended : (held : Held) (e : Ending) → IsEndOf (refused (too_large name) status.TooLarge) e → Picks held name rest → Pass (EndsBy (Err stop.TooLarge) m.text m.valid line_limit lines_limit rest rest_after) → (first : List ℕ)
        → LinesEnded (first ∷ name ∷ []) (name ∷ []) held decided faults faults_after given given_after took took_after e
    large_ended held e end p pass first =
        let within = fault_within line_limit lines_limit pass.bytes pass.ends.at pass.ends.fault in
        record {
          settled = by held p;
          line = λ asked names. line_by asked (refused (too_large name) status.TooLarge) e end (second_file too_large first name (files_of asked) names);
          early = λ is. absurd (not_early (sym (ap is_early end.1) ∙ is));
          printed = (λ is. not_write (sym end.1 ∙ is), λ is. not_memory (sym end.1 ∙ is));
          worded = λ is. not_words (sym end.1 ∙ is);
          large = λ is. most pass.ends.at (length pass.bytes) pass.counted within.0 within.1;
          stops = λ is. absurd (not_read (sym end.1 ∙ is));
          whole = λ is. absurd (not_printed (sym (ap is_printed end.1) ∙ is));
        }
      where
        most : (at n : ℕ) → given_after ≡ given + n → at < n → (line_limit ≤ at) ⊎ (lines_limit ≤ at) → given + line_limit + 1 ≤ given_after
        most at n counted below (inl l) = omega (arith, counted, below, l)
        most at n counted below (inr l) = omega (arith, counted, below, l)

        not_early : is_early status.TooLarge ≡ true → ⊥
        not_early x = cc

        not_printed : is_printed status.TooLarge ≡ true → ⊥
        not_printed x = cc

        not_write : status.TooLarge ≡ status.WriteFault → ⊥
        not_write x = cc

        not_memory : status.TooLarge ≡ status.Memory → ⊥
        not_memory x = cc

        not_words : status.TooLarge ≡ status.WordsRefused → ⊥
        not_words x = cc

        not_read : status.TooLarge ≡ status.ReadFault → ⊥
        not_read x = cc

        by : (h : Held) → Picks h name rest → Settles h decided faults faults_after took took_after e
        by None q = λ is. absurd (not_read (sym end.1 ∙ is))
        by (Some files) q = large_decided files e end q pass

  -- ---- reading failed

  -- by a fault, or because the file is not there
  pub unread_ended : (held : Held) (e : Ending) → IsEndOf (refused (read_failed name) status.ReadFault) e → Settles held decided faults faults_after took took_after e
      → WhereTold held (λ files. given_after ≤ given + running.size_of files name) → (first : List ℕ) → LinesEnded (first ∷ name ∷ []) (name ∷ []) held decided faults faults_after given given_after took took_after e
  unread_ended held e end settled within first = record {
    settled = settled;
    line = λ asked names. line_by asked (refused (read_failed name) status.ReadFault) e end (second_file read_failed first name (files_of asked) names);
    early = λ is. absurd (not_early (sym (ap is_early end.1) ∙ is));
    printed = (λ is. not_write (sym end.1 ∙ is), λ is. not_memory (sym end.1 ∙ is));
    worded = λ is. not_words (sym end.1 ∙ is);
    large = λ is. absurd (not_large (sym end.1 ∙ is));
    stops = λ is. by held within;
    whole = λ is. absurd (not_printed (sym (ap is_printed end.1) ∙ is));
  }
    where
      by : (h : Held) → WhereTold h (λ files. given_after ≤ given + running.size_of files name) → WhereTold h (λ files. StopsAt files (name ∷ []) given given_after e.line)
      by None w = tt
      by (Some files) w = inl (end.0, w)

      not_early : is_early status.ReadFault ≡ true → ⊥
      not_early x = cc

      not_printed : is_printed status.ReadFault ≡ true → ⊥
      not_printed x = cc

      not_write : status.ReadFault ≡ status.WriteFault → ⊥
      not_write x = cc

      not_memory : status.ReadFault ≡ status.Memory → ⊥
      not_memory x = cc

      not_words : status.ReadFault ≡ status.WordsRefused → ⊥
      not_words x = cc

      not_large : status.ReadFault ≡ status.TooLarge → ⊥
      not_large x = cc

  pub rose_settles : (held : Held) (e : Ending) → e.status ≡ status.ReadFault → Rose faults faults_after → Settles held decided faults faults_after took took_after e
  rose_settles None e is rose = λ _. rose
  rose_settles (Some files) e is rose = inr (is, rose)
