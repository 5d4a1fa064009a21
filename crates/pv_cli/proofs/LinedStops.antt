-- What is known where the lines of a picked file were not answered to the end.
use Rattle.std.proofs.Common.{◌≡◌, ℕ, ◌+◌, ◌-◌, ◌<◌, ◌≤◌, Bool, true, false, List, [], ◌∷◌, ◌++◌, length, take, Option, Some, None, refl, sym, ap, ◌∙◌, subst, append_assoc, arith, length-append}
use Rattle.std.specs.Prelude.{◌≢◌, IfErr, IfOk, IfSome, IsErrOf, OnErr, OnOk, Result, Ok, Err, is_err, unwrap_or}
use Rattle.std.specs.Io.KnownBytes.{Appends}
use Rattle.std.proofs.lemmas.Grind.{flat_map-append}
use Rattle.pv_edge.specs.Cutting.{ended_lines, fault_place, lines_of}
use Rattle.pv_edge.specs.Files.{file}
use Rattle.pv_edge.specs.Picking.{Picks}
use Rattle.pv_edge.specs.Rising.{Rose}
use Rattle.pv_edge.specs.Sending.{SentInPart}
use Rattle.pv_line_mode.specs.OnePass.{AnsweredInPart, EndsBy, IsFront, OnePass, texts}
use Rattle.pv_line_mode.specs.declared.Stop.{Stop}
use Rattle.pv_line_mode.specs.declared.Stop.TheVariants as stop
use Rattle.pv_cli.specs.Answering.{LineMeaning, after_lines, answer_of, by_lines, of_lines}
use Rattle.pv_cli.specs.Asking.{line_limit, lines_limit}
use Rattle.pv_cli.specs.Documents.{validity}
use Rattle.pv_cli.specs.Passing.{PrintedOf, lined}
use Rattle.pv_cli.specs.Running as running
use Rattle.pv_cli.specs.Running.{Held, WhereTold}
use Rattle.pv_cli.specs.Steps.{IsEndBy, IsEndOf, LinesEnded, status_of}
use Rattle.pv_cli.specs.declared.answer.Answer.{Answer}
use Rattle.pv_cli.specs.declared.ending.Ending.{Ending}
use Rattle.pv_cli.specs.declared.ending.NoAnswer.{NoAnswer}
use Rattle.pv_cli.specs.declared.ending.NoAnswer.TheVariants as why
use Rattle.pv_cli.specs.declared.status.Status.{Status}
use Rattle.pv_cli.specs.declared.status.Status.TheVariants as status
use Rattle.pv_cli.proofs.LinedFiles.{Files, front_of, large_ended, left_of, none_printed, picked, rose_settles, unread_ended}

-- the answer's bytes are those of the lines, whatever ends them
out_after : (name : List ℕ) (m : LineMeaning) (lines : List (List ℕ)) (fault : Option ℕ) → (after_lines name m lines fault).out ≡ texts m.text lines
out_after name m lines None = refl
out_after name m lines (Some at) = refl

-- lines, a part of the answer to the next one, and what is missing, are all of the answers
in_parts : (text : List ℕ → List ℕ) (lines later : List (List ℕ)) (line part missing : List ℕ) → text line ≡ part ++ missing
    → texts text ((lines ++ line ∷ []) ++ later) ≡ (texts text lines ++ part) ++ (missing ++ texts text later)
in_parts text lines later line part missing e =
    ap (texts text) (append_assoc lines (line ∷ []) later) ∙ flat_map-append text lines (line ∷ later)
    ∙ ap (λ b. texts text lines ++ (b ++ texts text later)) e
    ∙ ap (λ b. texts text lines ++ b) (append_assoc part missing (texts text later))
    ∙ sym (append_assoc (texts text lines) part (missing ++ texts text later))

err_same : (n w : NoAnswer) → IsErrOf {T = Ending} (Err n) w → n ≡ w
err_same n w e = cc

not_read : status.Memory ≡ status.ReadFault → ⊥
not_read e = cc

not_write : status.WriteFault ≡ status.ReadFault → ⊥
not_write e = cc

module _ (name : List ℕ) (m : LineMeaning) (faults faults_after given given_after : ℕ) (took took_after : Option (List ℕ)) (rest rest_after : Option (List ℕ)) where
  abbrev decided : Files → Answer
  decided files = answer_of files (by_lines name m)

  abbrev Pass : (List ℕ → List (List ℕ) → List ℕ → Type 0) → Type 0
  Pass G = OnePass m.text line_limit lines_limit rest rest_after given given_after took took_after G

  -- what was printed of the file
  pub printed_of : (G : List ℕ → List (List ℕ) → List ℕ → Type 0) (held : Held) (end : Status) → Picks held name rest → (pass : Pass G) → (end ≢ status.WriteFault → pass.part ≡ []) → (end ≡ status.ReadFault → pass.lines ≡ ended_lines pass.bytes)
      → WhereTold held (λ files. PrintedOf took took_after (given_after - given) end (lined m (file files name)))
  printed_of G None end p pass whole ended = tt
  printed_of G (Some files) end p pass whole ended =
      let c = picked files name rest p in
      let l = left_of c.content pass.bytes rest rest_after c.left pass.taken in
      let count : given_after - given ≡ length pass.bytes = omega (arith, pass.counted) in
      subst (λ f. PrintedOf took took_after (given_after - given) end (lined m f)) (sym c.held) (record {
        lines = pass.lines;
        part = pass.part;
        first = subst (λ r. IfSome r (λ content. IsFront pass.lines (lines_of line_limit lines_limit content))) c.left pass.first;
        grew = pass.grew;
        delay = omega (arith, count, pass.delay);
        whole = whole;
        before_fault = λ is. ended is ∙ ap ended_lines (sym (ap (λ n. take n c.content) count ∙ front_of c.content pass.bytes l.more l.whole));
      })

  -- no more was given than the file has
  given_within : (G : List ℕ → List (List ℕ) → List ℕ → Type 0) (held : Held) → Picks held name rest → Pass G → WhereTold held (λ files. given_after ≤ given + running.size_of files name)
  given_within G None p pass = tt
  given_within G (Some files) p pass =
      let c = picked files name rest p in
      let l = left_of c.content pass.bytes rest rest_after c.left pass.taken in
      let size : running.size_of files name ≡ length c.content = ap (λ b. length (unwrap_or b [])) c.held in
      omega (arith, size, ap length l.whole, length-append pass.bytes l.more, pass.counted)

  -- a part of all answers was put
  part_of : (held : Held) → Picks held name rest → Pass (EndsBy (Err stop.WriteFailed) m.text m.valid line_limit lines_limit rest rest_after) → WhereTold held (λ files. SentInPart took took_after (decided files).out)
  part_of None p pass = tt
  part_of (Some files) p pass =
      let c = picked files name rest p in
      let ends = pass.ends in
      let next : IsFront (pass.lines ++ ends.line ∷ []) (lines_of line_limit lines_limit c.content) = subst (λ r. IfSome r (λ content. IsFront (pass.lines ++ ends.line ∷ []) (lines_of line_limit lines_limit content))) c.left ends.next in
      let all : (decided files).out ≡ (texts m.text pass.lines ++ pass.part) ++ (ends.missing ++ texts m.text next.later) =
      ap (λ f. (of_lines name m f).out) c.held
      ∙ out_after name m (lines_of line_limit lines_limit c.content) (fault_place line_limit lines_limit c.content)
      ∙ ap (texts m.text) next.whole ∙ in_parts m.text pass.lines next.later ends.line pass.part ends.missing ends.whole in
      record {
        rest = ends.missing ++ texts m.text next.later;
        sent = record { front = texts m.text pass.lines ++ pass.part; whole = all; taken = pass.grew };
        short = omega (arith, ends.some, length-append ends.missing (texts m.text next.later));
      }

  -- ---- by what stopped it

  pub stop_ended : (s : Stop) (r : Result Ending NoAnswer) (held : Held) → IsEndBy name s r → Picks held name rest → (IsErrOf {T = Bool} (Err s) stop.ReadFailed → Rose faults faults_after)
      → Pass (EndsBy (Err s) m.text m.valid line_limit lines_limit rest rest_after) → IfOk r (λ e. (first : List ℕ) → LinesEnded (first ∷ name ∷ []) (name ∷ []) held decided faults faults_after given given_after took took_after e)
  stop_ended stop.ReadFailed (Ok e) held end p cause pass = λ first. unread_ended name m faults faults_after given given_after took took_after held e end (rose_settles name m faults faults_after given given_after took took_after held e end.1 (cause refl)) (given_within _ held p pass) first
  stop_ended stop.TooLarge (Ok e) held end p cause pass = λ first. large_ended name m faults faults_after given given_after took took_after rest rest_after held e end p pass first
  stop_ended stop.Memory (Ok e) held end p cause pass = absurd end
  stop_ended stop.WriteFailed (Ok e) held end p cause pass = absurd end
  stop_ended stop.ReadFailed (Err n) held end p cause pass = tt
  stop_ended stop.TooLarge (Err n) held end p cause pass = tt
  stop_ended stop.Memory (Err n) held end p cause pass = tt
  stop_ended stop.WriteFailed (Err n) held end p cause pass = tt

  pub stop_part : (s : Stop) (r : Result Ending NoAnswer) (held : Held) → IsEndBy name s r → Picks held name rest → Pass (EndsBy (Err s) m.text m.valid line_limit lines_limit rest rest_after)
      → IsErrOf r why.WriteFailed → WhereTold held (λ files. SentInPart took took_after (decided files).out)
  stop_part s (Ok e) held end p pass is = cc
  stop_part stop.ReadFailed (Err n) held end p pass is = let wrong : why.Memory ≡ why.WriteFailed = sym end ∙ err_same n why.WriteFailed is in absurd (cc)
  stop_part stop.TooLarge (Err n) held end p pass is = let wrong : why.Memory ≡ why.WriteFailed = sym end ∙ err_same n why.WriteFailed is in absurd (cc)
  stop_part stop.Memory (Err n) held end p pass is = let wrong : why.Memory ≡ why.WriteFailed = sym end ∙ err_same n why.WriteFailed is in absurd (cc)
  stop_part stop.WriteFailed (Err n) held end p pass is = part_of held p pass

  pub stop_printed : (s : Stop) (r : Result Ending NoAnswer) (held : Held) → IsEndBy name s r → Picks held name rest → Pass (EndsBy (Err s) m.text m.valid line_limit lines_limit rest rest_after)
      → WhereTold held (λ files. PrintedOf took took_after (given_after - given) (status_of r) (lined m (file files name)))
  stop_printed stop.ReadFailed (Ok e) held end p pass = printed_of _ held e.status p pass (λ _. pass.ends.whole) (λ _. pass.ends.all)
  stop_printed stop.TooLarge (Ok e) held end p pass = printed_of _ held e.status p pass (λ _. pass.ends.whole) (λ is. let wrong : status.TooLarge ≡ status.ReadFault = sym end.1 ∙ is in absurd (cc))
  stop_printed stop.Memory (Ok e) held end p pass = absurd end
  stop_printed stop.WriteFailed (Ok e) held end p pass = absurd end
  stop_printed stop.ReadFailed (Err n) held end p pass = subst (λ n. WhereTold held (λ files. PrintedOf took took_after (given_after - given) (status_of (Err n)) (lined m (file files name)))) (sym end) (printed_of _ held status.Memory p pass (λ _. pass.ends.whole) (λ is. absurd (not_read is)))
  stop_printed stop.TooLarge (Err n) held end p pass = subst (λ n. WhereTold held (λ files. PrintedOf took took_after (given_after - given) (status_of (Err n)) (lined m (file files name)))) (sym end) (printed_of _ held status.Memory p pass (λ _. pass.ends.whole) (λ is. absurd (not_read is)))
  stop_printed stop.Memory (Err n) held end p pass = subst (λ n. WhereTold held (λ files. PrintedOf took took_after (given_after - given) (status_of (Err n)) (lined m (file files name)))) (sym end) (printed_of _ held status.Memory p pass (λ _. pass.ends) (λ is. absurd (not_read is)))
  stop_printed stop.WriteFailed (Err n) held end p pass = subst (λ n. WhereTold held (λ files. PrintedOf took took_after (given_after - given) (status_of (Err n)) (lined m (file files name)))) (sym end) (printed_of _ held status.WriteFault p pass (λ not. absurd (not refl)) (λ is. absurd (not_write is)))

-- ---- the name could not be picked

pub unpicked_printed : (name : List ℕ) (m : LineMeaning) (given given_after : ℕ) (took : Option (List ℕ)) (held : Held) (end : Status) → given_after ≡ given → WhereTold held (λ files. PrintedOf took took (given_after - given) end (lined m (file files name)))
unpicked_printed name m given given_after took None end same = tt
unpicked_printed name m given given_after took (Some files) end same = none_printed took (given_after - given) end (lined m (file files name)) (omega (arith, same))

-- ---- what a pick answers

pub on_ok : {A E : Type 0} (P : Type 0) (r : Result A E) → is_err r ≡ false → OnOk r P → P
on_ok P (Ok v) is p = p
on_ok P (Err e) is p = cc

-- the counts before the pick
pub from_given : (text : List ℕ → List ℕ) (rest rest_after : Option (List ℕ)) (given given_now given_after : ℕ) (took took_after : Option (List ℕ)) (G : List ℕ → List (List ℕ) → List ℕ → Type 0) → given_now ≡ given
    → OnePass text line_limit lines_limit rest rest_after given_now given_after took took_after G → OnePass text line_limit lines_limit rest rest_after given given_after took took_after G
from_given text rest rest_after given given_now given_after took took_after G e pass = subst (λ g. OnePass text line_limit lines_limit rest rest_after g given_after took took_after G) e pass
