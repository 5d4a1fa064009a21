-- How each end of reading leaves what was read and printed.
use Rattle.std.proofs.Common.{◌≡◌, ℕ, ◌+◌, ◌-◌, ◌≤◌, ◌⊎◌, Bool, true, false, ◌&&◌, List, [], ◌∷◌, ◌++◌, length, Option, Some, None, refl, sym, ap, ◌∙◌, subst, append_assoc, append-nil, arith, length-append}
use Rattle.std.specs.Prelude.{IfErr, IfSome, IsErrAnd, IsErrOf, Result, Ok, Err}
use Rattle.std.specs.List.{list_all}
use Rattle.std.specs.Io.KnownBytes.{Appends, Consumes, IsAtEnd}
use Rattle.std.proofs.lemmas.Grind.{flat_map-append}
use Rattle.std.proofs.Math.Bool.{and-true}
use Rattle.std.proofs.lemmas.List.Folds.{list_all-append}
use Rattle.pv_edge.specs.Cutting.{ended_lines, fault_place, further, lines_of}
use Rattle.pv_edge.specs.LinesState.{LinesState}
use Rattle.pv_edge.specs.Reading.{HandsEnded, HandsLast, HandsNone, IsTooLarge, IsUnended, NextGives, Takes}
use Rattle.pv_edge.specs.declared.line_fault.LineFault.{LineFault}
use Rattle.pv_edge.specs.declared.line_fault.LineFault.TheVariants as fault
use Rattle.pv_edge.specs.declared.lines.Next.{Next}
use Rattle.pv_edge.specs.declared.lines.Next.TheVariants as next
use Rattle.pv_edge.specs.Sending.{SentInPart}
use Rattle.pv_edge.proofs.LineOrder.{no_line, none_at_fault, none_ended, nothing_at_fault}
use Rattle.pv_edge.proofs.PutLemmas.{appends_more}
use Rattle.pv_edge.proofs.Staying.{no_line_comes}
use Rattle.pv_edge.proofs.Taking.{consumes_more, consumes_none, takes_so}
use Rattle.pv_line_mode.specs.OnePass.{AllAnswered, AllBeforeFault, AllEnded, AnsweredInPart, EndsBy, IsFront, OnePass, size_of, texts}
use Rattle.pv_line_mode.specs.Stops.{AnswerStops, stop_of}
use Rattle.pv_line_mode.specs.declared.stop.Stop.{Stop}
use Rattle.pv_line_mode.specs.declared.stop.Stop.TheVariants as stop
use Rattle.pv_line_mode.proofs.Reaching.{Reached, StaysClosed, all_first, fewer_of, no_bytes}

further_some : (n : ℕ) (p : Option ℕ) (at : ℕ) → p ≡ Some at → further n p ≡ Some (n + at)
further_some n p at e = ap (further n) e

-- what is known where a reader has no next line: what was before, and how much came since
pub record Stopped (line_limit file_limit : ℕ) (rest rest_now rest_after : Option (List ℕ)) (given given_now given_after : ℕ) (old new : LinesState) (done : List (List ℕ)) : Type 0 where
  pub reached : Reached line_limit file_limit rest rest_now given given_now old done
  pub closed : StaysClosed old new given_now given_after
  pub at_most : given_after + length old.waiting ≤ given_now + line_limit + 4096

-- what comes may come
comes : (old new : LinesState) (given given_after : ℕ) (more : List ℕ) → StaysClosed old new given given_after → given_after ≡ given + length more → old.closed ≡ true → more ≡ []
comes old new given given_after more stays counted closed = no_bytes more (omega (arith, (stays closed).1, counted))

-- nothing is printed yet
pub nothing_yet : (took : Option (List ℕ)) → Appends took took []
nothing_yet None = tt
nothing_yet (Some bytes) = sym (append-nil bytes)

-- nothing was read, and no memory is left to begin with
pub none_begun : (text : List ℕ → List ℕ) (line_limit file_limit : ℕ) (rest : Option (List ℕ)) (given : ℕ) (took : Option (List ℕ)) → OnePass text line_limit file_limit rest rest given given took took (λ bytes lines part. part ≡ [])
none_begun text line_limit file_limit rest given took = record {
  bytes = [];
  lines = [];
  part = [];
  taken = consumes_none rest;
  counted = omega arith;
  first = by rest;
  grew = nothing_yet took;
  delay = omega arith;
  ends = refl;
}
  where
    by : (r : Option (List ℕ)) → IfSome r (λ content. IsFront [] (lines_of line_limit file_limit content))
    by None = tt
    by (Some content) = record { later = lines_of line_limit file_limit content; whole = refl }

module _ (text : List ℕ → List ℕ) (line_limit file_limit : ℕ) (rest rest_now rest_after : Option (List ℕ)) (given given_now given_after : ℕ) (took took_now : Option (List ℕ)) (old new : LinesState) (done : List (List ℕ)) where
  -- what is said at each end without a next line
  ends : (G : List ℕ → List (List ℕ) → List ℕ → Type 0) → (s : Stopped line_limit file_limit rest rest_now rest_after given given_now given_after old new done) → Appends took took_now (texts text done)
      → (more : List ℕ) → Consumes rest_now rest_after more → given_after ≡ given_now + length more → G (s.reached.bytes ++ more) done []
      → OnePass text line_limit file_limit rest rest_after given given_after took took_now G
  ends G s grew more taken counted g =
      let r = s.reached in
      record {
        bytes = r.bytes ++ more;
        lines = done;
        part = [];
        taken = consumes_more rest rest_now rest_after r.bytes more r.taken taken;
        counted = omega (arith, r.counted, counted, length-append r.bytes more);
        first = all_first line_limit file_limit rest rest_now given given_now old done r;
        grew = subst (Appends took took_now) (sym (append-nil (texts text done))) grew;
        delay = omega (arith, r.split, r.size, s.at_most, counted, length-append r.bytes more);
        ends = g;
      }

  -- all lines that there are now
  lines_now : (s : Stopped line_limit file_limit rest rest_now rest_after given given_now given_after old new done) (more : List ℕ) → given_after ≡ given_now + length more
      → lines_of line_limit file_limit (s.reached.bytes ++ more) ≡ done ++ lines_of line_limit (file_limit - old.place) (old.waiting ++ more)
  lines_now s more counted =
      let r = s.reached in
      ap (lines_of line_limit file_limit) (sym (append-nil (r.bytes ++ more)) ∙ append_assoc r.bytes more [])
      ∙ r.lines (more ++ []) (λ closed. append-nil more ∙ comes old new given_now given_after more s.closed counted closed)
      ∙ ap (λ b. done ++ lines_of line_limit (file_limit - old.place) (old.waiting ++ b)) (append-nil more)

  fault_now : (s : Stopped line_limit file_limit rest rest_now rest_after given given_now given_after old new done) (more : List ℕ) → given_after ≡ given_now + length more
      → fault_place line_limit file_limit (s.reached.bytes ++ more) ≡ further old.place (fault_place line_limit (file_limit - old.place) (old.waiting ++ more))
  fault_now s more counted =
      let r = s.reached in
      ap (fault_place line_limit file_limit) (sym (append-nil (r.bytes ++ more)) ∙ append_assoc r.bytes more [])
      ∙ r.fault (more ++ []) (λ closed. append-nil more ∙ comes old new given_now given_after more s.closed counted closed)
      ∙ ap (λ b. further old.place (fault_place line_limit (file_limit - old.place) (old.waiting ++ b))) (append-nil more)

  -- the file has ended
  all_answered : (valid : List ℕ → Bool) (v : Bool) → Stopped line_limit file_limit rest rest_now rest_after given given_now given_after old new done → Appends took took_now (texts text done) → v ≡ list_all valid done
      → (new.closed ≡ true → IsAtEnd rest_after) → Takes rest_now rest_after given_now given_after (λ more. HandsNone (old.waiting ++ more) new)
      → OnePass text line_limit file_limit rest rest_after given given_after took took_now (AllAnswered valid line_limit file_limit rest_after v)
  all_answered valid v s grew good end t =
      ends _ s grew t.more t.taken t.counted (record {
        end = end t.gives.closed;
        none = fault_now s t.more t.counted ∙ ap (λ b. further old.place (fault_place line_limit (file_limit - old.place) b)) t.gives.none ∙ ap (further old.place) (nothing_at_fault line_limit (file_limit - old.place));
        all = sym (lines_now s t.more t.counted ∙ ap (λ b. done ++ lines_of line_limit (file_limit - old.place) b) t.gives.none ∙ ap (λ ls. done ++ ls) (no_line line_limit (file_limit - old.place)) ∙ append-nil done);
        whole = refl;
        judged = good;
      })

  -- a byte at fault came
  fault_came : Stopped line_limit file_limit rest rest_now rest_after given given_now given_after old new done → Appends took took_now (texts text done)
      → Takes rest_now rest_after given_now given_after (λ more. IsTooLarge old.line_limit old.file_limit old.place (old.waiting ++ more))
      → OnePass text line_limit file_limit rest rest_after given given_after took took_now (AllBeforeFault line_limit file_limit)
  fault_came s grew t =
      let large : IsTooLarge line_limit file_limit old.place (old.waiting ++ t.more) = subst (λ l. IsTooLarge l file_limit old.place (old.waiting ++ t.more)) s.reached.lines_limited (subst (λ f. IsTooLarge old.line_limit f old.place (old.waiting ++ t.more)) s.reached.file_limited t.gives) in
      ends _ s grew t.more t.taken t.counted (record {
        at = old.place + large.at;
        fault = fault_now s t.more t.counted ∙ ap (further old.place) large.fault;
        all = sym (lines_now s t.more t.counted ∙ ap (λ ls. done ++ ls) (no_line_comes line_limit file_limit old.place (old.waiting ++ t.more) large) ∙ append-nil done);
        whole = refl;
      })

  -- a read failed
  read_failed : Stopped line_limit file_limit rest rest_now rest_after given given_now given_after old new done → Appends took took_now (texts text done) → new.closed ≡ false
      → Takes rest_now rest_after given_now given_after (λ more. IsUnended old.line_limit old.file_limit old.place (old.waiting ++ more))
      → OnePass text line_limit file_limit rest rest_after given given_after took took_now (AllEnded line_limit file_limit)
  read_failed s grew goes t =
      let unended : IsUnended line_limit file_limit old.place (old.waiting ++ t.more) = subst (λ l. IsUnended l file_limit old.place (old.waiting ++ t.more)) s.reached.lines_limited (subst (λ f. IsUnended old.line_limit f old.place (old.waiting ++ t.more)) s.reached.file_limited t.gives) in
      ends _ s grew t.more t.taken t.counted (record {
        none = fault_now s t.more t.counted ∙ ap (further old.place) (none_at_fault line_limit file_limit old.place (old.waiting ++ t.more) unended);
        all = sym (s.reached.ended (was_open old.closed refl) t.more ∙ ap (λ ls. done ++ ls) (none_ended line_limit file_limit old.place (old.waiting ++ t.more) unended) ∙ append-nil done);
        whole = refl;
      })
    where
      was_open : (b : Bool) → old.closed ≡ b → old.closed ≡ false
      was_open false is = is
      was_open true is = let wrong : true ≡ false = sym (s.closed is).0 ∙ goes in absurd (cc)

  -- the next line was handed out, and its answer was not put whole
  stops_at : (G : List ℕ → List (List ℕ) → List ℕ → Type 0) → Stopped line_limit file_limit rest rest_now rest_after given given_now given_after old new done → Appends took took_now (texts text done)
      → (after : Reached line_limit file_limit rest rest_after given given_after new (done ++ new.line ∷ [])) (took_after : Option (List ℕ)) (part : List ℕ) → Appends took_now took_after part → G after.bytes done part
      → OnePass text line_limit file_limit rest rest_after given given_after took took_after G
  stops_at G s grew after took_after part puts g = record {
    bytes = after.bytes;
    lines = done;
    part = part;
    taken = after.taken;
    counted = after.counted;
    first = fewer_of rest done new.line (lines_of line_limit file_limit) (all_first line_limit file_limit rest rest_after given given_after new (done ++ new.line ∷ []) after);
    grew = appends_more took took_now took_after (texts text done) part grew puts;
    delay = omega (arith, s.reached.split, s.reached.size, s.reached.counted, s.at_most, after.counted);
    ends = g;
  }

  no_memory : Stopped line_limit file_limit rest rest_now rest_after given given_now given_after old new done → Appends took took_now (texts text done)
      → Reached line_limit file_limit rest rest_after given given_after new (done ++ new.line ∷ []) → (took_after : Option (List ℕ)) → Appends took_now took_after []
      → OnePass text line_limit file_limit rest rest_after given given_after took took_after (λ bytes lines part. part ≡ [])
  no_memory s grew after took_after puts = stops_at _ s grew after took_after [] puts refl

  in_part : Stopped line_limit file_limit rest rest_now rest_after given given_now given_after old new done → Appends took took_now (texts text done)
      → Reached line_limit file_limit rest rest_after given given_after new (done ++ new.line ∷ []) → (took_after : Option (List ℕ)) → SentInPart took_now took_after (text new.line)
      → OnePass text line_limit file_limit rest rest_after given given_after took took_after (AnsweredInPart text line_limit file_limit rest)
  in_part s grew after took_after sent =
      stops_at _ s grew after took_after sent.sent.front sent.sent.taken (record {
        line = new.line;
        missing = sent.rest;
        whole = sent.sent.whole;
        some = sent.short;
        next = all_first line_limit file_limit rest rest_after given given_after new (done ++ new.line ∷ []) after;
      })

  -- ---- what is said by what the calls answer

  -- the reader tells the end
  pub at_end : (valid : List ℕ → Bool) (v : Bool) (n : Next) → n ≡ next.End → Stopped line_limit file_limit rest rest_now rest_after given given_now given_after old new done → Appends took took_now (texts text done) → v ≡ list_all valid done
      → (new.closed ≡ true → IsAtEnd rest_after) → Takes rest_now rest_after given_now given_after (λ more. NextGives (Ok n) (old.waiting ++ more) old new)
      → OnePass text line_limit file_limit rest rest_after given given_after took took_now (EndsBy (Ok v) text valid line_limit file_limit rest rest_after)
  at_end valid v n is s grew good end t = all_answered valid v s grew good end (subst (λ n. Takes rest_now rest_after given_now given_after (λ more. NextGives (Ok n) (old.waiting ++ more) old new)) is t)

  -- the reader has no next line
  no_next_by : (valid : List ℕ → Bool) (f : LineFault) → Stopped line_limit file_limit rest rest_now rest_after given given_now given_after old new done → Appends took took_now (texts text done)
      → (f ≡ fault.Failed → new.closed ≡ false) → Takes rest_now rest_after given_now given_after (λ more. NextGives (Err f) (old.waiting ++ more) old new)
      → OnePass text line_limit file_limit rest rest_after given given_after took took_now (EndsBy (Err (stop_of f)) text valid line_limit file_limit rest rest_after)
  no_next_by valid fault.Failed s grew shut t = read_failed s grew (shut refl) (takes_so rest_now rest_after given_now given_after (λ more. NextGives (Err fault.Failed) (old.waiting ++ more) old new) (λ more. IsUnended old.line_limit old.file_limit old.place (old.waiting ++ more)) t (λ more h. h.0))
  no_next_by valid fault.TooLarge s grew shut t = fault_came s grew (takes_so rest_now rest_after given_now given_after (λ more. NextGives (Err fault.TooLarge) (old.waiting ++ more) old new) (λ more. IsTooLarge old.line_limit old.file_limit old.place (old.waiting ++ more)) t (λ more h. h.0))

  pub no_next : (valid : List ℕ → Bool) (f : LineFault) (r : Result Bool Stop) → IsErrAnd r (λ e. e ≡ stop_of f) → Stopped line_limit file_limit rest rest_now rest_after given given_now given_after old new done → Appends took took_now (texts text done)
      → (f ≡ fault.Failed → new.closed ≡ false) → Takes rest_now rest_after given_now given_after (λ more. NextGives (Err f) (old.waiting ++ more) old new)
      → OnePass text line_limit file_limit rest rest_after given given_after took took_now (EndsBy r text valid line_limit file_limit rest rest_after)
  no_next valid f (Ok v) is s grew shut t = absurd is
  no_next valid f (Err e) is s grew shut t = subst (λ e. OnePass text line_limit file_limit rest rest_after given given_after took took_now (EndsBy (Err e) text valid line_limit file_limit rest rest_after)) (sym is) (no_next_by valid f s grew shut t)

  -- the answer to the next line was not put
  unanswered_by : (valid : List ℕ → Bool) (e : Stop) → Stopped line_limit file_limit rest rest_now rest_after given given_now given_after old new done → Appends took took_now (texts text done)
      → Reached line_limit file_limit rest rest_after given given_after new (done ++ new.line ∷ []) → (took_after : Option (List ℕ)) → AnswerStops e took_now took_after (text new.line)
      → OnePass text line_limit file_limit rest rest_after given given_after took took_after (EndsBy (Err e) text valid line_limit file_limit rest rest_after)
  unanswered_by valid stop.Memory s grew after took_after stops = no_memory s grew after took_after stops
  unanswered_by valid stop.WriteFailed s grew after took_after stops = in_part s grew after took_after stops
  unanswered_by valid stop.ReadFailed s grew after took_after stops = absurd stops
  unanswered_by valid stop.TooLarge s grew after took_after stops = absurd stops

  pub unanswered : (valid : List ℕ → Bool) (e : Stop) (r : Result Bool Stop) → IsErrAnd r (λ x. x ≡ e) → Stopped line_limit file_limit rest rest_now rest_after given given_now given_after old new done → Appends took took_now (texts text done)
      → Reached line_limit file_limit rest rest_after given given_after new (done ++ new.line ∷ []) → (took_after : Option (List ℕ)) → AnswerStops e took_now took_after (text new.line)
      → OnePass text line_limit file_limit rest rest_after given given_after took took_after (EndsBy r text valid line_limit file_limit rest rest_after)
  unanswered valid e (Ok v) is s grew after took_after stops = absurd is
  unanswered valid e (Err x) is s grew after took_after stops = subst (λ x. OnePass text line_limit file_limit rest rest_after given given_after took took_after (EndsBy (Err x) text valid line_limit file_limit rest rest_after)) (sym is) (unanswered_by valid e s grew after took_after stops)

  -- what is known there
  pub stopped : Reached line_limit file_limit rest rest_now given given_now old done → StaysClosed old new given_now given_after → given_after + length old.waiting ≤ given_now + old.line_limit + 4096
      → Stopped line_limit file_limit rest rest_now rest_after given given_now given_after old new done
  stopped r closed most = record { reached = r; closed = closed; at_most = omega (arith, r.lines_limited, most) }

-- the reader hands out a line
pub handed_out : (rest_now rest_after : Option (List ℕ)) (given_now given_after : ℕ) (old new : LinesState) (n : Next) → n ≡ next.Line → Takes rest_now rest_after given_now given_after (λ more. NextGives (Ok n) (old.waiting ++ more) old new)
    → Takes rest_now rest_after given_now given_after (λ more. HandsEnded (old.waiting ++ more) old new ⊎ HandsLast (old.waiting ++ more) old new)
handed_out rest_now rest_after given_now given_after old new n is t = subst (λ n. Takes rest_now rest_after given_now given_after (λ more. NextGives (Ok n) (old.waiting ++ more) old new)) is t

-- no memory is left to begin with
pub not_begun : (text : List ℕ → List ℕ) (valid : List ℕ → Bool) (line_limit file_limit : ℕ) (rest : Option (List ℕ)) (given : ℕ) (took : Option (List ℕ)) (r : Result Bool Stop) → IsErrAnd r (λ e. e ≡ stop.Memory)
    → OnePass text line_limit file_limit rest rest given given took took (EndsBy r text valid line_limit file_limit rest rest)
not_begun text valid line_limit file_limit rest given took (Ok v) is = absurd is
not_begun text valid line_limit file_limit rest given took (Err e) is = subst (λ e. OnePass text line_limit file_limit rest rest given given took took (EndsBy (Err e) text valid line_limit file_limit rest rest)) (sym is) (none_begun text line_limit file_limit rest given took)

-- ---- what is printed of one line more

-- all lines are valid where those before are, and the last
pub judged_more : (valid : List ℕ → Bool) (done : List (List ℕ)) (line : List ℕ) (v good : Bool) → v ≡ list_all valid done → good ≡ valid line → (v && good) ≡ list_all valid (done ++ line ∷ [])
judged_more valid done line v good p q =
    ap (λ b. b && good) p ∙ ap (λ b. list_all valid done && b) (q ∙ sym (and-true (valid line))) ∙ sym (list_all-append valid done (line ∷ []))

pub texts_more : (text : List ℕ → List ℕ) (took took_now took_after : Option (List ℕ)) (done : List (List ℕ)) (line : List ℕ) → Appends took took_now (texts text done) → Appends took_now took_after (text line) → Appends took took_after (texts text (done ++ line ∷ []))
texts_more text took took_now took_after done line p q =
    subst (Appends took took_after) (ap (λ t. texts text done ++ t) (sym (append-nil (text line))) ∙ sym (flat_map-append text done (line ∷ []))) (appends_more took took_now took_after (texts text done) (text line) p q)

-- which of two is told
pub told_of_valid : (v good told : Bool) → v ≡ true → told ≡ good → told ≡ (v && good)
told_of_valid v good told is e = rw is e

pub told_of_invalid : (v good told : Bool) → v ≡ false → told ≡ v → told ≡ (v && good)
told_of_invalid v good told is e = e ∙ is ∙ sym (ap (λ b. b && good) is)
