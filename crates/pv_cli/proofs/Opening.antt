-- A schema file is opened, and what follows it is answered.
use Rattle.std.proofs.Common.{◌≡◌, ℕ, ◌+◌, ◌-◌, ◌<◌, ◌≤◌, Bool, true, false, List, [], ◌∷◌, ◌++◌, length, Option, Some, None, refl, sym, ap, ◌∙◌, subst, inl, inr, arith}
use Rattle.std.specs.Prelude.{◌≢◌, IsSome, IfOk, Result, Ok, Err, unwrap_or}
use Rattle.std.specs.Io.KnownBytes.{Appends}
use Rattle.std.proofs.lemmas.Bool.{le-leb}
use Rattle.pv_edge.specs.Files.{file}
use Rattle.pv_edge.specs.Loading.{GivesUpToEnd, IsContent, IsOverLimit, LoadFails}
use Rattle.pv_edge.specs.Rising.{Rose}
use Rattle.pv_edge.specs.Sending.{SentInPart}
use Rattle.pv_edge.specs.declared.LoadFault.{LoadFault}
use Rattle.pv_edge.specs.declared.LoadFault.TheVariants as fault
use Rattle.pv_json_grammar.specs.Documents.{reading}
use Rattle.pv_line_mode.proofs.Ending.{nothing_yet}
use Rattle.pv_func.specs.Functions.{Named, Meaning}
use Rattle.pv_node.specs.declared.Node.{Node}
use Rattle.pv_command.specs.declared.Asked.{Asked}
use Rattle.pv_cli.specs.Answering.{LineMeaning, Reads, a_file, answer_of, by_lines, line_meaning, of_schema, reads_lines, reads_schema, schema_or_answer}
use Rattle.pv_cli.specs.Asking.{file_limit, files_of}
use Rattle.pv_cli.specs.Documents.{refused}
use Rattle.pv_cli.specs.Lines.{IsOfFile, read_failed, too_large}
use Rattle.pv_cli.specs.Passing.{Passes, PrintedOf, first_size, lined, lined_file}
use Rattle.pv_cli.specs.Running.{Held, Replies, StopsAt, WhereTold, is_printed, size_of}
use Rattle.pv_cli.specs.SchemaFiles.{schema_file}
use Rattle.pv_cli.specs.Steps.{IsEndOf, IsRefusal, IsSchemaFile, LinesEnded, Opens, SchemaAnswers, Settles, shown}
use Rattle.pv_cli.specs.declared.answer.Answer.{Answer}
use Rattle.pv_cli.specs.declared.ending.Ending.{Ending}
use Rattle.pv_cli.specs.declared.schema.SchemaStep.{SchemaStep}
use Rattle.pv_cli.specs.declared.schema.SchemaStep.TheVariants.{Served, Answered}
use Rattle.pv_cli.specs.declared.status.Status.{Status}
use Rattle.pv_cli.specs.declared.status.Status.TheVariants as status
use Rattle.pv_cli.proofs.LinedFiles.{Files, none_printed}
use Rattle.pv_cli.proofs.Replies.{decided, failed_by, loaded, of_loaded, refusal_line, refusal_reply, refusal_stops, sooner}
use Rattle.pv_cli.proofs.Shapes.{answer_told, schema_unprinted}

module _ (functions : Named Meaning) (name : List ℕ) (held : Held) (faults faults_now given given_now : ℕ) where
  -- ---- the schema file was loaded

  served_by : (h : Held) (plan : Node) (bytes : List ℕ) → Ok plan ≡ schema_or_answer (schema_file functions (reading 128 bytes)) → IsContent h name bytes → length bytes ≤ file_limit → given_now ≡ given + length bytes
      → WhereTold h (λ files. IsSchemaFile files functions name plan × (given_now ≡ given + size_of files name))
  served_by None plan bytes told is small all = tt
  served_by (Some files) plan bytes told is small all =
      let size : size_of files name ≡ length bytes = ap (λ b. length (unwrap_or b [])) is in
      (record { bytes = bytes; content = is; small = small; serves = sym told }, omega (arith, size, all))

  answered_by : (a : Answer) (bytes : List ℕ) → Err a ≡ schema_or_answer (schema_file functions (reading 128 bytes)) → IsContent held name bytes → length bytes ≤ file_limit
      → SchemaAnswers held functions name faults faults_now given given_now a
  answered_by a bytes told is small =
      let u = schema_unprinted (schema_file functions (reading 128 bytes)) a (sym told) in
      record {
        reply = λ next. loaded held name bytes file_limit (λ content. of_schema next (schema_or_answer (schema_file functions (reading 128 content)))) faults faults_now a is small
            (decided held (λ files. answer_of files (of_schema next (schema_or_answer (schema_file functions (reading 128 bytes))))) faults faults_now a u.settled.read
            (λ files. ap (λ r. answer_of files (of_schema next r)) told));
        line = λ asked names is. u.settled.line asked;
        silent = u.none;
        unprinted = λ e. u.silent e;
        worded = λ e. u.settled.worded e;
        answers = answer_told a.status a.out u.settled.out;
        large = λ e. absurd (u.settled.small e);
        stops = λ names e. absurd (u.settled.read e);
      }

  pub opened : (s : SchemaStep) (bytes : List ℕ) → shown s ≡ schema_or_answer (schema_file functions (reading 128 bytes)) → IsContent held name bytes → length bytes ≤ file_limit → given_now ≡ given + length bytes
      → Opens s held functions name faults faults_now given given_now
  opened (Served plan) bytes told is small all = served_by held plan bytes told is small all
  opened (Answered a) bytes told is small all = answered_by a bytes told is small

-- ---- what follows a schema file

served_same : (files : Files) (functions : Named Meaning) (name : List ℕ) (plan : Node) (next : Node → Reads) → IsSchemaFile files functions name plan → answer_of files (reads_schema functions name next) ≡ answer_of files (next plan)
served_same files functions name plan next s =
    of_loaded files name s.bytes file_limit (λ content. of_schema next (schema_or_answer (schema_file functions (reading 128 content)))) s.content s.small ∙ ap (λ r. answer_of files (of_schema next r)) s.serves

lined_same : (files : Files) (functions : Named Meaning) (name : List ℕ) (plan : Node) (next : Node → Reads) → IsSchemaFile files functions name plan → lined_file files (reads_schema functions name next) ≡ lined_file files (next plan)
lined_same files functions name plan next s = rw (s.content, le-leb (length s.bytes) file_limit s.small, s.serves) refl

module _ (functions : Named Meaning) (name document : List ℕ) (strict : Option Bool) (plan : Node) (faults faults_now faults_after given given_now given_after : ℕ) (took took_after : Option (List ℕ)) where
  abbrev all : Reads
  all = reads_schema functions name (reads_lines functions strict document)

  abbrev behind : Reads
  behind = reads_lines functions strict document plan

  settled_by : (h : Held) (e : Ending) → WhereTold h (λ files. IsSchemaFile files functions name plan × (given_now ≡ given + size_of files name)) → faults ≤ faults_now → Settles h (λ files. answer_of files behind) faults_now faults_after took took_after e
      → Settles h (λ files. answer_of files all) faults faults_after took took_after e
  settled_by None e s later t = λ is. sooner faults faults_now faults_after later (t is)
  settled_by (Some files) e s later (inl d) = inl (subst (λ a. IsEndOf a e × Appends took took_after a.out) (sym (served_same files functions name plan (reads_lines functions strict document) s.0)) d)
  settled_by (Some files) e s later (inr r) = inr (r.0, sooner faults faults_now faults_after later r.1)

  stops_by : (h : Held) (text : List ℕ) → WhereTold h (λ files. IsSchemaFile files functions name plan × (given_now ≡ given + size_of files name)) → given_now ≤ given_after → WhereTold h (λ files. StopsAt files (document ∷ []) given_now given_after text)
      → WhereTold h (λ files. StopsAt files (name ∷ document ∷ []) given given_after text)
  stops_by None text s rises t = tt
  stops_by (Some files) text s rises t =
      let there : IsSome (file files name) = rw s.0.content refl in
      inr (there, omega (arith, s.1, rises), subst (λ n. StopsAt files (document ∷ []) n given_after text) s.1 t)

  whole_by : (h : Held) → WhereTold h (λ files. IsSchemaFile files functions name plan × (given_now ≡ given + size_of files name)) → WhereTold h (λ files. given_after ≡ given_now + (size_of files document + 0))
      → WhereTold h (λ files. given_after ≡ given + (size_of files name + (size_of files document + 0)))
  whole_by None s t = tt
  whole_by (Some files) s t = omega (arith, s.1, t)

  pub lines_ended : (held : Held) (e : Ending) → WhereTold held (λ files. IsSchemaFile files functions name plan × (given_now ≡ given + size_of files name)) → faults ≤ faults_now → given ≤ given_now → given_now ≤ given_after
      → LinesEnded (name ∷ document ∷ []) (document ∷ []) held (λ files. answer_of files behind) faults_now faults_after given_now given_after took took_after e
      → LinesEnded (name ∷ document ∷ []) (name ∷ document ∷ []) held (λ files. answer_of files all) faults faults_after given given_after took took_after e
  lines_ended held e s later rises rises_on l = record {
    settled = settled_by held e s later l.settled;
    line = l.line;
    early = l.early;
    printed = l.printed;
    worded = l.worded;
    large = λ is. omega (arith, rises, l.large is);
    stops = λ is. stops_by held e.line s rises_on (l.stops is);
    whole = λ is. whole_by held s (l.whole is);
  }

  pub lines_passed : (held : Held) (end : Status) → WhereTold held (λ files. IsSchemaFile files functions name plan × (given_now ≡ given + size_of files name)) → WhereTold held (λ files. PrintedOf took took_after (given_after - given_now) end (lined (line_meaning functions strict plan) (file files document)))
      → WhereTold held (λ files. Passes files all (name ∷ document ∷ []) given given_after took took_after end)
  lines_passed None end s t = tt
  lines_passed (Some files) end s t =
      let n : given_after - given_now ≡ given_after - given - size_of files name = omega (arith, s.1) in
      subst (λ f. PrintedOf took took_after (given_after - given - size_of files name) end f) (sym (lined_same files functions name plan (reads_lines functions strict document) s.0))
      (subst (λ n. PrintedOf took took_after n end (lined (line_meaning functions strict plan) (file files document))) n t)

-- ---- nothing follows it

pub nothing_passed : (reads : Reads) (name : List ℕ) (names : List (List ℕ)) (given given_now : ℕ) (took : Option (List ℕ)) (end : Status) (held : Held) → WhereTold held (λ files. given_now ≤ given + size_of files name)
    → WhereTold held (λ files. Passes files reads (name ∷ names) given given_now took took end)
nothing_passed reads name names given given_now took end None w = tt
nothing_passed reads name names given given_now took end (Some files) w = none_printed took (given_now - given - size_of files name) end (lined_file files reads) (omega (arith, w))

abbrev pub end_of : Answer → Ending
end_of a = record { line = a.line; status = a.status }

answer_settles : (held : Held) (f : Files → Answer) (faults faults_now : ℕ) (took : Option (List ℕ)) (a : Answer) → a.out ≡ [] → Replies held f faults faults_now a → Settles held f faults faults_now took took (end_of a)
answer_settles None f faults faults_now took a none r = r
answer_settles (Some files) f faults faults_now took a none (inl e) = inl (subst (λ x. IsEndOf x (end_of a) × Appends took took x.out) e ((refl, refl), subst (λ b. Appends took took b) (sym none) (nothing_yet took)))
answer_settles (Some files) f faults faults_now took a none (inr r) = inr r

pub schema_ends : (functions : Named Meaning) (name document : List ℕ) (next : Node → Reads) (held : Held) (faults faults_now given given_now : ℕ) (took : Option (List ℕ)) (a : Answer) → SchemaAnswers held functions name faults faults_now given given_now a
    → LinesEnded (name ∷ document ∷ []) (name ∷ document ∷ []) held (λ files. answer_of files (reads_schema functions name next)) faults faults_now given given_now took took (end_of a)
schema_ends functions name document next held faults faults_now given given_now took a s = record {
  settled = answer_settles held (λ files. answer_of files (reads_schema functions name next)) faults faults_now took a s.silent (s.reply next);
  line = λ asked names. s.line asked (document ∷ []) names;
  early = λ is. nothing_yet took;
  printed = s.answers;
  worded = s.worded;
  large = λ is. omega (arith, s.large is);
  stops = λ is. s.stops (document ∷ []) is;
  whole = λ is. absurd (s.unprinted is);
}

-- nothing was read
pub unread_passes : (reads : Reads) (names : List (List ℕ)) (given : ℕ) (took : Option (List ℕ)) (end : Status) (held : Held) → WhereTold held (λ files. Passes files reads names given given took took end)
unread_passes reads names given took end None = tt
unread_passes reads names given took end (Some files) = none_printed took (given - given - first_size files names) end (lined_file files reads) (omega arith)
