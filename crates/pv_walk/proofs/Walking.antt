-- Steps on the path, and errors that are added below it.
use Rattle.std.proofs.Common.{◌≡◌, ℕ, List, [], ◌∷◌, ◌++◌, Option, Some, None, length, take, refl, sym, ap, subst, ◌∙◌, append-nil, append_assoc, arith}
use Rattle.std.proofs.Math.Seq.{take-append_seam}
use Rattle.std.proofs.lemmas.List.{map-append, nil_from_length, length-map, length-append}
use Rattle.std.specs.Prelude.{Result, Ok, Err}
use Rattle.pv_text.specs.declared.Memory.{Memory}
use Rattle.pv_tree.specs.declared.Step.{Step}
use Rattle.pv_fault.specs.declared.LineError.{LineError}
use Rattle.pv_fault.specs.declared.Good as good
use Rattle.pv_fault.specs.declared.Outcome.{Outcome}
use Rattle.pv_fault.specs.declared.Outcome.TheVariants.{Good, Bad}
use Rattle.pv_fault.specs.Under.{under, all_under, at_path, all_at_path, outcome_under}
use Rattle.pv_collect.specs.Gathering.{errors_of}
use Rattle.pv_collect.specs.Kept.{good_of}
use Rattle.pv_walk.specs.declared.out.Out.{Out}
use Rattle.pv_walk.specs.Walks.{Adds, written, Walked, Walks, outcome_of}

-- THE LAW: a step at the end of the path is a step in front of each error
step_past : (path : List Step) (s : Step) (es : List LineError) → all_at_path (path ++ s ∷ []) es ≡ all_at_path path (all_under s es)
step_past path s [] = refl
step_past path s (e ∷ es) =
    ap (λ l. (let x : LineError = record { kind = e.kind; loc = l; input = e.input } in x) ∷ all_at_path (path ++ s ∷ []) es) (append_assoc path (s ∷ []) e.loc)
    ∙ ap (λ more. at_path path (under s e) ∷ more) (step_past path s es)

written_past : (path : List Step) (s : Step) (errors : List LineError) (o : Outcome) → written (path ++ s ∷ []) errors o ≡ written path errors (outcome_under s o)
written_past path s errors (Good v g n) = refl
written_past path s errors (Bad es) = ap (λ more. errors ++ more) (step_past path s es)

pub good_past : (s : Step) (o : Outcome) → good_of o ≡ good_of (outcome_under s o)
good_past s (Good v g n) = refl
good_past s (Bad es) = refl

pub path_back : (old pushed new : List Step) (cut : List Step) (s : Step) (n : ℕ) → n ≡ length old → pushed ≡ old ++ s ∷ [] → new ≡ pushed → cut ≡ take n new → cut ≡ old
path_back old pushed new cut s n len push same back =
    back ∙ ap (take n) (same ∙ push) ∙ ap (λ k. take k (old ++ s ∷ [])) len ∙ take-append_seam old (s ∷ [])

-- push a step, walk, cut the path back
pub stepped : (old pushed new back : Out) (s : Step) (n : ℕ) (found : Option good.Good) (o : Outcome)
    → n ≡ length old.path → pushed.path ≡ old.path ++ s ∷ [] → pushed.errors ≡ old.errors → Walked pushed new found o
    → back.path ≡ take n new.path → back.errors ≡ new.errors → Walked old back found (outcome_under s o)
stepped old pushed new back s n found o len path errors w cut kept = record {
  path = path_back old.path pushed.path new.path back.path s n len path w.path cut;
  answer = w.answer ∙ good_past s o;
  errors = kept ∙ w.errors ∙ ap (λ p. written p pushed.errors o) path ∙ ap (λ es. written (old.path ++ s ∷ []) es o) errors ∙ written_past old.path s old.errors o;
}

-- what a walk writes, as errors that are added
pub written_as : (path : List Step) (es : List LineError) (o : Outcome) → written path es o ≡ es ++ all_at_path path (errors_of o)
written_as path es (Good v g n) = sym (append-nil es)
written_as path es (Bad fs) = refl

pub errors_past : (s : Step) (o : Outcome) → errors_of (outcome_under s o) ≡ all_under s (errors_of o)
errors_past s (Good v g n) = refl
errors_past s (Bad es) = refl

pub adds_none : (old : Out) → Adds old old []
adds_none old = record { path = refl; errors = sym (append-nil old.errors) }

pub adds_walked : (old new : Out) (found : Option good.Good) (o : Outcome) → Walked old new found o → Adds old new (errors_of o)
adds_walked old new found o w = record { path = w.path; errors = w.errors ∙ written_as old.path old.errors o }

pub adds_both : (old new next : Out) (es fs : List LineError) → Adds old new es → Adds new next fs → Adds old next (es ++ fs)
adds_both old new next es fs a b = record {
  path = b.path ∙ a.path;
  errors = b.errors ∙ ap (λ p. new.errors ++ all_at_path p fs) a.path ∙ ap (λ xs. xs ++ all_at_path old.path fs) a.errors
      ∙ append_assoc old.errors (all_at_path old.path es) (all_at_path old.path fs)
      ∙ ap (λ xs. old.errors ++ xs) (sym (map-append (at_path old.path) es fs));
}

pub adds_same : (old new : Out) (es fs : List LineError) → es ≡ fs → Adds old new es → Adds old new fs
adds_same old new es fs e a = subst (λ xs. Adds old new xs) e a

-- push a step, add errors, cut the path back
pub adds_stepped : (old pushed new back : Out) (s : Step) (n : ℕ) (es : List LineError)
    → n ≡ length old.path → pushed.path ≡ old.path ++ s ∷ [] → pushed.errors ≡ old.errors → Adds pushed new es
    → back.path ≡ take n new.path → back.errors ≡ new.errors → Adds old back (all_under s es)
adds_stepped old pushed new back s n es len path errors a cut kept = record {
  path = path_back old.path pushed.path new.path back.path s n len path a.path cut;
  errors = kept ∙ a.errors ∙ ap (λ p. pushed.errors ++ all_at_path p es) path ∙ ap (λ xs. xs ++ all_at_path (old.path ++ s ∷ []) es) errors
      ∙ ap (λ xs. old.errors ++ xs) (step_past old.path s es);
}

-- as many errors as before mean that none was added
pub none_added : (old new : Out) (es : List LineError) → Adds old new es → length new.errors ≡ length old.errors → es ≡ []
none_added old new es a same =
    nil_from_length es (omega (arith, ap length a.errors, length-append old.errors (all_at_path old.path es), length-map es (at_path old.path), same))

pub same_length : (old new : Out) (es : List LineError) → Adds old new es → es ≡ [] → length new.errors ≡ length old.errors
same_length old new es a none = ap length (a.errors ∙ ap (λ fs. old.errors ++ all_at_path old.path fs) none ∙ append-nil old.errors)

-- the ways in which a walk ends
pub walked_good : (old new : Out) (found : good.Good) (es : List LineError) (o : Outcome)
    → Adds old new es → es ≡ [] → o ≡ Good found.value found.grade found.fields → Walked old new (Some found) o
walked_good old new found es o a none is = record {
  path = a.path;
  answer = ap good_of (sym is);
  errors = a.errors ∙ ap (λ fs. old.errors ++ all_at_path old.path fs) none ∙ append-nil old.errors ∙ ap (written old.path old.errors) (sym is);
}

pub walked_bad : (old new : Out) (es : List LineError) (o : Outcome) → Adds old new es → o ≡ Bad es → Walked old new None o
walked_bad old new es o a is = record { path = a.path; answer = ap good_of (sym is); errors = a.errors ∙ ap (written old.path old.errors) (sym is) }

pub walked_after : (old new next : Out) (es : List LineError) (found : Option good.Good) (o p : Outcome)
    → Adds old new es → es ≡ [] → p ≡ o → Walked new next found o → Walked old next found p
walked_after old new next es found o p a none is w = record {
  path = w.path ∙ a.path;
  answer = w.answer ∙ ap good_of (sym is);
  errors = w.errors ∙ ap (λ q. written q new.errors o) a.path
      ∙ ap (λ xs. written old.path xs o) (a.errors ∙ ap (λ fs. old.errors ++ all_at_path old.path fs) none ∙ append-nil old.errors)
      ∙ ap (written old.path old.errors) (sym is);
}

-- a walk from a state whose errors and path are those of another
pub walks_from : (old mid new : Out) (r : Result (Option good.Good) Memory) (o p : Outcome) → mid.path ≡ old.path → mid.errors ≡ old.errors → o ≡ p
    → Walks mid new r o → Walks old new r p
walks_from old mid new (Err m) o p path errors is w = tt
walks_from old mid new (Ok found) o p path errors is w = record {
  path = w.path ∙ path;
  answer = w.answer ∙ ap good_of is;
  errors = w.errors ∙ ap (λ q. written q mid.errors o) path ∙ ap (λ xs. written old.path xs o) errors ∙ ap (written old.path old.errors) is;
}

-- from the root
at_root : (es : List LineError) → all_at_path [] es ≡ es
at_root [] = refl
at_root (e ∷ es) = ap (λ more. e ∷ more) (at_root es)

pub outcome_alone : (old new : Out) (found : Option good.Good) (o : Outcome) → old.errors ≡ [] → old.path ≡ [] → Walked old new found o → outcome_of new.errors found ≡ o
outcome_alone old new found (Good v g n) none root w = ap (outcome_of new.errors) w.answer
outcome_alone old new found (Bad es) none root w =
    ap (outcome_of new.errors) w.answer ∙ ap Bad (w.errors ∙ ap (λ xs. xs ++ all_at_path old.path es) none ∙ ap (λ p. all_at_path p es) root ∙ at_root es)
