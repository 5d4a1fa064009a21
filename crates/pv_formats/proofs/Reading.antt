-- What `Regex::new` says of its text, in the words of specs/Grammar.antt.
use Rattle.std.proofs.Common.{◌≡◌, ◌≢◌, ◌≤◌, ◌<◌, ℕ, List, Option, Some, None, IsSomeAnd, IfSome, is_some, unwrap_or, option_map, get_or, length, false, true, arith, ⊎_elim, subst}
use Rattle.std.specs.Str.{chars}
use Rattle.regex.specs.Patterns.{Re, SameCaptures, default_config, find_str, Reads, Refuses}
use Rattle.regex.proofs.ForCallers.{is_match_alike}
use Rattle.regex_hir.specs.Meaning.{meaning}
use Rattle.regex_hir.specs.declared.hir.Hir.{Hir}
use Rattle.regex_syntax.specs.Brackets.{Nested}
use Rattle.regex_syntax.specs.Grammar.{Names, read, group_count}
use Rattle.regex_syntax.specs.declared.error.ErrorKind.{ErrorKind}
use Rattle.regex_syntax.specs.declared.error.ErrorKind.TheVariants.{OutOfMemory}
use Rattle.regex.specs.Sources.{IsRefusal}
use Rattle.regex.specs.Failures.{IsRightKind}
use Rattle.regex.specs.declared.error.Error.{Error}
use Rattle.regex.specs.declared.error.Error.TheVariants.{Syntax}
use Rattle.regex_syntax.specs.declared.error.Error as parser
use Rattle.pv_formats.specs.Patterns.{IsReadable, matches}

abbrev ReadsAs : ℕ → Re → Names → Option (Nested Re × Names) → Type 0
ReadsAs limit a names o = IsSomeAnd o (λ (re, found). (re.depth ≤ limit) × SameCaptures a re.value × (names ≡ found) × (group_count a ≤ length names))

within : (limit : ℕ) (a : Re) (names : Names) (o : Option (Nested Re × Names)) → ReadsAs limit a names o → IsSomeAnd o (λ (re, found). re.depth ≤ limit)
within limit a names None p = absurd p
within limit a names (Some found) p = p.0

pub readable_of_Reads : (text : List ℕ) (hir : Hir) (names : Names) → Reads default_config text hir names → IsReadable text
unfolding Reads
readable_of_Reads text hir names p = within _ (meaning hir) names (read default_config (chars text)) p

deep : (limit : ℕ) (o : Option (Nested Re × Names)) → IfSome o (λ (re, found). limit < re.depth) → IsSomeAnd o (λ (re, found). re.depth ≤ limit) → ⊥
deep limit None p q = q
deep limit (Some found) p q = omega (arith, p, q)

none : (limit : ℕ) (o : Option (Nested Re × Names)) → o ≡ None → IsSomeAnd o (λ (re, found). re.depth ≤ limit) → ⊥
none limit None p q = q
none limit (Some found) p q = absurd cc

pub not_readable : (text : List ℕ) (kind : ErrorKind) → Refuses default_config text kind → kind ≢ OutOfMemory → ¬ (IsReadable text)
unfolding Refuses
not_readable text kind p q r =
    ⊎_elim (λ e. absurd (q e))
    (λ h. ⊎_elim (λ e. none _ (read default_config (chars text)) e r) (λ d. deep _ (read default_config (chars text)) d.1 r) h) p

found_alike : (limit : ℕ) (a : Re) (names : Names) (hay : List ℕ) → ((k : ℕ) → get_or hay k 0 < 256) → (o : Option (Nested Re × Names)) → ReadsAs limit a names o →
    is_some (find_str a hay 0) ≡ unwrap_or (option_map (λ (re, found). is_some (find_str re.value hay 0)) o) false
found_alike limit a names hay bytes None p = absurd p
found_alike limit a names hay bytes (Some found) p = is_match_alike p.1 hay bytes true 0

pub matches_of_Reads : (text hay : List ℕ) (hir : Hir) (names : Names) → Reads default_config text hir names → ((k : ℕ) → get_or hay k 0 < 256) →
    is_some (find_str (meaning hir) hay 0) ≡ matches text hay
unfolding Reads matches
matches_of_Reads text hay hir names p bytes = found_alike _ (meaning hir) names hay bytes (read default_config (chars text)) p

pub syntax_not_readable : (text : List ℕ) (error : Error) (given : parser.Error) → error ≡ Syntax given → IsRefusal default_config text error →
    IsRightKind default_config text error → ¬ (IsReadable text)
syntax_not_readable text error given is refusal kind =
    not_readable text given.kind (refusal given is) (subst (IsRightKind default_config text) is kind)
