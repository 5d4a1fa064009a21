-- A fault stays where more bytes come.
use Rattle.std.proofs.Common.{◌≡◌, ℕ, ◌+◌, ◌-◌, ◌<◌, ◌≤◌, ◌⊎◌, inl, inr, Bool, cond, true, false, List, [], ◌∷◌, ◌++◌, length, take, Option, Some, None, refl, sym, ap, ◌∙◌, subst, arith, length-append}
use Rattle.std.specs.Prelude.{min}
use Rattle.std.specs.List.{onto_first}
use Rattle.std.proofs.lemmas.Bool.{cases_lt, lt-ltb}
use Rattle.std.proofs.lemmas.List.{take-append-le}
use Rattle.std.proofs.lemmas.List.Splits.{slice_split-cons_no, slice_split-cons_yes}
use Rattle.pv_edge.specs.Cutting.{behind, earlier, ended_lines, fault_place, further, is_feed, lines_of, lines_up_to, long_in, pieces}
use Rattle.pv_edge.specs.Reading.{IsTooLarge}
use Rattle.pv_edge.proofs.LineOrder.{Some_piece, long_further, lt_false, some_piece}

-- ---- pieces of bytes that follow one another

-- the last piece goes on
abbrev glue : List (List ℕ) → List (List ℕ) → List (List ℕ)
glue [] qs = qs
glue (p ∷ []) [] = p ∷ []
glue (p ∷ []) (q ∷ qs) = (p ++ q) ∷ qs
glue (p ∷ n ∷ ps) qs = p ∷ glue (n ∷ ps) qs

glue_first : (p : List ℕ) (ps qs : List (List ℕ)) → Some_piece ps → glue (p ∷ ps) qs ≡ p ∷ glue ps qs
glue_first p ps qs s = rw s.whole refl

onto_glue : (b : ℕ) (p : List ℕ) (ps : List (List ℕ)) (q : List ℕ) (qs : List (List ℕ)) → onto_first b (glue (p ∷ ps) (q ∷ qs)) ≡ glue (onto_first b (p ∷ ps)) (q ∷ qs)
onto_glue b p [] q qs = refl
onto_glue b p (n ∷ ps) q qs = refl

onto_some : (b : ℕ) (ps qs : List (List ℕ)) → Some_piece ps → Some_piece qs → onto_first b (glue ps qs) ≡ glue (onto_first b ps) qs
onto_some b ps qs s t = rw s.whole (rw t.whole (onto_glue b s.first s.rest t.first t.rest))

glued_by : (b : ℕ) (bytes more : List ℕ) (f : Bool) → is_feed b ≡ f → pieces (bytes ++ more) ≡ glue (pieces bytes) (pieces more) → pieces ((b ∷ bytes) ++ more) ≡ glue (pieces (b ∷ bytes)) (pieces more)
glued_by b bytes more true e h =
    slice_split-cons_yes is_feed b (bytes ++ more) e ∙ ap (λ ps. [] ∷ ps) h ∙ sym (glue_first [] (pieces bytes) (pieces more) (some_piece bytes))
    ∙ sym (ap (λ ps. glue ps (pieces more)) (slice_split-cons_yes is_feed b bytes e))
glued_by b bytes more false e h =
    slice_split-cons_no is_feed b (bytes ++ more) e ∙ ap (onto_first b) h ∙ onto_some b (pieces bytes) (pieces more) (some_piece bytes) (some_piece more)
    ∙ sym (ap (λ ps. glue ps (pieces more)) (slice_split-cons_no is_feed b bytes e))

glue_none : (qs : List (List ℕ)) → Some_piece qs → qs ≡ glue ([] ∷ []) qs
glue_none qs s = rw s.whole refl

glued : (bytes more : List ℕ) → pieces (bytes ++ more) ≡ glue (pieces bytes) (pieces more)
glued [] more = glue_none (pieces more) (some_piece more)
glued (b ∷ bytes) more = glued_by b bytes more (is_feed b) refl (glued bytes more)

-- how many bytes pieces are made of
abbrev size : List (List ℕ) → ℕ
size [] = 0
size (p ∷ []) = length p
size (p ∷ n ∷ ps) = length p + 1 + size (n ∷ ps)

size_onto_by : (b : ℕ) (p : List ℕ) (ps : List (List ℕ)) → size (onto_first b (p ∷ ps)) ≡ 1 + size (p ∷ ps)
size_onto_by b p [] = omega arith
size_onto_by b p (n ∷ ps) = omega arith

size_onto : (b : ℕ) (ps : List (List ℕ)) → Some_piece ps → size (onto_first b ps) ≡ 1 + size ps
size_onto b ps s = rw s.whole (size_onto_by b s.first s.rest)

size_first : (ps : List (List ℕ)) → Some_piece ps → size ([] ∷ ps) ≡ 1 + size ps
size_first ps s = rw s.whole (omega arith)

size_by : (b : ℕ) (bytes : List ℕ) (f : Bool) → is_feed b ≡ f → size (pieces bytes) ≡ length bytes → size (pieces (b ∷ bytes)) ≡ length (b ∷ bytes)
size_by b bytes true e h = ap size (slice_split-cons_yes is_feed b bytes e) ∙ omega (arith, size_first (pieces bytes) (some_piece bytes), h)
size_by b bytes false e h = ap size (slice_split-cons_no is_feed b bytes e) ∙ omega (arith, size_onto b (pieces bytes) (some_piece bytes), h)

size_pieces : (bytes : List ℕ) → size (pieces bytes) ≡ length bytes
size_pieces [] = refl
size_pieces (b ∷ bytes) = size_by b bytes (is_feed b) refl (size_pieces bytes)

-- ---- a long piece among them

long_now : (limit : ℕ) (p : List ℕ) (ps : List (List ℕ)) → limit < length p → long_in limit (p ∷ ps) ≡ Some limit
unfolding long_in
long_now limit p ps long = ap (λ b. cond b (Some limit) (further (length p + 1) (long_in limit ps))) (lt-ltb limit (length p) long)

long_empty : (limit : ℕ) → long_in limit [] ≡ None
unfolding long_in
long_empty limit = refl

long_nothing : (limit : ℕ) (p : List ℕ) → length p ≤ limit → long_in limit (p ∷ []) ≡ None
unfolding long_in
long_nothing limit p short = long_further limit p [] short

-- what is known of a place: it is this one, and stays; or there is none, and comes no sooner
abbrev Stays : Option ℕ → Option ℕ → ℕ → Type 0
Stays (Some at) later n = (later ≡ Some at) × (at < n)
Stays None None n = Unit {0}
Stays None (Some at) n = n ≤ at

stays_further : (k n : ℕ) (now later : Option ℕ) → Stays now later n → Stays (further k now) (further k later) (k + n)
stays_further k n (Some at) later s = (ap (further k) s.0, omega (arith, s.1))
stays_further k n None None s = tt
stays_further k n None (Some at) s = omega (arith, s)

none_late : (k n : ℕ) (later : Option ℕ) → n ≤ k → Stays None (further k later) n
none_late k n None l = tt
none_late k n (Some at) l = omega (arith, l)

last_piece : (limit : ℕ) (p q : List ℕ) (qs : List (List ℕ)) → (limit < length p) ⊎ (length p ≤ limit) → (limit < length (p ++ q)) ⊎ (length (p ++ q) ≤ limit)
    → Stays (long_in limit (p ∷ [])) (long_in limit ((p ++ q) ∷ qs)) (length p)
last_piece limit p q qs (inl long) r = subst (λ a. Stays a (long_in limit ((p ++ q) ∷ qs)) (length p)) (sym (long_now limit p [] long)) (long_now limit (p ++ q) qs (omega (arith, long, length-append p q)), long)
last_piece limit p q qs (inr short) (inl more) =
    subst (λ a. Stays a (long_in limit ((p ++ q) ∷ qs)) (length p)) (sym (long_nothing limit p short)) (subst (λ a. Stays None a (length p)) (sym (long_now limit (p ++ q) qs more)) short)
last_piece limit p q qs (inr short) (inr less) =
    subst (λ a. Stays a (long_in limit ((p ++ q) ∷ qs)) (length p)) (sym (long_nothing limit p short))
    (subst (λ a. Stays None a (length p)) (sym (long_further limit (p ++ q) qs less)) (none_late (length (p ++ q) + 1) (length p) (long_in limit qs) (omega (arith, length-append p q))))

first_piece : (limit : ℕ) (p n : List ℕ) (ps : List (List ℕ)) (q : List ℕ) (qs : List (List ℕ)) → (limit < length p) ⊎ (length p ≤ limit)
    → Stays (long_in limit (n ∷ ps)) (long_in limit (glue (n ∷ ps) (q ∷ qs))) (size (n ∷ ps)) → Stays (long_in limit (p ∷ n ∷ ps)) (long_in limit (p ∷ glue (n ∷ ps) (q ∷ qs))) (length p + 1 + size (n ∷ ps))
first_piece limit p n ps q qs (inl long) h =
    subst (λ a. Stays a (long_in limit (p ∷ glue (n ∷ ps) (q ∷ qs))) (length p + 1 + size (n ∷ ps))) (sym (long_now limit p (n ∷ ps) long)) (long_now limit p (glue (n ∷ ps) (q ∷ qs)) long, omega (arith, long))
first_piece limit p n ps q qs (inr short) h =
    subst (λ a. Stays a (long_in limit (p ∷ glue (n ∷ ps) (q ∷ qs))) (length p + 1 + size (n ∷ ps))) (sym (long_further limit p (n ∷ ps) short))
    (subst (λ a. Stays (further (length p + 1) (long_in limit (n ∷ ps))) a (length p + 1 + size (n ∷ ps))) (sym (long_further limit p (glue (n ∷ ps) (q ∷ qs)) short))
    (stays_further (length p + 1) (size (n ∷ ps)) (long_in limit (n ∷ ps)) (long_in limit (glue (n ∷ ps) (q ∷ qs))) h))

stays : (limit : ℕ) (p : List ℕ) (ps : List (List ℕ)) (q : List ℕ) (qs : List (List ℕ)) → Stays (long_in limit (p ∷ ps)) (long_in limit (glue (p ∷ ps) (q ∷ qs))) (size (p ∷ ps))
stays limit p [] q qs = last_piece limit p q qs (cases_lt limit (length p)) (cases_lt limit (length (p ++ q)))
stays limit p (n ∷ ps) q qs = first_piece limit p n ps q qs (cases_lt limit (length p)) (stays limit n ps q qs)

long_stays : (limit : ℕ) (bytes more : List ℕ) → Stays (long_in limit (pieces bytes)) (long_in limit (pieces (bytes ++ more))) (length bytes)
long_stays limit bytes more =
    let s = some_piece bytes in
    let t = some_piece more in
    let h = stays limit s.first s.rest t.first t.rest in
    subst (λ n. Stays (long_in limit (pieces bytes)) (long_in limit (pieces (bytes ++ more))) n) (size_pieces bytes)
    (subst (λ ps. Stays (long_in limit (pieces bytes)) (long_in limit ps) (size (pieces bytes))) (sym (glued bytes more))
    (subst (λ qs. Stays (long_in limit (pieces bytes)) (long_in limit (glue (pieces bytes) qs)) (size (pieces bytes))) (sym t.whole)
    (subst (λ ps. Stays (long_in limit ps) (long_in limit (glue ps (t.first ∷ t.rest))) (size ps)) (sym s.whole) h)))

-- ---- and bytes behind the limit of the file

behind_stays : (room : ℕ) (bytes more : List ℕ) → (room < length bytes) ⊎ (length bytes ≤ room) → (room < length (bytes ++ more)) ⊎ (length (bytes ++ more) ≤ room)
    → Stays (behind room bytes) (behind room (bytes ++ more)) (length bytes)
behind_stays room bytes more (inl over) r =
    subst (λ a. Stays a (behind room (bytes ++ more)) (length bytes)) (sym (ap (λ b. cond b (Some room) None) (lt-ltb room (length bytes) over)))
    (ap (λ b. cond b (Some room) None) (lt-ltb room (length (bytes ++ more)) (omega (arith, over, length-append bytes more))), over)
behind_stays room bytes more (inr within) (inl over) =
    subst (λ a. Stays a (behind room (bytes ++ more)) (length bytes)) (sym (ap (λ b. cond b (Some room) None) (lt_false room (length bytes) within)))
    (subst (λ a. Stays None a (length bytes)) (sym (ap (λ b. cond b (Some room) None) (lt-ltb room (length (bytes ++ more)) over))) within)
behind_stays room bytes more (inr within) (inr less) =
    subst (λ a. Stays a (behind room (bytes ++ more)) (length bytes)) (sym (ap (λ b. cond b (Some room) None) (lt_false room (length bytes) within)))
    (subst (λ a. Stays None a (length bytes)) (sym (ap (λ b. cond b (Some room) None) (lt_false room (length (bytes ++ more)) less))) tt)

both_stay : (p p' q q' : Option ℕ) (n : ℕ) → Stays p p' n → Stays q q' n → Stays (earlier p q) (earlier p' q') n
both_stay (Some a) p' (Some b) q' n s t = rw s.0 (rw t.0 (refl, omega (arith, s.1, t.1)))
both_stay (Some a) p' None None n s t = rw s.0 (refl, s.1)
both_stay (Some a) p' None (Some b) n s t = rw s.0 (ap Some (omega (arith, s.1, t)), s.1)
both_stay None None (Some b) q' n s t = rw t.0 (refl, t.1)
both_stay None (Some a) (Some b) q' n s t = rw t.0 (ap Some (omega (arith, t.1, s)), t.1)
both_stay None None None None n s t = tt
both_stay None None None (Some b) n s t = t
both_stay None (Some a) None None n s t = s
both_stay None (Some a) None (Some b) n s t = omega (arith, s, t)

pub fault_stays : (line_limit room : ℕ) (bytes more : List ℕ) → Stays (fault_place line_limit room bytes) (fault_place line_limit room (bytes ++ more)) (length bytes)
fault_stays line_limit room bytes more =
    both_stay (long_in line_limit (pieces bytes)) (long_in line_limit (pieces (bytes ++ more))) (behind room bytes) (behind room (bytes ++ more)) (length bytes)
    (long_stays line_limit bytes more) (behind_stays room bytes more (cases_lt room (length bytes)) (cases_lt room (length (bytes ++ more))))

-- where bytes are too many no line comes, whatever follows them
too_large_by : (line_limit file_limit place : ℕ) (bytes more : List ℕ) (at : ℕ) → ended_lines (take at bytes) ≡ [] → Stays (Some at) (fault_place line_limit (file_limit - place) (bytes ++ more)) (length bytes)
    → IsTooLarge line_limit file_limit place (bytes ++ more)
too_large_by line_limit file_limit place bytes more at none s = record {
  at = at;
  fault = s.0;
  none = ap ended_lines (take-append-le at bytes more (omega (arith, s.1))) ∙ none;
}

pub still_too_large : (line_limit file_limit place : ℕ) (bytes more : List ℕ) → IsTooLarge line_limit file_limit place bytes → IsTooLarge line_limit file_limit place (bytes ++ more)
still_too_large line_limit file_limit place bytes more t =
    too_large_by line_limit file_limit place bytes more t.at t.none
    (subst (λ p. Stays p (fault_place line_limit (file_limit - place) (bytes ++ more)) (length bytes)) t.fault (fault_stays line_limit (file_limit - place) bytes more))

pub no_line_comes : (line_limit file_limit place : ℕ) (bytes : List ℕ) → IsTooLarge line_limit file_limit place bytes → lines_of line_limit (file_limit - place) bytes ≡ []
no_line_comes line_limit file_limit place bytes t = ap (λ p. lines_up_to p bytes) t.fault ∙ t.none

-- ---- where a fault stands

-- the place is there, and not before the bound
abbrev NotBefore : ℕ → Option ℕ → Type 0
NotBefore bound None = Unit {0}
NotBefore bound (Some at) = bound ≤ at

not_before_further : (bound k : ℕ) (p : Option ℕ) → NotBefore bound p → NotBefore bound (further k p)
not_before_further bound k None n = tt
not_before_further bound k (Some at) n = omega (arith, n)

long_not_before : (limit : ℕ) (ps : List (List ℕ)) → NotBefore limit (long_in limit ps)
long_not_before limit [] = subst (NotBefore limit) (sym (long_empty limit)) tt
long_not_before limit (p ∷ ps) = by (cases_lt limit (length p)) (long_not_before limit ps)
  where
    by : (limit < length p) ⊎ (length p ≤ limit) → NotBefore limit (long_in limit ps) → NotBefore limit (long_in limit (p ∷ ps))
    by (inl long) later = subst (NotBefore limit) (sym (long_now limit p ps long)) (omega arith)
    by (inr short) later = subst (NotBefore limit) (sym (long_further limit p ps short)) (not_before_further limit (length p + 1) (long_in limit ps) later)

behind_not_before : (room : ℕ) (bytes : List ℕ) → (room < length bytes) ⊎ (length bytes ≤ room) → NotBefore room (behind room bytes)
behind_not_before room bytes (inl over) = subst (NotBefore room) (sym (ap (λ b. cond b (Some room) None) (lt-ltb room (length bytes) over))) (omega arith)
behind_not_before room bytes (inr within) = subst (NotBefore room) (sym (ap (λ b. cond b (Some room) None) (lt_false room (length bytes) within))) tt

earlier_not_before : (limit room : ℕ) (p q : Option ℕ) (at : ℕ) → earlier p q ≡ Some at → NotBefore limit p → NotBefore room q → (limit ≤ at) ⊎ (room ≤ at)
earlier_not_before limit room None (Some b) at e m n = let same : b ≡ at = cc in inr (omega (arith, same, n))
earlier_not_before limit room None None at e m n = absurd (cc)
earlier_not_before limit room (Some a) None at e m n = let same : a ≡ at = cc in inl (omega (arith, same, m))
earlier_not_before limit room (Some a) (Some b) at e m n = by (cases_lt a b)
  where
    by : (a < b) ⊎ (b ≤ a) → (limit ≤ at) ⊎ (room ≤ at)
    by (inl less) = let same : min a b ≡ at = cc in inl (omega (arith, same, m, less))
    by (inr more) = let same : min a b ≡ at = cc in inr (omega (arith, same, n, more))

-- a byte stands at it, and it is not before one of the limits
pub fault_within : (line_limit room : ℕ) (bytes : List ℕ) (at : ℕ) → fault_place line_limit room bytes ≡ Some at → (at < length bytes) × ((line_limit ≤ at) ⊎ (room ≤ at))
fault_within line_limit room bytes at fault =
    let here = subst (λ p. Stays p (fault_place line_limit room (bytes ++ [])) (length bytes)) fault (fault_stays line_limit room bytes []) in
    (here.1, earlier_not_before line_limit room (long_in line_limit (pieces bytes)) (behind room bytes) at fault (long_not_before line_limit (pieces bytes)) (behind_not_before room bytes (cases_lt room (length bytes))))

-- nor do more bytes change the lines before it
pub lines_stay : (line_limit room : ℕ) (bytes more : List ℕ) (at : ℕ) → fault_place line_limit room bytes ≡ Some at
    → (fault_place line_limit room (bytes ++ more) ≡ Some at) × (lines_of line_limit room (bytes ++ more) ≡ lines_of line_limit room bytes)
lines_stay line_limit room bytes more at fault =
    let here = subst (λ p. Stays p (fault_place line_limit room (bytes ++ more)) (length bytes)) fault (fault_stays line_limit room bytes more) in
    (here.0, ap (λ p. lines_up_to p (bytes ++ more)) here.0 ∙ ap ended_lines (take-append-le at bytes more (omega (arith, here.1))) ∙ sym (ap (λ p. lines_up_to p bytes) fault))
