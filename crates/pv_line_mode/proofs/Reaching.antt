-- What is known between two lines, and what the next line makes of it.
use Rattle.std.proofs.Common.{◌≡◌, ℕ, ◌+◌, ◌-◌, ◌<◌, ◌≤◌, ◌⊎◌, inl, inr, Bool, true, false, List, [], ◌∷◌, ◌++◌, length, Option, Some, None, refl, sym, ap, ◌∙◌, subst, append_assoc, append-nil, arith, length-append}
use Rattle.std.specs.Prelude.{IfSome}
use Rattle.std.specs.Io.KnownBytes.{Consumes, IsAtEnd}
use Rattle.std.proofs.lemmas.List.Sums.{sum_by_push}
use Rattle.pv_edge.specs.Cutting.{ended_lines, fault_place, further, lines_of}
use Rattle.pv_edge.specs.LinesState.{LinesState}
use Rattle.pv_edge.specs.Reading.{HandsEnded, HandsLast, IsEnded, IsUnended, Takes}
use Rattle.pv_edge.proofs.LineOrder.{ended_with_more, first_ended, first_fault, first_line, last_line, no_line, none_at_fault, nothing_at_fault}
use Rattle.pv_edge.proofs.Taking.{consumes_more, consumes_none}
use Rattle.pv_line_mode.specs.OnePass.{IsFront, size_of}

-- these bytes may come behind what a reader has taken in
abbrev pub MayCome : LinesState → List ℕ → Type 0
MayCome s more = s.closed ≡ true → more ≡ []

-- these lines were handed out, of the bytes that came so far; what waits leads to all others
pub record Reached (line_limit file_limit : ℕ) (rest rest_now : Option (List ℕ)) (given given_now : ℕ) (s : LinesState) (done : List (List ℕ)) : Type 0 where
  pub bytes : List ℕ
  pub taken : Consumes rest rest_now bytes
  pub counted : given_now ≡ given + length bytes
  pub split : length bytes ≡ s.place + length s.waiting
  pub lines : (more : List ℕ) → MayCome s more → lines_of line_limit file_limit (bytes ++ more) ≡ done ++ lines_of line_limit (file_limit - s.place) (s.waiting ++ more)
  pub fault : (more : List ℕ) → MayCome s more → fault_place line_limit file_limit (bytes ++ more) ≡ further s.place (fault_place line_limit (file_limit - s.place) (s.waiting ++ more))
  pub ended : s.closed ≡ false → (more : List ℕ) → ended_lines (bytes ++ more) ≡ done ++ ended_lines (s.waiting ++ more)
  pub size : s.place ≤ size_of done
  pub within : s.place ≤ file_limit
  pub room : length s.waiting ≤ line_limit + 4096
  pub lines_limited : s.line_limit ≡ line_limit
  pub file_limited : s.file_limit ≡ file_limit
  pub going : s.over ≡ false
  pub end : s.closed ≡ true → IsAtEnd rest_now

further_none : (p : Option ℕ) → further 0 p ≡ p
further_none None = refl
further_none (Some at) = ap Some (omega arith)

further_twice : (m n : ℕ) (p : Option ℕ) → further m (further n p) ≡ further (m + n) p
further_twice m n None = refl
further_twice m n (Some at) = ap Some (omega arith)

from_start : (n : ℕ) → n - 0 ≡ n
from_start n = omega arith

-- nothing has come yet
pub at_start : (line_limit file_limit : ℕ) (rest : Option (List ℕ)) (given : ℕ) (s : LinesState)
    → s ≡ record { waiting = []; place = 0; line = []; closed = false; over = false; line_limit = line_limit; file_limit = file_limit } → Reached line_limit file_limit rest rest given given s []
at_start line_limit file_limit rest given s e = subst (λ s. Reached line_limit file_limit rest rest given given s []) (sym e) (record {
  bytes = [];
  taken = consumes_none rest;
  counted = omega arith;
  split = refl;
  lines = λ more may. ap (λ room. lines_of line_limit room more) (sym (from_start file_limit));
  fault = λ more may. sym (further_none (fault_place line_limit (file_limit - 0) more) ∙ ap (λ room. fault_place line_limit room more) (from_start file_limit));
  ended = λ fresh more. refl;
  size = omega arith;
  within = omega arith;
  room = omega arith;
  lines_limited = refl;
  file_limited = refl;
  going = refl;
  end = λ closed. absurd (cc);
})

-- ---- the next line

pub no_bytes : (bytes : List ℕ) → length bytes ≡ 0 → bytes ≡ []
no_bytes [] l = refl
no_bytes (b ∷ bs) l = absurd (omega (arith, l))

-- nothing comes once a reader has closed
abbrev pub StaysClosed : LinesState → LinesState → ℕ → ℕ → Type 0
StaysClosed old new given given_after = old.closed ≡ true → (new.closed ≡ true) × (given_after ≡ given)

-- what comes next and what comes later may come at once
pub may_come : (old new : LinesState) (given given_after : ℕ) (more later : List ℕ) → StaysClosed old new given given_after → given_after ≡ given + length more → MayCome new later → MayCome old (more ++ later)
may_come old new given given_after more later stays counted may closed =
    let s = stays closed in
    let none : more ≡ [] = no_bytes more (omega (arith, s.1, counted)) in
    rw none (may s.0)

onto : (done : List (List ℕ)) (line : List ℕ) (others : List (List ℕ)) → done ++ line ∷ others ≡ (done ++ line ∷ []) ++ others
onto done line others = sym (append_assoc done (line ∷ []) others)

module _ (line_limit file_limit : ℕ) (rest rest_now rest_after : Option (List ℕ)) (given given_now given_after : ℕ) (old new : LinesState) (done : List (List ℕ)) where
  -- what stays so
  pub record Kept : Type 0 where
    pub reached : Reached line_limit file_limit rest rest_now given given_now old done
    pub closed : StaysClosed old new given_now given_after
    pub room : length new.waiting ≤ new.line_limit + 4096
    pub lines_limited : new.line_limit ≡ old.line_limit
    pub file_limited : new.file_limit ≡ old.file_limit
    pub going : new.over ≡ false
    pub end : new.closed ≡ true → IsAtEnd rest_after

  ended_next : Kept → (more : List ℕ) → Consumes rest_now rest_after more → given_after ≡ given_now + length more → HandsEnded (old.waiting ++ more) old new
      → Reached line_limit file_limit rest rest_after given given_after new (done ++ new.line ∷ [])
  ended_next k more taken counted h =
      let r = k.reached in
      let n = length new.line + 1 in
      let place : new.place ≡ old.place + n = omega (arith, h.place) in
      let line : IsEnded line_limit file_limit old.place (old.waiting ++ more) new.line new.waiting = subst (λ l. IsEnded l file_limit old.place (old.waiting ++ more) new.line new.waiting) r.lines_limited (subst (λ f. IsEnded old.line_limit f old.place (old.waiting ++ more) new.line new.waiting) r.file_limited h.line) in
      let all : length (old.waiting ++ more) ≡ length new.line + 1 + length new.waiting = ap length line.cut ∙ omega (arith, length-append new.line) in
      record {
        bytes = r.bytes ++ more;
        taken = consumes_more rest rest_now rest_after r.bytes more r.taken taken;
        counted = omega (arith, r.counted, counted, length-append r.bytes more);
        split = omega (arith, r.split, length-append r.bytes more, length-append old.waiting more, all, place);
        lines = λ later may.
            ap (lines_of line_limit file_limit) (append_assoc r.bytes more later)
            ∙ r.lines (more ++ later) (may_come old new given_now given_after more later k.closed counted may)
            ∙ ap (λ b. done ++ lines_of line_limit (file_limit - old.place) b) (sym (append_assoc old.waiting more later))
            ∙ ap (λ ls. done ++ ls) (first_line line_limit file_limit old.place _ new.line (new.waiting ++ later) (ended_with_more line_limit file_limit old.place _ new.line new.waiting later line))
            ∙ onto done new.line _
            ∙ ap (λ p. (done ++ new.line ∷ []) ++ lines_of line_limit (file_limit - p) (new.waiting ++ later)) (sym h.place);
        fault = λ later may.
            ap (fault_place line_limit file_limit) (append_assoc r.bytes more later)
            ∙ r.fault (more ++ later) (may_come old new given_now given_after more later k.closed counted may)
            ∙ ap (λ b. further old.place (fault_place line_limit (file_limit - old.place) b)) (sym (append_assoc old.waiting more later))
            ∙ ap (further old.place) (first_fault line_limit file_limit old.place _ new.line (new.waiting ++ later) (ended_with_more line_limit file_limit old.place _ new.line new.waiting later line))
            ∙ further_twice old.place n _
            ∙ ap (λ p. further p (fault_place line_limit (file_limit - (old.place + length new.line + 1)) (new.waiting ++ later))) (sym place)
            ∙ ap (λ p. further new.place (fault_place line_limit (file_limit - p) (new.waiting ++ later))) (sym h.place);
        ended = λ goes later.
            ap ended_lines (append_assoc r.bytes more later)
            ∙ r.ended (was_open old.closed refl goes) (more ++ later)
            ∙ ap (λ b. done ++ ended_lines b) (sym (append_assoc old.waiting more later))
            ∙ ap (λ ls. done ++ ls) (first_ended line_limit file_limit old.place _ new.line (new.waiting ++ later) (ended_with_more line_limit file_limit old.place _ new.line new.waiting later line))
            ∙ onto done new.line _;
        size = omega (arith, place, r.size, sum_by_push (λ l. length l + 1) done new.line);
        within = omega (arith, place, line.within);
        room = omega (arith, k.room, k.lines_limited, r.lines_limited);
        lines_limited = k.lines_limited ∙ r.lines_limited;
        file_limited = k.file_limited ∙ r.file_limited;
        going = k.going;
        end = k.end;
      }
    where
      was_open : (b : Bool) → old.closed ≡ b → new.closed ≡ false → old.closed ≡ false
      was_open false is goes = is
      was_open true is goes = let wrong : true ≡ false = sym (k.closed is).0 ∙ goes in absurd (cc)

  no_more : (s : LinesState) (later bytes : List ℕ) → s.closed ≡ true → MayCome s later → bytes ++ later ≡ bytes
  no_more s later bytes closed may = ap (λ l. bytes ++ l) (may closed) ∙ append-nil bytes

  none_left : (s : LinesState) (later : List ℕ) → s.closed ≡ true → s.waiting ≡ [] → MayCome s later → s.waiting ++ later ≡ []
  none_left s later closed nothing may = ap (λ w. w ++ later) nothing ∙ may closed

  last_next : Kept → (more : List ℕ) → Consumes rest_now rest_after more → given_after ≡ given_now + length more → HandsLast (old.waiting ++ more) old new
      → Reached line_limit file_limit rest rest_after given given_after new (done ++ new.line ∷ [])
  last_next k more taken counted h =
      let r = k.reached in
      let whole : IsUnended line_limit file_limit old.place (old.waiting ++ more) = subst (λ l. IsUnended l file_limit old.place (old.waiting ++ more)) r.lines_limited (subst (λ f. IsUnended old.line_limit f old.place (old.waiting ++ more)) r.file_limited h.whole) in
      let nothing : length new.waiting ≡ 0 = ap length h.nothing in
      record {
        bytes = r.bytes ++ more;
        taken = consumes_more rest rest_now rest_after r.bytes more r.taken taken;
        counted = omega (arith, r.counted, counted, length-append r.bytes more);
        split = omega (arith, r.split, length-append r.bytes more, length-append old.waiting more, h.place, nothing);
        lines = λ later may.
            ap (lines_of line_limit file_limit) (append_assoc r.bytes more later)
            ∙ r.lines (more ++ later) (may_come old new given_now given_after more later k.closed counted may)
            ∙ ap (λ b. done ++ lines_of line_limit (file_limit - old.place) b) (sym (append_assoc old.waiting more later) ∙ no_more new later (old.waiting ++ more) h.closed may)
            ∙ ap (λ ls. done ++ ls) (last_line line_limit file_limit old.place (old.waiting ++ more) whole h.some)
            ∙ ap (λ l. done ++ l ∷ []) (sym h.line)
            ∙ sym (append-nil (done ++ new.line ∷ []))
            ∙ ap (λ ls. (done ++ new.line ∷ []) ++ ls) (sym (no_line line_limit (file_limit - new.place)))
            ∙ ap (λ b. (done ++ new.line ∷ []) ++ lines_of line_limit (file_limit - new.place) b) (sym (none_left new later h.closed h.nothing may));
        fault = λ later may.
            ap (fault_place line_limit file_limit) (append_assoc r.bytes more later)
            ∙ r.fault (more ++ later) (may_come old new given_now given_after more later k.closed counted may)
            ∙ ap (λ b. further old.place (fault_place line_limit (file_limit - old.place) b)) (sym (append_assoc old.waiting more later) ∙ no_more new later (old.waiting ++ more) h.closed may)
            ∙ ap (further old.place) (none_at_fault line_limit file_limit old.place (old.waiting ++ more) whole)
            ∙ sym (ap (further new.place) (nothing_at_fault line_limit (file_limit - new.place)))
            ∙ ap (λ b. further new.place (fault_place line_limit (file_limit - new.place) b)) (sym (none_left new later h.closed h.nothing may));
        ended = λ goes later. let wrong : true ≡ false = sym h.closed ∙ goes in absurd (cc);
        size = omega (arith, h.place, ap length h.line, r.size, sum_by_push (λ l. length l + 1) done new.line);
        within = omega (arith, h.place, whole.within);
        room = omega (arith, nothing);
        lines_limited = k.lines_limited ∙ r.lines_limited;
        file_limited = k.file_limited ∙ r.file_limited;
        going = k.going;
        end = k.end;
      }

  -- a line more is handed out
  pub line_next : Kept → Takes rest_now rest_after given_now given_after (λ more. HandsEnded (old.waiting ++ more) old new ⊎ HandsLast (old.waiting ++ more) old new)
      → Reached line_limit file_limit rest rest_after given given_after new (done ++ new.line ∷ [])
  line_next k t = by t.more t.taken t.counted t.gives
    where
      by : (more : List ℕ) → Consumes rest_now rest_after more → given_after ≡ given_now + length more → HandsEnded (old.waiting ++ more) old new ⊎ HandsLast (old.waiting ++ more) old new
          → Reached line_limit file_limit rest rest_after given given_after new (done ++ new.line ∷ [])
      by more taken counted (inl h) = ended_next k more taken counted h
      by more taken counted (inr h) = last_next k more taken counted h

-- ---- the lines of the whole file

-- the lines that were handed out are the first
pub all_first : (line_limit file_limit : ℕ) (rest rest_now : Option (List ℕ)) (given given_now : ℕ) (s : LinesState) (done : List (List ℕ)) → Reached line_limit file_limit rest rest_now given given_now s done
    → IfSome rest (λ content. IsFront done (lines_of line_limit file_limit content))
all_first line_limit file_limit None rest_now given given_now s done r = tt
all_first line_limit file_limit (Some content) None given given_now s done r = absurd r.taken
all_first line_limit file_limit (Some content) (Some left) given given_now s done r = record {
  later = lines_of line_limit (file_limit - s.place) (s.waiting ++ left);
  whole = ap (lines_of line_limit file_limit) r.taken ∙ r.lines left (λ closed. r.end closed);
}

-- and so are those of them but the last
pub fewer : (done : List (List ℕ)) (line : List ℕ) (all : List (List ℕ)) → IsFront (done ++ line ∷ []) all → IsFront done all
fewer done line all f = record { later = line ∷ f.later; whole = f.whole ∙ append_assoc done (line ∷ []) f.later }

pub fewer_of : (rest : Option (List ℕ)) (done : List (List ℕ)) (line : List ℕ) (all : List ℕ → List (List ℕ)) → IfSome rest (λ content. IsFront (done ++ line ∷ []) (all content)) → IfSome rest (λ content. IsFront done (all content))
fewer_of None done line all f = tt
fewer_of (Some content) done line all f = fewer done line (all content) f
