-- Where line feeds stand among bytes.
use Rattle.std.proofs.Common.{◌≡◌, ℕ, ◌+◌, ◌<◌, ◌≤◌, ◌-◌, false, List, ◌++◌, length, take, drop, get_or, Option, Some, None, ap, ◌∙◌, subst, arith, length-drop}
use Rattle.std.proofs.lemmas.Bool.{false_from_ne_true}
use Rattle.std.proofs.lemmas.List.{get_or-take, length-take-le, take_all, take-append-drop, take-append-le}
use Rattle.std.proofs.lemmas.List.Elements.{All-append, All-from_get_or}
use Rattle.std.proofs.Math.Seq.{take-add}
use Rattle.memchr.specs.Find.{IsFirstByte, Nowhere, Passes, is_byte}
use Rattle.pv_edge.specs.Cutting.{HasNoFeed, is_feed, line_feed}

-- none stands before a place up to which none was found
none_up_to : (hay : List ℕ) (k : ℕ) → k ≤ length hay → Nowhere (Passes (is_byte line_feed) hay) 0 k → HasNoFeed (take k hay)
none_up_to hay k within none =
    All-from_get_or (λ b. is_feed b ≡ false) (take k hay) 0 (λ i l.
    let below : i < k = omega (arith, length-take-le k hay within) in
    ap is_feed (get_or-take k hay i 0 below) ∙ false_from_ne_true (is_feed (get_or hay i 0)) (λ yes. none i (omega arith) below yes))

-- nor among the bytes before and behind a place
both : (xs ys : List ℕ) → HasNoFeed xs → HasNoFeed ys → HasNoFeed (xs ++ ys)
both xs ys h k = All-append (λ b. is_feed b ≡ false) xs ys h k

-- what is found behind bytes without one
pub found : (waiting hay : List ℕ) (clear place : ℕ) (r : Option ℕ) → hay ≡ drop clear waiting → r ≡ Some place → HasNoFeed (take clear waiting) → IsFirstByte (is_byte line_feed) hay r
    → HasNoFeed (take (clear + place) waiting)
found waiting hay clear place None w e h f = absurd (cc)
found waiting hay clear place (Some at) w e h f =
    let same : place ≡ at = cc in
    rw same (rw (take-add clear at waiting) (both _ _ h (subst (λ l. HasNoFeed (take at l)) w (none_up_to hay at (omega (arith, f.0.high)) f.0.before))))

pub not_found : (waiting hay : List ℕ) (clear : ℕ) (r : Option ℕ) → hay ≡ drop clear waiting → r ≡ None → HasNoFeed (take clear waiting) → IsFirstByte (is_byte line_feed) hay r
    → HasNoFeed waiting
not_found waiting hay clear (Some at) w e h f = absurd (cc)
not_found waiting hay clear None w e h f =
    let rest : HasNoFeed hay = subst HasNoFeed (take_all (length hay) hay (omega arith)) (none_up_to hay (length hay) (omega arith) f) in
    subst HasNoFeed (take-append-drop clear waiting) (both _ _ h (subst HasNoFeed w rest))

-- bytes that come behind change nothing of those before
pub behind : (xs more : List ℕ) (clear : ℕ) → clear ≤ length xs → HasNoFeed (take clear xs) → HasNoFeed (take clear (xs ++ more))
behind xs more clear within h = rw (take-append-le clear xs more within) h

-- all that follows a place
pub from_place : (waiting same : List ℕ) (place : ℕ) → same ≡ waiting → take (length same - place) (drop place same) ≡ drop place waiting
from_place waiting same place e = take_all (length same - place) (drop place same) (omega (arith, length-drop place same)) ∙ ap (drop place) e

pub found_within : (waiting hay : List ℕ) (clear place : ℕ) (r : Option ℕ) → hay ≡ drop clear waiting → r ≡ Some place → IsFirstByte (is_byte line_feed) hay r → clear + place < length waiting
found_within waiting hay clear place None w e f = absurd (cc)
found_within waiting hay clear place (Some at) w e f =
    let same : place ≡ at = cc in
    let long : length hay ≡ length (drop clear waiting) = ap length w in
    omega (arith, same, long, f.0.high, length-drop clear waiting)
