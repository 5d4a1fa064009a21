-- Bytes that come in several reads.
use Rattle.std.proofs.Common.{◌≡◌, ℕ, ◌+◌, Bool, List, [], ◌++◌, length, Option, Some, None, refl, sym, ap, ◌∙◌, append_assoc, arith, length-append}
use Rattle.std.specs.Io.KnownBytes.{Consumes, Keeps}
use Rattle.std.specs.Prelude.{◌==◌}
use Rattle.pv_edge.specs.LinesState.{FinderState}
use Rattle.pv_edge.specs.Reading.{Takes}

pub consumes_more : (a b c : Option (List ℕ)) (xs ys : List ℕ) → Consumes a b xs → Consumes b c ys → Consumes a c (xs ++ ys)
consumes_more None b c xs ys p q = tt
consumes_more (Some us) None c xs ys p q = absurd p
consumes_more (Some us) (Some bs) None xs ys p q = absurd q
consumes_more (Some us) (Some bs) (Some cs) xs ys p q = p ∙ ap (λ l. xs ++ l) q ∙ sym (append_assoc xs ys cs)

pub consumes_none : (a : Option (List ℕ)) → Consumes a a []
consumes_none None = tt
consumes_none (Some us) = refl

keeps_none : (a b : Option (List ℕ)) → Keeps a b → Consumes a b []
keeps_none None b k = tt
keeps_none (Some us) None k = absurd k
keeps_none (Some us) (Some bs) k = sym k

-- nothing has come
pub takes_none : (rest : Option (List ℕ)) (given : ℕ) (G : List ℕ → Type 0) → G [] → Takes rest rest given given G
takes_none rest given G h = record { more = []; taken = consumes_none rest; counted = omega arith; gives = h }

-- more comes
pub takes_more : (a b c : Option (List ℕ)) (i j k : ℕ) (G H : List ℕ → Type 0) (bytes : List ℕ) → Takes a b i j G → Consumes b c bytes → k ≡ j + length bytes
    → ((more : List ℕ) → G more → H (more ++ bytes)) → Takes a c i k H
takes_more a b c i j k G H bytes t taken counted f = record {
  more = t.more ++ bytes;
  taken = consumes_more a b c t.more bytes t.taken taken;
  counted = omega (arith, t.counted, counted, length-append t.more bytes);
  gives = f t.more t.gives;
}

-- the same in other words
pub takes_so : (a b : Option (List ℕ)) (i j : ℕ) (G H : List ℕ → Type 0) → Takes a b i j G → ((more : List ℕ) → G more → H more) → Takes a b i j H
takes_so a b i j G H t f = record { more = t.more; taken = t.taken; counted = t.counted; gives = f t.more t.gives }

abbrev finder : List ℕ → ℕ → Bool → ℕ → ℕ → FinderState
finder waiting place closed line_limit file_limit = record { waiting = waiting; place = place; closed = closed; line_limit = line_limit; file_limit = file_limit }

-- what a finder is after a read
pub after_read : (now : FinderState) (waiting waiting_after more : List ℕ) (place line_limit file_limit count : ℕ) (closed : Bool)
    → finder waiting place closed line_limit file_limit ≡ now → waiting_after ≡ waiting ++ more → length more ≡ count
    → finder waiting_after place (count == 0) line_limit file_limit ≡ record now { waiting = now.waiting ++ more; closed = length more == 0 }
after_read now waiting waiting_after more place line_limit file_limit count closed e w n = rw (sym e) (rw w (rw (sym n) refl))

-- a finder that is another one, which has taken bytes since
pub moved_on : (found before now : FinderState) (more : List ℕ) → found ≡ before → before ≡ record now { waiting = now.waiting ++ more; closed = before.closed }
    → found ≡ record now { waiting = now.waiting ++ more; closed = found.closed }
moved_on found before now more e w = e ∙ w ∙ ap (λ b. record now { waiting = now.waiting ++ more; closed = b }) (sym (ap (λ f. f.closed) e))
