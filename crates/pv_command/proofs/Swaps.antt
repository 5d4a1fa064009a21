-- Two options of a dump that stand next to each other may change places.
use Rattle.std.proofs.Common.{◌≡◌, ℕ, ◌+◌, Bool, true, false, cond, List, [], ◌∷◌, ◌++◌, codes, refl, subst}
use Rattle.std.specs.Prelude.{Option, Some, None, Ok, is_some}
use Rattle.pv_tree.specs.declared.Tree.{Tree}
use Rattle.pv_tree.specs.declared.Tree.TheVariants as tree
use Rattle.pv_pick.specs.Picks.{pick_of}
use Rattle.pv_command.specs.Options.{no_options, flag, with_pick, effect_of}
use Rattle.pv_command.specs.declared.options.Options.{Options}
use Rattle.pv_command.specs.declared.asked.Command.{Command}
use Rattle.pv_command.specs.Command.{dump_form, State, options_from, step, finished, behind_option, behind_pick, onward, asked_from, command}
use Rattle.pv_command.specs.Orders.{Choice, strict, lax, include, exclude, by_alias, exclude_unset, exclude_defaults, exclude_none, spelled, options_before, dump_words}
use Rattle.pv_command.proofs.Others.{completes, moves_on}

abbrev Words : Type 0
Words = List (List ℕ)

-- it can no longer stand
abbrev is_barred : Choice → Options → Bool
is_barred strict o = is_some o.strict
is_barred lax o = is_some o.strict
is_barred include o = is_some o.include
is_barred exclude o = is_some o.exclude
is_barred by_alias o = o.by_alias
is_barred exclude_unset o = o.exclude_unset
is_barred exclude_defaults o = o.exclude_defaults
is_barred exclude_none o = o.exclude_none

-- the options with this one, at this pick
abbrev with_choice : Choice → Tree → Options → Options
with_choice strict t o = record o { strict = Some true }
with_choice lax t o = record o { strict = Some false }
with_choice include t o = record o { include = Some t }
with_choice exclude t o = record o { exclude = Some t }
with_choice by_alias t o = record o { by_alias = true }
with_choice exclude_unset t o = record o { exclude_unset = true }
with_choice exclude_defaults t o = record o { exclude_defaults = true }
with_choice exclude_none t o = record o { exclude_none = true }

record Commutes (a b : Choice) (t u : Tree) (o : Options) : Type 0 where
  first : is_barred b o ≡ false
  then : is_barred a (with_choice b u o) ≡ false
  same : with_choice b u (with_choice a t o) ≡ with_choice a t (with_choice b u o)

commutes : (a b : Choice) (t u : Tree) (o : Options) → is_barred a o ≡ false → is_barred b (with_choice a t o) ≡ false → Commutes a b t u o
commutes strict strict t u o e f = cc
commutes strict lax t u o e f = cc
commutes lax strict t u o e f = cc
commutes lax lax t u o e f = cc
commutes include include t u o e f = cc
commutes exclude exclude t u o e f = cc
commutes by_alias by_alias t u o e f = cc
commutes exclude_unset exclude_unset t u o e f = cc
commutes exclude_defaults exclude_defaults t u o e f = cc
commutes exclude_none exclude_none t u o e f = cc
commutes a b t u o e f = record { first = f; then = e; same = refl }

-- the word of a pick spells one, where the option takes one
abbrev Spells : Choice → List ℕ → Tree → Type 0
Spells strict word t = Unit {0}
Spells lax word t = Unit {0}
Spells include word t = pick_of word ≡ Some t
Spells exclude word t = pick_of word ≡ Some t
Spells by_alias word t = Unit {0}
Spells exclude_unset word t = Unit {0}
Spells exclude_defaults word t = Unit {0}
Spells exclude_none word t = Unit {0}

-- the place of the words counts in refusals alone
elsewhere : (s : State) (place other : ℕ) (words : Words) (c : Command) → asked_from s place words ≡ Ok c → asked_from s other words ≡ Ok c
unfolding asked_from
elsewhere s place other [] c e = rw (completes place (finished s) c e) refl
elsewhere s place other (word ∷ words) c e =
    let m = moves_on place (λ t. asked_from t (place + 1) words) (step s word) c e in
    rw m.1 (elsewhere m.0 (place + 1) (other + 1) words c m.2)

abbrev AsksFor : Options → Words → Command → Type 0
AsksFor o words c = asked_from (options_from dump_form o) 0 words ≡ Ok c

-- what an option that could stand left
record Stood (a : Choice) (word : List ℕ) (o : Options) (more : Words) (c : Command) : Type 0 where
  pick : Tree
  free : is_barred a o ≡ false
  spells : Spells a word pick
  rest : AsksFor (with_choice a pick o) more c

flag_stood : (b : Bool) (p : Options) (more : Words) (c : Command) → onward 0 (λ t. asked_from t 1 more) (behind_option dump_form (cond b None (Some (flag p)))) ≡ Ok c
    → (b ≡ false) × AsksFor p more c
flag_stood true p more c e = cc
flag_stood false p more c e = (refl, elsewhere (options_from dump_form p) 1 0 more c e)

flag_stands : (b : Bool) (p : Options) (more : Words) (c : Command) → b ≡ false → AsksFor p more c
    → onward 0 (λ t. asked_from t 1 more) (behind_option dump_form (cond b None (Some (flag p)))) ≡ Ok c
flag_stands true p more c free e = cc
flag_stands false p more c free e = elsewhere (options_from dump_form p) 0 1 more c e

picked : (next : Tree → Options) (read : Option Tree) (more : Words) (c : Command) → onward 1 (λ t. asked_from t 2 more) (behind_pick dump_form next read) ≡ Ok c
    → (t : Tree) × (read ≡ Some t) × AsksFor (next t) more c
picked next None more c e = cc
picked next (Some t) more c e = (t, refl, elsewhere (options_from dump_form (next t)) 2 0 more c e)

record Picked (b : Bool) (next : Tree → Options) (word : List ℕ) (more : Words) (c : Command) : Type 0 where
  pick : Tree
  free : b ≡ false
  spells : pick_of word ≡ Some pick
  rest : AsksFor (next pick) more c

pick_stood : (b : Bool) (next : Tree → Options) (word : List ℕ) (more : Words) (c : Command)
    → onward 0 (λ t. asked_from t 1 (word ∷ more)) (behind_option dump_form (cond b None (Some (with_pick next)))) ≡ Ok c → Picked b next word more c
unfolding asked_from step
pick_stood true next word more c e = cc
pick_stood false next word more c e = let p = picked next (pick_of word) more c e in record { pick = p.0; free = refl; spells = p.1; rest = p.2 }

pick_stands : (b : Bool) (next : Tree → Options) (word : List ℕ) (t : Tree) (more : Words) (c : Command) → b ≡ false → pick_of word ≡ Some t → AsksFor (next t) more c
    → onward 0 (λ t. asked_from t 1 (word ∷ more)) (behind_option dump_form (cond b None (Some (with_pick next)))) ≡ Ok c
unfolding asked_from step
pick_stands true next word t more c free spells e = cc
pick_stands false next word t more c free spells e = rw spells (elsewhere (options_from dump_form (next t)) 0 2 more c e)

flag_left : (a : Choice) (word : List ℕ) (o : Options) (more : Words) (c : Command) → Spells a word tree.Null → (is_barred a o ≡ false) × AsksFor (with_choice a tree.Null o) more c
    → Stood a word o more c
flag_left a word o more c spells s = record { pick = tree.Null; free = s.0; spells = spells; rest = s.1 }

stood : (a : Choice) (word : List ℕ) (o : Options) (more : Words) (c : Command) → AsksFor o (spelled a word ++ more) c → Stood a word o more c
unfolding asked_from step effect_of
stood strict word o more c e = flag_left strict word o more c tt (flag_stood (is_some o.strict) (record o { strict = Some true }) more c e)
stood lax word o more c e = flag_left lax word o more c tt (flag_stood (is_some o.strict) (record o { strict = Some false }) more c e)
stood include word o more c e =
    let p = pick_stood (is_some o.include) (λ t. record o { include = Some t }) word more c e in
    record { pick = p.pick; free = p.free; spells = p.spells; rest = p.rest }
stood exclude word o more c e =
    let p = pick_stood (is_some o.exclude) (λ t. record o { exclude = Some t }) word more c e in
    record { pick = p.pick; free = p.free; spells = p.spells; rest = p.rest }
stood by_alias word o more c e = flag_left by_alias word o more c tt (flag_stood o.by_alias (record o { by_alias = true }) more c e)
stood exclude_unset word o more c e = flag_left exclude_unset word o more c tt (flag_stood o.exclude_unset (record o { exclude_unset = true }) more c e)
stood exclude_defaults word o more c e = flag_left exclude_defaults word o more c tt (flag_stood o.exclude_defaults (record o { exclude_defaults = true }) more c e)
stood exclude_none word o more c e = flag_left exclude_none word o more c tt (flag_stood o.exclude_none (record o { exclude_none = true }) more c e)

stands : (a : Choice) (word : List ℕ) (t : Tree) (o : Options) (more : Words) (c : Command) → is_barred a o ≡ false → Spells a word t → AsksFor (with_choice a t o) more c
    → AsksFor o (spelled a word ++ more) c
unfolding asked_from step effect_of
stands strict word t o more c free spells e = flag_stands (is_some o.strict) (record o { strict = Some true }) more c free e
stands lax word t o more c free spells e = flag_stands (is_some o.strict) (record o { strict = Some false }) more c free e
stands include word t o more c free spells e = pick_stands (is_some o.include) (λ t. record o { include = Some t }) word t more c free spells e
stands exclude word t o more c free spells e = pick_stands (is_some o.exclude) (λ t. record o { exclude = Some t }) word t more c free spells e
stands by_alias word t o more c free spells e = flag_stands o.by_alias (record o { by_alias = true }) more c free e
stands exclude_unset word t o more c free spells e = flag_stands o.exclude_unset (record o { exclude_unset = true }) more c free e
stands exclude_defaults word t o more c free spells e = flag_stands o.exclude_defaults (record o { exclude_defaults = true }) more c free e
stands exclude_none word t o more c free spells e = flag_stands o.exclude_none (record o { exclude_none = true }) more c free e

-- ---- two options next to each other

abbrev Chosen : Type 0
Chosen = Choice × List ℕ

swap : (a b : Chosen) (o : Options) (more : Words) (c : Command) → AsksFor o (spelled a.0 a.1 ++ (spelled b.0 b.1 ++ more)) c → AsksFor o (spelled b.0 b.1 ++ (spelled a.0 a.1 ++ more)) c
swap a b o more c e =
    let s = stood a.0 a.1 o (spelled b.0 b.1 ++ more) c e in
    let t = stood b.0 b.1 (with_choice a.0 s.pick o) more c s.rest in
    let k = commutes a.0 b.0 s.pick t.pick o s.free t.free in
    stands b.0 b.1 t.pick o (spelled a.0 a.1 ++ more) c k.first t.spells
    (stands a.0 a.1 s.pick (with_choice b.0 t.pick o) more c k.then s.spells (subst (λ p. AsksFor p more c) k.same t.rest))

swap_behind : (front back : List Chosen) (a b : Chosen) (o : Options) (more : Words) (c : Command) → AsksFor o (options_before (front ++ a ∷ b ∷ back) more) c
    → AsksFor o (options_before (front ++ b ∷ a ∷ back) more) c
swap_behind [] back a b o more c e = swap a b o (options_before back more) c e
swap_behind (x ∷ front) back a b o more c e =
    let s = stood x.0 x.1 o (options_before (front ++ a ∷ b ∷ back) more) c e in
    stands x.0 x.1 s.pick o (options_before (front ++ b ∷ a ∷ back) more) c s.free s.spells (swap_behind front back a b (with_choice x.0 s.pick o) more c s.rest)

at_dump : (words : Words) (c : Command) → command (codes "dump" ∷ words) ≡ Ok c → AsksFor no_options words c
unfolding command asked_from step
at_dump words c e = elsewhere (options_from dump_form no_options) 2 0 words c e

from_dump : (words : Words) (c : Command) → AsksFor no_options words c → command (codes "dump" ∷ words) ≡ Ok c
unfolding command asked_from step
from_dump words c e = elsewhere (options_from dump_form no_options) 0 2 words c e

pub swapped : (front back : List Chosen) (a b : Chosen) (more : Words) (c : Command) → command (dump_words (front ++ a ∷ b ∷ back) more) ≡ Ok c
    → command (dump_words (front ++ b ∷ a ∷ back) more) ≡ Ok c
swapped front back a b more c e = from_dump _ c (swap_behind front back a b no_options more c (at_dump _ c e))
