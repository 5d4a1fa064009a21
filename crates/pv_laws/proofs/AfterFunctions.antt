-- A function that sees values leaves errors as they are.
use Rattle.std.proofs.Common.{◌≡◌, Some, refl}
use Rattle.pv_tree.specs.declared.Tree.{Tree}
use Rattle.pv_tree.specs.declared.Value.{Value}
use Rattle.pv_fault.specs.declared.Outcome.{Outcome}
use Rattle.pv_fault.specs.declared.Outcome.TheVariants.{Good, Bad}
use Rattle.pv_func.specs.declared.Made.{Made}
use Rattle.pv_walk.specs.Rules.{Child}
use Rattle.pv_walk.specs.Functions.{after, after_by}
use Rattle.pv_laws.specs.Outcomes.{Fails}

refused_by : (f : Value → Made) (t : Tree) (o : Outcome) → Fails o → after_by f t o ≡ o
refused_by f t (Good v g n) h = absurd h
refused_by f t (Bad es) h = refl

pub refused_before : (f : Value → Made) (child : Child) (t : Tree) → Fails (child t) → after (Some f) child t ≡ child t
refused_before f child t h = refused_by f t (child t) h
