use Rattle.pv_shipped.proofs.Listified.{failure_is_sound}
use Rattle.pv_shipped.proofs.listify.ListifyWrapFn.next.Goals as goal

pub returns-in-Bad-clause-sound : goal.returns-in-Bad-clause-sound
returns-in-Bad-clause-sound c = λ numbers sound. failure_is_sound c.args.state.now c.args.left c.after_failure.result c.after_failure.ensures numbers
