use Rattle.pv_shipped.proofs.Decoded.{decoded_is_sound}
use Rattle.pv_shipped.proofs.unhex.UnhexPlainFn.call.Goals as goal

pub returns-in-Some-clause-sound : goal.returns-in-Some-clause-sound
returns-in-Some-clause-sound c = decoded_is_sound c.in-Some.text.now c.decoded.result c.decoded.ensures
