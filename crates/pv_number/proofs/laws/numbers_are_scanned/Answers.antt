use Rattle.pv_number.proofs.Completeness.{number_complete}
use Rattle.pv_number.proofs.Soundness.{number_sound, number_tells, front_sound}
use Rattle.pv_number.proofs.laws.numbers_are_scanned.Goals as goal

pub returns : goal.returns
returns c = record { complete = number_complete; sound = number_sound; whole = number_tells; front = front_sound }
