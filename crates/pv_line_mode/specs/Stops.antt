-- Why reading and answering lines stops.
use Rattle.std.specs.Prelude.{◌≡◌, ℕ, List, [], Option}
use Rattle.std.specs.Io.KnownBytes.{Appends}
use Rattle.pv_edge.specs.Sending.{SentInPart}
use Rattle.pv_edge.specs.declared.line_fault.LineFault.{LineFault}
use Rattle.pv_edge.specs.declared.line_fault.LineFault.TheVariants as fault
use Rattle.pv_line_mode.specs.declared.stop.Stop.{Stop}
use Rattle.pv_line_mode.specs.declared.stop.Stop.TheVariants.{Memory, WriteFailed, ReadFailed, TooLarge}

-- why there is no next line
abbrev pub stop_of : LineFault → Stop
stop_of fault.Failed = ReadFailed
stop_of fault.TooLarge = TooLarge

-- the answer to a line was not put: there was no memory for it, or a part of it was taken
abbrev pub AnswerStops : Stop → Option (List ℕ) → Option (List ℕ) → List ℕ → Type 0
AnswerStops Memory took took_after text = Appends took took_after []
AnswerStops WriteFailed took took_after text = SentInPart took took_after text
AnswerStops ReadFailed took took_after text = ⊥
AnswerStops TooLarge took took_after text = ⊥
