use Rattle.pv_formats.proofs.Reading.{matches_of_Reads}
use Rattle.pv_formats.proofs.patterns.Pattern.matcher.Goals as goal

pub returns : goal.returns
returns c text bytes =
    rw (c.in_ok-matcher.ensures.pattern, ← c.self.view_is)
    (matches_of_Reads _ _ _ _ (rw c.self.invariant.0 at c.self.invariant.1) bytes)
