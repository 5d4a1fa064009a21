use Rattle.std.proofs.Common.{◌∙◌}
use Rattle.pv_formats.proofs.Reading.{readable_of_Reads, syntax_not_readable}
use Rattle.pv_formats.proofs.patterns.compile_pattern.Goals as goal

pub returns-in-Ok-clause-readable : goal.returns-in-Ok-clause-readable
returns-in-Ok-clause-readable c =
    let made = c.in-Ok.ensures in
    readable_of_Reads _ _ _ (rw (made.source ∙ c.as_str.ensures, made.config) at made.read)

pub returns-in-Err-Syntax-clause-syntax : goal.returns-in-Err-Syntax-clause-syntax
returns-in-Err-Syntax-clause-syntax c _ =
    let bad = c.in-Err-Syntax.ensures in
    rw (← c.as_str.ensures) (syntax_not_readable _ _ _ c.in-Err-Syntax.field-0-is bad.by_grammar bad.kind)
