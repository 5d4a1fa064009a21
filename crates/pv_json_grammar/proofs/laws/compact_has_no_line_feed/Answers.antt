use Rattle.pv_json_grammar.proofs.CompactPrinted.{compact_line, compact_printed}
use Rattle.pv_json_grammar.proofs.laws.compact_has_no_line_feed.Goals as goal

pub returns-clause-line : goal.returns-clause-line
returns-clause-line c = compact_line

pub returns-clause-printed : goal.returns-clause-printed
returns-clause-printed c = compact_printed
