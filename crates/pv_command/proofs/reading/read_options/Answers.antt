use Rattle.std.proofs.Common.{◌≡◌, ◌∙◌, true, false, length, arith}
use Rattle.pv_command.specs.Options.{is_option}
use Rattle.pv_command.specs.Entries.{form_of}
use Rattle.pv_command.proofs.Walk.{option_behind, option_stops, options_end, options_all, added, not_added}
use Rattle.pv_command.proofs.reading.read_options.Goals as goal

pub returns-then-not-is_option-clause-reads : goal.returns-then-not-is_option-clause-reads
returns-then-not-is_option-clause-reads c =
    let plain : is_option c.index-words-count.result ≡ false = cc in
    c.loop-count.invariant ∙ options_end (form_of c.args.takes.now) c.loop-count.options c.loop-count.count c.args.words.now c.index-words-count.result c.loop-count-test.true c.index-words-count.is plain

pub returns-then-not-add_option-clause-reads : goal.returns-then-not-add_option-clause-reads
returns-then-not-add_option-clause-reads c =
    let option : is_option c.index-words-count.result ≡ true = cc in
    c.loop-count.invariant
    ∙ option_stops (form_of c.args.takes.now) c.loop-count.options c.loop-count.count c.args.words.now c.index-words-count.result c.loop-count-test.true c.index-words-count.is option
    (not_added _ _ _ _ _ _ c.entries.ensures c.as_str-word.ensures c.if-not-add_option.true c.add_option.ensures)

pub loop-count-preserved : goal.loop-count-preserved
loop-count-preserved c =
    let option : is_option c.index-words-count.result ≡ true = cc in
    c.loop-count.invariant
    ∙ option_behind (form_of c.args.takes.now) c.loop-count.options c.add_option.new.options c.loop-count.count c.args.words.now c.index-words-count.result c.loop-count-test.true c.index-words-count.is option
    (added _ _ _ _ _ _ c.entries.ensures c.as_str-word.ensures c.if-not-add_option.false c.add_option.ensures)

pub returns-clause-reads : goal.returns-clause-reads
returns-clause-reads c =
    let all : c.loop-count.count ≡ length c.args.words.now = omega arith in
    c.loop-count.invariant ∙ options_all (form_of c.args.takes.now) c.loop-count.options c.loop-count.count c.args.words.now all
