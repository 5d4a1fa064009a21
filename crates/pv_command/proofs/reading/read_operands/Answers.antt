use Rattle.std.proofs.Common.{◌≡◌, ◌+◌, ◌<◌, ◌∙◌, true, false, length, take, get_or, arith, refl, ap}
use Rattle.std.specs.Prelude.{Err}
use Rattle.pv_command.specs.declared.table.Operand.TheVariants.{File}
use Rattle.pv_command.specs.Entries.{fits}
use Rattle.pv_command.proofs.Walk.{operand_behind, operand_stops, operand_missing, operands_all, operands_over}
use Rattle.pv_command.proofs.reading.read_operands.Goals as goal

pub returns-then-count-words-clause-reads : goal.returns-then-count-words-clause-reads
returns-then-count-words-clause-reads c = λ make place. c.loop-count.invariant.stands make place ∙ operand_missing c.args.kinds.now c.loop-count.count place c.args.words.now make (omega arith) (omega arith)

pub returns-then-not-fits-clause-reads : goal.returns-then-not-fits-clause-reads
returns-then-not-fits-clause-reads c = λ make place.
    let some : c.loop-count.count < length c.args.words.now = omega arith in
    let unfit : fits (get_or c.args.kinds.now c.loop-count.count File) (take c.loop-count.count c.args.words.now) c.index-words-count.result ≡ false = cc in
    c.loop-count.invariant.stands make place
    ∙ operand_stops c.args.kinds.now c.loop-count.count place c.args.words.now make (get_or c.args.kinds.now c.loop-count.count File) c.index-words-count.result some c.index-words-count.is c.loop-count-test.true refl unfit

pub loop-count-preserved : goal.loop-count-preserved
loop-count-preserved c =
    let some : c.loop-count.count < length c.args.words.now = omega arith in
    let fit : fits (get_or c.args.kinds.now c.loop-count.count File) (take c.loop-count.count c.args.words.now) c.index-words-count.result ≡ true = cc in
    record {
      within = omega arith;
      stands = λ make place.
          c.loop-count.invariant.stands make place
          ∙ operand_behind c.args.kinds.now c.loop-count.count place c.args.words.now make (get_or c.args.kinds.now c.loop-count.count File) c.index-words-count.result some c.index-words-count.is c.loop-count-test.true refl fit;
    }

pub returns-then-words-kinds-clause-reads : goal.returns-then-words-kinds-clause-reads
returns-then-words-kinds-clause-reads c = λ make place.
    let all : c.loop-count.count ≡ length c.args.kinds.now = omega arith in
    let over : c.loop-count.count < length c.args.words.now = omega arith in
    c.loop-count.invariant.stands make place
    ∙ operands_over c.args.kinds.now c.loop-count.count place c.args.words.now make all over
    ∙ ap (λ n. Err (place + n)) all

pub returns-clause-reads : goal.returns-clause-reads
returns-clause-reads c = λ make place.
    let all : c.loop-count.count ≡ length c.args.kinds.now = omega arith in
    let read : c.loop-count.count ≡ length c.args.words.now = omega arith in
    c.loop-count.invariant.stands make place ∙ operands_all c.args.kinds.now c.loop-count.count place c.args.words.now make all read
