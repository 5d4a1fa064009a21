use Rattle.std.proofs.Common.{arith}
use Rattle.pv_edge.proofs.Taking.{after_read}
use Rattle.pv_edge.proofs.finding.Finder.read.Goals as goal

pub returns-clause-reads : goal.returns-clause-reads
returns-clause-reads g c =
    let read = c.in_ok-count.ensures.bytes in
    record {
      more = read.more;
      taken = read.taken;
      counted = omega (arith, read.count, c.in_ok-count.ensures.given);
      few = omega (arith, read.count, read.few);
      waits = after_read c.args.self.now c.self.inside.window.waiting c.read.new.self.waiting read.more c.self.inside.place c.self.inside.line_limit c.self.inside.file_limit c.in_ok-count.count c.self.inside.closed c.self.view_is read.whole read.count;
    }
