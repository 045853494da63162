use Rattle.std.proofs.Common.{arith}
use Rattle.engine_monitor.proofs.Marking.{stable_first}
use Rattle.engine_monitor.proofs.known.Known.new.Goals as goal

pub invariant_of-result : goal.invariant_of-result
invariant_of-result g c = record {
  marks_are = c.requires.marks;
  has_seen = omega arith;
  was = stable_first g.J.Naming.start g.J.Naming.entries c.args.first.now c.requires.shown c.requires.empty;
}
