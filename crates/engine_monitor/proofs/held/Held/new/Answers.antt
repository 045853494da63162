use Rattle.std.proofs.Common.{refl, sym, subst}
use Rattle.engine_monitor.proofs.Marking.{stable_first}
use Rattle.engine_monitor.specs.Sessions.{IsHeld}
use Rattle.engine_monitor.proofs.held.Held.new.Goals as goal

pub invariant_of-result : goal.invariant_of-result
invariant_of-result g c =
    subst (IsHeld g.J.Naming.start g.J.Naming.entries g.J.Naming.marks) (sym c.requires.raises) record {
      marks_are = refl;
      raises = refl;
      was = stable_first g.J.Naming.start g.J.Naming.entries c.args.first.now c.requires.shown c.requires.empty;
    }
