use Rattle.std.proofs.Common.{Some, None, refl, sym, ◌∙◌}
use Rattle.tc_core.specs.OpenTxns.{wants}
use Rattle.tc_core.proofs.Oldest.{oldest_here, oldest_later}
use Rattle.tc_core.proofs.open_txns.OpenTxns.oldest.Goals.{in-Some+else-wants, in_default}
use Rattle.tc_core.proofs.open_txns.OpenTxns.oldest.Goals as goal

pub returns-then-wants : goal.returns-then-wants
returns-then-wants c =
    sym (oldest_here (wants c.args.wanted) c.self.inside.txns c.deref-slot-items.result.now c.loop-slot.slot-index
    c.loop-slot-test.true c.in-Some.opened.now (sym c.in-Some.ensures) (sym c.if-wants.ensures)) ∙ c.loop-slot.invariant

pub loop-slot-preserved : goal.loop-slot-preserved
loop-slot-preserved c =
    let later = oldest_later (wants c.args.wanted) c.self.inside.txns c.deref-slot-items.result.now
    c.loop-slot.slot-index c.loop-slot-test.true in
    elim c.match-get.branch [
      | in-Some+else-wants w ↦
          sym (later (Some w.in-Some.opened.now) (sym w.in-Some.ensures) (rw (← w.if-wants.ensures) refl))
          ∙ c.loop-slot.invariant
      | in_default w ↦ sym (later None (sym w.in_default.ensures) refl) ∙ c.loop-slot.invariant
    ]
