use Rattle.std.proofs.Common.{◌≡◌, Some, subst, slice_get, ◌-◌, List, ℕ}
use Rattle.tc_core.specs.declared.change.Change.TheVariants.{GoesBack}
use Rattle.tc_core.specs.Seen.{seen}
use Rattle.tc_core.proofs.KeepsTc.{keeps_back}
use Rattle.tc_core.proofs.Refused.{happened}
use Rattle.tc_core.proofs.parts.Parts.back_to.Goals as goal

pub returns-clause-kept : goal.returns-clause-kept
returns-clause-kept g c =
    let w = seen c.args.self.now in
    let o = c.in_ok-idle.field-0.now in
    let found = c.in_ok-idle.ensures.found in
    let P : List ℕ → Type 0 = λ saves. slice_get saves (c.args.savepoint - 1) ≡ Some c.in_ok-above.above in
    rw (
      happened w c.args.txn o (GoesBack (record { savepoint = Some c.args.savepoint; above = c.in_ok-above.above })
          c.back_to.new.self) c.change.new.self found.at c.change.ensures,
      c.in_ok-above.ensures.dropped,
      c.copied-saves.ensures,
    )
    (keeps_back w o c.requires found.at.is found.waiting found.reading c.args.savepoint c.in_ok-above.above
    (subst P c.copied-saves.ensures c.in_ok-above.ensures.remembered))
