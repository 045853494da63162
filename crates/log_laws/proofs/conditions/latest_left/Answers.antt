use Rattle.std.proofs.Common.{◌<◌, reverse, arith, inl, inr}
use Rattle.std.proofs.lemmas.List.{length-reverse}
use Rattle.history.specs.Legal.{Stands}
use Rattle.log_laws.proofs.LegalLogs.{stands_number}
use Rattle.log_laws.proofs.Checking.{latest_none, latest_all, latest_more}
use Rattle.log_laws.proofs.conditions.latest_left.Goals as goal
use Rattle.log_laws.proofs.conditions.latest_left.Goals.{then-is_left, else-is_left}

pub loop-place-init : goal.loop-place-init
loop-place-init c = grind (arith, latest_none, stands_number)

pub returns : goal.returns
returns c =
    latest_all (λ n. Stands (reverse c.args.log.now) c.args.txn n × (n < c.args.below)) c.loop-place.place
    c.loop-place.latest
    (λ n h. omega (
      arith,
      (stands_number (reverse c.args.log.now) c.args.txn n h.0).bounded,
      length-reverse c.args.log.now,
    )) c.loop-place.invariant

pub loop-place-preserved : goal.loop-place-preserved
loop-place-preserved c =
    latest_more (λ n. Stands (reverse c.args.log.now) c.args.txn n × (n < c.args.below)) c.loop-place.place
    c.loop-place.latest c.if-is_left.latest
    c.is_left.result c.loop-place.invariant c.is_left.ensures
    (elim c.if-is_left.branch [
      | then-is_left w ↦ inl (w.if-is_left.true, w.latest-is)
      | else-is_left w ↦
          inr (w.if-is_left.false, w.latest-is)
    ])
