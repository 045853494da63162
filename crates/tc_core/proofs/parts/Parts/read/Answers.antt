use Rattle.std.proofs.Common.{◌+◌, ◌<◌, sym, arith, ◌∙◌}
use Rattle.std.proofs.lemmas.Bool.Decides.{nat_tests}
use Rattle.tc_locks.specs.Meant.{range_of}
use Rattle.record_key.specs.Order.{HasKeys}
use Rattle.tc_locks.specs.Locks.{IsGrantable}
use Rattle.tc_core.specs.declared.change.Change.TheVariants.{Reads}
use Rattle.tc_core.specs.Changes.{shared}
use Rattle.tc_core.specs.Seen.{seen}
use Rattle.tc_core.proofs.KeepsReads.{keeps_ask}
use Rattle.tc_core.proofs.Refused.{happened}
use Rattle.tc_core.proofs.parts.Parts.read.Goals as goal

pub returns-clause-kept : goal.returns-clause-kept
returns-clause-kept g c =
    let w = seen c.args.self.now in
    let o = c.in_ok-idle.field-0.now in
    let found = c.in_ok-idle.ensures.found in
    let range : HasKeys (range_of c.args.span) = sym c.is_range.ensures ∙ c.if-not-is_range.false in
    let free : IsGrantable w.locks o.txn (shared c.args.span) = rw found.at.number c.in_ok-take.ensures.free in
    let unspent : w.reads < 281474976710655 = grind (arith, nat_tests, c.in_ok-take.ensures.unspent) in
    rw (
      happened w c.args.txn o (Reads (record { number = w.reads + 1; span = c.args.span })) c.change.new.self found.at
          c.change.ensures,
      c.in_ok-take.ensures.taken,
      ← found.at.number,
    )
    (keeps_ask w o c.args.span c.requires found.at.is found.waiting found.rolling range free unspent)
