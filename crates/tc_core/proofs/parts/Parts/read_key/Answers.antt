use Rattle.std.proofs.Common.{◌+◌, ◌<◌, arith}
use Rattle.std.proofs.lemmas.Bool.Decides.{nat_tests}
use Rattle.tc_locks.specs.declared.span.Span.TheVariants.{Key}
use Rattle.tc_locks.specs.Locks.{IsGrantable}
use Rattle.tc_locks.proofs.KeyEnds.{key_range}
use Rattle.tc_core.specs.declared.change.Change.TheVariants.{Reads}
use Rattle.tc_core.specs.Changes.{shared}
use Rattle.tc_core.specs.Seen.{seen}
use Rattle.tc_core.proofs.KeepsReads.{keeps_ask}
use Rattle.tc_core.proofs.Refused.{happened}
use Rattle.tc_core.proofs.parts.Parts.read_key.Goals as goal

pub returns-clause-kept : goal.returns-clause-kept
returns-clause-kept g c =
    let w = seen c.args.self.now in
    let o = c.in_ok-idle.field-0.now in
    let found = c.in_ok-idle.ensures.found in
    let free : IsGrantable w.locks o.txn (shared (Key c.args.key.now)) =
    rw found.at.number c.in_ok-take_key.ensures.free in
    let unspent : w.reads < 281474976710655 = grind (arith, nat_tests, c.in_ok-take_key.ensures.unspent) in
    rw (
      happened w c.args.txn o (Reads (record { number = w.reads + 1; span = Key c.copied.result })) c.change.new.self
          found.at c.change.ensures,
      c.copied.ensures,
      c.in_ok-take_key.ensures.taken,
      ← found.at.number,
    )
    (keeps_ask w o (Key c.args.key.now) c.requires found.at.is found.waiting found.rolling (key_range c.args.key.now)
    free unspent)
