use Rattle.std.proofs.Common.{◌≡◌, true, false, refl, ap, ◌∙◌}
use Rattle.tc_locks.specs.declared.span.Lock.{Lock}
use Rattle.tc_locks.specs.declared.entry.Entry.{Entry}
use Rattle.tc_locks.proofs.Derived.{changed, absent}
use Rattle.tc_locks.proofs.Indexing.{added_index}
use Rattle.tc_locks.proofs.Returning.{taken_back, same_index}
use Rattle.tc_locks.proofs.adding.add_indexed.Goals as goal

pub returns-in-Ok-clause-kept : goal.returns-in-Ok-clause-kept
returns-in-Ok-clause-kept c =
    let e : Entry = record { lock = c.args.lock; txn = c.args.txn } in
    let is : c.copied-2.result ≡ e =
    c.copied-2.ensures ∙ ap (λ (l : Lock). record { lock = l; txn = c.args.txn }) c.copied.ensures in
    added_index c.args.held.now c.push.new.self c.args.txn c.args.index.now c.insert.new.self c.requires
    c.args.lock c.ranges.txn.fits c.in-Ok.ensures.listed
    (changed true c.args.index.now c.insert.new.self c.copied-2.result e c.in_ok-added.ensures.updates.0 is)

pub returns-then-added-clause-kept : goal.returns-then-added-clause-kept
returns-then-added-clause-kept c =
    let e : Entry = record { lock = c.copied.result; txn = c.args.txn } in
    let s = c.args.index.now in
    same_index c.args.held.now c.push.new.self c.remove.new.self c.remove.new.self c.in-Err.ensures.unlisted refl
    (taken_back c.args.held.now s c.insert.new.self c.remove.new.self e c.requires
    (absent s c.copied-2.result e c.in_ok-added.added c.in_ok-added.ensures.added c.if-added.true c.copied-2.ensures)
    (changed true s c.insert.new.self c.copied-2.result e c.in_ok-added.ensures.updates.0 c.copied-2.ensures)
    (changed false c.insert.new.self c.remove.new.self e e c.remove.ensures.updates.0 refl))
