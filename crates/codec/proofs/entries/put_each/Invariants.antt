use Rattle.record_key.specs.declared.entry.Entry.{Entry}
use Rattle.codec.specs.Entries.{entry_bytes}
use Rattle.codec.proofs.ItemLoops.{PutsSoFar}
use Rattle.codec.proofs.entries.put_each.Given as goal

abbrev pub invariant-loop-at : goal.invariant-loop-at
invariant-loop-at l = PutsSoFar Entry entry_bytes l.fn.out l.out l.entries l.at
