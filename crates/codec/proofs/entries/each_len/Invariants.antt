use Rattle.std.proofs.Common.{drop}
use Rattle.std.specs.List.{AllByRecursion}
use Rattle.record_key.specs.declared.entry.Entry.{Entry}
use Rattle.codec.specs.Entries.{entry_bytes, HasEntryNumber, IsEntry}
use Rattle.codec.proofs.ItemLoops.{LenSoFar}
use Rattle.codec.proofs.entries.each_len.Given as goal

abbrev pub invariant-loop-at : goal.invariant-loop-at
invariant-loop-at l = LenSoFar Entry entry_bytes IsEntry l.entries l.at l.len
    × AllByRecursion HasEntryNumber (drop l.at l.entries)
