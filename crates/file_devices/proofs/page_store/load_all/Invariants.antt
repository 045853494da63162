use Rattle.file_devices.specs.Failing.{NeverFails}
use Rattle.file_devices.proofs.page_store.load_all.Given as goal

abbrev pub invariant-loop-entry : goal.invariant-loop-entry
invariant-loop-entry g l =
    (goal.iterator-loop-entry g).can_next l.entry-iterator
    × (goal.iterator-loop-entry g).is_finite l.entry-iterator × NeverFails l.held.usage
