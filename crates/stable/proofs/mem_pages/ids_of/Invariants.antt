use Rattle.std.proofs.Common.{◌≡◌, ◌++◌}
use Rattle.stable.proofs.Pages.{numbers}
use Rattle.stable.proofs.mem_pages.ids_of.Given as goal

abbrev pub invariant-loop-id : goal.invariant-loop-id
invariant-loop-id l = l.ids.items ++ numbers l.id-iterator ≡ numbers l.places.entries
