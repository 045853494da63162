use Rattle.dc_store.proofs.Fresh.{fresh_kept}
use Rattle.dc_store.proofs.system.SystemTxns.new.Goals as goal

pub invariant_of-result : goal.invariant_of-result
invariant_of-result g c = rw (c.in-Ok.ensures.first, c.new.ensures, c.requires.no_pages) (fresh_kept _ _)
