use Rattle.dc_ab_lsn.proofs.Rising.{rises}
use Rattle.dc_leaf.proofs.leaf.Leaf.top.Goals as goal

pub top-requires : goal.top-requires
top-requires c = rw c.entries.ensures.entries (rises _ _ c.entries.ensures.rising)
