use Rattle.dc_store.proofs.Replacing.{AreTaken}
use Rattle.dc_store.proofs.taking_back.copies_above.Given as goal

-- what they leave is taken back before the place
abbrev pub invariant-loop-place : goal.invariant-loop-place
invariant-loop-place g l = AreTaken l.end l.place (g.L.LeafSet.leaves l.leaves) l.copies.items
