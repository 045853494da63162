use Rattle.dc_tree.specs.Choosing.{first_large}
use Rattle.dc_tree.specs.Lists.{leaves_in}
use Rattle.dc_tree.proofs.Firsts.{FromPlace}
use Rattle.dc_tree.proofs.choosing.large_in.Given as goal

-- the first large leaf is among those that are left
abbrev pub invariant-loop-place : goal.invariant-loop-place
invariant-loop-place l = FromPlace (first_large l.known) (leaves_in l.leaves) l.place
