use Rattle.std.proofs.Common.{◌≡◌, ℕ, suc}
use Rattle.dc_tree.specs.Choosing.{first_pair}
use Rattle.dc_tree.specs.Lists.{leaves_in}
use Rattle.dc_tree.proofs.Firsts.{FromPlace}
use Rattle.dc_tree.proofs.choosing.pair_in.Given as goal

-- the first two are among the leaves that are left, of which the one before the next is the first
abbrev pub invariant-loop-next : goal.invariant-loop-next
invariant-loop-next l = (p : ℕ) → suc p ≡ l.next → FromPlace (first_pair l.known) (leaves_in l.leaves) p
