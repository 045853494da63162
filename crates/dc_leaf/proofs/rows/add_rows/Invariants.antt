use Rattle.std.proofs.Common.{◌≡◌, ◌≤◌, ◌+◌, ◌++◌, length}
use Rattle.std.specs.Vec.{vec_len, vec_capacity}
use Rattle.dc_leaf.proofs.rows.add_rows.Given as goal

-- those that are there and those that are left are all, and there is room for what is left
abbrev pub invariant-loop-row : goal.invariant-loop-row
invariant-loop-row l =
    (l.rows.items ++ l.rest ≡ l.fn.rows.items ++ l.more)
    × (vec_len l.rows + length l.rest ≤ vec_capacity l.rows)

abbrev pub decreases-loop-row : goal.decreases-loop-row
decreases-loop-row l = length l.rest
