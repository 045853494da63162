use Rattle.std.proofs.Common.{◌≡◌, ◌≤◌, length}
use Rattle.row_ranges.specs.Beginnings.{beginning_end}
use Rattle.row_ranges.proofs.beginning.beginning_end.Given as goal

-- what was left out behind them decides nothing
abbrev pub invariant-loop-last : goal.invariant-loop-last
invariant-loop-last l = record {
  same : beginning_end l.left ≡ beginning_end l.key;
  short : length l.left ≤ 32;
}

abbrev pub decreases-loop-last : goal.decreases-loop-last
decreases-loop-last l = length l.left
