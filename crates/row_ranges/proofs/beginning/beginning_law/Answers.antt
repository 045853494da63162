use Rattle.row_ranges.proofs.Beginnings.{is_beginnings_range}
use Rattle.row_ranges.proofs.beginning.beginning_law.Goals as goal

pub returns : goal.returns
returns c = is_beginnings_range
