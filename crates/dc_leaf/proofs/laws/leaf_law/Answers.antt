use Rattle.dc_leaf.proofs.Performing.{honest_performed}
use Rattle.dc_leaf.proofs.Raising.{honest_raised}
use Rattle.dc_leaf.proofs.Sides.{honest_lower, honest_upper, honest_joined}
use Rattle.dc_leaf.proofs.TakingBack.{honest_back}
use Rattle.dc_leaf.proofs.laws.leaf_law.Goals as goal

pub returns : goal.returns
returns c = record {
  performs = honest_performed;
  raises = honest_raised;
  lower = honest_lower;
  upper = honest_upper;
  joins = honest_joined;
  takes_back = honest_back;
}
