use Rattle.dc_tree.proofs.Together.{one_table}
use Rattle.dc_tree.proofs.Stays.{performs_one, raised_stays, split_stays, merged_stays, performed_honest, raised_honest, split_honest, merged_honest}
use Rattle.dc_tree.proofs.laws.tree_law.Goals as goal

pub returns : goal.returns
returns c = record {
  one = one_table;
  performs = performs_one;
  raises = raised_stays;
  splits = split_stays;
  merges = merged_stays;
  performed_honest = performed_honest;
  raised_honest = raised_honest;
  split_honest = split_honest;
  merged_honest = λ log leaves p d kept may honest captured. merged_honest log leaves p d kept honest captured;
}
