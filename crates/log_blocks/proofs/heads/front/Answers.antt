use Rattle.log_blocks.specs.Blocks.{number, fields}
use Rattle.log_blocks.proofs.heads.front.Goals as goal

pub returns-clause-seal : goal.returns-clause-seal
unfolding number fields
returns-clause-seal c = rw (c.write_u64-2.ensures, c.write_u64.ensures) at c.sum_pairs-seal.ensures

pub returns-clause-front : goal.returns-clause-front
unfolding number fields
returns-clause-front c =
    rw (c.write_u64-3.ensures, returns-clause-seal c, c.write_u64-2.ensures, c.write_u64.ensures)
