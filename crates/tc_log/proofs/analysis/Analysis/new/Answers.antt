use Rattle.std.proofs.Common.{ap, refl}
use Rattle.std.specs.BTreeMap.{is_at}
use Rattle.std.specs.Map.{lookup}
use Rattle.std.specs.Ordering.{nat_cmp}
use Rattle.tc_log.proofs.Analysing.{analysis_none}
use Rattle.tc_log.proofs.analysis.Analysis.new.Goals as goal

pub returns : goal.returns
returns c =
    analysis_none (record { open_txns = c.new.result; checkpointed = 0 })
    (λ t. ap (lookup (is_at (nat_cmp t))) c.new.ensures.empty) refl
