use Rattle.std.proofs.Common.{ℕ, rules}
use Rattle.std.specs.BTreeMap.{get}
use Rattle.std.specs.Ordering.{nat_cmp}
use Rattle.std.proofs.lemmas.Fn.{filter_same}
use Rattle.tc_log.specs.Adders.{stays}
use Rattle.tc_log.proofs.adders.drop_ended.Goals as goal

pub returns : goal.returns
returns c =
    filter_same _ (stays (λ (t : ℕ). get nat_cmp c.args.latest.now t) c.args.txn) _ (λ x b f called. search rules)
    c.args.adders.now.items c.retain.new.self.items c.retain.ensures.filtered
