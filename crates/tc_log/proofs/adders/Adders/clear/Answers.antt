use Rattle.std.proofs.Common.{None, refl}
use Rattle.std.specs.BTreeMap.{get}
use Rattle.record_key.specs.Laws.{key_cmp}
use Rattle.tc_log.proofs.Puts.{puts_adders}
use Rattle.tc_log.proofs.adders.Adders.clear.Goals as goal

pub returns-clause-puts : goal.returns-clause-puts
returns-clause-puts c =
    puts_adders (get key_cmp c.args.self.now.by_key) (get key_cmp c.remove.new.self) c.args.key.now None _
    c.remove.ensures.updates.1 c.remove.ensures.updates.2 refl
