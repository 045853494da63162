-- What is read of the log is lent, so what the trait says of the log afterwards follows by hand.
use Rattle.std.proofs.Common.{ap}
use Rattle.stable.specs.contracts.mem_log.MemLog.{the_row}
use Rattle.stable.proofs.Rest.{rests_weaker, reading_meets}
use Rattle.stable.proofs.mem_log.MemLogLogDevice.TheImpl.Goals as goal

pub bytes-meets : goal.bytes-meets
bytes-meets g c =
    reading_meets g.world.𝓤 _ _ _ _ _ _ _ _ _ (λ r e. rests_weaker g.world.𝓛 the_row c.args.self _ _ (λ log is.
    (ap (λ l. l.forced) is, ap (λ l. l.pending) is, ap (λ l. l.usage) is)))
