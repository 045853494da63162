-- What is read of the device is lent, so what the trait says of the device afterwards follows by hand.
use Rattle.std.proofs.Common.{ap}
use Rattle.stable.specs.contracts.mem_pages.MemPages.{the_row}
use Rattle.stable.proofs.Rest.{rests_weaker, reading_meets}
use Rattle.stable.proofs.mem_pages.MemPagesPageDevice.TheImpl.Goals as goal

pub read-meets : goal.read-meets
read-meets g c =
    reading_meets g.world.𝓤 _ _ _ _ _ _ _ _ _ (λ r e. rests_weaker g.world.𝓛 the_row c.args.self _ _ (λ device is.
    (ap (λ d. d.pages) is, ap (λ d. d.usage) is)))
