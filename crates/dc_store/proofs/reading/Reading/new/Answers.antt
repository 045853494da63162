use Rattle.std.proofs.Common.{refl}
use Rattle.dc_store.proofs.HasRead.{reading_nothing}
use Rattle.dc_store.proofs.reading.Reading.new.Goals as goal

pub returns : goal.returns
returns c = reading_nothing _ c.new.ensures.items c.new-2.ensures.items refl c.in_ok-new.ensures
