use Rattle.dc_store.proofs.ReadOnce.{frames_read_once}
use Rattle.dc_store.proofs.laws.reading_law.Goals as goal

pub returns : goal.returns
returns c = frames_read_once
