use Rattle.dc_store.proofs.Crashed.{crashes_leave_frames}
use Rattle.dc_store.proofs.laws.crash_law.Goals as goal

pub returns : goal.returns
returns c = crashes_leave_frames
