use denote.Param.Send.{sendable}
use Rattle.engine_sessions.proofs.Sharing.{arc_send, jobs_send, both}
use Rattle.engine_workers.proofs.engine.start.Goals as goal

pub spawn-requires-send-F : goal.spawn-requires-send-F
spawn-requires-send-F g c κs within = search (arc_send, jobs_send, both, sendable) depth 40
