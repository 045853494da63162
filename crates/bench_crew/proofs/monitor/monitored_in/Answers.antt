use denote.Param.Send.{sendable}
use Rattle.engine_monitor.proofs.Sharing.{any_session_send}
use Rattle.bench_crew.proofs.monitor.monitored_in.Goals as goal

pub timed-took-requires-send-S : goal.timed-took-requires-send-S
timed-took-requires-send-S g c κs within = search (any_session_send, sendable) depth 12
