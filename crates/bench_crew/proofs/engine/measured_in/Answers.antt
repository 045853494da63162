use denote.Param.Send.{sendable}
use Rattle.engine_workers.specs.engine_sessions.proofs.Sharing.{any_session_send}
use Rattle.bench_crew.proofs.quiet.Quiet.TheSendSync as quiet
use Rattle.bench_crew.proofs.engine.measured_in.Goals as goal

pub timed-took-requires-send-S : goal.timed-took-requires-send-S
timed-took-requires-send-S g c κs within = search (any_session_send, quiet.the_send, quiet.the_sync, sendable) depth 12
