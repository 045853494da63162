use denote.Param.Send.{sendable}
use Rattle.engine_workers.specs.engine_sessions.proofs.Sharing.{session_send}
use Rattle.test_pool_cases.proofs.stage.Door.TheSendSync as door
use Rattle.test_pool.proofs.running.run_opened.Goals as goal

pub play-played-requires-send-S : goal.play-played-requires-send-S
play-played-requires-send-S g c κs within = search (session_send, door.the_send, door.the_sync, sendable) depth 12
