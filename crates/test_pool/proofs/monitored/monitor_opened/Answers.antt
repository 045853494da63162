use denote.Param.Send.{sendable}
use Rattle.engine_monitor.proofs.Sharing.{session_send}
use Rattle.test_pool.proofs.monitored.monitor_opened.Goals as goal

pub play-played-requires-send-S : goal.play-played-requires-send-S
play-played-requires-send-S g c κs within = search (session_send, sendable) depth 12
