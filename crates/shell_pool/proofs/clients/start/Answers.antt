use denote.Param.Send.{sendable}
use Rattle.shell_pool.proofs.Sharing.{ended_send, holding_send}
use Rattle.shell_pool.proofs.clients.start.Goals as goal

pub spawn-requires-send-F : goal.spawn-requires-send-F
spawn-requires-send-F g c κs within = search (holding_send, sendable) depth 40

pub spawn-requires-send-T : goal.spawn-requires-send-T
spawn-requires-send-T g c κs within = search (ended_send, sendable) depth 40
