use denote.Param.Send.{sendable}
use Rattle.std.proofs.Crossing.{crosses}
use Rattle.test_pool_cases.proofs.Sharing.{client_send, stage_send}
use Rattle.test_pool.proofs.Sharing.{ended_send}
use Rattle.test_pool.proofs.threads.Task.TheSendSync as task
use Rattle.test_pool.proofs.threads.start.Goals as goal

pub spawn-requires-send-F : goal.spawn-requires-send-F
spawn-requires-send-F g c κs within = search (client_send, stage_send, task.the_send, crosses, sendable) depth 40

pub spawn-requires-send-T : goal.spawn-requires-send-T
spawn-requires-send-T g c κs within = search (ended_send, sendable) depth 40
