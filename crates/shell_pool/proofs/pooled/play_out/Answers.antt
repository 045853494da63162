use denote.Param.Send.{sendable}
use Rattle.std.proofs.Common.{◌≡◌, arith, length, vec_len}
use Rattle.std.proofs.lemmas.Grind.{common_steps}
use Rattle.engine_workers.specs.engine_sessions.proofs.Sharing.{session_send}
use Rattle.shell_pool.proofs.holding.Door.TheSendSync as door
use Rattle.shell_pool.proofs.Numbering.{numbered}
use Rattle.shell_pool.proofs.pooled.play_out.Goals as goal

pub returns-in-Ok : goal.returns-in-Ok
returns-in-Ok g c =
    let sessions = c.in_ok-engine.sessions in
    let all : length sessions.items ≡ length c.args.opened.sessions =
    numbered sessions.items (length c.args.opened.sessions) c.in_ok-engine.ensures.numbers in
    let count : vec_len c.in-Ok.field-0.values ≡ vec_len sessions = c.in-Ok.ensures in
    grind (arith, common_steps, all, count)

pub play_all-requires-send-S : goal.play_all-requires-send-S
play_all-requires-send-S g c κs within = search (session_send, door.the_send, door.the_sync, sendable) depth 12
