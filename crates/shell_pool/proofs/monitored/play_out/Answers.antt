use denote.Param.Send.{sendable}
use Rattle.std.proofs.Common.{◌≡◌, arith, length, vec_len}
use Rattle.std.proofs.lemmas.Grind.{common_steps}
use Rattle.engine_monitor.proofs.Sharing.{session_send}
use Rattle.shell_pool.proofs.Numbering.{numbered}
use Rattle.shell_pool.proofs.monitored.play_out.Goals as goal

pub returns : goal.returns
returns g c =
    let sessions = c.in_ok-engine.sessions in
    let all : length sessions.items ≡ length c.args.opened.sessions =
    numbered sessions.items (length c.args.opened.sessions) c.in_ok-engine.ensures.numbers in
    let count : vec_len c.in_ok-sessions.field-0.values ≡ vec_len sessions = c.in_ok-sessions.ensures in
    grind (arith, common_steps, all, count)

pub play_all-requires-send-S : goal.play_all-requires-send-S
play_all-requires-send-S g c κs within = search (session_send, sendable) depth 12
