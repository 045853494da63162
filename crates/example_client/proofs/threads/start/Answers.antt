use denote.Param.Send.{sendable}
use Rattle.std.proofs.Crossing.{crosses}
use Rattle.file_devices.proofs.file_log.FileLog.TheSendSync as file_log
use Rattle.file_devices.proofs.no_pages.NoPages.TheSendSync as no_pages
use Rattle.record_key.proofs.refusal.Refusal.TheSendSync as refusal
use Rattle.engine_monitor.proofs.Sharing.{any_session_send}
use Rattle.example_client.proofs.threads.start.Goals as goal

pub spawn-requires-send-F : goal.spawn-requires-send-F
spawn-requires-send-F g c κs within =
    search (any_session_send, file_log.the_send, no_pages.the_send, crosses, sendable) depth 40

pub spawn-requires-send-T : goal.spawn-requires-send-T
spawn-requires-send-T g c κs within =
    search (any_session_send, file_log.the_send, no_pages.the_send, refusal.the_send, crosses, sendable) depth 40
