-- A session may go from one thread to another, as what the threads share may: each type from what it holds, since a search
-- that goes down through them all runs out of steps.
use denote.RattleType.{RattleType}
use denote.Param.Send.{IsSend, IsSync, sendable}
use Rattle.std.proofs.Crossing.{crosses}
use Rattle.stable.specs.declared.log_device.LogDevice as log_device
use Rattle.stable.specs.declared.page_device.PageDevice as page_device
use Rattle.stable.proofs.mem_log.MemLog.TheSendSync as mem_log
use Rattle.stable.proofs.mem_pages.MemPages.TheSendSync as mem_pages
use Rattle.stable.specs.contracts.mem_log.MemLog as MemLog
use Rattle.stable.specs.contracts.mem_log.MemLogLogDevice.TheImpl as log
use Rattle.stable.specs.contracts.mem_pages.MemPages as MemPages
use Rattle.stable.specs.contracts.mem_pages.MemPagesPageDevice.TheImpl as pages
use Rattle.crossbeam_channel.proofs.channel.Receiver.TheSendSync as receiver
use Rattle.crossbeam_channel.proofs.channel.Sender.TheSendSync as sender
use Rattle.crossbeam_channel.specs.contracts.channel.Receiver as Receiver
use Rattle.crossbeam_channel.specs.contracts.channel.Sender as Sender
use Rattle.engine_marks.proofs.seat.Seat.TheSendSync as seat
use Rattle.std.specs.contracts.alloc.Global as Global
use Rattle.std.specs.contracts.impls.GlobalAllocator.TheImpl.{ghosts}
use Rattle.std.specs.contracts.sync.Arc as Arc
use Rattle.engine_shared.specs.engine_history.proofs.caller.Caller.TheSendSync as caller
use Rattle.engine_shared.proofs.monitor.Job.TheSendSync as job
use Rattle.engine_shared.specs.engine_answers.proofs.ended.Unfinished.TheSendSync as unfinished
use Rattle.engine_shared.specs.engine_history.specs.declared.naming.Naming as naming
use Rattle.engine_sessions.specs.contracts.session.Session as Session
use Rattle.engine_sessions.specs.contracts.session.Session.TheInside as SessionInside
use Rattle.engine_shared.specs.contracts.monitor.Job as Job
use Rattle.engine_shared.specs.contracts.shared.Shared as Shared
use Rattle.engine_shared.proofs.Sharing.{shared_send, shared_sync}

pub jobs_send : IsSend (Receiver.the_row Job.the_row Global.the_row ghosts)
jobs_send = search (receiver.the_send, job.the_send, crosses, sendable) depth 20

work_send : IsSend (Sender.the_row Job.the_row Global.the_row ghosts)
work_send = search (sender.the_send, job.the_send, crosses, sendable) depth 20

module _ (D : RattleType) (d : log_device.Ghosts D.Denot) (sd : IsSend D) (P : RattleType)
    (p : page_device.Ghosts P.Denot) (sp : IsSend P) (J : RattleType) (n : naming.Ghosts J.Denot) (s : IsSend J)
    (y : IsSync J) (G : RattleType) (sg : IsSend G) (yg : IsSync G) where
  pub arc_send : IsSend (Arc.the_row (Shared.the_row J G D P n d p) Global.the_row ghosts)
  arc_send = search (shared_send, shared_sync, crosses, sendable) depth 8

  session_inside_send : IsSend (SessionInside.the_row J G D P n d p)
  session_inside_send =
      search (caller.the_send, unfinished.the_send, seat.the_send, arc_send, work_send, crosses, sendable) depth 20

  pub any_session_send : IsSend (Session.the_row J G D P n d p)
  any_session_send = search (session_inside_send, sendable) depth 20

-- a session of an engine in memory
module _ (J : RattleType) (n : naming.Ghosts J.Denot) (s : IsSend J) (y : IsSync J) (G : RattleType) (sg : IsSend G)
    (yg : IsSync G) where
  pub session_send : IsSend (Session.the_row J G MemLog.the_row MemPages.the_row n log.ghosts pages.ghosts)
  session_send = search (any_session_send, mem_log.the_send, mem_pages.the_send) depth 20

-- a tuple by its parts
pub both : {A B : Type 0} → A → B → A × B
both a b = (a, b)
