-- A session may go from one thread to another, as what the threads share may: each type from what it holds, since a search
-- that goes down through them all runs out of steps. A type that holds no tree is shown by its own fields alone.
use denote.RattleType.{RattleType}
use denote.Param.Send.{IsSend, IsSync, part_keyless, SendAt, recorded_send, recorded_send_at, recorded_send_of, sendable, struct_send, struct_send_at}
use denote.Struct.Declared.{shape}
use Rattle.std.proofs.Crossing.{crosses}
use Rattle.dc_tree.proofs.tree.node.Node.TheLaws.TheKnot as node
use Rattle.dc_tree.proofs.tree.summary.Summary.TheSendSync as summary
use Rattle.dc_tree.specs.contracts.tree.Tree as Tree
use Rattle.dc_tree.specs.contracts.tree.TreeLeafSet.TheImpl as tree
use Rattle.ghost_list.proofs.ghost_list.GhostList.TheSendSync as ghost_list
use Rattle.engine_marks.proofs.seat.Seat.TheSendSync as seat
use Rattle.engine_guarded.proofs.caller.Caller.TheSendSync as caller
use Rattle.engine_guarded.proofs.calling.Outs.TheSendSync as outs
use Rattle.engine_guarded.proofs.pace.Pace.TheSendSync as pace
use Rattle.engine_guarded.proofs.place.Place.TheSendSync as place
use Rattle.engine_guarded.proofs.entry.Entry.TheSendSync as entry
use Rattle.engine_guarded.specs.contracts.entry.Entry as Entry
use Rattle.engine_guarded.specs.engine_history.proofs.step.Step.TheSendSync as step
use Rattle.engine_guarded.specs.engine_history.specs.contracts.step.Step as Step
use Rattle.ghost_list.specs.contracts.ghost_list.GhostList as GhostList
use Rattle.engine_guarded.proofs.published.Published.TheSendSync as published
use Rattle.engine_guarded.specs.contracts.published.Published as Published
use Rattle.engine_guarded.specs.contracts.published.Published.TheInside as PublishedInside
use Rattle.boxcar.proofs.vec.Vec.TheSendSync as entries
use Rattle.engine_marks.proofs.words.Marks.TheSendSync as marks
use Rattle.engine_guarded.specs.contracts.caller.Caller as Caller
use Rattle.engine_guarded.specs.contracts.calling.Outs as Outs
use Rattle.engine_guarded.specs.contracts.guarded.Guarded as Guarded
use Rattle.engine_guarded.specs.contracts.guarded.Guarded.TheInside as GuardedInside
use Rattle.engine_guarded.specs.engine_history.specs.declared.naming.Naming as naming
use Rattle.engine_guarded.specs.engine_answers.specs.dc_core.proofs.base.Base.TheSendSync as base
use Rattle.engine_guarded.specs.engine_answers.specs.dc_core.specs.contracts.dc.Dc as Dc
use Rattle.engine_guarded.specs.engine_answers.specs.dc_core.specs.contracts.dc.Dc.TheInside as DcInside
use Rattle.engine_guarded.specs.engine_answers.specs.dc_core.specs.contracts.performances.Performances as Performances
use Rattle.engine_guarded.specs.engine_answers.specs.node_sides.proofs.stopped_dc.StoppedDc.TheSendSync as stopped
use Rattle.engine_guarded.specs.engine_answers.specs.node_sides.proofs.tc_side.TcSide.TheSendSync as tc_side
use Rattle.engine_guarded.specs.engine_answers.specs.node_sides.specs.contracts.dc_side.DcSide as DcSide
use Rattle.engine_guarded.specs.engine_answers.specs.node_sides.specs.contracts.tc_side.TcSide as TcSide
use Rattle.engine_guarded.specs.dc_store.proofs.system.SystemTxns.TheSendSync as system
use Rattle.engine_guarded.specs.dc_store.specs.contracts.system.SystemTxns as SystemTxns
use Rattle.dc_leaf.proofs.leaf.Leaf.TheSendSync as leaf
use Rattle.record_key.proofs.key.Key.TheSendSync as key
use Rattle.stable.proofs.mem_log.MemLog.TheSendSync as mem_log
use Rattle.stable.proofs.mem_pages.MemPages.TheSendSync as mem_pages
use Rattle.stable.specs.contracts.mem_log.MemLog as MemLog
use Rattle.stable.specs.contracts.mem_log.MemLogLogDevice.TheImpl as log
use Rattle.stable.specs.contracts.mem_pages.MemPages as MemPages
use Rattle.stable.specs.contracts.mem_pages.MemPagesPageDevice.TheImpl as pages
use Rattle.stable.specs.declared.log_device.LogDevice as log_device
use Rattle.stable.specs.declared.page_device.PageDevice as page_device
use Rattle.std.specs.contracts.alloc.Global as Global
use Rattle.std.specs.contracts.impls.GlobalAllocator.TheImpl.{ghosts}
use Rattle.std.specs.contracts.sync.Arc as Arc
use Rattle.node_world.proofs.sent.Sent.TheSendSync as sent
use Rattle.node_world.specs.contracts.node.Node as Node
use Rattle.node_world.specs.contracts.world.World as World
use Rattle.node_world.specs.contracts.world.World.TheInside as WorldInside
use Rattle.engine_monitor.proofs.ended.Unfinished.TheSendSync as unfinished
use Rattle.engine_monitor.proofs.known.Known.TheSendSync as known
use Rattle.std.specs.contracts.option.Option as Option
use Rattle.engine_monitor.specs.contracts.client.Client as Client
use Rattle.engine_monitor.specs.contracts.client.Client.TheInside as ClientInside
use Rattle.engine_monitor.specs.contracts.ended.Unfinished as Unfinished
use Rattle.engine_monitor.specs.contracts.known.Known as Known
use Rattle.engine_monitor.specs.contracts.held.Held as Held
use Rattle.engine_monitor.specs.contracts.held.Held.TheInside as HeldInside
use Rattle.engine_monitor.specs.contracts.session.Session as Session
use Rattle.engine_monitor.specs.contracts.session.Session.TheInside as SessionInside
use Rattle.engine_monitor.specs.contracts.shared.Shared as Shared

steps_send : IsSend (GhostList.the_row Step.the_row)
steps_send = search (ghost_list.the_send, step.the_send, sendable) depth 12

-- a list that contracts alone see has no bytes and owns nothing
steps_sync : IsSync (GhostList.the_row Step.the_row)
steps_sync = record { shared = λ d b o κ q. part_keyless (GhostList.the_row Step.the_row) steps_send q d b o }

entry_sync : IsSync Entry.the_row
entry_sync = search (steps_sync, crosses, sendable) depth 20

-- what holds of every value holds of one
send_at : (R : RattleType) → IsSend R → (x : R.Denot) → SendAt R x
send_at R s x = (s.owned x, λ k. s.leaving k x)

unfinished_send : IsSend (Option.the_field Unfinished.the_row).row
unfinished_send = search (unfinished.the_send, crosses, sendable) depth 20

tree_send : IsSend Tree.the_row
tree_send = search (leaf.the_send, key.the_send, summary.the_send, node.crosses, crosses, sendable) depth 40

performances_send : IsSend Performances.the_field.row
performances_send = search (ghost_list.the_send, sendable) depth 20

module _ (D : RattleType) (d : log_device.Ghosts D.Denot) (sd : IsSend D) (P : RattleType)
    (p : page_device.Ghosts P.Denot) (sp : IsSend P) where
  system_send : IsSend (SystemTxns.the_row Tree.the_row D P tree.ghosts d p)
  system_send = search (tree_send, system.the_send) depth 20

  dc_inside_send : IsSend (DcInside.the_row D P d p)
  dc_inside_send = recorded_send (DcInside.the_field D P d p).row _ _ (DcInside.the_type D P d p).to_one
      (struct_send (shape (DcInside.the_type D P d p)) (
        search sendable,
        (
          search sendable,
          (
            search sendable,
            (
              search sendable,
              (
                search sendable,
                (
                  search sendable,
                  (
                    system_send,
                    (search (base.the_send, sendable) depth 20, (search (performances_send, sendable) depth 20, tt)),
                  ),
                ),
              ),
            ),
          ),
        ),
      ))

  dc_send : IsSend (Dc.the_row D P d p)
  dc_send = search (dc_inside_send, sendable) depth 20

  dc_side_send : IsSend (DcSide.the_row D P d p)
  dc_side_send = search (dc_send, stopped.the_send, sendable) depth 40

  tc_side_send : IsSend (TcSide.the_row D d)
  tc_side_send = search (tc_side.the_send) depth 12

  node_send : IsSend (Node.the_field D P d p).row
  node_send = search (tc_side_send, dc_side_send, sent.the_send, sendable) depth 20

  world_inside_send : IsSend (WorldInside.the_row D P d p)
  world_inside_send = search (node_send, sendable) depth 20

  world_send : IsSend (World.the_row D P d p)
  world_send = search (world_inside_send, sendable) depth 20

  module _ (J : RattleType) (n : naming.Ghosts J.Denot) (s : IsSend J) (y : IsSync J) where
    guarded_inside_send : IsSend (GuardedInside.the_row J D P n d p)
    guarded_inside_send = search (world_send, ghost_list.the_send, place.the_send, pace.the_send, crosses, sendable) depth 20

    guarded_send : IsSend (Guarded.the_row J D P n d p)
    guarded_send = search (guarded_inside_send, sendable) depth 20

    held_inside_send : IsSend (HeldInside.the_row J D P n d p)
    held_inside_send = search (guarded_send, seat.the_send, sendable) depth 20

    held_send : IsSend (Held.the_row J D P n d p)
    held_send = search (held_inside_send, sendable) depth 20

    published_inside_sync : IsSync (PublishedInside.the_row J n)
    published_inside_sync = search (entries.the_sync, entry_sync, entry.the_send, marks.the_sync, crosses, sendable) depth 20

    published_sync : IsSync (Published.the_row J n)
    published_sync = search (published_inside_sync, sendable) depth 20

    shared_send : IsSend (Shared.the_row J D P n d p)
    shared_send = search (held_send, published.the_send, crosses, sendable) depth 20

    shared_sync : IsSync (Shared.the_row J D P n d p)
    shared_sync = search (held_send, published_sync, crosses, sendable) depth 20

    arc_send : IsSend (Arc.the_row (Shared.the_row J D P n d p) Global.the_row ghosts)
    arc_send = search (shared_send, shared_sync, crosses, sendable) depth 8

    caller_send : IsSend (Caller.the_row J n)
    caller_send = search (caller.the_send) depth 12

    known_send : IsSend (Known.the_row J n)
    known_send = search (known.the_send) depth 12

    client_inside_send : IsSend (ClientInside.the_row J n)
    client_inside_send = recorded_send_of (ClientInside.the_field J n).row _ _ (ClientInside.the_type J n).to_one
        (λ x. struct_send_at (shape (ClientInside.the_type J n)) ((ClientInside.the_type J n).to x) (
          send_at _ caller_send _,
          (
            send_at _ known_send _,
            (
              send_at _ unfinished_send _,
              (recorded_send_at (Outs.the_field).row _ _ (Outs.the_type).to_one outs.the_send x.outs, tt),
            ),
          ),
        ))

    client_send : IsSend (Client.the_row J n)
    client_send = search (client_inside_send, sendable) depth 20

    session_inside_send : IsSend (SessionInside.the_row J D P n d p)
    session_inside_send = recorded_send_of (SessionInside.the_field J D P n d p).row _ _ (SessionInside.the_type J D P n d p).to_one
        (λ x. struct_send_at (shape (SessionInside.the_type J D P n d p)) ((SessionInside.the_type J D P n d p).to x) (
          send_at _ client_send _,
          (send_at _ arc_send _, tt),
        ))

    pub any_session_send : IsSend (Session.the_row J D P n d p)
    any_session_send = search (session_inside_send, sendable) depth 20

-- a session of an engine in memory
pub session_send : (J : RattleType) (n : naming.Ghosts J.Denot) → IsSend J → IsSync J
    → IsSend (Session.the_row J MemLog.the_row MemPages.the_row n log.ghosts pages.ghosts)
session_send J n s y =
    any_session_send MemLog.the_row log.ghosts mem_log.the_send MemPages.the_row pages.ghosts mem_pages.the_send J n s y
