-- What the threads share may go from one to another: each type from what it holds, since a search that goes down through
-- them all runs out of steps. A type that holds no tree is shown by its own fields alone.
use denote.RattleType.{RattleType}
use denote.Struct.Declared.{shape}
use denote.Param.Send.{IsSend, IsSync, recorded_send, struct_send, sendable}
use Rattle.std.proofs.Crossing.{crosses}
use Rattle.std.proofs.sync.atomic.AtomicU64.TheSendSync as number
use Rattle.dc_tree.proofs.tree.node.Node.TheLaws.TheKnot as node
use Rattle.dc_tree.proofs.tree.summary.Summary.TheSendSync as summary
use Rattle.dc_tree.specs.contracts.tree.Tree as Tree
use Rattle.dc_tree.specs.contracts.tree.TreeLeafSet.TheImpl as tree
use Rattle.engine_answers.specs.dc_core.proofs.base.Base.TheSendSync as base
use Rattle.engine_answers.specs.dc_core.specs.contracts.dc.Dc as Dc
use Rattle.engine_answers.specs.dc_core.specs.contracts.dc.Dc.TheInside as DcInside
use Rattle.engine_answers.specs.dc_core.specs.contracts.performances.Performances as Performances
use Rattle.ghost_list.proofs.ghost_list.GhostList.TheSendSync as ghost_list
use Rattle.dc_leaf.proofs.leaf.Leaf.TheSendSync as leaf
use Rattle.record_key.proofs.key.Key.TheSendSync as key
use Rattle.stable.specs.declared.log_device.LogDevice as log_device
use Rattle.stable.specs.declared.page_device.PageDevice as page_device
use Rattle.engine_answers.specs.dc_store.proofs.system.SystemTxns.TheSendSync as system
use Rattle.engine_answers.specs.dc_store.specs.contracts.system.SystemTxns as SystemTxns
use Rattle.engine_answers.specs.node_sides.proofs.stopped_dc.StoppedDc.TheSendSync as stopped
use Rattle.engine_answers.specs.node_sides.specs.contracts.dc_side.DcSide as DcSide
use Rattle.engine_answers.specs.engine_history.proofs.published.Published.TheSendSync as published
use Rattle.engine_answers.specs.engine_history.proofs.event_history.EventHistory.TheSendSync as history
use Rattle.engine_answers.specs.engine_history.proofs.latched_tc.LatchedTc.TheSendSync as latched_tc
use Rattle.engine_answers.specs.engine_history.proofs.view.Cursor.TheSendSync as cursor
use Rattle.engine_answers.specs.engine_history.specs.declared.naming.Naming as naming
use Rattle.engine_answers.specs.engine_history.specs.contracts.latched_dc.LatchedDc as LatchedDc
use Rattle.engine_answers.specs.engine_history.specs.contracts.latched_dc.LatchedDc.TheInside as LatchedDcInside
use Rattle.engine_answers.specs.engine_history.specs.contracts.event_history.EventHistory as EventHistory
use Rattle.engine_shared.specs.contracts.monitor.Monitor as Monitor
use Rattle.engine_shared.specs.contracts.access.Access as Access
use Rattle.engine_shared.specs.contracts.shared.Shared as Shared
use Rattle.engine_answers.specs.engine_history.specs.contracts.latched_tc.LatchedTc as LatchedTc

tree_send : IsSend Tree.the_row
tree_send = search (leaf.the_send, key.the_send, summary.the_send, node.crosses, crosses, sendable) depth 40

performances_send : IsSend Performances.the_field.row
performances_send = search (ghost_list.the_send, sendable) depth 20

module _ (D : RattleType) (d : log_device.Ghosts D.Denot) (sd : IsSend D) (P : RattleType)
    (p : page_device.Ghosts P.Denot) (sp : IsSend P) where
  system_send : IsSend (SystemTxns.the_row Tree.the_row D P tree.ghosts d p)
  system_send = search (tree_send, system.the_send) depth 20

  dc_inside_send : IsSend (DcInside.the_row D P d p)
  dc_inside_send = recorded_send (DcInside.the_field D P d p).row _ _ (DcInside.the_type D P d p).to_one
      (struct_send (shape (DcInside.the_type D P d p)) (
        search sendable,
        (
          search sendable,
          (
            search sendable,
            (
              search sendable,
              (
                search sendable,
                (
                  search sendable,
                  (
                    system_send,
                    (search (base.the_send, sendable) depth 20, (search (performances_send, sendable) depth 20, tt)),
                  ),
                ),
              ),
            ),
          ),
        ),
      ))

  dc_send : IsSend (Dc.the_row D P d p)
  dc_send = search (dc_inside_send, sendable) depth 20

  pub dc_side_send : IsSend (DcSide.the_row D P d p)
  dc_side_send = search (dc_send, stopped.the_send, sendable) depth 40

  module _ (J : RattleType) (n : naming.Ghosts J.Denot) (s : IsSend J) (y : IsSync J) where
    pub latched_tc_send : IsSend (LatchedTc.the_row J D n d)
    latched_tc_send = search (latched_tc.the_send) depth 12

    pub history_send : IsSend (EventHistory.the_row J n)
    history_send = search (history.the_send) depth 12

    latched_dc_inside_send : IsSend (LatchedDcInside.the_row J D P n d p)
    latched_dc_inside_send = search (dc_side_send, cursor.the_send, sendable) depth 20

    pub latched_dc_send : IsSend (LatchedDc.the_row J D P n d p)
    latched_dc_send = search (latched_dc_inside_send, sendable) depth 20

    monitor_send : IsSend (Monitor.the_field J n).row
    monitor_send = search (history_send, published.the_send, number.the_send, crosses, sendable) depth 20

    monitor_sync : IsSync (Monitor.the_field J n).row
    monitor_sync = search (history_send, published.the_sync, number.the_sync, crosses, sendable) depth 20

    access_send : IsSend (Access.the_field J D n d).row
    access_send = search (monitor_send, latched_tc_send, crosses, sendable) depth 20

    access_sync : IsSync (Access.the_field J D n d).row
    access_sync = search (monitor_sync, latched_tc_send, crosses, sendable) depth 20

    module _ (G : RattleType) (sg : IsSend G) (yg : IsSync G) where
      pub shared_send : IsSend (Shared.the_row J G D P n d p)
      shared_send = search (access_send, latched_dc_send, crosses, sendable) depth 20

      pub shared_sync : IsSync (Shared.the_row J G D P n d p)
      shared_sync = search (access_sync, latched_dc_send, crosses, sendable) depth 20
