-- What a crash leaves of the transaction component once it is opened again.
use Rattle.std.specs.Prelude.{◌≡◌, ℕ, ◌≤◌, [], length}
use Rattle.framed_log.specs.Beginning.{beginning}
use Rattle.tc_core.specs.declared.phase.Phase.TheVariants as phase
use Rattle.tc_core.specs.TcView.{TcView}
use Rattle.tc_core.specs.Kept.{IsTc}
use Rattle.node_laws.specs.Node.{NodeView, with_tc}
use Rattle.node_laws.specs.Kept.{IsKept}

-- a beginning of its log with all stable records, all of it stable now; nobody is connected, and no transaction is open
pub record IsFallen (old new : TcView) : Type 0 where
  pub kept : ℕ
  pub stable : old.stable ≤ kept
  pub within : kept ≤ length old.log
  pub log : new.log ≡ beginning old.log kept
  pub all : new.stable ≡ kept
  pub session : new.session ≡ 0
  pub unconnected : new.phase ≡ phase.Unconnected
  pub nobody : new.open_txns ≡ []
  pub checkpointed : new.checkpointed ≤ old.checkpointed

-- all else that holds of the node survives
abbrev pub FallenIsKept : Type 0
FallenIsKept = (w : NodeView) (tc : TcView) → IsKept w → IsFallen w.tc tc → IsTc tc → IsKept (with_tc w tc)
