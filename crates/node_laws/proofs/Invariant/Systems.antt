-- Changes of the leaves and their devices that leave what is captured at each key keep what holds of a node.
use Rattle.std.proofs.Common.{◌≡◌, ℕ, true, List, Option, IfSome, refl}
use Rattle.codec.specs.declared.reply.Reply.{Reply}
use Rattle.record_key.specs.declared.op.Op.{Op}
use Rattle.record_key.specs.Table.{key_of}
use Rattle.history.specs.declared.record.Record.{Record}
use Rattle.history.specs.Log.{Requests}
use Rattle.dc_ab_lsn.specs.AbLsn.{captures}
use Rattle.dc_leaf.specs.Leaf.{LeafView}
use Rattle.dc_tree.specs.Leaves.{leaf_at}
use Rattle.dc_recovery.specs.Recovery.{stored_session}
use Rattle.dc_core.specs.dc_store.specs.SystemView.{SystemView}
use Rattle.dc_core.specs.dc_store.specs.Kept.{IsRecoverable}
use Rattle.dc_core.specs.dc_store.specs.Checked.{Checks}
use Rattle.dc_core.specs.Serves.{with_system}
use Rattle.dc_core.specs.Kept.{IsDc}
use Rattle.node_laws.specs.Node.{NodeView}
use Rattle.node_laws.specs.Kept.{IsKept, IsBegun, StaysTrue, IsTrueTo}
use Rattle.node_laws.proofs.Invariant.Carries.{Carries, replied, keeps_dc}
use Rattle.node_laws.proofs.Invariant.Performs.{served_carried}

-- no request's number is lost at its key
pub record LeavesCarry (log : List Record) (old new : List LeafView) : Type 0 where
  pub captured : (n : ℕ) (o : Op) → Requests log n o → captures (leaf_at old (key_of o)).ab n ≡ true
      → captures (leaf_at new (key_of o)).ab n ≡ true

pub same_leaves : (log : List Record) (leaves : List LeafView) → LeavesCarry log leaves leaves
same_leaves log leaves = record { captured = λ n o asks h. h }

-- the leaves' log accepts no later session than the transaction component's
pub keeps_system : (w : NodeView) (v : SystemView) (k : IsKept w) (reply : Option Reply)
    → IfSome reply (StaysTrue w.tc (with_system w.dc v) k.source) → IsDc (with_system w.dc v) → IsRecoverable v
    → Checks w.dc.system v → LeavesCarry k.source.log w.dc.system.leaves v.leaves → IsTrueTo w.tc k.source v
    → IsBegun w.tc.stable w.tc.session (stored_session v.log) → IsKept (replied w (with_system w.dc v) reply)
keeps_system w v k reply given is recoverable checks c true_to begun =
    let carries : Carries k.source.log w.dc (with_system w.dc v) = record {
      captured = c.captured;
      stored = refl;
      ran = λ s r. r;
      past = λ past. past;
      checks = checks;
      opened = refl;
    } in
    keeps_dc w (with_system w.dc v) k carries reply given is recoverable true_to k.performed k.answered k.known
    (record { begun = begun; served = served_carried w k (with_system w.dc v) refl refl carries })
