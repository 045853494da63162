-- What holds of the leaf of a key.
use Rattle.std.proofs.Common.{◌≡◌, ℕ, ◌≤◌, true, refl, arith}
use Rattle.std.specs.Prelude.{nat_le}
use Rattle.std.proofs.lemmas.Bool.Decides.{nat_tests}
use Rattle.record_key.specs.Table.{Bytes}
use Rattle.history.specs.Honest.{IsHonestAt}
use Rattle.dc_tree.specs.Leaves.{leaf_at}
use Rattle.dc_tree.proofs.AtKey.{all_at, within_at}
use Rattle.dc_leaf.specs.Honest.{IsHonestLeaf}
use Rattle.dc_recovery.specs.Ready.{IsLow}
use Rattle.dc_core.specs.dc_store.specs.Checked.{IsChecked}
use Rattle.dc_core.specs.DcView.{leaves, captures_at, value_at}
use Rattle.node_laws.specs.Node.{NodeView}
use Rattle.dc_core.specs.Tends.{may_merge}
use Rattle.node_laws.specs.Kept.{IsKept, IsLowAnswered, AnsweredAreCaptured}
use Rattle.node_laws.specs.Source.{Source, own}
use Rattle.node_laws.proofs.Invariant.Sources.{of_log}

pub own_leaf : (w : NodeView) (key : Bytes) (k : IsKept w)
    → IsHonestLeaf k.source.log (leaf_at (leaves w.dc) key)
own_leaf w key k = all_at (IsHonestLeaf k.source.log) (leaves w.dc) key k.dc.system.leaves k.true_to.leaves

pub own_low : (w : NodeView) (key : Bytes) (k : IsKept w)
    → IsLowAnswered k.source.log k.source.sure (leaf_at (leaves w.dc) key)
own_low w key k = all_at (IsLowAnswered k.source.log k.source.sure) (leaves w.dc) key k.dc.system.leaves k.true_to.low

-- where the source is the log
pub honest_at : (w : NodeView) (key : Bytes) (k : IsKept w) → k.source ≡ own w.tc
    → IsHonestAt w.tc.log (captures_at w.dc key) key (value_at w.dc key)
honest_at w key k live =
    of_log w.tc k.source (λ (x : Source). IsHonestAt x.log (captures_at w.dc key) key (value_at w.dc key)) live
    ((own_leaf w key k).at key (within_at (leaves w.dc) key k.dc.system.leaves))

pub answered_captured : (w : NodeView) (k : IsKept w) → k.source ≡ own w.tc → may_merge w.dc ≡ true
    → AnsweredAreCaptured w.tc.log w.dc
answered_captured w k live may =
    of_log w.tc k.source (λ (x : Source). AnsweredAreCaptured x.log w.dc) live (k.answered may)

-- a leaf that is so low has captured it
pub low_captured : (w : NodeView) (l n : ℕ) (key : Bytes) → IsKept w → IsChecked l w.dc.system → n ≤ l
    → captures_at w.dc key n ≡ true
low_captured w l n key k checked below =
    let low : l ≤ (leaf_at (leaves w.dc) key).ab.low =
    all_at (IsLow l) (leaves w.dc) key k.dc.system.leaves checked.leaves in
    let within : nat_le n (leaf_at (leaves w.dc) key).ab.low ≡ true = grind (arith, nat_tests, low, below) in
    rw within refl
