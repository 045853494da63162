-- Splits, merges and writes of leaves keep what holds of a node.
use Rattle.std.proofs.Common.{◌≡◌, ℕ, Bool, true, false, refl, sym, subst, inl, inr}
use Rattle.std.specs.Prelude.{Result, Ok, Err, MatchBool, Option, Some, None}
use Rattle.record_key.specs.declared.refusal.Refusal.{Refusal}
use Rattle.record_key.specs.Table.{Bytes}
use Rattle.dc_tree.specs.Leaves.{leaf_at}
use Rattle.dc_recovery.specs.Recovery.{stored_session}
use Rattle.dc_core.specs.dc_store.specs.Kept.{IsRecoverable}
use Rattle.dc_core.specs.dc_store.specs.Checked.{Checks}
use Rattle.framed_log.specs.Refused.{refused_use}
use Rattle.dc_core.specs.dc_store.specs.SystemView.{SystemView, log_refused}
use Rattle.dc_core.specs.dc_store.specs.Changes.{split_to, merged_to, written_to, first_large, first_pair}
use Rattle.dc_core.specs.dc_store.specs.Gives.{SplitsWithin, MergesWithin, SplitGives, MergeGives, TendGives, FlushGives, StopsWriting, tending}
use Rattle.dc_core.specs.dc_store.specs.declared.tended.Neighbours.{Neighbours}
use Rattle.dc_core.specs.dc_store.specs.declared.tended.Tended.{Tended}
use Rattle.dc_core.specs.dc_store.specs.declared.tended.Tended.TheVariants as tended
use Rattle.dc_core.specs.dc_store.specs.Gives as gives
use Rattle.std.proofs.lemmas.Bool.{cases_Bool, MatchBool-at_true, MatchBool-at_false}
use Rattle.dc_leaf.specs.Leaf.{LeafView}
use Rattle.dc_leaf.specs.Tops.{is_within}
use Rattle.dc_core.specs.DcView.{DcView, leaves}
use Rattle.dc_core.specs.Kept.{IsDc}
use Rattle.dc_core.specs.Serves.{with_system}
use Rattle.dc_core.specs.Tends.{may_merge, Changes, SplitsTo, MergesTo, TendsTo, FlushesTo, IsNotNow}
use Rattle.dc_core.proofs.Recoverable.{recoverable_split, recoverable_merge, recoverable_tend, recoverable_flush}
use Rattle.dc_core.proofs.Checked.{checked_split, checked_merge, checked_tend, checked_flush}
use Rattle.node_laws.specs.Node.{NodeView, with_dc}
use Rattle.node_laws.specs.Kept.{IsKept, IsBegun}
use Rattle.node_laws.proofs.Invariant.AtKeys.{own_leaf, own_low}
use Rattle.node_laws.proofs.Invariant.Sources.{low_now}
use Rattle.node_laws.proofs.Invariant.Systems.{LeavesCarry, same_leaves, keeps_system}
use Rattle.node_laws.proofs.Invariant.Trees.{sure_now, split_true, split_carries, merged_true, merged_carries}
use Rattle.node_laws.proofs.Invariant.Written.{covered_leaves, covered_log, written_true, used_true, stops_true}

-- what is kept where the leaves and their devices become these
abbrev Keeps : NodeView → SystemView → Type 0
Keeps w v = IsDc (with_system w.dc v) → IsRecoverable v → Checks w.dc.system v → IsKept (with_dc w (with_system w.dc v))

keeps_split : (w : NodeView) (p : ℕ) (pair : Neighbours) (v : SystemView) → IsKept w
    → SplitsWithin w.dc.known w.dc.system p pair v → Keeps w v
keeps_split w p pair v k h =
    subst (Keeps w) (sym h.1.after)
    (λ is recoverable checks. keeps_system w (split_to w.dc.system p) k None tt is recoverable checks
    (split_carries w p k h.1.may h.0) (split_true w p k h.1.may h.0) k.sessions.begun)

keeps_merge : (w : NodeView) (p : ℕ) (pair : Neighbours) (v : SystemView) → IsKept w → may_merge w.dc ≡ true
    → MergesWithin w.dc.known w.dc.system p pair v → Keeps w v
keeps_merge w p pair v k let_merge h =
    subst (Keeps w) (sym h.1.after)
    (λ is recoverable checks. keeps_system w (merged_to w.dc.system p) k None tt is recoverable checks
    (merged_carries w p k (k.answered let_merge) h.1.may h.0) (merged_true w p k (k.answered let_merge) h.1.may h.0)
    k.sessions.begun)

keeps_refused : (w : NodeView) (r : Refusal) (v : SystemView) → IsKept w → v ≡ log_refused w.dc.system r → Keeps w v
keeps_refused w r v k same =
    subst (Keeps w) (sym same)
    (λ is recoverable checks. keeps_system w (log_refused w.dc.system r) k None tt is recoverable checks
    (same_leaves k.source.log (leaves w.dc))
    (used_true w.tc k.source w.dc.system (refused_use w.dc.system.log_usage r) w.dc.system.page_usage k.true_to)
    k.sessions.begun)

split_keeps : (w : NodeView) (key : Bytes) (given : Result Neighbours Refusal) (v : SystemView) → IsKept w
    → SplitGives w.dc.system key w.dc.known given v → Keeps w v
split_keeps w key (Ok pair) v k h = keeps_split w _ pair v k h
split_keeps w key (Err r) v k h = keeps_refused w r v k h.1

merge_keeps : (w : NodeView) (key : Bytes) (given : Result Neighbours Refusal) (v : SystemView) → IsKept w
    → may_merge w.dc ≡ true → MergeGives w.dc.system key w.dc.known given v → Keeps w v
merge_keeps w key (Ok pair) v k let_merge h = keeps_merge w _ pair v k let_merge h
merge_keeps w key (Err r) v k let_merge h = keeps_refused w r v k h.1

-- tending merges only where it is let
tended_keeps : (w : NodeView) (what : gives.Tending) (done : Tended) (v : SystemView) → IsKept w
    → ((p : ℕ) → what ≡ gives.MergesAt p → may_merge w.dc ≡ true)
    → gives.TendsTo w.dc.known w.dc.system what done v → Keeps w v
tended_keeps w (gives.SplitsAt p) (tended.Split pair) v k merges h = keeps_split w p pair v k h
tended_keeps w (gives.MergesAt p) (tended.Merged pair) v k merges h = keeps_merge w p pair v k (merges p refl) h
tended_keeps w gives.Rests tended.Nothing v k merges h = subst (Keeps w) (sym h) (λ is recoverable checks. k)
tended_keeps w (gives.SplitsAt p) (tended.Merged pair) v k merges h = absurd h
tended_keeps w (gives.SplitsAt p) tended.Nothing v k merges h = absurd h
tended_keeps w (gives.MergesAt p) (tended.Split pair) v k merges h = absurd h
tended_keeps w (gives.MergesAt p) tended.Nothing v k merges h = absurd h
tended_keeps w gives.Rests (tended.Split pair) v k merges h = absurd h
tended_keeps w gives.Rests (tended.Merged pair) v k merges h = absurd h

merges_let : (large : Option ℕ) (b : Bool) (pair : Option ℕ) (p : ℕ)
    → gives.tending_of large (gives.merging b pair) ≡ gives.MergesAt p → b ≡ true
merges_let (Some q) b pair p h = absurd (cc)
merges_let None true pair p h = refl
merges_let None false None p h = absurd (cc)
merges_let None false (Some q) p h = absurd (cc)

stops_tending : (w : NodeView) (what : gives.Tending) (r : Refusal) (v : SystemView) → IsKept w
    → gives.StopsTending w.dc.system what r v → Keeps w v
stops_tending w (gives.SplitsAt p) r v k h = keeps_refused w r v k h.1
stops_tending w (gives.MergesAt p) r v k h = keeps_refused w r v k h.1
stops_tending w gives.Rests r v k h = absurd h

tend_keeps : (w : NodeView) (given : Result Tended Refusal) (v : SystemView) → IsKept w
    → TendGives w.dc.system (may_merge w.dc) w.dc.known given v → Keeps w v
tend_keeps w (Ok done) v k h =
    tended_keeps w (tending w.dc.system (may_merge w.dc) w.dc.known) done v k
    (merges_let (first_large w.dc.known (leaves w.dc)) (may_merge w.dc) (first_pair w.dc.known (leaves w.dc))) h
tend_keeps w (Err r) v k h = stops_tending w (tending w.dc.system (may_merge w.dc) w.dc.known) r v k h

flush_keeps : (w : NodeView) (key : Bytes) (given : Result ℕ Refusal) (v : SystemView) → IsKept w
    → FlushGives w.dc.system key w.dc.known given v → Keeps w v
flush_keeps w key (Ok id) v k h =
    let leaf : LeafView = leaf_at (leaves w.dc) key in
    subst (Keeps w) (sym h.after)
    (λ is recoverable checks. keeps_system w (written_to w.dc.system leaf) k None tt is recoverable checks
    (subst (LeavesCarry k.source.log (leaves w.dc)) (sym (covered_leaves w.dc.system leaf))
    (same_leaves k.source.log (leaves w.dc)))
    (written_true w.tc k.source w.dc.system leaf k.true_to h.fits
    (sure_now w k leaf (own_low w key k) h.within (own_leaf w key k))
    (low_now w.tc w.dc.stored k.source k.tc.within k.from leaf (own_low w key k)))
    (subst (λ log. IsBegun w.tc.stable w.tc.session (stored_session log)) (sym (covered_log w.dc.system leaf))
    k.sessions.begun))
flush_keeps w key (Err r) v k h =
    elim (cases_Bool (is_within w.dc.known (leaf_at (leaves w.dc) key))) [
      | inl within ↦ stops (MatchBool-at_true _ _ within h)
      | inr above ↦ subst (Keeps w) (sym (MatchBool-at_false _ _ above h).1) (λ is recoverable checks. k)
    ]
  where
    stops : StopsWriting w.dc.system (leaf_at (leaves w.dc) key) r v → Keeps w v
    stops h =
        let stopped = stops_true w.tc k.source w.dc.system (leaf_at (leaves w.dc) key) r v k.true_to h in
        λ is recoverable checks. keeps_system w v k None tt is recoverable checks
        (subst (LeavesCarry k.source.log (leaves w.dc)) (sym stopped.leaves) (same_leaves k.source.log (leaves w.dc)))
        stopped.true_to
        (subst (λ log. IsBegun w.tc.stable w.tc.session (stored_session log)) (sym stopped.log) k.sessions.begun)

-- the data component's calls
at_dc : (w : NodeView) (dc : DcView) → IsDc dc → IsRecoverable dc.system → Checks w.dc.system dc.system
    → dc ≡ with_system w.dc dc.system → Keeps w dc.system → IsKept (with_dc w dc)
at_dc w dc is recoverable checks same keeps =
    subst (λ (x : DcView). IsKept (with_dc w x)) (sym same) (keeps (subst IsDc same is) recoverable checks)

pub splits_keep : (w : NodeView) (key : Bytes) (given : Result Neighbours Refusal) (dc : DcView) → IsKept w → IsDc dc
    → SplitsTo w.dc key given dc → IsKept (with_dc w dc)
splits_keep w key given dc k is h =
    at_dc w dc is (recoverable_split w.dc key given dc k.dc k.recoverable h)
    (checked_split w.dc key given dc k.dc k.recoverable h) h.1 (split_keeps w key given dc.system k h.0)

pub merges_keep : (w : NodeView) (key : Bytes) (given : Result Neighbours Refusal) (dc : DcView) → IsKept w → IsDc dc
    → MergesTo w.dc key given dc → IsKept (with_dc w dc)
merges_keep w key given dc k is h = by (may_merge w.dc) refl h
  where
    by : (b : Bool) → may_merge w.dc ≡ b
        → MatchBool b (Changes (MergeGives w.dc.system key w.dc.known given) w.dc dc) (IsNotNow w.dc given dc)
        → IsKept (with_dc w dc)
    by true may g = at_dc w dc is (recoverable_merge w.dc key given dc k.dc k.recoverable h)
        (checked_merge w.dc key given dc k.dc k.recoverable h) g.1 (merge_keeps w key given dc.system k may g.0)
    by false may g = subst (λ (x : DcView). IsKept (with_dc w x)) (sym g.1) k

pub tends_keep : (w : NodeView) (given : Result Tended Refusal) (dc : DcView) → IsKept w → IsDc dc
    → TendsTo w.dc given dc → IsKept (with_dc w dc)
tends_keep w given dc k is h =
    at_dc w dc is (recoverable_tend w.dc given dc k.dc k.recoverable h)
    (checked_tend w.dc given dc k.dc k.recoverable h) h.1 (tend_keeps w given dc.system k h.0)

pub flushes_keep : (w : NodeView) (key : Bytes) (given : Result ℕ Refusal) (dc : DcView) → IsKept w → IsDc dc
    → FlushesTo w.dc key given dc → IsKept (with_dc w dc)
flushes_keep w key given dc k is h =
    at_dc w dc is (recoverable_flush w.dc key given dc k.dc k.recoverable h)
    (checked_flush w.dc key given dc k.dc k.recoverable h) h.1 (flush_keeps w key given dc.system k h.0)
