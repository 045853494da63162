-- Whatever a checkpoint reached, no call and no crash takes away.
use Rattle.std.proofs.Common.{◌≡◌, ℕ, ◌+◌, ◌≤◌, Bool, true, List, [], ◌∷◌, Option, length, sym, subst, arith, inl, inr, le-ltb, lt-ltb}
use Rattle.std.specs.Prelude.{nat_le, Result, Ok, Err}
use Rattle.std.specs.List.{AllByRecursion}
use Rattle.std.specs.FinMap as table
use Rattle.std.proofs.lemmas.Bool.{cases_Bool, cases_lt}
use Rattle.record_key.specs.declared.op.Op.{Op}
use Rattle.record_key.specs.declared.refusal.Refusal.{Refusal}
use Rattle.record_key.specs.declared.refusal.Refusal.TheVariants.{Device}
use Rattle.record_key.specs.Table.{Bytes}
use Rattle.dc_ab_lsn.specs.AbLsn.{AbLsnView, raised}
use Rattle.codec.specs.declared.dc_record.DcRecord.TheVariants as is
use Rattle.codec.specs.Images.{image_bytes, IsImage}
use Rattle.dc_leaf.specs.Leaf.{LeafView, raised_to}
use Rattle.dc_leaf.specs.TakingBack.{taken_back as leaf_taken_back}
use Rattle.dc_leaf.specs.Tops.{is_within, all_within}
use Rattle.dc_leaf.specs.Parting.{upper_of, joined_of}
use Rattle.dc_tree.specs.Leaves.{leaf_at}
use Rattle.dc_tree.specs.Parting.{middle, may_split_at, may_merge_at}
use Rattle.dc_tree.specs.Performs.{performed_at}
use Rattle.dc_tree.proofs.AtKey.{all_at}
use Rattle.dc_tree.proofs.Carried.{lows_performed, lows_split, lows_merged}
use Rattle.dc_tree.proofs.Changing.{all_mapped}
use Rattle.dc_tree.proofs.Places.{split_within, merge_within}
use Rattle.dc_recovery.specs.Images.{leaf_of, image_of}
use Rattle.dc_recovery.specs.Laws.{IsCurrent}
use Rattle.dc_recovery.specs.Leaves.{split_of, merge_of}
use Rattle.dc_recovery.specs.Ready.{IsLow, IsReady}
use Rattle.dc_recovery.proofs.Ready.{ready_stays}
use Rattle.stable.specs.Usage.{Usage, called}
use Rattle.dc_store.specs.SystemView.{SystemView, fresh_system, with_usage, log_refused}
use Rattle.dc_store.specs.Changes.{next_id, next_number, leaf_in, split_to, merged_to, accepted, covered, forced, lowered, taken_back, written_to, written_all}
use Rattle.dc_store.specs.Checked.{IsChecked, Checks}
use Rattle.dc_store.specs.Crashed.{crashed}
use Rattle.dc_store.specs.Devices.{pages_of}
use Rattle.dc_store.specs.Gives.{Splits, Merges, SplitGives, MergeGives, Tending, SplitsAt, MergesAt, Rests, tending, TendsTo, TendGives, FlushGives, CheckpointGives, AcceptGives, HaveImages, StopsNotNow, StopsTending, FailsWriting, FailsAmong}
use Rattle.dc_store.specs.Kept.{IsSystem, IsRecoverable}
use Rattle.dc_store.specs.declared.tended.Neighbours.{Neighbours}
use Rattle.dc_store.specs.declared.tended.Tended.{Tended}
use Rattle.dc_store.specs.declared.tended.Tended.TheVariants as tended
use Rattle.dc_store.proofs.AfterCrash.{ready_recovered}
use Rattle.dc_store.proofs.Parted.{split_recoverable, merge_recoverable}
use Rattle.dc_store.proofs.Recoverable.{recoverable_accepted, recoverable_lowered, recoverable_written, AreSo, still_so}
use Rattle.dc_store.proofs.Written.{at_place, pages_written}

-- ---- low numbers rise

low_grows : (v : AbLsnView) (l : ℕ) → v.low ≤ (raised v l).low
low_grows v l =
    elim (cases_lt v.low l) [
      | inl less ↦ rw (lt-ltb v.low l less) (omega (arith, less))
      | inr past ↦ rw (le-ltb v.low l past) (omega arith)
    ]

-- ---- nothing is asked of low numbers at the start

pub fresh_checked : (log_usage page_usage : Usage) → IsChecked 0 (fresh_system log_usage page_usage)
fresh_checked log_usage page_usage = record {
  leaves = (omega arith, tt);
  ready = (ready_stays (IsLow 0)).all _ [] 0 (record {
    first_leaf = omega arith;
    page = λ id page at. omega arith;
    logged = tt;
  });
}

-- ---- the log grows, and more of it is stable

-- however the devices were used
pub usage_checked : (v : SystemView) (log_usage page_usage : Usage) → Checks v (with_usage v log_usage page_usage)
usage_checked v log_usage page_usage l c = record { leaves = c.leaves; ready = c.ready }

forced_checked : (v : SystemView) → IsRecoverable v → Checks v (forced v)
forced_checked v h l c = record {
  leaves = c.leaves;
  ready = (ready_stays (IsLow l)).force _ v.log v.stable (length v.log) h.fit.kept c.ready;
}

covered_checked : (v : SystemView) (leaf : LeafView) → IsRecoverable v → Checks v (covered v leaf)
covered_checked v leaf h l c =
    elim (cases_Bool (nat_le leaf.last v.stable)) [
      | inl stable ↦ rw stable c
      | inr young ↦ rw young (forced_checked v h l c)
    ]

accepted_checked : (v : SystemView) (session : ℕ) → IsRecoverable v → Checks v (accepted v session)
accepted_checked v session h l c = record {
  leaves = c.leaves;
  ready =
      (ready_stays (IsLow l)).grow _ (is.Accept session) v.log v.stable (tt, h.legal) h.fit (λ leaf made. absurd (cc))
      c.ready;
}

-- ---- leaves change

pub performed_checked : (v : SystemView) (n : ℕ) (o : Op)
    → Checks v (record v { leaves = performed_at v.leaves n o })
performed_checked v n o l c =
    record { leaves = lows_performed (λ low. l ≤ low) v.leaves n o c.leaves; ready = c.ready }

pub lowered_checked : (v : SystemView) (to : ℕ) → Checks v (lowered v to)
lowered_checked v to l c = record {
  leaves =
      all_mapped (IsLow l) (IsLow l) (λ leaf. raised_to leaf to)
      (λ leaf low. omega (arith, low, low_grows leaf.ab to)) v.leaves c.leaves;
  ready = c.ready;
}

pub taken_back_checked : (v : SystemView) (end : ℕ) → Checks v (taken_back v end)
taken_back_checked v end l c = record {
  leaves = all_mapped (IsLow l) (IsLow l) (λ leaf. leaf_taken_back leaf end) (λ leaf low. low) v.leaves c.leaves;
  ready = c.ready;
}

-- a session's record is stable, and what is above the end is taken back
pub session_checked : (v : SystemView) (session end : ℕ) → IsRecoverable v
    → Checks v (taken_back (forced (accepted v session)) end)
session_checked v session end h l c =
    taken_back_checked (forced (accepted v session)) end l
    (forced_checked (accepted v session) (recoverable_accepted v session h) l (accepted_checked v session h l c))

-- ---- leaves are split and joined

split_to_checked : (v : SystemView) (p : ℕ) → IsSystem v → IsRecoverable v → may_split_at v.leaves p ≡ true
    → Checks v (split_to v p)
split_to_checked v p kept h may l c =
    let upper : LeafView = upper_of (leaf_in v p) (middle (leaf_in v p)) (next_id v) (next_number v) in
    let low : IsLow l (leaf_of (image_of upper)) =
    at_place (IsLow l) v.leaves p (split_within v.leaves p may) c.leaves in
    record {
      leaves = lows_split (λ n. l ≤ n) v.leaves p (next_id v) (next_number v) kept.leaves may c.leaves;
      ready =
          (ready_stays (IsLow l)).grow _ (split_of v.log (leaf_in v p) (middle (leaf_in v p))) v.log v.stable
          (split_recoverable v p kept h may).legal h.fit
          (λ leaf made. subst (IsLow l) (let same : leaf_of (image_of upper) ≡ leaf = cc in same) low) c.ready;
    }

merged_to_checked : (v : SystemView) (p : ℕ) → IsRecoverable v → may_merge_at v.leaves p ≡ true
    → Checks v (merged_to v p)
merged_to_checked v p h may l c =
    let left : LeafView = leaf_in v p in
    let right : LeafView = leaf_in v (p + 1) in
    let both : LeafView = joined_of left right (next_number v) in
    let was : IsLow l left = at_place (IsLow l) v.leaves p (omega (arith, merge_within v.leaves p may)) c.leaves in
    let low : IsLow l (leaf_of (image_of both)) = omega (arith, was, low_grows left.ab right.ab.low) in
    record {
      leaves = lows_merged (λ n. l ≤ n) v.leaves p (next_number v) c.leaves;
      ready =
          (ready_stays (IsLow l)).grow _ (merge_of v.log left right) v.log v.stable
          (merge_recoverable v p h may).legal h.fit
          (λ leaf made. subst (IsLow l) (let same : leaf_of (image_of both) ≡ leaf = cc in same) low) c.ready;
    }

checked_splits : (old : SystemView) (p : ℕ) (pair : Neighbours) (new : SystemView) → IsSystem old
    → IsRecoverable old → Splits old p pair new → Checks old new
checked_splits old p pair new kept h splits =
    subst (Checks old) (sym splits.after) (split_to_checked old p kept h splits.may)

checked_merges : (old : SystemView) (p : ℕ) (pair : Neighbours) (new : SystemView) → IsRecoverable old
    → Merges old p pair new → Checks old new
checked_merges old p pair new h merges =
    subst (Checks old) (sym merges.after) (merged_to_checked old p h merges.may)

-- ---- leaves are written

-- the page of a leaf that the log has so
page_checked : (v : SystemView) (leaf : LeafView) (usage : Usage) (l : ℕ) → IsImage (image_of leaf)
    → IsCurrent v.log leaf.id leaf → IsLow l leaf → IsChecked l v
    → IsChecked l (record v {
      pages = table.insert v.pages leaf.id (image_bytes (image_of leaf));
      page_usage = usage;
    })
page_checked v leaf usage l fits current low c = record {
  leaves = c.leaves;
  ready = subst (λ (pages : ℕ → Option LeafView). IsReady (IsLow l) pages v.log v.stable)
      (sym (λ i id. pages_written v.pages leaf fits id i))
      ((ready_stays (IsLow l)).write (pages_of v.pages) v.log v.stable leaf.id leaf current low c.ready);
}

written_checked : (v : SystemView) (leaf : LeafView) (l : ℕ) → IsRecoverable v → IsImage (image_of leaf)
    → IsCurrent v.log leaf.id leaf → IsLow l leaf → IsChecked l v → IsChecked l (written_to v leaf)
written_checked v leaf l h fits current low c =
    elim (cases_Bool (nat_le leaf.last v.stable)) [
      | inl stable ↦ rw stable (page_checked v leaf (called v.page_usage) l fits current low c)
      | inr young ↦
          rw young
          (page_checked (forced v) leaf (called v.page_usage) l fits current low (forced_checked v h l c))
    ]

written_all_checked : (v : SystemView) (leaves : List LeafView) (l : ℕ) → IsRecoverable v → HaveImages leaves
    → AreSo v leaves → AllByRecursion (IsLow l) leaves → IsChecked l v → IsChecked l (written_all v leaves)
written_all_checked v [] l h fit all lows c = c
written_all_checked v (leaf ∷ leaves) l h fit all lows c =
    written_all_checked (written_to v leaf) leaves l (recoverable_written v leaf h fit.0 all.0) fit.1
    (still_so v leaf leaves all.1) lows.1 (written_checked v leaf l h fit.0 all.0 lows.0 c)

checked_failed : (v : SystemView) (leaf : LeafView) (new : SystemView) → IsRecoverable v → FailsWriting v leaf new
    → Checks v new
checked_failed v leaf new h (inl force) l c =
    subst (IsChecked l) (sym force.1.0) (usage_checked v _ v.page_usage l c)
checked_failed v leaf new h (inr write) l c =
    subst (IsChecked l) (sym write.0)
    (usage_checked (covered v leaf) (covered v leaf).log_usage _ l (covered_checked v leaf h l c))

checked_failed_among : (v : SystemView) (leaves : List LeafView) (new : SystemView) (l : ℕ)
    → IsRecoverable v → AreSo v leaves → AllByRecursion (IsLow l) leaves → FailsAmong v leaves new → IsChecked l v
    → IsChecked l new
checked_failed_among v [] new l h all lows fails c = absurd fails
checked_failed_among v (leaf ∷ leaves) new l h all lows (inl here) c = checked_failed v leaf new h here l c
checked_failed_among v (leaf ∷ leaves) new l h all lows (inr later) c =
    checked_failed_among (written_to v leaf) leaves new l (recoverable_written v leaf h later.0 all.0)
    (still_so v leaf leaves all.1) lows.1 later.1 (written_checked v leaf l h later.0 all.0 lows.0 c)

-- ---- whatever a call gives

refused_at : (old : SystemView) (r : Refusal) (new : SystemView) → new ≡ log_refused old r → Checks old new
refused_at old r new is = subst (Checks old) (sym is) (usage_checked old _ old.page_usage)

pub checked_split : (old : SystemView) (k : Bytes) (known : ℕ) (given : Result Neighbours Refusal) (new : SystemView)
    → IsSystem old → IsRecoverable old → SplitGives old k known given new → Checks old new
checked_split old k known (Ok pair) new kept h gives = checked_splits old _ pair new kept h gives.1
checked_split old k known (Err r) new kept h gives = refused_at old r new gives.1

pub checked_merge : (old : SystemView) (k : Bytes) (known : ℕ) (given : Result Neighbours Refusal) (new : SystemView)
    → IsRecoverable old → MergeGives old k known given new → Checks old new
checked_merge old k known (Ok pair) new h gives = checked_merges old _ pair new h gives.1
checked_merge old k known (Err r) new h gives = refused_at old r new gives.1

checked_tends : (known : ℕ) (old : SystemView) (does : Tending) (what : Tended) (new : SystemView) → IsSystem old
    → IsRecoverable old → TendsTo known old does what new → Checks old new
checked_tends known old (SplitsAt p) (tended.Split pair) new kept h gives = checked_splits old p pair new kept h gives.1
checked_tends known old (SplitsAt p) (tended.Merged pair) new kept h gives = absurd gives
checked_tends known old (SplitsAt p) tended.Nothing new kept h gives = absurd gives
checked_tends known old (MergesAt p) (tended.Split pair) new kept h gives = absurd gives
checked_tends known old (MergesAt p) (tended.Merged pair) new kept h gives = checked_merges old p pair new h gives.1
checked_tends known old (MergesAt p) tended.Nothing new kept h gives = absurd gives
checked_tends known old Rests (tended.Split pair) new kept h gives = absurd gives
checked_tends known old Rests (tended.Merged pair) new kept h gives = absurd gives
checked_tends known old Rests tended.Nothing new kept h gives = subst (Checks old) (sym gives) (λ l c. c)

checked_stops_tending : (old : SystemView) (does : Tending) (r : Refusal) (new : SystemView)
    → StopsTending old does r new → Checks old new
checked_stops_tending old (SplitsAt p) r new stops = refused_at old r new stops.1
checked_stops_tending old (MergesAt p) r new stops = refused_at old r new stops.1
checked_stops_tending old Rests r new stops = absurd stops

pub checked_tend : (old : SystemView) (merges : Bool) (known : ℕ) (given : Result Tended Refusal) (new : SystemView)
    → IsSystem old → IsRecoverable old → TendGives old merges known given new → Checks old new
checked_tend old merges known (Ok what) new kept h gives = checked_tends known old (tending old merges known) what new kept h gives
checked_tend old merges known (Err r) new kept h gives = checked_stops_tending old (tending old merges known) r new gives

pub checked_flush : (old : SystemView) (k : Bytes) (known : ℕ) (given : Result ℕ Refusal) (new : SystemView)
    → IsSystem old → IsRecoverable old → FlushGives old k known given new → Checks old new
checked_flush old k known (Ok id) new kept h gives l c =
    let at : IsCurrent old.log (leaf_at old.leaves k).id (leaf_at old.leaves k) =
    all_at (λ (leaf : LeafView). IsCurrent old.log leaf.id leaf) old.leaves k kept.leaves h.current.each in
    let low : IsLow l (leaf_at old.leaves k) = all_at (IsLow l) old.leaves k kept.leaves c.leaves in
    subst (IsChecked l) (sym gives.after) (written_checked old (leaf_at old.leaves k) l h gives.fits at low c)
checked_flush old k known (Err r) new kept h gives l c =
    elim (cases_Bool (is_within known (leaf_at old.leaves k))) [
      | inl within ↦ elim (rw within at gives) [
        | inl memory ↦ subst (IsChecked l) (sym memory.1) c
        | inr fails ↦ checked_failed old (leaf_at old.leaves k) new h fails.1 l c
      ]
      | inr above ↦ let none : StopsNotNow old r new = rw above at gives in subst (IsChecked l) (sym none.1) c
    ]

pub checked_accept : (old : SystemView) (s end : ℕ) (given : Result Unit Refusal) (new : SystemView)
    → IsRecoverable old → AcceptGives old s end given new → Checks old new
checked_accept old s end (Ok done) new h gives l c =
    subst (IsChecked l) (sym gives.1) (session_checked old s end h l c)
checked_accept old s end (Err r) new h (inl append) l c = refused_at old r new append.1 l c
checked_accept old s end (Err r) new h (inr force) l c =
    refused_at (accepted old s) Device new force.2.0 l (accepted_checked old s h l c)

pub checked_checkpoint : (old : SystemView) (to known : ℕ) (given : Result Unit Refusal) (new : SystemView)
    → IsRecoverable old → CheckpointGives old to known given new → Checks old new
checked_checkpoint old to known (Ok done) new h gives l c =
    let raised : IsRecoverable (lowered old to) = recoverable_lowered old to h in
    let low : IsChecked l (lowered old to) = lowered_checked old to l c in
    subst (IsChecked l) (sym gives.after)
    (written_all_checked (lowered old to) (lowered old to).leaves l raised gives.fit raised.current.each low.leaves low)
checked_checkpoint old to known (Err r) new h gives l c =
    elim (cases_Bool (all_within known old.leaves)) [
      | inl within ↦ elim (rw within at gives) [
        | inl none ↦ subst (IsChecked l) (sym none.1) c
        | inr stops ↦
            let raised : IsRecoverable (lowered old to) = recoverable_lowered old to h in
            let low : IsChecked l (lowered old to) = lowered_checked old to l c in
            checked_failed_among (lowered old to) (lowered old to).leaves new l raised raised.current.each low.leaves
            stops.1 low
      ]
      | inr above ↦ let none : StopsNotNow old r new = rw above at gives in subst (IsChecked l) (sym none.1) c
    ]

-- ---- a crash

pub crashed_checked : (v : SystemView) (n : ℕ) → IsRecoverable v → v.stable ≤ n → Checks v (crashed v n)
crashed_checked v n h le l c = record {
  leaves =
      ready_recovered (IsLow l) (pages_of v.pages) v.log v.stable n (λ leaf d cut less inside low. low) h.legal h.fit le
      c.ready;
  ready = (ready_stays (IsLow l)).crash (pages_of v.pages) v.log v.stable n le c.ready;
}
