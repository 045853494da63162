-- What system transactions leave of the data component is as it must be at every moment.
use Rattle.std.proofs.Common.{◌≡◌, ℕ, ◌≤◌, ◌==◌, Bool, true, false, List, [], ◌∷◌, refl, sym, ap, ◌∙◌, subst, arith, inl, inr, eqb-true}
use Rattle.std.specs.Prelude.{Option, Some, None, Result, Ok, Err, ◌&&◌, nat_le, if◌then◌else◌}
use Rattle.std.specs.List.{AllByRecursion}
use Rattle.std.proofs.lemmas.Bool.{cases_Bool, or_cases, or_left, or_right, and_from, MatchBool-at_true, MatchBool-at_false}
use Rattle.record_key.specs.declared.refusal.Refusal.{Refusal}
use Rattle.record_key.specs.declared.entry.Entry.{Entry}
use Rattle.record_key.specs.Table.{Bytes, key_of}
use Rattle.record_key.proofs.Lists.{all_from}
use Rattle.dc_ab_lsn.specs.AbLsn.{AbLsnView, stands_in, captures}
use Rattle.dc_ab_lsn.specs.Parting.{is_under, is_from, entries_with, stands_with}
use Rattle.dc_ab_lsn.proofs.Capturing.{parted_captures, joined_captures}
use Rattle.dc_leaf.specs.Leaf.{LeafView}
use Rattle.dc_tree.specs.Leaves.{leaf_at, rows_of}
use Rattle.dc_tree.specs.Parting.{middle, split_at, merged_at}
use Rattle.dc_tree.proofs.AtKey.{all_at, captured_raised}
use Rattle.dc_tree.proofs.Carried.{AreLows, entries_raised, entries_split, entries_merged}
use Rattle.dc_tree.proofs.Merging.{AreJoinable, joinable, leaf_merged}
use Rattle.dc_tree.proofs.Splitting.{leaf_split}
use Rattle.dc_tree.proofs.Stays.{raised_stays, split_stays, merged_stays}
use Rattle.dc_recovery.specs.Recovery.{stored_session}
use Rattle.framed_log.specs.Beginning.{beginning}
use Rattle.stable.specs.Usage.{Usage}
use Rattle.dc_store.specs.SystemView.{SystemView, with_usage, log_refused}
use Rattle.dc_store.specs.Kept.{IsSystem}
use Rattle.dc_store.specs.Changes.{next_id, next_number, lowered, accepted, covered, forced, written_to, written_all}
use Rattle.dc_store.specs.Gives as gives
use Rattle.dc_leaf.specs.Tops.{is_within, all_within}
use Rattle.dc_store.specs.Gives.{Splits, Merges, SplitGives, MergeGives, TendGives, FlushGives, StopsWriting, CheckpointGives, StopsCheckpoint, AcceptGives, FailsWriting, FailsAmong, tending}
use Rattle.dc_store.specs.declared.tended.Neighbours.{Neighbours}
use Rattle.dc_store.specs.declared.tended.Tended.{Tended}
use Rattle.dc_store.specs.declared.tended.Tended.TheVariants as tended
use Rattle.dc_core.specs.declared.performance.Performance.{Performance}
use Rattle.dc_core.specs.DcView.{DcView, leaves, captures_at}
use Rattle.dc_core.specs.Serves.{with_system}
use Rattle.dc_core.specs.Kept.{IsDc, Saves, IsListed, AreListed, for_laws, IsPerformed, ArePerformed, IsShown, IsLevel}
use Rattle.dc_core.specs.Tends.{may_merge}
use Rattle.dc_core.proofs.LowNumbers.{all_each, shown_level, shown_split, level_split, level_merged, shown_raised, level_raised}
use Rattle.dc_core.proofs.KeepsDc.{Carries, keeps_carried, same_leaves}
use Rattle.dc_store.proofs.Keeps.{keeps_usage}
use Rattle.dc_core.proofs.Stored.{stored_grown, stored_forced}

-- ---- a leaf parted

-- a number whose entry lies on this side is still captured
stands_on : (p : Performance) (test : Bytes → Bool) (es : List Entry) → test (key_of p.op) ≡ true
    → AllByRecursion (Saves p) es → stands_in es p.number ≡ true
    → stands_with test es p.number ≡ true
stands_on p test [] passes saves there = there
stands_on p test (e ∷ es) passes saves there =
    elim (or_cases (p.number == e.number) (stands_in es p.number) there) [
      | inl here ↦
          let on : key_of p.op ≡ e.key = (saves.0 (eqb-true p.number e.number here)).0 in
          or_left ((p.number == e.number) && test e.key) (stands_with test es p.number)
          (and_from (p.number == e.number) (test e.key) here (ap test (sym on) ∙ passes))
      | inr later ↦
          or_right ((p.number == e.number) && test e.key) (stands_with test es p.number)
          (stands_on p test es passes saves.1 later)
    ]

captured_on : (p : Performance) (test : Bytes → Bool) (v : AbLsnView) → test (key_of p.op) ≡ true
    → AllByRecursion (Saves p) v.entries → captures v p.number ≡ true
    → captures (record v { entries = entries_with test v.entries }) p.number ≡ true
captured_on p test v passes saves was =
    parted_captures v.low v.entries test p.number
    ∙ elim (or_cases (nat_le p.number v.low) (stands_in v.entries p.number) was) [
      | inl low ↦ or_left (nat_le p.number v.low) (stands_with test v.entries p.number) low
      | inr there ↦
          or_right (nat_le p.number v.low) (stands_with test v.entries p.number)
          (stands_on p test v.entries passes saves there)
    ]

carries_split : (w : DcView) (p : ℕ) (pair : Neighbours) (v : SystemView) → IsDc w → Splits w.system p pair v
    → Carries w v
carries_split w p pair v k h = subst (Carries w) (sym h.after) (record {
  rows = (split_stays (leaves w) p (next_id w.system) (next_number w.system) k.system.leaves h.may).rows;
  captured = λ q was saves.
      let old : LeafView = leaf_at (leaves w) (key_of q.op) in
      let mine : AllByRecursion (Saves q) old.ab.entries =
      all_at (λ (leaf : LeafView). AllByRecursion (Saves q) leaf.ab.entries) (leaves w)
      (key_of q.op) k.system.leaves saves in
      let id : ℕ = next_id w.system in
      let d : ℕ = next_number w.system in
      elim (leaf_split (leaves w) p id d (key_of q.op) k.system.leaves.each h.may) [
        | inl same ↦ ap (λ (leaf : LeafView). captures leaf.ab q.number) same ∙ was
        | inr half ↦ elim half [
          | inl lower ↦
              ap (λ (leaf : LeafView). captures leaf.ab q.number) lower.is
              ∙ captured_on q (is_under (middle old)) old.ab lower.under mine was
          | inr upper ↦
              ap (λ (leaf : LeafView). captures leaf.ab q.number) upper.is
              ∙ captured_on q (is_from (middle old)) old.ab upper.from mine was
        ]
      ];
  saved =
      entries_split (IsListed w.performed) (leaves w) p (next_id w.system) (next_number w.system) k.system.leaves h.may
      k.saved;
  added =
      entries_split (IsPerformed w.opened_to (for_laws w.performed)) (leaves w) p (next_id w.system)
      (next_number w.system) k.system.leaves h.may k.added;
  shown =
      all_from (IsShown w.redone_low (leaves w))
      (IsShown w.redone_low (split_at p (next_id w.system) (next_number w.system) (leaves w)))
      (shown_split (leaves w) k.system.leaves w.redone_low p (next_id w.system) (next_number w.system) h.may)
      w.performed k.shown;
  level = λ merges.
      level_split (leaves w) k.system.leaves w.redone_low p (next_id w.system) (next_number w.system) h.may
      (k.level merges);
  stored = stored_grown _ w.system.log w.system.stable;
})

-- ---- two neighbours joined

carries_merge : (w : DcView) (p : ℕ) (pair : Neighbours) (v : SystemView) → IsDc w → may_merge w ≡ true
    → Merges w.system p pair v → Carries w v
carries_merge w p pair v k may h = subst (Carries w) (sym h.after) (record {
  rows = (merged_stays (leaves w) p (next_number w.system) k.system.leaves h.may).rows;
  captured = λ q was saves.
      let old : LeafView = leaf_at (leaves w) (key_of q.op) in
      elim (leaf_merged AreJoinable (λ left right both. both.next) (next_number w.system) (key_of q.op) (leaves w) p
      (joinable (leaves w) p k.system.leaves)) [
        | inl same ↦ ap (λ (leaf : LeafView). captures leaf.ab q.number) same ∙ was
        | inr both ↦ elim both [
          | inl left ↦
              ap (λ (leaf : LeafView). captures leaf.ab q.number) left.is
              ∙ joined_captures old.ab left.right.ab q.number
              ∙ or_left (captures old.ab q.number) (captures left.right.ab q.number) was
          | inr right ↦
              ap (λ (leaf : LeafView). captures leaf.ab q.number) right.is
              ∙ joined_captures right.left.ab old.ab q.number
              ∙ or_right (captures right.left.ab q.number) (captures old.ab q.number) was
        ]
      ];
  saved = entries_merged (IsListed w.performed) (leaves w) p (next_number w.system) k.saved;
  added =
      entries_merged (IsPerformed w.opened_to (for_laws w.performed)) (leaves w) p (next_number w.system) k.added;
  shown =
      all_each (IsShown w.redone_low (merged_at p (next_number w.system) (leaves w)))
      (shown_level w.redone_low (merged_at p (next_number w.system) (leaves w))
      (merged_stays (leaves w) p (next_number w.system) k.system.leaves h.may).leaves
      (level_merged (leaves w) k.system.leaves w.redone_low p (next_number w.system) (k.level may))) w.performed;
  level = λ merges.
      level_merged (leaves w) k.system.leaves w.redone_low p (next_number w.system) (k.level merges);
  stored = stored_grown _ w.system.log w.system.stable;
})

-- ---- low numbers raised

pub carries_lowered : (w : DcView) (l : ℕ) → IsDc w → Carries w (lowered w.system l)
carries_lowered w l k = record {
  rows = (raised_stays (leaves w) l k.system.leaves).rows;
  captured = λ q was saves.
      captured_raised (leaves w) k.system.leaves l (key_of q.op) q.number
      ∙ or_left (captures_at w (key_of q.op) q.number) (nat_le q.number l) was;
  saved = entries_raised (IsListed w.performed) (leaves w) l k.saved;
  added = entries_raised (IsPerformed w.opened_to (for_laws w.performed)) (leaves w) l k.added;
  shown =
      all_from (IsShown w.redone_low (leaves w)) (IsShown w.redone_low (lowered w.system l).leaves)
      (shown_raised w.redone_low (leaves w) k.system.leaves l) w.performed k.shown;
  level = λ merges. level_raised w.redone_low (leaves w) k.system.leaves l (k.level merges);
  stored = omega arith;
}

-- ---- leaves written

-- the leaves are as they were, and no stored session is lost
record IsAlike (old v : SystemView) : Type 0 where
  leaves : v.leaves ≡ old.leaves
  stored : stored_session (beginning old.log old.stable) ≤ stored_session (beginning v.log v.stable)

alike_itself : (v : SystemView) → IsAlike v v
alike_itself v = record { leaves = refl; stored = omega arith }

accepted_alike : (v : SystemView) (s : ℕ) → IsAlike v (accepted v s)
accepted_alike v s = record { leaves = refl; stored = stored_grown _ v.log v.stable }

covered_alike : (v : SystemView) (leaf : LeafView) → IsAlike v (covered v leaf)
covered_alike v leaf = by (nat_le leaf.last v.stable)
  where
    by : (b : Bool) → IsAlike v (if b then v else forced v)
    by true = alike_itself v
    by false = record { leaves = refl; stored = stored_forced v.log v.stable }

alike_then : (a b c : SystemView) → IsAlike a b → IsAlike b c → IsAlike a c
alike_then a b c h g = record { leaves = g.leaves ∙ h.leaves; stored = omega (arith, h.stored, g.stored) }

written_alike : (v : SystemView) (leaf : LeafView) → IsAlike v (written_to v leaf)
written_alike v leaf = let h = covered_alike v leaf in record { leaves = h.leaves; stored = h.stored }

all_alike : (v : SystemView) (ls : List LeafView) → IsAlike v (written_all v ls)
all_alike v [] = alike_itself v
all_alike v (leaf ∷ ls) =
    alike_then v (written_to v leaf) (written_all (written_to v leaf) ls) (written_alike v leaf)
    (all_alike (written_to v leaf) ls)

usage_alike : (old v : SystemView) (log_usage page_usage : Usage) → IsAlike old v
    → IsAlike old (with_usage v log_usage page_usage)
usage_alike old v log_usage page_usage h = record { leaves = h.leaves; stored = h.stored }

failed_alike : (v : SystemView) (leaf : LeafView) (new : SystemView) → FailsWriting v leaf new → IsAlike v new
failed_alike v leaf new (inl force) =
    subst (IsAlike v) (sym force.1.0) (usage_alike v v _ v.page_usage (alike_itself v))
failed_alike v leaf new (inr write) =
    subst (IsAlike v) (sym write.0)
    (usage_alike v (covered v leaf) (covered v leaf).log_usage _ (covered_alike v leaf))

among_alike : (v : SystemView) (ls : List LeafView) (new : SystemView) → FailsAmong v ls new → IsAlike v new
among_alike v [] new h = absurd h
among_alike v (leaf ∷ ls) new (inl h) = failed_alike v leaf new h
among_alike v (leaf ∷ ls) new (inr h) =
    alike_then v (written_to v leaf) new (written_alike v leaf) (among_alike (written_to v leaf) ls new h.1)

carries_alike : (w : DcView) (u v : SystemView) → Carries w u → IsAlike u v → Carries w v
carries_alike w u v c h = record {
  rows = ap rows_of h.leaves ∙ c.rows;
  captured = λ q was saves.
      ap (λ (ls : List LeafView). captures (leaf_at ls (key_of q.op)).ab q.number) h.leaves
      ∙ c.captured q was saves;
  saved = subst (AllByRecursion (AreListed w.performed)) (sym h.leaves) c.saved;
  added = subst (AllByRecursion (ArePerformed w.opened_to (for_laws w.performed))) (sym h.leaves) c.added;
  shown = subst (λ (ls : List LeafView). AllByRecursion (IsShown w.redone_low ls) w.performed) (sym h.leaves) c.shown;
  level = λ merges. subst (λ (ls : List LeafView). AreLows (IsLevel w.redone_low ls) ls) (sym h.leaves) (c.level merges);
  stored = omega (arith, c.stored, h.stored);
}

-- ---- each call

-- the same leaves and log, or a failure more
carries_same : (w : DcView) → IsDc w → Carries w w.system
carries_same w k = same_leaves w w.system k refl (omega arith)

carries_refused : (w : DcView) (r : Refusal) (v : SystemView) → IsDc w → v ≡ log_refused w.system r → Carries w v
carries_refused w r v k same =
    subst (Carries w) (sym same) (carries_alike w w.system (log_refused w.system r) (carries_same w k)
    (usage_alike w.system w.system _ w.system.page_usage (alike_itself w.system)))

-- however the devices were used
pub usage_keeps : (w : DcView) (log_usage page_usage : Usage) → IsDc w
    → IsDc (with_system w (with_usage w.system log_usage page_usage))
usage_keeps w log_usage page_usage k =
    keeps_carried w (with_usage w.system log_usage page_usage) k (keeps_usage w.system log_usage page_usage k.system)
    (carries_alike w w.system (with_usage w.system log_usage page_usage) (carries_same w k)
    (usage_alike w.system w.system log_usage page_usage (alike_itself w.system)))

pub split_keeps : (w : DcView) (key : Bytes) (given : Result Neighbours Refusal) (v : SystemView) → IsDc w → IsSystem v
    → SplitGives w.system key w.known given v → IsDc (with_system w v)
split_keeps w key (Ok pair) v k is h = keeps_carried w v k is (carries_split w _ pair v k h.1)
split_keeps w key (Err r) v k is h = keeps_carried w v k is (carries_refused w r v k h.1)

pub merge_keeps : (w : DcView) (key : Bytes) (given : Result Neighbours Refusal) (v : SystemView) → IsDc w → IsSystem v
    → may_merge w ≡ true → MergeGives w.system key w.known given v → IsDc (with_system w v)
merge_keeps w key (Ok pair) v k is may h = keeps_carried w v k is (carries_merge w _ pair v k may h.1)
merge_keeps w key (Err r) v k is may h = keeps_carried w v k is (carries_refused w r v k h.1)

-- leaves are joined only where merges are let
merges_let : (merges : Bool) (large pair : Option ℕ) (p : ℕ)
    → gives.tending_of large (gives.merging merges pair) ≡ gives.MergesAt p → merges ≡ true
merges_let true large pair p is = refl
merges_let false (Some q) pair p is = absurd (cc)
merges_let false None pair p is = absurd (cc)

carries_tended : (w : DcView) (what : gives.Tending) (done : Tended) (v : SystemView) → IsDc w
    → ((p : ℕ) → what ≡ gives.MergesAt p → may_merge w ≡ true) → gives.TendsTo w.known w.system what done v
    → Carries w v
carries_tended w (gives.SplitsAt p) (tended.Split pair) v k may h = carries_split w p pair v k h.1
carries_tended w (gives.MergesAt p) (tended.Merged pair) v k may h = carries_merge w p pair v k (may p refl) h.1
carries_tended w gives.Rests tended.Nothing v k may h = subst (Carries w) (sym h) (carries_same w k)
carries_tended w (gives.SplitsAt p) (tended.Merged pair) v k may h = absurd h
carries_tended w (gives.SplitsAt p) tended.Nothing v k may h = absurd h
carries_tended w (gives.MergesAt p) (tended.Split pair) v k may h = absurd h
carries_tended w (gives.MergesAt p) tended.Nothing v k may h = absurd h
carries_tended w gives.Rests (tended.Split pair) v k may h = absurd h
carries_tended w gives.Rests (tended.Merged pair) v k may h = absurd h

carries_untended : (w : DcView) (what : gives.Tending) (r : Refusal) (v : SystemView) → IsDc w
    → gives.StopsTending w.system what r v → Carries w v
carries_untended w (gives.SplitsAt p) r v k h = carries_refused w r v k h.1
carries_untended w (gives.MergesAt p) r v k h = carries_refused w r v k h.1
carries_untended w gives.Rests r v k h = absurd h

pub tend_keeps : (w : DcView) (merges : Bool) (given : Result Tended Refusal) (v : SystemView) → IsDc w → IsSystem v
    → merges ≡ may_merge w → TendGives w.system merges w.known given v → IsDc (with_system w v)
tend_keeps w merges (Ok done) v k is may h =
    keeps_carried w v k is (carries_tended w (tending w.system merges w.known) done v k
    (λ p merged. sym may ∙ merges_let merges _ _ p merged) h)
tend_keeps w merges (Err r) v k is may h =
    keeps_carried w v k is (carries_untended w (tending w.system merges w.known) r v k h)

pub flush_keeps : (w : DcView) (key : Bytes) (given : Result ℕ Refusal) (v : SystemView) → IsDc w → IsSystem v
    → FlushGives w.system key w.known given v → IsDc (with_system w v)
flush_keeps w key (Ok id) v k is h =
    keeps_carried w v k is (subst (Carries w) (sym h.after)
    (carries_alike w w.system _ (carries_same w k) (written_alike w.system (leaf_at (leaves w) key))))
flush_keeps w key (Err r) v k is h =
    keeps_carried w v k is (elim (cases_Bool (is_within w.known (leaf_at (leaves w) key))) [
      | inl within ↦ stops (MatchBool-at_true _ _ within h)
      | inr above ↦ subst (Carries w) (sym (MatchBool-at_false _ _ above h).1) (carries_same w k)
    ])
  where
    stops : StopsWriting w.system (leaf_at (leaves w) key) r v → Carries w v
    stops (inl memory) = subst (Carries w) (sym memory.1) (carries_same w k)
    stops (inr fails) = carries_alike w w.system v (carries_same w k)
        (failed_alike w.system (leaf_at (leaves w) key) v fails.1)

-- a session that wasn't accepted
pub refused_keeps : (w : DcView) (s end : ℕ) (r : Refusal) (v : SystemView) → IsDc w → IsSystem v
    → AcceptGives w.system s end (Err r) v → IsDc (with_system w v)
refused_keeps w s end r v k is (inl append) = keeps_carried w v k is (carries_refused w r v k append.1)
refused_keeps w s end r v k is (inr force) =
    keeps_carried w v k is (carries_alike w w.system v (carries_same w k)
    (subst (IsAlike w.system) (sym force.2.0)
    (usage_alike w.system (accepted w.system s) _ w.system.page_usage (accepted_alike w.system s))))

pub lower_keeps : (w : DcView) (l : ℕ) → IsDc w → IsSystem (lowered w.system l)
    → IsDc (with_system w (lowered w.system l))
lower_keeps w l k is = keeps_carried w (lowered w.system l) k is (carries_lowered w l k)

pub checkpoint_keeps : (w : DcView) (l : ℕ) (given : Result Unit Refusal) (v : SystemView) → IsDc w → IsSystem v
    → CheckpointGives w.system l w.known given v → IsDc (with_system w v)
checkpoint_keeps w l (Ok done) v k is h =
    let u : SystemView = lowered w.system l in
    keeps_carried w v k is (subst (Carries w) (sym h.after)
    (carries_alike w u (written_all u u.leaves) (carries_lowered w l k) (all_alike u u.leaves)))
checkpoint_keeps w l (Err r) v k is h =
    keeps_carried w v k is (elim (cases_Bool (all_within w.known (leaves w))) [
      | inl within ↦ stops (MatchBool-at_true _ _ within h)
      | inr above ↦ subst (Carries w) (sym (MatchBool-at_false _ _ above h).1) (carries_same w k)
    ])
  where
    stops : StopsCheckpoint w.system l r v → Carries w v
    stops (inl memory) = subst (Carries w) (sym memory.1) (carries_same w k)
    stops (inr fails) = carries_alike w (lowered w.system l) v (carries_lowered w l k)
        (among_alike (lowered w.system l) (lowered w.system l).leaves v fails.1)
