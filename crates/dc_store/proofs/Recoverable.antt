-- The log stays legal, the leaves stay those that it says, and the pages go on to fit it.
use Rattle.std.proofs.Common.{◌≡◌, ℕ, ◌≤◌, Bool, List, [], ◌∷◌, Option, Some, None, length, map, refl, sym, ap, ◌∙◌, subst, arith, inl, inr}
use Rattle.std.specs.Prelude.{nat_le, Result, Ok, Err}
use Rattle.std.specs.List.{AllByRecursion}
use Rattle.std.specs.FinMap as table
use Rattle.std.proofs.lemmas.Bool.{cases_Bool, leb-true}
use Rattle.record_key.specs.declared.op.Op.{Op}
use Rattle.record_key.specs.declared.refusal.Refusal.{Refusal}
use Rattle.record_key.specs.declared.refusal.Refusal.TheVariants.{Device}
use Rattle.record_key.specs.Table.{Bytes, key_of}
use Rattle.codec.specs.declared.dc_record.DcRecord.TheVariants as is
use Rattle.codec.specs.Images.{image_bytes, IsImage}
use Rattle.codec.specs.Reading.{◌>>=◌}
use Rattle.dc_leaf.specs.Leaf.{LeafView, is_in_fences, performed, raised_to}
use Rattle.dc_leaf.specs.TakingBack.{taken_back as leaf_taken_back}
use Rattle.dc_leaf.specs.Tops.{is_within, all_within}
use Rattle.dc_leaf.specs.Tiles.{part_of, parts_of}
use Rattle.dc_tree.specs.Leaves.{leaf_at, changed_at}
use Rattle.dc_tree.specs.Performs.{performed_at}
use Rattle.dc_tree.proofs.AtKey.{all_at}
use Rattle.dc_tree.proofs.Changing.{parts_changed, parts_mapped}
use Rattle.dc_recovery.specs.Images.{image_of}
use Rattle.dc_recovery.specs.Laws.{IsCurrent}
use Rattle.dc_recovery.specs.Leaves.{lasts_of}
use Rattle.dc_recovery.specs.Recovery.{FitPages}
use Rattle.dc_recovery.proofs.Fitting.{fit_stays}
use Rattle.dc_recovery.proofs.Leaves.{leaves_are_the_shapes}
use Rattle.stable.specs.Usage.{Usage, called}
use Rattle.dc_store.specs.SystemView.{SystemView, fresh_system, with_usage, log_refused}
use Rattle.dc_store.specs.Changes.{accepted, covered, forced, lowered, taken_back, written_to, written_all}
use Rattle.dc_store.specs.Devices.{pages_of, page_in}
use Rattle.dc_store.specs.Gives.{Splits, Merges, SplitGives, MergeGives, Tending, SplitsAt, MergesAt, Rests, tending, TendsTo, TendGives, FlushGives, CheckpointGives, AcceptGives, HaveImages, StopsNotNow, StopsTending, FailsWriting, FailsAmong}
use Rattle.dc_store.specs.Kept.{IsSystem, IsRecoverable}
use Rattle.dc_store.specs.declared.tended.Neighbours.{Neighbours}
use Rattle.dc_store.specs.declared.tended.Tended.{Tended}
use Rattle.dc_store.specs.declared.tended.Tended.TheVariants as tended
use Rattle.dc_store.proofs.Fresh.{no_page}
use Rattle.dc_store.proofs.Parted.{split_recoverable, merge_recoverable}
use Rattle.dc_store.proofs.Written.{pages_written}

-- ---- one leaf, and nothing written

pub recoverable_fresh : (log_usage page_usage : Usage) → IsRecoverable (fresh_system log_usage page_usage)
recoverable_fresh log_usage page_usage = record {
  legal = tt;
  current = leaves_are_the_shapes.start;
  fit = record {
    kept = omega arith;
    each = λ id page is. absurd
        (let none : pages_of table.empty id ≡ None =
        ap (λ (o : Option (List ℕ)). o >>= page_in) (no_page id table.empty refl) in
        let wrong : None ≡ Some page = sym none ∙ is in cc);
  };
}

-- ---- the log grows, and more of it is stable

-- however the devices were used
pub recoverable_usage : (v : SystemView) (log_usage page_usage : Usage) → IsRecoverable v
    → IsRecoverable (with_usage v log_usage page_usage)
recoverable_usage v log_usage page_usage h = record { legal = h.legal; current = h.current; fit = h.fit }

pub recoverable_forced : (v : SystemView) → IsRecoverable v → IsRecoverable (forced v)
recoverable_forced v h = record {
  legal = h.legal;
  current = h.current;
  fit = fit_stays.force _ v.log v.stable (length v.log) h.fit h.fit.kept (omega arith);
}

pub recoverable_covered : (v : SystemView) (leaf : LeafView) → IsRecoverable v → IsRecoverable (covered v leaf)
recoverable_covered v leaf h =
    elim (cases_Bool (nat_le leaf.last v.stable)) [
      | inl stable ↦ rw stable h
      | inr young ↦ rw young (recoverable_forced v h)
    ]

pub recoverable_accepted : (v : SystemView) (session : ℕ) → IsRecoverable v → IsRecoverable (accepted v session)
recoverable_accepted v session h = record {
  legal = (tt, h.legal);
  current = leaves_are_the_shapes.accept v.log session v.leaves h.current;
  fit = fit_stays.grow _ (is.Accept session) v.log v.stable h.fit;
}

-- ---- leaves change, and keep their numbers, fences and last changes

in_place : (v : SystemView) (leaves : List LeafView) → IsRecoverable v → parts_of leaves ≡ parts_of v.leaves
    → lasts_of leaves ≡ lasts_of v.leaves → IsRecoverable (record v { leaves = leaves })
in_place v leaves h parts lasts = record {
  legal = h.legal;
  current = leaves_are_the_shapes.change v.log v.leaves leaves h.current parts lasts;
  fit = h.fit;
}

module _ (change : LeafView → LeafView) (part : (leaf : LeafView) → part_of (change leaf) ≡ part_of leaf)
    (last : (leaf : LeafView) → (change leaf).last ≡ leaf.last) where
  lasts_mapped : (leaves : List LeafView) → lasts_of (map change leaves) ≡ lasts_of leaves
  lasts_mapped [] = refl
  lasts_mapped (leaf ∷ leaves) = λ i. last leaf i ∷ lasts_mapped leaves i

  recoverable_mapped : (v : SystemView) → IsRecoverable v → IsRecoverable (record v { leaves = map change v.leaves })
  recoverable_mapped v h =
      in_place v (map change v.leaves) h (parts_mapped change part v.leaves) (lasts_mapped v.leaves)

pub recoverable_lowered : (v : SystemView) (l : ℕ) → IsRecoverable v → IsRecoverable (lowered v l)
recoverable_lowered v l h = recoverable_mapped (λ leaf. raised_to leaf l) (λ leaf. refl) (λ leaf. refl) v h

pub recoverable_taken_back : (v : SystemView) (end : ℕ) → IsRecoverable v → IsRecoverable (taken_back v end)
recoverable_taken_back v end h =
    recoverable_mapped (λ leaf. leaf_taken_back leaf end) (λ leaf. refl) (λ leaf. refl) v h

lasts_changed : (k : Bytes) (change : LeafView → LeafView) → ((leaf : LeafView) → (change leaf).last ≡ leaf.last)
    → (leaves : List LeafView) → lasts_of (changed_at k change leaves) ≡ lasts_of leaves
lasts_changed k change same [] = refl
lasts_changed k change same (leaf ∷ leaves) =
    elim (cases_Bool (is_in_fences leaf k)) [
      | inl here ↦ rw here (ap (λ (n : ℕ). n ∷ lasts_of leaves) (same leaf))
      | inr other ↦ rw other (ap (λ (ns : List ℕ). leaf.last ∷ ns) (lasts_changed k change same leaves))
    ]

pub recoverable_changed : (v : SystemView) (n : ℕ) (o : Op) → IsRecoverable v
    → IsRecoverable (record v { leaves = performed_at v.leaves n o })
recoverable_changed v n o h =
    let act : LeafView → LeafView = λ leaf. performed leaf n o in
    in_place v (performed_at v.leaves n o) h
    (parts_changed act (λ leaf. refl) (key_of o) v.leaves) (lasts_changed (key_of o) act (λ leaf. refl) v.leaves)

-- ---- leaves are split and joined

pub recoverable_splits : (old : SystemView) (p : ℕ) (pair : Neighbours) (new : SystemView) → IsSystem old
    → IsRecoverable old → Splits old p pair new → IsRecoverable new
recoverable_splits old p pair new kept h splits =
    subst IsRecoverable (sym splits.after) (split_recoverable old p kept h splits.may)

pub recoverable_merges : (old : SystemView) (p : ℕ) (pair : Neighbours) (new : SystemView) → IsRecoverable old
    → Merges old p pair new → IsRecoverable new
recoverable_merges old p pair new h merges =
    subst IsRecoverable (sym merges.after) (merge_recoverable old p h merges.may)

-- ---- leaves are written

-- the page of a leaf that is no younger than the stable records
recoverable_page : (v : SystemView) (leaf : LeafView) (usage : Usage) → IsRecoverable v → IsImage (image_of leaf)
    → IsCurrent v.log leaf.id leaf → leaf.last ≤ v.stable
    → IsRecoverable (record v {
      pages = table.insert v.pages leaf.id (image_bytes (image_of leaf));
      page_usage = usage;
    })
recoverable_page v leaf usage h fits current stable = record {
  legal = h.legal;
  current = h.current;
  fit = subst (λ (pages : ℕ → Option LeafView). FitPages pages v.log v.stable)
      (sym (λ i id. pages_written v.pages leaf fits id i))
      (fit_stays.write (pages_of v.pages) v.log v.stable leaf.id leaf h.fit current stable);
}

pub recoverable_written : (v : SystemView) (leaf : LeafView) → IsRecoverable v → IsImage (image_of leaf)
    → IsCurrent v.log leaf.id leaf → IsRecoverable (written_to v leaf)
recoverable_written v leaf h fits current =
    elim (cases_Bool (nat_le leaf.last v.stable)) [
      | inl stable ↦
          rw stable
          (recoverable_page v leaf (called v.page_usage) h fits current (leb-true leaf.last v.stable stable))
      | inr young ↦
          rw young
          (recoverable_page (forced v) leaf (called v.page_usage) (recoverable_forced v h) fits current current.last)
    ]

-- leaves as the log has them
abbrev pub AreSo : SystemView → List LeafView → Type 0
AreSo v leaves = AllByRecursion (λ (leaf : LeafView). IsCurrent v.log leaf.id leaf) leaves

-- a write leaves the log
log_stays : (v : SystemView) (leaf : LeafView) → v.log ≡ (written_to v leaf).log
log_stays v leaf =
    elim (cases_Bool (nat_le leaf.last v.stable)) [
      | inl stable ↦ rw stable refl
      | inr young ↦ rw young refl
    ]

pub still_so : (v : SystemView) (leaf : LeafView) (leaves : List LeafView) → AreSo v leaves
    → AreSo (written_to v leaf) leaves
still_so v leaf leaves all =
    subst (λ log. AllByRecursion (λ (leaf : LeafView). IsCurrent log leaf.id leaf) leaves) (log_stays v leaf) all

pub recoverable_written_all : (v : SystemView) (leaves : List LeafView) → IsRecoverable v → HaveImages leaves
    → AllByRecursion (λ (leaf : LeafView). IsCurrent v.log leaf.id leaf) leaves → IsRecoverable (written_all v leaves)
recoverable_written_all v [] h fit all = h
recoverable_written_all v (leaf ∷ leaves) h fit all =
    recoverable_written_all (written_to v leaf) leaves (recoverable_written v leaf h fit.0 all.0) fit.1
    (still_so v leaf leaves all.1)

pub recoverable_failed : (v : SystemView) (leaf : LeafView) (new : SystemView) → IsRecoverable v
    → FailsWriting v leaf new → IsRecoverable new
recoverable_failed v leaf new h (inl force) =
    subst IsRecoverable (sym force.1.0) (recoverable_usage v _ v.page_usage h)
recoverable_failed v leaf new h (inr write) =
    subst IsRecoverable (sym write.0)
    (recoverable_usage (covered v leaf) (covered v leaf).log_usage _ (recoverable_covered v leaf h))

pub recoverable_failed_among : (v : SystemView) (leaves : List LeafView) (new : SystemView)
    → IsRecoverable v → AllByRecursion (λ (leaf : LeafView). IsCurrent v.log leaf.id leaf) leaves
    → FailsAmong v leaves new → IsRecoverable new
recoverable_failed_among v [] new h all fails = absurd fails
recoverable_failed_among v (leaf ∷ leaves) new h all (inl here) = recoverable_failed v leaf new h here
recoverable_failed_among v (leaf ∷ leaves) new h all (inr later) =
    recoverable_failed_among (written_to v leaf) leaves new (recoverable_written v leaf h later.0 all.0)
    (still_so v leaf leaves all.1) later.1

-- ---- whatever a call gives

refused_at : (old : SystemView) (r : Refusal) (new : SystemView) → IsRecoverable old → new ≡ log_refused old r
    → IsRecoverable new
refused_at old r new h is = subst IsRecoverable (sym is) (recoverable_usage old _ old.page_usage h)

pub recoverable_split : (old : SystemView) (k : Bytes) (known : ℕ) (given : Result Neighbours Refusal) (new : SystemView)
    → IsSystem old → IsRecoverable old → SplitGives old k known given new → IsRecoverable new
recoverable_split old k known (Ok pair) new kept h gives = recoverable_splits old _ pair new kept h gives.1
recoverable_split old k known (Err r) new kept h gives = refused_at old r new h gives.1

pub recoverable_merge : (old : SystemView) (k : Bytes) (known : ℕ) (given : Result Neighbours Refusal) (new : SystemView)
    → IsRecoverable old → MergeGives old k known given new → IsRecoverable new
recoverable_merge old k known (Ok pair) new h gives = recoverable_merges old _ pair new h gives.1
recoverable_merge old k known (Err r) new h gives = refused_at old r new h gives.1

recoverable_tends : (known : ℕ) (old : SystemView) (does : Tending) (what : Tended) (new : SystemView) → IsSystem old
    → IsRecoverable old → TendsTo known old does what new → IsRecoverable new
recoverable_tends known old (SplitsAt p) (tended.Split pair) new kept h gives = recoverable_splits old p pair new kept h gives.1
recoverable_tends known old (SplitsAt p) (tended.Merged pair) new kept h gives = absurd gives
recoverable_tends known old (SplitsAt p) tended.Nothing new kept h gives = absurd gives
recoverable_tends known old (MergesAt p) (tended.Split pair) new kept h gives = absurd gives
recoverable_tends known old (MergesAt p) (tended.Merged pair) new kept h gives = recoverable_merges old p pair new h gives.1
recoverable_tends known old (MergesAt p) tended.Nothing new kept h gives = absurd gives
recoverable_tends known old Rests (tended.Split pair) new kept h gives = absurd gives
recoverable_tends known old Rests (tended.Merged pair) new kept h gives = absurd gives
recoverable_tends known old Rests tended.Nothing new kept h gives = subst IsRecoverable (sym gives) h

recoverable_stops_tending : (old : SystemView) (does : Tending) (r : Refusal) (new : SystemView) → IsRecoverable old
    → StopsTending old does r new → IsRecoverable new
recoverable_stops_tending old (SplitsAt p) r new h stops = refused_at old r new h stops.1
recoverable_stops_tending old (MergesAt p) r new h stops = refused_at old r new h stops.1
recoverable_stops_tending old Rests r new h stops = absurd stops

pub recoverable_tend : (old : SystemView) (merges : Bool) (known : ℕ) (given : Result Tended Refusal) (new : SystemView)
    → IsSystem old → IsRecoverable old → TendGives old merges known given new → IsRecoverable new
recoverable_tend old merges known (Ok what) new kept h gives =
    recoverable_tends known old (tending old merges known) what new kept h gives
recoverable_tend old merges known (Err r) new kept h gives =
    recoverable_stops_tending old (tending old merges known) r new h gives

pub recoverable_flush : (old : SystemView) (k : Bytes) (known : ℕ) (given : Result ℕ Refusal) (new : SystemView)
    → IsSystem old → IsRecoverable old → FlushGives old k known given new → IsRecoverable new
recoverable_flush old k known (Ok id) new kept h gives =
    let at : IsCurrent old.log (leaf_at old.leaves k).id (leaf_at old.leaves k) =
    all_at (λ (leaf : LeafView). IsCurrent old.log leaf.id leaf) old.leaves k kept.leaves h.current.each in
    subst IsRecoverable (sym gives.after) (recoverable_written old (leaf_at old.leaves k) h gives.fits at)
recoverable_flush old k known (Err r) new kept h gives =
    elim (cases_Bool (is_within known (leaf_at old.leaves k))) [
      | inl within ↦ elim (rw within at gives) [
        | inl memory ↦ subst IsRecoverable (sym memory.1) h
        | inr fails ↦ recoverable_failed old (leaf_at old.leaves k) new h fails.1
      ]
      | inr above ↦ let none : StopsNotNow old r new = rw above at gives in subst IsRecoverable (sym none.1) h
    ]

pub recoverable_checkpoint : (old : SystemView) (l known : ℕ) (given : Result Unit Refusal) (new : SystemView)
    → IsRecoverable old → CheckpointGives old l known given new → IsRecoverable new
recoverable_checkpoint old l known (Ok done) new h gives =
    let raised : IsRecoverable (lowered old l) = recoverable_lowered old l h in
    subst IsRecoverable (sym gives.after)
    (recoverable_written_all (lowered old l) (lowered old l).leaves raised gives.fit raised.current.each)
recoverable_checkpoint old l known (Err r) new h gives =
    elim (cases_Bool (all_within known old.leaves)) [
      | inl within ↦ elim (rw within at gives) [
        | inl none ↦ subst IsRecoverable (sym none.1) h
        | inr stops ↦
            let raised : IsRecoverable (lowered old l) = recoverable_lowered old l h in
            recoverable_failed_among (lowered old l) (lowered old l).leaves new raised raised.current.each stops.1
      ]
      | inr above ↦ let none : StopsNotNow old r new = rw above at gives in subst IsRecoverable (sym none.1) h
    ]

pub recoverable_accept : (old : SystemView) (s end : ℕ) (given : Result Unit Refusal) (new : SystemView)
    → IsRecoverable old → AcceptGives old s end given new → IsRecoverable new
recoverable_accept old s end (Ok done) new h gives =
    subst IsRecoverable (sym gives.1)
    (recoverable_taken_back (forced (accepted old s)) end
    (recoverable_forced (accepted old s) (recoverable_accepted old s h)))
recoverable_accept old s end (Err r) new h (inl append) = refused_at old r new h append.1
recoverable_accept old s end (Err r) new h (inr force) =
    refused_at (accepted old s) Device new (recoverable_accepted old s h) force.2.0
