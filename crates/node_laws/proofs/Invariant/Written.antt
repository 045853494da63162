-- What is true of pages and of leaves in records.
use Rattle.std.proofs.Common.{◌≡◌, ℕ, Bool, true, false, List, [], ◌∷◌, Some, refl, sym, ◌∙◌, subst, inl, inr}
use Rattle.std.specs.Prelude.{◌==◌, nat_le, if◌then◌else◌}
use Rattle.std.specs.List.{AllByRecursion}
use Rattle.record_key.specs.declared.refusal.Refusal.{Refusal}
use Rattle.codec.specs.Images.{IsImage}
use Rattle.codec.specs.declared.dc_record.DcRecord.{DcRecord}
use Rattle.dc_leaf.specs.Leaf.{LeafView, first}
use Rattle.dc_leaf.specs.Honest.{IsHonestLeaf}
use Rattle.dc_recovery.specs.Images.{image_of}
use Rattle.dc_recovery.specs.Recovery.{Pages, written}
use Rattle.dc_recovery.specs.Laws.{leaf_in}
use Rattle.dc_recovery.specs.Ready.{AllHave, IsHonestTo}
use Rattle.record_key.proofs.Lists.{all_from}
use Rattle.stable.specs.Usage.{Usage, failed}
use Rattle.dc_core.specs.dc_store.specs.SystemView.{SystemView}
use Rattle.dc_core.specs.dc_store.specs.Devices.{pages_of}
use Rattle.dc_core.specs.dc_store.specs.Changes.{covered, forced, written_to, written_all}
use Rattle.dc_core.specs.dc_store.specs.Gives.{HaveImages, StopsWriting, FailsWriting, FailsAmong}
use Rattle.dc_core.specs.dc_store.proofs.Written.{pages_written}
use Rattle.tc_core.specs.TcView.{TcView}
use Rattle.node_laws.specs.Kept.{IsTrueTo, IsLowAnswered}
use Rattle.node_laws.specs.Source.{Source}

-- what follows for each leaf follows for all that are written
pub have_all : (P Q : LeafView → Type 0) → ((leaf : LeafView) → P leaf → Q leaf)
    → (pages : Pages) (log : List DcRecord) → AllHave P pages log → AllHave Q pages log
have_all P Q from pages log h = record {
  first_leaf = from first h.first_leaf;
  page = λ id page is. from page (h.page id page is);
  logged = all_from (λ (r : DcRecord). (leaf : LeafView) → leaf_in r ≡ Some leaf → P leaf)
      (λ (r : DcRecord). (leaf : LeafView) → leaf_in r ≡ Some leaf → Q leaf)
      (λ r each leaf is. from leaf (each leaf is)) log h.logged;
}

-- a force leaves the leaves and their log
pub covered_leaves : (v : SystemView) (leaf : LeafView) → (covered v leaf).leaves ≡ v.leaves
covered_leaves v leaf = by (nat_le leaf.last v.stable)
  where
    by : (b : Bool) → (if b then v else forced v).leaves ≡ v.leaves
    by true = refl
    by false = refl

pub covered_log : (v : SystemView) (leaf : LeafView) → (covered v leaf).log ≡ v.log
covered_log v leaf = by (nat_le leaf.last v.stable)
  where
    by : (b : Bool) → (if b then v else forced v).log ≡ v.log
    by true = refl
    by false = refl

-- a leaf that is written
have_written : (P : LeafView → Type 0) (old new : Pages) (log : List DcRecord) (leaf : LeafView)
    → ((id : ℕ) → new id ≡ written old leaf.id leaf id) → P leaf → AllHave P old log
    → AllHave P new log
have_written P old new log leaf same here h = record {
  first_leaf = h.first_leaf;
  page = λ id page is. by id page (id == leaf.id) (sym (same id) ∙ is);
  logged = h.logged;
}
  where
    by : (id : ℕ) (page : LeafView) (b : Bool) → (if b then Some leaf else old id) ≡ Some page → P page
    by id page true is = subst P (let e : leaf ≡ page = cc in e) here
    by id page false is = h.page id page is

-- the leaf is true to the log, so its page is
pub written_true : (w : TcView) (x : Source) (v : SystemView) (leaf : LeafView) → IsTrueTo w x v
    → IsImage (image_of leaf) → IsHonestTo w.log w.stable leaf → IsLowAnswered w.log w.stable leaf
    → IsTrueTo w x (written_to v leaf)
written_true w x v leaf h image honest low = record {
  leaves = subst (AllByRecursion (IsHonestLeaf x.log)) (sym (covered_leaves v leaf)) h.leaves;
  low = subst (AllByRecursion (IsLowAnswered x.log x.sure)) (sym (covered_leaves v leaf)) h.low;
  written = subst (AllHave (IsHonestTo w.log w.stable) (pages_of (written_to v leaf).pages)) (sym (covered_log v leaf))
      (have_written (IsHonestTo w.log w.stable) (pages_of v.pages) (pages_of (written_to v leaf).pages) v.log leaf
      (pages_written v.pages leaf image) honest h.written);
  written_low = subst (AllHave (IsLowAnswered w.log w.stable) (pages_of (written_to v leaf).pages))
      (sym (covered_log v leaf))
      (have_written (IsLowAnswered w.log w.stable) (pages_of v.pages) (pages_of (written_to v leaf).pages) v.log leaf
      (pages_written v.pages leaf image) low h.written_low);
}

pub covered_true : (w : TcView) (x : Source) (v : SystemView) (leaf : LeafView) → IsTrueTo w x v
    → IsTrueTo w x (covered v leaf)
covered_true w x v leaf h = by (nat_le leaf.last v.stable)
  where
    by : (b : Bool) → IsTrueTo w x (if b then v else forced v)
    by true = h
    by false = record { leaves = h.leaves; low = h.low; written = h.written; written_low = h.written_low }

-- how the devices were used is no part of it
pub used_true : (w : TcView) (x : Source) (v : SystemView) (log pages : Usage) → IsTrueTo w x v
    → IsTrueTo w x (record v { log_usage = log; page_usage = pages })
used_true w x v log pages h = record {
  leaves = h.leaves;
  low = h.low;
  written = h.written;
  written_low = h.written_low;
}

pub written_all_true : (w : TcView) (x : Source) (v : SystemView) (leaves : List LeafView) → IsTrueTo w x v
    → HaveImages leaves → AllByRecursion (IsHonestTo w.log w.stable) leaves
    → AllByRecursion (IsLowAnswered w.log w.stable) leaves → IsTrueTo w x (written_all v leaves)
written_all_true w x v [] h images honest low = h
written_all_true w x v (leaf ∷ leaves) h images honest low =
    written_all_true w x (written_to v leaf) leaves (written_true w x v leaf h images.0 honest.0 low.0) images.1
    honest.1 low.1

pub written_all_leaves : (v : SystemView) (leaves : List LeafView) → (written_all v leaves).leaves ≡ v.leaves
written_all_leaves v [] = refl
written_all_leaves v (leaf ∷ leaves) = written_all_leaves (written_to v leaf) leaves ∙ covered_leaves v leaf

pub written_all_log : (v : SystemView) (leaves : List LeafView) → (written_all v leaves).log ≡ v.log
written_all_log v [] = refl
written_all_log v (leaf ∷ leaves) = written_all_log (written_to v leaf) leaves ∙ covered_log v leaf

-- a write that is refused, alone or after others
pub record IsStopped (w : TcView) (x : Source) (old v : SystemView) : Type 0 where
  pub true_to : IsTrueTo w x v
  pub leaves : v.leaves ≡ old.leaves
  pub log : v.log ≡ old.log

pub failed_true : (w : TcView) (x : Source) (v : SystemView) (leaf : LeafView) (new : SystemView) → IsTrueTo w x v
    → FailsWriting v leaf new → IsStopped w x v new
failed_true w x v leaf new h (inl force) =
    subst (IsStopped w x v) (sym force.1.0)
    (record { true_to = used_true w x v (failed v.log_usage) v.page_usage h; leaves = refl; log = refl })
failed_true w x v leaf new h (inr write) =
    subst (IsStopped w x v) (sym write.0)
    (record {
      true_to = used_true w x (covered v leaf) (covered v leaf).log_usage (failed (covered v leaf).page_usage)
          (covered_true w x v leaf h);
      leaves = covered_leaves v leaf;
      log = covered_log v leaf;
    })

pub stops_true : (w : TcView) (x : Source) (v : SystemView) (leaf : LeafView) (r : Refusal) (new : SystemView)
    → IsTrueTo w x v → StopsWriting v leaf r new → IsStopped w x v new
stops_true w x v leaf r new h (inl memory) =
    subst (IsStopped w x v) (sym memory.1) (record { true_to = h; leaves = refl; log = refl })
stops_true w x v leaf r new h (inr fails) = failed_true w x v leaf new h fails.1

pub failed_among : (w : TcView) (x : Source) (v : SystemView) (leaves : List LeafView) (new : SystemView)
    → IsTrueTo w x v → AllByRecursion (IsHonestTo w.log w.stable) leaves
    → AllByRecursion (IsLowAnswered w.log w.stable) leaves → FailsAmong v leaves new → IsStopped w x v new
failed_among w x v [] new h honest low fails = absurd fails
failed_among w x v (leaf ∷ leaves) new h honest low (inl fails) = failed_true w x v leaf new h fails
failed_among w x v (leaf ∷ leaves) new h honest low (inr later) =
    let rest = failed_among w x (written_to v leaf) leaves new (written_true w x v leaf h later.0 honest.0 low.0)
    honest.1 low.1 later.1 in
    record { true_to = rest.true_to; leaves = rest.leaves ∙ covered_leaves v leaf; log = rest.log ∙ covered_log v leaf }
