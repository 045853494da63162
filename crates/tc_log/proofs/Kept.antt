-- A log is kept by each of its calls.
use Rattle.std.proofs.Common.{◌≡◌, ℕ, ◌+◌, Bool, List, [], ◌++◌, length, refl, sym, ap, ◌∙◌, subst, arith, append_assoc}
use Rattle.std.proofs.lemmas.List.{append-nil}
use Rattle.codec.specs.Frames.{frame}
use Rattle.codec.specs.Records.{record_bytes}
use Rattle.stable.specs.Crash.{BeginsWith}
use Rattle.stable.specs.LogState.{LogState}
use Rattle.history.specs.declared.record.Record.{Record}
use Rattle.history.specs.Legal.{FitsCheckpoint, IsLatest}
use Rattle.tc_log.specs.Kept.{FramesView, IsKept, with_appended}
use Rattle.tc_log.specs.LogView.{last_not_session}
use Rattle.framed_log.specs.Beginning.{beginning}
use Rattle.tc_log.specs.Spelled.{spelled}
use Rattle.tc_log.specs.NotSession.{last_with}
use Rattle.framed_log.specs.Spelled as framed
use Rattle.framed_log.proofs.Beginning.{everything, shorter}
use Rattle.tc_log.proofs.NotSession.{last_longer}

-- all records of a log are stable, and forced
pub kept_all : (w : Bool) (frames : FramesView) (answered last : ℕ) → frames.left ≡ []
    → frames.device.forced ≡ spelled frames.records → frames.device.pending ≡ []
    → IsLatest (FitsCheckpoint frames.records) answered → last ≡ last_not_session frames.records
    → IsKept w frames (length frames.records) answered last
kept_all w frames answered last read f p latest is_last = record {
  all_read = read;
  within = omega arith;
  greatest = let P : List Record → Type 0 = λ x. IsLatest (FitsCheckpoint x) answered in
      subst P (sym (everything frames.records)) latest;
  last_is = is_last;
  stored = ap (λ (x : List ℕ). frames.device.forced ++ x) p ∙ append-nil frames.device.forced ∙ f;
  covered = (
    [],
    f ∙ ap spelled (sym (everything frames.records))
        ∙ sym (append-nil (spelled (beginning frames.records (length frames.records)))),
  );
  just = λ _. f ∙ ap spelled (sym (everything frames.records));
}

-- a log of no records
pub kept_empty : (w : Bool) (device : LogState) → device.forced ≡ [] → device.pending ≡ []
    → IsKept w (record { records = []; left = device.forced ++ device.pending; device = device }) 0 0 0
unfolding framed.spelled
kept_empty w device f p =
    kept_all w (record { records = []; left = device.forced ++ device.pending; device = device }) 0 0
    (λ i. f i ++ p i) f p
    (record {
      is = record { within = omega arith; answered = λ n o below asks. absurd (cc) };
      greatest = λ m more.
          more.within;
    })
    refl

-- a record is appended
pub kept_longer : (w : Bool) (frames : FramesView) (stable answered last : ℕ) (r : Record) (n : ℕ)
    → IsKept w frames stable answered last → n ≡ length frames.records + 1
    → IsKept w (with_appended frames r) stable answered (last_with r n last)
unfolding framed.spelled
kept_longer w frames stable answered last r n h is = record {
  all_read = h.all_read;
  within = omega (arith, h.within);
  greatest = let P : List Record → Type 0 = λ x. IsLatest (FitsCheckpoint x) answered in
      subst P (sym (shorter r frames.records stable h.within)) h.greatest;
  last_is = last_longer r frames.records n last is h.last_is;
  stored = sym (append_assoc frames.device.forced frames.device.pending (frame (record_bytes r)))
      ∙ ap (λ (b : List ℕ). b ++ frame (record_bytes r)) h.stored;
  covered = let P : List Record → Type 0 = λ x. BeginsWith frames.device.forced (spelled x) in
      subst P (sym (shorter r frames.records stable h.within)) h.covered;
  just = λ whole. h.just whole ∙ ap spelled (sym (shorter r frames.records stable h.within));
}
