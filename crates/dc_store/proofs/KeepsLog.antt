-- The log of the data component is kept by each of its calls.
use Rattle.std.proofs.Common.{◌≡◌, ℕ, Bool, ◌+◌, List, [], ◌∷◌, ◌++◌, length, refl, sym, ap, ◌∙◌, subst, arith, append_assoc}
use Rattle.std.proofs.lemmas.List.{append-nil, length-append}
use Rattle.codec.specs.declared.dc_record.DcRecord.{DcRecord}
use Rattle.codec.specs.DcRecords.{dc_record_bytes, FitsFrame}
use Rattle.codec.specs.Frames.{frame}
use Rattle.stable.specs.Crash.{BeginsWith}
use Rattle.dc_recovery.specs.Shape.{named}
use Rattle.framed_log.specs.Beginning.{beginning}
use Rattle.dc_store.specs.Devices.{spelled, places, records_at}
use Rattle.dc_store.specs.LogView.{IsStored, AreFrames}
use Rattle.framed_log.specs.Spelled as framed
use Rattle.framed_log.proofs.Spelled.{read_back}
use Rattle.dc_store.proofs.ReadOnce.{log_framing}
use Rattle.framed_log.proofs.Beginning.{everything, shorter}

-- both halves of what holds of the log
abbrev pub IsKept : Bool → List DcRecord → ℕ → List ℕ → List ℕ → List ℕ → ℕ → ℕ → Type 0
IsKept w log stable forced pending begins end next_id =
    IsStored w log stable forced pending × AreFrames log begins end next_id

-- the records that are read at the places are those of the log that is kept
pub same_log : (w : Bool) (log : List DcRecord) (stable : ℕ) (forced pending begins : List ℕ) (end next_id : ℕ)
    → IsKept w log stable forced pending begins end next_id → records_at (forced ++ pending) begins ≡ log
same_log w log stable forced pending begins end next_id h =
    ap (λ (b : List ℕ). records_at b begins) (h.0.stored ∙ sym (append-nil (spelled log)))
    ∙ ap (records_at (spelled log ++ [])) h.1.begins_are ∙ read_back log_framing log [] h.1.spellable

-- so it holds of what is seen
pub kept_so : (w : Bool) (log : List DcRecord) (stable : ℕ) (forced pending begins : List ℕ) (end next_id : ℕ)
    → IsKept w log stable forced pending begins end next_id
    → IsKept w (records_at (forced ++ pending) begins) stable forced pending begins end next_id
kept_so w log stable forced pending begins end next_id h =
    let Of : List DcRecord → Type 0 = λ l. IsKept w l stable forced pending begins end next_id in
    subst Of (sym (same_log w log stable forced pending begins end next_id h)) h

-- a log of no records
pub kept_empty : (w : Bool) (forced pending : List ℕ) → forced ≡ [] → pending ≡ [] → IsKept w [] 0 forced pending [] 0 2
unfolding framed.spelled framed.places
kept_empty w forced pending f p = (
  record {
    within = omega arith;
    stored = ap (λ (x : List ℕ). x ++ pending) f ∙ p;
    covered = (forced, refl);
    just = λ _. f;
  },
  record { spellable = tt; begins_are = refl; end_is = refl; next_is = refl },
)

-- a record is appended
pub kept_longer : (w : Bool) (log : List DcRecord) (stable : ℕ) (forced pending begins : List ℕ) (end next_id : ℕ)
    (r : DcRecord) (next : ℕ)
    → IsKept w log stable forced pending begins end next_id → FitsFrame r → next ≡ named (r ∷ log) + 1
    → IsKept w (r ∷ log) stable forced (pending ++ frame (dc_record_bytes r)) (begins ++ end ∷ [])
    (end + length (frame (dc_record_bytes r))) next
unfolding framed.spelled framed.places
kept_longer w log stable forced pending begins end next_id r next h fits is = (
  record {
    within = omega (arith, h.0.within);
    stored = sym (append_assoc forced pending (frame (dc_record_bytes r)))
        ∙ ap (λ (b : List ℕ). b ++ frame (dc_record_bytes r)) h.0.stored;
    covered = let P : List DcRecord → Type 0 = λ x. BeginsWith forced (spelled x) in
        subst P (sym (shorter r log stable h.0.within)) h.0.covered;
    just = λ is. h.0.just is ∙ ap spelled (sym (shorter r log stable h.0.within));
  },
  record {
    spellable = (fits, h.1.spellable);
    begins_are = ap (λ (b : List ℕ). b ++ end ∷ []) h.1.begins_are ∙ ap (λ (n : ℕ). places log ++ n ∷ []) h.1.end_is;
    end_is = ap (λ (n : ℕ). n + length (frame (dc_record_bytes r))) h.1.end_is
        ∙ sym (length-append (spelled log) (frame (dc_record_bytes r)));
    next_is = is;
  },
)

-- the device holds just the records' frames, all of them forced
pub kept_stable : (w : Bool) (log : List DcRecord) (forced pending begins : List ℕ) (end next_id : ℕ)
    → forced ≡ spelled log → pending ≡ [] → AreFrames log begins end next_id
    → IsKept w log (length log) forced pending begins end next_id
kept_stable w log forced pending begins end next_id all none frames = (
  record {
    within = omega arith;
    stored = ap (λ (x : List ℕ). forced ++ x) none ∙ append-nil forced ∙ all;
    covered = (
      [],
      all ∙ ap spelled (sym (everything log))
          ∙ sym (append-nil (spelled (beginning log (length log)))),
    );
    just = λ _. all ∙ ap spelled (sym (everything log));
  },
  frames,
)

-- all records are forced
pub kept_forced : (w : Bool) (log : List DcRecord) (stable : ℕ) (forced pending forced' pending' begins : List ℕ)
    (end next_id : ℕ)
    → IsKept w log stable forced pending begins end next_id → forced' ≡ forced ++ pending → pending' ≡ []
    → IsKept w log (length log) forced' pending' begins end next_id
kept_forced w log stable forced pending forced' pending' begins end next_id h f p =
    kept_stable w log forced' pending' begins end next_id (f ∙ h.0.stored) p h.1
