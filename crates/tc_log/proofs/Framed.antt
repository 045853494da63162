-- Frames stay what they are as records are read or appended.
use Rattle.std.proofs.Common.{◌≡◌, ℕ, ◌+◌, ◌-◌, ◌<◌, List, [], ◌∷◌, ◌++◌, length, get_or, Some, None, ◌⊎◌, inl, inr, refl, sym, ap, ◌∙◌, subst, arith, append_assoc, drop, take}
use Rattle.std.proofs.lemmas.List.{append-nil, length-append, drop_at, take_at}
use Rattle.std.proofs.lemmas.Grind.{get_or_default_zero}
use Rattle.codec.specs.Frames.{frame}
use Rattle.codec.specs.FrameIndex.{place_at, places_of}
use Rattle.codec.specs.Marks.{marked}
use Rattle.codec.proofs.Indexed.{GoesOn, goes_on, cut_same, places_same, place_same, indexes_same, indexes_none, length-places_of}
use Rattle.codec.proofs.Records.{record_length}
use Rattle.codec.specs.declared.taken.Taken.{Taken}
use Rattle.codec.specs.declared.taken.Taken.TheVariants as took
use Rattle.codec.specs.Records.{record_bytes, IsRecord}
use Rattle.framed_log.specs.Spelled as framed
use Rattle.framed_log.proofs.Spelled.{length-places, read_back}
use Rattle.history.specs.declared.record.Record.{Record}
use Rattle.history.specs.Log.{record_at}
use Rattle.history.specs.Legal.{Fits}
use Rattle.tc_log.specs.Index.{noted}
use Rattle.tc_log.specs.Kept.{AreFrames, AreIndexed}
use Rattle.tc_log.specs.Spelled.{framing, spelled, places, records_at, records_of, IsPlaceOf}
use Rattle.tc_log.proofs.Index.{record_at-zero, record_at-past}
use Rattle.tc_log.proofs.Spelled.{log_framing, tells, Tells}

-- the records that are read at the places are those of the log that is kept
pub same_log : (log : List Record) (bytes left begins answers : List ℕ) (end : ℕ)
    → AreFrames log bytes left begins answers end → records_at bytes begins ≡ log
same_log log bytes left begins answers end h =
    ap (λ (b : List ℕ). records_at b begins) h.bytes_are ∙ ap (records_at (spelled log ++ left)) h.begins_are
    ∙ read_back log_framing log left h.spellable

-- and what is left is what stands after their frames
pub same_left : (log : List Record) (bytes left begins answers : List ℕ) (end : ℕ)
    → AreFrames log bytes left begins answers end → drop end bytes ≡ left
same_left log bytes left begins answers end h = ap (drop end) h.bytes_are
    ∙ drop_at (spelled log) left end (sym h.end_is)

-- so it holds of what is seen
pub kept_so : (log : List Record) (bytes left begins answers : List ℕ) (end : ℕ)
    → AreFrames log bytes left begins answers end
    → AreFrames (records_at bytes begins) bytes (drop end bytes) begins answers end
kept_so log bytes left begins answers end h =
    let Of : List Record → Type 0 = λ l. AreFrames l bytes (drop end bytes) begins answers end in
    let With : List ℕ → Type 0 = λ l. AreFrames log bytes l begins answers end in
    subst Of (sym (same_log log bytes left begins answers end h))
    (subst With (sym (same_left log bytes left begins answers end h)) h)

-- nothing was read
pub kept_unread : (bytes : List ℕ) → AreFrames [] bytes bytes [] [] 0
unfolding framed.spelled framed.places
kept_unread bytes = record {
  legal = tt;
  spellable = tt;
  numbered = omega arith;
  bytes_are = refl;
  end_is = refl;
  begins_are = refl;
  indexed = refl;
}

-- what is left is cut off
pub kept_cut : (log : List Record) (bytes left begins answers : List ℕ) (end : ℕ) (bytes' : List ℕ)
    → AreFrames log bytes left begins answers end → bytes' ≡ take end bytes
    → AreFrames log bytes' [] begins answers end
kept_cut log bytes left begins answers end bytes' h is = record {
  legal = h.legal;
  spellable = h.spellable;
  numbered = h.numbered;
  bytes_are = is ∙ ap (take end) h.bytes_are ∙ take_at (spelled log) left end (sym h.end_is)
      ∙ sym (append-nil (spelled log));
  end_is = h.end_is;
  begins_are = h.begins_are;
  indexed = h.indexed;
}

-- a record that fits is read, or appended
pub kept_longer : (log : List Record) (bytes left begins answers : List ℕ) (end : ℕ) (r : Record)
    (bytes' rest : List ℕ) → AreFrames log bytes left begins answers end
    → Fits log r → IsRecord r → length log < 281474976710655 → bytes' ≡ spelled log ++ (frame (record_bytes r) ++ rest)
    → AreFrames (r ∷ log) bytes' rest (begins ++ end ∷ []) (noted r (length log + 1) answers)
    (end + length (frame (record_bytes r)))
unfolding framed.spelled framed.places
kept_longer log bytes left begins answers end r bytes' rest h fits spells room is = record {
  legal = (fits, h.legal);
  spellable = (spells, h.spellable);
  numbered = omega (arith, room);
  bytes_are = is ∙ sym (append_assoc (spelled log) (frame (record_bytes r)) rest);
  end_is = ap (λ (n : ℕ). n + length (frame (record_bytes r))) h.end_is
      ∙ sym (length-append (spelled log) (frame (record_bytes r)));
  begins_are = ap (λ (b : List ℕ). b ++ end ∷ []) h.begins_are ∙ ap (λ (n : ℕ). places log ++ n ∷ []) h.end_is;
  indexed = ap (noted r (length log + 1)) h.indexed;
}

-- ---- and so do the marks of their places

pub indexed_so : (log : List Record) (bytes left marks : List ℕ) (count : ℕ) (answers : List ℕ) (end : ℕ)
    → AreIndexed log bytes left marks count answers end
    → AreIndexed (records_of bytes count) bytes (drop end bytes) marks count answers end
indexed_so log bytes left marks count answers end h = record {
  frames = kept_so log bytes left (places_of bytes count) answers end h.frames;
  indexes = h.indexes;
  ends = h.ends;
}

pub indexed_unread : (bytes : List ℕ) → AreIndexed [] bytes bytes [] 0 [] 0
unfolding place_at places_of
indexed_unread bytes = record { frames = kept_unread bytes; indexes = indexes_none bytes; ends = refl }

-- the records' frames are all that the index tells of
read_up_to : (log : List Record) (bytes left marks : List ℕ) (count : ℕ) (answers : List ℕ) (end : ℕ)
    → AreIndexed log bytes left marks count answers end → length (spelled log) ≡ place_at bytes count
read_up_to log bytes left marks count answers end h = sym h.frames.end_is ∙ h.ends

pub indexed_cut : (log : List Record) (bytes left marks : List ℕ) (count : ℕ) (answers : List ℕ) (end : ℕ)
    (bytes' : List ℕ) → AreIndexed log bytes left marks count answers end → bytes' ≡ take end bytes
    → AreIndexed log bytes' [] marks count answers end
indexed_cut log bytes left marks count answers end bytes' h is =
    let cut : bytes' ≡ spelled log = is ∙ ap (take end) h.frames.bytes_are
    ∙ take_at (spelled log) left end (sym h.frames.end_is) in
    let same : take (place_at bytes count) bytes' ≡ take (place_at bytes count) bytes =
    ap (take (place_at bytes count)) cut
    ∙ cut_same (spelled log) left bytes count (read_up_to _ _ _ _ _ _ _ h) h.frames.bytes_are in
    let Placed : List ℕ → Type 0 = λ b. AreFrames log bytes' [] b answers end in
    record {
      frames = subst Placed (sym (places_same bytes bytes' count same count (omega arith)))
          (kept_cut log bytes left (places_of bytes count) answers end bytes' h.frames is);
      indexes = indexes_same bytes bytes' marks count h.indexes same;
      ends = h.ends ∙ sym (place_same bytes bytes' count same count (omega arith));
    }

pub indexed_longer : (log : List Record) (bytes left marks : List ℕ) (count : ℕ) (answers : List ℕ) (end : ℕ)
    (r : Record) (bytes' rest : List ℕ) → AreIndexed log bytes left marks count answers end
    → Fits log r → IsRecord r → length log < 281474976710655 → bytes' ≡ spelled log ++ (frame (record_bytes r) ++ rest)
    → AreIndexed (r ∷ log) bytes' rest (marked marks count end) (count + 1) (noted r (length log + 1) answers)
    (end + length (frame (record_bytes r)))
indexed_longer log bytes left marks count answers end r bytes' rest h fits spells room is =
    let Goes : ℕ → Type 0 = λ n. GoesOn bytes bytes' marks count n (n + length (frame (record_bytes r))) in
    let on : Goes (length (spelled log)) =
    goes_on (spelled log) left bytes bytes' marks count (record_bytes r) rest h.indexes
    (read_up_to _ _ _ _ _ _ _ h) h.frames.bytes_are is (omega (arith, (record_length r spells).1)) in
    let from : Goes end = subst Goes (sym h.frames.end_is) on in
    let Placed : List ℕ → Type 0 = λ b. AreFrames (r ∷ log) bytes' rest b (noted r (length log + 1) answers)
    (end + length (frame (record_bytes r))) in
    record {
      frames = subst Placed (sym from.places)
          (kept_longer log bytes left (places_of bytes count) answers end r bytes' rest h.frames fits spells room is);
      indexes = from.indexes;
      ends = from.ends;
    }

-- as many frames are counted as there are records
pub indexed_count : (log : List Record) (bytes left marks : List ℕ) (count : ℕ) (answers : List ℕ) (end : ℕ)
    → AreIndexed log bytes left marks count answers end → count ≡ length log
indexed_count log bytes left marks count answers end h =
    sym (length-places_of bytes count) ∙ ap length h.frames.begins_are ∙ length-places framing log

-- what a reading at its place tells of a number
pub tells_kept : {X : Type 0} (of : Record → X) (log : List Record) (bytes left begins answers : List ℕ) (end : ℕ)
    → AreFrames log bytes left begins answers end
    → (n place : ℕ) (given : List ℕ) (told : X) → given ≡ bytes → IsPlaceOf begins n place
    → ((r : Record) (rest : List ℕ) → IsRecord r → drop place given ≡ frame (record_bytes r) ++ rest → told ≡ of r)
    → Tells log n of told
tells_kept of log bytes left begins answers end h n place given told same at only =
    let count : length begins ≡ length log = ap length h.begins_are ∙ length-places framing log in
    let at_zero : place ≡ get_or (places log) (n - 1) 0 = at.at
    ∙ get_or_default_zero begins (n - 1) place (omega (arith, at.positive, at.bounded))
    ∙ ap (λ (b : List ℕ). get_or b (n - 1) 0) h.begins_are in
    tells of log n given left place told h.spellable (same ∙ h.bytes_are) at_zero at.positive
    (omega (arith, at.bounded, count)) only

-- a number that has no place has no record
pub none_kept : (log : List Record) (bytes left begins answers : List ℕ) (end : ℕ)
    → AreFrames log bytes left begins answers end → (n : ℕ) → (n ≡ 0) ⊎ (length begins < n) → record_at log n ≡ None
none_kept log bytes left begins answers end h n none =
    elim none [
      | inl zero ↦ ap (record_at log) zero ∙ record_at-zero log
      | inr past ↦ record_at-past log n (omega (arith, past, ap length h.begins_are ∙ length-places framing log))
    ]

-- a record and the place after it
abbrev pub taken_from : ℕ → Record → Taken Record
taken_from place r = took.Record r (place + length (frame (record_bytes r)))

-- it is the record of the number, and nothing else is taken
pub taken_is : (log : List Record) (n place : ℕ) (taken : Taken Record) (found : Record) (next : ℕ)
    → Tells log n (taken_from place) taken → taken ≡ took.Record found next → Some found ≡ record_at log n
taken_is log n place taken found next h is =
    let both : took.Record found next ≡ taken_from place h.found = sym is ∙ h.told_is in
    let same : found ≡ h.found = cc in
    ap Some same ∙ sym h.is
