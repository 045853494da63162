-- Reading one record after another, from the beginning of the bytes.
use Rattle.std.proofs.Common.{◌≡◌, ℕ, ◌+◌, ◌<◌, ◌^◌, true, List, [], ◌∷◌, ◌++◌, length, drop, reverse, refl, sym, ap, ◌∙◌, subst, arith, inl, inr}
use Rattle.std.proofs.lemmas.List.{length-append, reverse-append, drop_at}
use Rattle.record_key.specs.declared.refusal.Refusal.{Refusal}
use Rattle.record_key.specs.declared.refusal.Refusal.TheVariants.{BadBytes}
use Rattle.codec.specs.declared.dc_record.DcRecord.{DcRecord}
use Rattle.codec.specs.DcRecords.{dc_record_bytes, IsDcRecord, FitsFrame}
use Rattle.codec.specs.Fields.{number}
use Rattle.codec.specs.Frames.{frame, IsThere}
use Rattle.codec.proofs.Fields.{length-number}
use Rattle.framed_log.specs.Opening.{BeginsAs, BeginsWithFrame, IsNoFrame}
use Rattle.framed_log.specs.Spelled as framed
use Rattle.framed_log.proofs.Spelled.{newest_last}
use Rattle.stable.specs.PagesState.{Pages}
use Rattle.dc_store.specs.declared.reading.Reading.{Reading}
use Rattle.dc_recovery.specs.Ready.{AreReadable}
use Rattle.dc_store.specs.Devices.{framing, spelled, places, pages_of}
use Rattle.dc_store.specs.Known.{may_follow, IsKnown}
use Rattle.dc_store.specs.Reading.{log_so_far, IsReading, RefusesNext}
use Rattle.dc_store.specs.Recovering.{RefusesFrames}
use Rattle.dc_store.proofs.Lives.{readable_next, unreadable_next}

pub reading_nothing : (reading : Reading) → reading.records.items ≡ [] → reading.places.items ≡ [] → reading.end ≡ 0
    → IsKnown [] reading.known → IsReading [] reading
unfolding framed.spelled framed.places
reading_nothing reading records begins end known = record {
  records_are = ap reverse records;
  spellable = tt;
  readable = λ pages. tt;
  numbered = omega arith;
  places_are = begins;
  end_is = end;
  known = known;
}

-- a record more
pub reading_more : (old new : Reading) (r : DcRecord) → IsReading (log_so_far old) old → FitsFrame r
    → may_follow (log_so_far old) r ≡ true → length (log_so_far old) < 281474976710655
    → new.records.items ≡ old.records.items ++ r ∷ [] → new.places.items ≡ old.places.items ++ old.end ∷ []
    → new.end ≡ old.end + length (frame (dc_record_bytes r)) → IsKnown (r ∷ log_so_far old) new.known
    → IsReading (r ∷ log_so_far old) new
unfolding framed.spelled framed.places
reading_more old new r h fits may room records begins end known = record {
  records_are = ap reverse records ∙ reverse-append old.records.items (r ∷ []);
  spellable = (fits, h.spellable);
  readable = λ pages. (readable_next (pages_of pages) (log_so_far old) r may, h.readable pages);
  numbered = omega (arith, room);
  places_are = begins ∙ ap (λ (b : List ℕ). b ++ old.end ∷ []) h.places_are
      ∙ ap (λ (n : ℕ). places (log_so_far old) ++ n ∷ []) h.end_is;
  end_is = end ∙ ap (λ (n : ℕ). n + length (frame (dc_record_bytes r))) h.end_is
      ∙ sym (length-append (spelled (log_so_far old)) (frame (dc_record_bytes r)));
  known = known;
}

-- what is kept is right, and the bytes begin with the frames of the records
pub record HasRead (bytes : List ℕ) (reading : Reading) : Type 0 where
  pub right : IsReading (log_so_far reading) reading
  pub parts : bytes ≡ spelled (log_so_far reading) ++ drop reading.end bytes

pub read_nothing : (bytes : List ℕ) (reading : Reading) → IsReading [] reading → HasRead bytes reading
unfolding framed.spelled
read_nothing bytes reading h =
    let P : List DcRecord → Type 0 = λ log. IsReading log reading × (bytes ≡ spelled log ++ drop reading.end bytes) in
    let start : drop reading.end bytes ≡ bytes = ap (λ (n : ℕ). drop n bytes) h.end_is in
    let all : P (log_so_far reading) = subst P (sym h.records_are) (h, sym start) in
    record { right = all.0; parts = all.1 }

-- the record that stands next
abbrev pub IsNext : List ℕ → Reading → DcRecord → ℕ → Type 0
IsNext bytes reading r next =
    IsThere DcRecord dc_record_bytes IsDcRecord reading.end (drop reading.end bytes) r next

-- its frame is among the bytes
pub fits_among : (bytes : List ℕ) (reading : Reading) (r : DcRecord) (next : ℕ) → length bytes < 2 ^ 64
    → HasRead bytes reading → IsNext bytes reading r next → FitsFrame r
fits_among bytes reading r next small h there =
    let f : List ℕ = frame (dc_record_bytes r) in
    let left : List ℕ = drop reading.end bytes in (
      there.fits,
      omega (
        arith,
        ap length h.parts ∙ length-append (spelled (log_so_far reading)) left,
        ap length there.parts ∙ length-append f (drop (length f) left),
        length-append (number (length (dc_record_bytes r))) (dc_record_bytes r),
      ),
    )

-- the bytes after it are what is left
left_after : (bytes : List ℕ) (old new : Reading) (r : DcRecord) (next : ℕ) → HasRead bytes old
    → IsNext bytes old r next → IsReading (r ∷ log_so_far old) new
    → (bytes ≡ spelled (r ∷ log_so_far old) ++ drop new.end bytes)
    × (drop old.end bytes ≡ frame (dc_record_bytes r) ++ drop new.end bytes)
left_after bytes old new r next h there after =
    let f : List ℕ = frame (dc_record_bytes r) in
    let rest : List ℕ = drop (length f) (drop old.end bytes) in
    let parts : bytes ≡ spelled (r ∷ log_so_far old) ++ rest =
    h.parts ∙ ap (λ (l : List ℕ). spelled (log_so_far old) ++ l) there.parts
    ∙ sym (newest_last framing r (log_so_far old) rest) in
    let left : drop new.end bytes ≡ rest =
    ap (drop new.end) parts ∙ drop_at (spelled (r ∷ log_so_far old)) rest new.end (sym after.end_is) in (
      parts ∙ ap (λ (l : List ℕ). spelled (r ∷ log_so_far old) ++ l) (sym left),
      there.parts ∙ ap (λ (l : List ℕ). f ++ l) (sym left),
    )

pub read_more : (bytes : List ℕ) (old new : Reading) (r : DcRecord) (next : ℕ) → HasRead bytes old
    → IsNext bytes old r next → IsReading (r ∷ log_so_far old) new → HasRead bytes new
read_more bytes old new r next h there after =
    let P : List DcRecord → Type 0 = λ log. IsReading log new × (bytes ≡ spelled log ++ drop new.end bytes) in
    let all : P (log_so_far new) =
    subst P (sym after.records_are) (after, (left_after bytes old new r next h there after).0) in
    record { right = all.0; parts = all.1 }

-- fewer bytes are left
pub less_left : (bytes : List ℕ) (old new : Reading) (r : DcRecord) (next : ℕ) → HasRead bytes old
    → IsNext bytes old r next → IsReading (r ∷ log_so_far old) new
    → length (drop new.end bytes) < length (drop old.end bytes)
less_left bytes old new r next h there after =
    let body : List ℕ = dc_record_bytes r in
    let left : length (drop old.end bytes) ≡ length (frame body ++ drop new.end bytes) =
    ap length (left_after bytes old new r next h there after).1 in
    omega (
      arith,
      left ∙ length-append (frame body) (drop new.end bytes),
      length-append (number (length body)) body,
      length-number (length body),
    )

-- they are those of a readable log
begins_as : (bytes : List ℕ) (reading : Reading) (pages : Pages) → HasRead bytes reading
    → BeginsAs framing (AreReadable (pages_of pages)) bytes (log_so_far reading) (drop reading.end bytes)
begins_as bytes reading pages h = record {
  records = h.right.spellable;
  good = h.right.readable pages;
  numbered = h.right.numbered;
  parts = h.parts;
}

-- the record that stands next isn't taken in
pub refused_next : (bytes : List ℕ) (reading : Reading) (r : DcRecord) (next : ℕ) (given : Refusal) (pages : Pages)
    → length bytes < 2 ^ 64 → HasRead bytes reading → IsNext bytes reading r next
    → RefusesNext (log_so_far reading) r given → RefusesFrames bytes pages given
refused_next bytes reading r next given pages small h there (inl none) = inl none
refused_next bytes reading r next given pages small h there (inr bad) =
    let log : List DcRecord = log_so_far reading in
    let stands : BeginsWithFrame framing (drop reading.end bytes) r = record {
      fits = fits_among bytes reading r next small h there;
      rest = drop (length (frame (dc_record_bytes r))) (drop reading.end bytes);
      parts = there.parts;
    } in
    inr (
      length (spelled log),
      bad.0,
      record {
        log = log;
        left = drop reading.end bytes;
        begins = begins_as bytes reading pages h;
        place_is = refl;
        bad = inr (record {
          next = r;
          stands = stands;
          unfit = elim bad.1 [
            | inl unfit ↦ inl (unreadable_next (pages_of pages) log r unfit)
            | inr numberless ↦ inr numberless
          ];
        });
      },
    )

-- no record stands next, and no frame is cut there
pub refused_here : (bytes : List ℕ) (reading : Reading) (given : Refusal) (pages : Pages) → HasRead bytes reading
    → given ≡ BadBytes reading.end → IsNoFrame framing (drop reading.end bytes) → RefusesFrames bytes pages given
refused_here bytes reading given pages h is none =
    inr (
      reading.end,
      is,
      record {
        log = log_so_far reading;
        left = drop reading.end bytes;
        begins = begins_as bytes reading pages h;
        place_is = h.right.end_is;
        bad = inl none;
      },
    )
