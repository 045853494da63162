-- What stands and is read at the places of a log's frames.
use Rattle.std.proofs.Common.{◌≡◌, ℕ, ◌+◌, ◌-◌, ◌<◌, ◌≤◌, List, [], ◌∷◌, ◌++◌, length, get_or, drop, Some, refl, sym, ap, ◌∙◌, subst, arith, inl, inr}
use Rattle.std.proofs.Math.ListN.{get_or-append}
use Rattle.std.proofs.Math.Seq.{get_or-append_seam}
use Rattle.std.proofs.lemmas.Bool.{cases_eq}
use Rattle.std.proofs.lemmas.List.{drop_at}
use Rattle.codec.specs.Frames.{frame}
use Rattle.codec.specs.Records.{record_bytes, IsRecord}
use Rattle.codec.specs.Reading.{record_at as read_record}
use Rattle.codec.proofs.Frames as frames
use Rattle.codec.proofs.Records.{record_reads, record_length}
use Rattle.framed_log.specs.Spelled as framed
use Rattle.framed_log.proofs.Framing.{IsFraming}
use Rattle.framed_log.proofs.Spelled.{length-places, newest_last}
use Rattle.history.specs.declared.record.Record.{Record}
use Rattle.history.specs.Log.{record_at}
use Rattle.log_laws.proofs.Records.{at_newest, at_older, newest_at, older_at, IsNumber, within}
use Rattle.tc_log.specs.Spelled.{framing, spelled, places, AreRecords}

-- records are told apart in their frames
pub log_framing : IsFraming framing
log_framing = record {
  bounds = record_length;
  small = omega arith;
  one_frame = frames.one_frame Record record_bytes IsRecord read_record record_reads 181 record_length (omega arith);
  taken = λ place left r rest fits is.
      let bounds = record_length r fits in
      frames.only Record record_bytes IsRecord read_record record_reads 181 place left r rest fits bounds.0 bounds.1
      (omega arith) is;
}

-- the record's frame stands at the place, and more may follow
pub record StandsAt (bytes : List ℕ) (place : ℕ) (r : Record) : Type 0 where
  pub rest : List ℕ
  pub is : drop place bytes ≡ frame (record_bytes r) ++ rest

-- the newest frame stands where the others end
stands_newest : (r : Record) (log : List Record) (rest : List ℕ)
    → StandsAt (spelled (r ∷ log) ++ rest) (length (spelled log)) r
stands_newest r log rest = record {
  rest = rest;
  is = ap (drop (length (spelled log))) (newest_last framing r log rest)
      ∙ drop_at (spelled log) (frame (record_bytes r) ++ rest) (length (spelled log)) refl;
}

place_newest : (r : Record) (log : List Record) (n : ℕ) → n ≡ length log + 1
    → get_or (places (r ∷ log)) (n - 1) 0 ≡ length (spelled log)
unfolding framed.places
place_newest r log n e =
    let i : n - 1 ≡ length (places log) = omega (arith, e, length-places framing log) in
    ap (λ (j : ℕ). get_or (places log ++ length (spelled log) ∷ []) j 0) i
    ∙ get_or-append_seam (places log) (length (spelled log)) [] 0

place_older : (r : Record) (log : List Record) (n : ℕ) → n - 1 < length log
    → get_or (places (r ∷ log)) (n - 1) 0 ≡ get_or (places log) (n - 1) 0
unfolding framed.places
place_older r log n lt = get_or-append (places log) (length (spelled log) ∷ []) 0 (n - 1)
    (omega (arith, lt, length-places framing log))

-- with a record more, the older ones stand where they stood
stands_older : (q : Record) (log : List Record) (rest : List ℕ) (place : ℕ) (r : Record)
    → StandsAt (spelled log ++ (frame (record_bytes q) ++ rest)) place r
    → StandsAt (spelled (q ∷ log) ++ rest) place r
stands_older q log rest place r h = record {
  rest = h.rest;
  is = ap (drop place) (newest_last framing q log rest) ∙ h.is;
}

-- the frame of each number's record stands at its place
pub stands : (log : List Record) (rest : List ℕ) (n : ℕ) (r : Record) → record_at log n ≡ Some r
    → StandsAt (spelled log ++ rest) (get_or (places log) (n - 1) 0) r
stands [] rest n r is = absurd (cc)
stands (q ∷ log) rest n r is =
    let Stands : ℕ → Type 0 = λ place. StandsAt (spelled (q ∷ log) ++ rest) place r in
    elim (cases_eq n (length log + 1)) [
      | inl e ↦
          let some : Some q ≡ Some r = newest_at (λ x. x ≡ Some r) q log n e is in
          let same : q ≡ r = cc in
          subst Stands (sym (place_newest q log n e))
          (subst (StandsAt (spelled (q ∷ log) ++ rest) (length (spelled log))) same (stands_newest q log rest))
      | inr e ↦
          let was : record_at log n ≡ Some r = older_at (λ x. x ≡ Some r) q log n e is in
          let number : IsNumber log n = within (λ x. x ≡ Some r) (λ f. cc) log n was in
          subst Stands (sym (place_older q log n (omega (arith, number.positive, number.bounded))))
          (stands_older q log rest (get_or (places log) (n - 1) 0) r
          (stands log (frame (record_bytes q) ++ rest) n r was))
    ]

pub is_record : (log : List Record) (n : ℕ) (r : Record) → AreRecords log → record_at log n ≡ Some r → IsRecord r
is_record [] n r each is = absurd (cc)
is_record (q ∷ log) n r each is =
    elim (cases_eq n (length log + 1)) [
      | inl e ↦ let some : Some q ≡ Some r = newest_at (λ x. x ≡ Some r) q log n e is in let same : q ≡ r = cc in
          subst IsRecord same each.0
      | inr e ↦ is_record log n r each.1 (older_at (λ x. x ≡ Some r) q log n e is)
    ]

pub has_record : (log : List Record) (n : ℕ) → 0 < n → n ≤ length log → (r : Record) × (record_at log n ≡ Some r)
has_record [] n some there = absurd (omega arith)
has_record (q ∷ log) n some there =
    elim (cases_eq n (length log + 1)) [
      | inl e ↦ (q, at_newest (λ x. x ≡ Some q) q log n e refl)
      | inr e ↦ let was = has_record log n some (omega arith) in (was.0, at_older (λ x. x ≡ Some was.0) q log n e was.1)
    ]

-- what a reading at its place tells of a number: this of its record
pub record Tells {X : Type 0} (log : List Record) (n : ℕ) (of : Record → X) (told : X) : Type 0 where
  pub found : Record
  pub is : record_at log n ≡ Some found
  pub told_is : told ≡ of found

pub tells : {X : Type 0} (of : Record → X) (log : List Record) (n : ℕ) (bytes left : List ℕ) (place : ℕ) (told : X)
    → AreRecords log → bytes ≡ spelled log ++ left → place ≡ get_or (places log) (n - 1) 0
    → 0 < n → n ≤ length log
    → ((r : Record) (rest : List ℕ) → IsRecord r → drop place bytes ≡ frame (record_bytes r) ++ rest → told ≡ of r)
    → Tells log n of told
tells of log n bytes left place told each whole at some there only =
    let has = has_record log n some there in
    let stands_at : StandsAt (spelled log ++ left) (get_or (places log) (n - 1) 0) has.0 = stands log left n has.0
    has.1 in
    let here : drop place bytes ≡ frame (record_bytes has.0) ++ stands_at.rest =
    ap (λ (p : ℕ). drop p bytes) at ∙ ap (drop (get_or (places log) (n - 1) 0)) whole ∙ stands_at.is in
    record {
      found = has.0;
      is = has.1;
      told_is = only has.0 stands_at.rest (is_record log n has.0 each has.1) here;
    }
