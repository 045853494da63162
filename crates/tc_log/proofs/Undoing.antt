-- What is read of an answered operation, and the record that undoes it.
use Rattle.std.proofs.Common.{◌≡◌, ◌∙◌, ℕ, ◌-◌, ◌<◌, ◌⊎◌, inl, inr, List, length, get_or, drop, Option, Some, None, sym, ap, subst, arith}
use Rattle.std.specs.Prelude.{IfSome}
use Rattle.std.proofs.lemmas.Bool.{cases_eq}
use Rattle.std.proofs.lemmas.Grind.{get_or_default_zero}
use Rattle.std.proofs.lemmas.Option.{same_Some, none-some}
use Rattle.history.specs.declared.record.Record.{Record}
use Rattle.history.specs.declared.record.Record.TheVariants as is
use Rattle.history.specs.Log.{record_at, answer_of, IsOpBy}
use Rattle.history.specs.Legal.{Inverts}
use Rattle.inverse.specs.Inverse.{undo_of, inverse_of}
use Rattle.record_key.specs.Amounts.{negated}
use Rattle.record_key.specs.Table.{Bytes, key_of}
use Rattle.record_key.specs.declared.op.Op.{Op}
use Rattle.record_key.specs.declared.op.Op.TheVariants.{Insert, Update, Upsert, Delete, Add}
use Rattle.record_key.specs.declared.op.Answer.{Answer}
use Rattle.record_key.specs.declared.op.Answer.TheVariants.{Inserted, Updated, Was, Deleted, Exists, NoRecord, NotNumber, Added}
use Rattle.codec.specs.Fields.{IsKey, IsOp, IsAnswer}
use Rattle.codec.specs.Records.{HasNumbers, IsRecord}
use Rattle.codec.specs.Undoing.{AreAnsweredAt, StandsAt as Stands}
use Rattle.log_laws.proofs.Undo.{op_record}
use Rattle.tc_log.specs.Index.{answer_held_by}
use Rattle.tc_log.specs.Kept.{AreFrames}
use Rattle.tc_log.specs.Spelled.{places, IsPlaceOf}
use Rattle.tc_log.specs.Undoing.{inverse_by, inverse_at, comp_at}
use Rattle.tc_log.proofs.Framed.{none_kept}
use Rattle.tc_log.proofs.Index.{index_at, answer_found}
use Rattle.tc_log.proofs.Spelled.{stands, is_record}

-- ---- where an answered operation stands

-- a record's frame begins at its number's place
stands_kept : (log : List Record) (bytes left begins answers : List ℕ) (end : ℕ)
    → AreFrames log bytes left begins answers end → (n place : ℕ) (r : Record) → IsPlaceOf begins n place
    → record_at log n ≡ Some r → Stands bytes place r
stands_kept log bytes left begins answers end h n place r at is =
    let there = stands log left n r is in
    let at_zero : place ≡ get_or (places log) (n - 1) 0 = at.at
    ∙ get_or_default_zero begins (n - 1) place (omega (arith, at.positive, at.bounded))
    ∙ ap (λ (b : List ℕ). get_or b (n - 1) 0) h.begins_are in
    record {
      fits = is_record log n r h.spellable is;
      rest = there.rest;
      there = ap (λ (p : ℕ). drop p bytes) at_zero ∙ ap (drop (get_or (places log) (n - 1) 0)) h.bytes_are ∙ there.is;
    }

-- an answered operation has a place
pub op_placed : (log : List Record) (bytes left begins answers : List ℕ) (end : ℕ)
    → AreFrames log bytes left begins answers end → (n : ℕ) (i : Option Op) → Inverts log n i
    → (n ≡ 0) ⊎ (length begins < n) → ⊥
op_placed log bytes left begins answers end h n i inverts none =
    let the_op = op_record inverts.txn inverts.op (record_at log n) inverts.is in
    none-some _ (sym (none_kept log bytes left begins answers end h n none) ∙ the_op.1)

-- the Answer record that holds an answer
answer_record : (found : Option Record) (a : Answer) → answer_held_by found ≡ Some a
    → (of : ℕ) × (found ≡ Some (is.Answer of a))
answer_record None a e = absurd (none-some a e)
answer_record (Some (is.Answer of b)) a e = (of, ap (λ x. Some (is.Answer of x)) (same_Some b a e))
answer_record (Some _) a e = absurd (none-some a e)

module _ (log : List Record) (bytes left begins answers : List ℕ) (end : ℕ)
    (h : AreFrames log bytes left begins answers end) (n : ℕ) (some : 0 < n) where
  -- its answer's record
  answered_by : (a : Answer) → answer_of log n ≡ Some a
      → (of : ℕ) × (record_at log (index_at log n) ≡ Some (is.Answer of a))
  answered_by a answered = answer_record (record_at log (index_at log n)) a
      (sym (answer_found log n h.legal h.numbered some) ∙ answered)

  pub places_told : (op_at answer_at t : ℕ) (o : Op) (a : Answer) → IsPlaceOf begins n op_at
      → IsPlaceOf begins (index_at log n) answer_at → IsOpBy log n t o → answer_of log n ≡ Some a
      → AreAnsweredAt bytes op_at answer_at o a
  places_told op_at answer_at t o a first second by answered =
      let the_op = op_record t o (record_at log n) by in
      let the_answer = answered_by a answered in
      record {
        txn = t;
        prev = the_op.0;
        of = the_answer.0;
        op = stands_kept log bytes left begins answers end h n op_at (is.Op t the_op.0 o) first the_op.1;
        answer = stands_kept log bytes left begins answers end h (index_at log n) answer_at (is.Answer the_answer.0 a)
            second the_answer.1;
      }

  -- that record has a place
  pub answer_placed : (i : Option Op) → Inverts log n i
      → (index_at log n ≡ 0) ⊎ (length begins < index_at log n) → ⊥
  answer_placed i inverts none =
      none-some _ (sym (none_kept log bytes left begins answers end h (index_at log n) none)
      ∙ (answered_by inverts.answer inverts.answered).1)

-- an answered operation has a number
pub some_number : (log : List Record) (bytes left begins answers : List ℕ) (end : ℕ)
    → AreFrames log bytes left begins answers end → (n : ℕ) (i : Option Op) → Inverts log n i → 0 < n
some_number log bytes left begins answers end h n i inverts =
    elim (cases_eq n 0) [
      | inl zero ↦ absurd (op_placed log bytes left begins answers end h n i inverts (inl zero))
      | inr some ↦ omega (arith, some)
    ]

-- ---- what undoes it has a spelling

key_fits : (o : Op) → IsOp o → IsKey (key_of o)
key_fits (Insert key value) fits = fits.0
key_fits (Update key value) fits = fits.0
key_fits (Upsert key value) fits = fits.0
key_fits (Delete key) fits = fits
key_fits (Add key amount) fits = fits.0

negated_fits : (x : ℕ) → negated x < 18446744073709551616
unfolding negated
negated_fits x = omega arith

undo_fits : (k : Bytes) (a : Answer) → IsKey k → IsAnswer a → IfSome (undo_of k a) IsOp
undo_fits k Inserted key fits = key
undo_fits k (Updated old) key fits = (key, fits)
undo_fits k (Was None) key fits = key
undo_fits k (Was (Some old)) key fits = (key, fits)
undo_fits k (Deleted old) key fits = (key, fits)
undo_fits k Exists key fits = tt
undo_fits k NoRecord key fits = tt
undo_fits k NotNumber key fits = tt
undo_fits k (Added amount) key fits = (key, negated_fits amount)

pub comp_has_spelling : (log : List Record) (t u : ℕ) (o : Op) (a : Answer) (bytes : List ℕ) (op_at answer_at : ℕ)
    → inverse_of o a ≡ inverse_at log u → HasNumbers (comp_at log t u) → AreAnsweredAt bytes op_at answer_at o a
    → IsRecord (comp_at log t u)
comp_has_spelling log t u o a bytes op_at answer_at same numbers h =
    let Fit : Option Op → Type 0 = λ i. IfSome i IsOp in (
      numbers.0,
      (
        numbers.1,
        (numbers.2, subst Fit same (undo_fits (key_of o) a (key_fits o h.op.fits.1.1) h.answer.fits.1)),
      ),
    )

-- ---- for callers

-- an answered operation has its inverse
pub inverts : (log : List Record) (u t : ℕ) (o : Op) (a : Answer) → IsOpBy log u t o → answer_of log u ≡ Some a
    → Inverts log u (inverse_at log u)
inverts log u t o a by answered = record {
  txn = t;
  op = o;
  answer = a;
  is = by;
  answered = answered;
  inverse = ap (λ (b : Option (ℕ × Op)). inverse_by b (answer_of log u)) by ∙ ap (inverse_by (Some (t, o))) answered;
}
