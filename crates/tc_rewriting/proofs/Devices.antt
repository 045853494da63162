-- Numbers of a log that isn't spent, what a device has to which all of a log was forced, and why records aren't written.
use Rattle.std.proofs.Common.{◌≡◌, ℕ, ◌+◌, ◌<◌, ◌≤◌, ◌^◌, Bool, true, false, List, [], ◌∷◌, ◌++◌, length, Some, None, refl, sym, ap, ◌∙◌, subst, arith, inl, inr}
use Rattle.std.specs.Prelude.{if◌then◌else◌}
use Rattle.std.proofs.lemmas.Bool.{leb-false, leb-true}
use Rattle.std.proofs.lemmas.List.{append-nil, length-append}
use Rattle.codec.specs.Fields.{IsNumber}
use Rattle.framed_log.specs.Beginning.{beginning}
use Rattle.framed_log.proofs.Beginning.{everything}
use Rattle.history.specs.declared.record.Record.{Record}
use Rattle.history.specs.Legal.{IsLegal}
use Rattle.tc_log.specs.LogView.{LogView, Appends, is_spent, spent_refusal}
use Rattle.tc_log.specs.Opening.{IsLogOf}
use Rattle.tc_log.specs.Spelled.{spelled, AreRecords}
use Rattle.record_key.specs.FirstCause.{MayRefuse}
use Rattle.record_key.specs.declared.refusal.Refusal.{Refusal}
use Rattle.record_key.specs.declared.refusal.Refusal.TheVariants.{NumbersSpent}
use Rattle.tc_rewriting.specs.Written.{RefusesRecords}

pub is_number : (log : List Record) (n : ℕ) → is_spent log ≡ false → n ≡ length log + 1 → IsNumber n
is_number log n unspent is =
    let few : length log < 281474976710655 = leb-false 281474976710655 (length log) unspent in
    omega (arith, few, is)

pub records_are : (old new : LogView) (r : Record) (n : ℕ) → Appends old r n new → new.records ≡ r ∷ old.records
records_are old new r n h = ap (λ (v : LogView). v.records) h.log

-- bytes that begin with others and are a beginning of them are these
same_bytes : (forced pending all rest : List ℕ) → forced ++ pending ≡ all → forced ≡ all ++ rest
    → (forced ≡ all) × (pending ≡ [])
same_bytes forced pending all rest whole begins =
    let none : length rest + length pending ≡ 0 =
    omega (arith, ap length whole, ap length begins, length-append forced pending, length-append all rest) in
    let no_rest : rest ≡ [] = no_length rest (omega (arith, none)) in
    (begins ∙ ap (λ xs. all ++ xs) no_rest ∙ append-nil all, no_length pending (omega (arith, none)))
  where
    no_length : (xs : List ℕ) → length xs ≡ 0 → xs ≡ []
    no_length [] e = refl
    no_length (x ∷ xs) e = absurd (omega (arith, e))

-- where all records are stable, their bytes are what is forced, and nothing else is there
pub all_forced : (log : List Record) (stable : ℕ) (forced pending rest : List ℕ) → stable ≡ length log
    → forced ++ pending ≡ spelled log → forced ≡ spelled (beginning log stable) ++ rest
    → (forced ≡ spelled log) × (pending ≡ [])
all_forced log stable forced pending rest all whole begins =
    same_bytes forced pending (spelled log) rest whole
    (begins ∙ ap (λ (l : List Record). spelled l ++ rest) (ap (beginning log) all ∙ everything log))

-- and they are those of this log
pub is_log : (bytes : List ℕ) (log mine : List Record) → log ≡ mine → IsLegal mine → bytes ≡ spelled log
    → AreRecords log → length log < 2 ^ 48 → IsLogOf bytes mine
is_log bytes log mine same legal is records few =
    subst (IsLogOf bytes) same (record {
      legal = subst IsLegal (sym same) legal;
      numbered = few;
      frames = record { records = records; left = []; parts = is ∙ sym (append-nil (spelled log)); cut = inl (omega arith) };
    })

-- why the next record of a log isn't appended is why so many aren't, of which it is one
pub refuses : (log : List Record) (count : ℕ) (r : Refusal) → length log < count → MayRefuse (spent_refusal log) r
    → RefusesRecords count r
refuses log count r more = by (is_spent log) refl
  where
    by : (b : Bool) → is_spent log ≡ b → MayRefuse (if b then Some NumbersSpent else None) r → RefusesRecords count r
    by true spent is = inr (inr (is, omega (arith, leb-true 281474976710655 (length log) spent, more)))
    by false unspent (inl memory) = inl memory
    by false unspent (inr device) = inr (inl device)

-- and why more aren't
pub refuses_more : (few many : ℕ) (r : Refusal) → few ≤ many → RefusesRecords few r → RefusesRecords many r
refuses_more few many r le (inl memory) = inl memory
refuses_more few many r le (inr (inl device)) = inr (inl device)
refuses_more few many r le (inr (inr (is, spent))) = inr (inr (is, omega (arith, le, spent)))
