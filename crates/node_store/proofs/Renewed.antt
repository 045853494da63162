-- What is opened on the log by which a quiet node's records were written, and that opening isn't refused for it.
use Rattle.std.proofs.Common.{◌≡◌, ◌⊎◌, ℕ, ◌+◌, List, [], ◌∷◌, length, Some, sym, refl, subst, inl, inr}
use Rattle.std.specs.FinMap.{entries}
use Rattle.std.proofs.lemmas.Bool.{cases_eq}
use Rattle.record_key.specs.declared.op.Op.TheVariants.{Insert}
use Rattle.record_key.specs.declared.op.Answer.TheVariants.{Inserted}
use Rattle.record_key.specs.declared.refusal.Refusal.{Refusal}
use Rattle.record_key.specs.declared.refusal.Refusal.TheVariants.{NoMemory, Device}
use Rattle.record_key.specs.Rows.{Row}
use Rattle.record_key.specs.Table.{Table}
use Rattle.record_key.proofs.Rows.{own_rows, table_of_entries}
use Rattle.history.specs.declared.record.Record.{Record}
use Rattle.history.specs.declared.record.Record.TheVariants as is
use Rattle.history.specs.Log.{record_at, before}
use Rattle.history.specs.Values.{HasRightAnswers}
use Rattle.log_laws.proofs.LegalLogs.{right_rest}
use Rattle.log_laws.proofs.Records.{newest_at, older_at, before_new, before_old}
use Rattle.tc_rewriting.specs.Laws.{TellsOf}
use Rattle.tc_rewriting.specs.Written.{with_row, with_rows, written, RefusesRecords}
use Rattle.tc_rewriting.proofs.Tables.{rewriting_keeps}
use Rattle.tc_log.specs.Opening.{IsLogOf}
use Rattle.tc_log.proofs.Crashed.{opens_once, never_bad}
use Rattle.node_store.specs.declared.unopened.Cause.{Cause}
use Rattle.node_store.specs.declared.unopened.Cause.TheVariants as no
use Rattle.node_store.specs.Opening.{HasNoCheckpoint, IsFit, IsRefusedFor, IsWrongIn, IsWrongOn}
use Rattle.node_store.proofs.Firsts.{none_checked, still_none}

-- the rows of a table, written from nothing, tell of it
pub tells : (table : Table) → TellsOf table (written (entries table) [])
tells table =
    subst (λ (m : Table). TellsOf m (written (entries table) [])) (table_of_entries table (entries table) (own_rows table) refl)
    (rewriting_keeps (entries table) (own_rows table))

-- no checkpoint stands among them
rows_unchecked : (rows : List Row) (t prev : ℕ) (log : List Record) → HasNoCheckpoint log
    → HasNoCheckpoint (with_rows t prev rows log)
rows_unchecked [] t prev log none = none
rows_unchecked (row ∷ rows) t prev log none =
    let op : Record = is.Op t prev (Insert row.0 row.1) in
    rows_unchecked rows t (length log + 1) (with_row t prev row log)
    (still_none (is.Answer (length log + 1) Inserted) (op ∷ log) (λ low e. cc)
    (still_none op log (λ low e. cc) none))

unchecked : (rows : List Row) → HasNoCheckpoint (written rows [])
unchecked rows =
    still_none (is.Commit 1) (with_rows 1 0 rows (is.Begin ∷ [])) (λ low e. cc)
    (rows_unchecked rows 1 0 (is.Begin ∷ []) (still_none is.Begin [] (λ low e. cc) none_checked))

-- where the answers of a log are right, so are those of its records up to each
right_to : (log : List Record) (n : ℕ) (r : Record) → record_at log n ≡ Some r → HasRightAnswers log
    → HasRightAnswers (r ∷ before log n)
right_to [] n r at right = absurd (cc)
right_to (q ∷ log) n r at right =
    elim (cases_eq n (length log + 1)) [
      | inl e ↦
          let newest : Some q ≡ Some r = newest_at (λ x. x ≡ Some r) q log n e at in
          let same : q ≡ r = cc in
          subst HasRightAnswers (λ i. same i ∷ sym (before_new q log n e) i) right
      | inr e ↦
          subst (λ (l : List Record). HasRightAnswers (r ∷ l)) (sym (before_old q log n e))
          (right_to log n r (older_at (λ x. x ≡ Some r) q log n e at) (right_rest q log right))
    ]

-- a log that is fit is refused for nothing that is wrong in it
is_fit : (table : Table) → IsFit (written (entries table) [])
is_fit table = record { right = (tells table).ended.right; unchecked = unchecked (entries table) }

none_wrong : (log : List Record) (n : ℕ) → IsFit log → (IsWrongIn log (no.Checkpoint n) → ⊥) × (IsWrongIn log (no.WrongAnswer n) → ⊥)
none_wrong log n fit = (
  λ wrong. fit.unchecked n wrong.0 wrong.1.stands,
  λ wrong. wrong.wrong (right_to log n wrong.next wrong.first.stands fit.right),
)

module _ (table : Table) (bytes : List ℕ) (here : IsLogOf bytes (written (entries table) [])) where
  abbrev mine : List Record
  mine = written (entries table) []

  pub same_log : (log : List Record) → IsLogOf bytes log → log ≡ mine
  same_log log spelled = opens_once bytes log mine spelled here

  fit_on : (why : Cause) (on : IsWrongOn bytes why) → IsFit on.log
  fit_on why on = subst IsFit (sym (same_log on.log on.spelled)) (is_fit table)

  -- so opening is refused for no record, and else for memory or the device
  pub is_refused : (why : Cause) → IsRefusedFor bytes why → (r : Refusal) × (why ≡ no.Refused r)
  is_refused (no.Refused r) refused = (r, refl)
  is_refused (no.Checkpoint n) on = absurd ((none_wrong on.log n (fit_on (no.Checkpoint n) on)).0 on.wrong)
  is_refused (no.WrongAnswer n) on = absurd ((none_wrong on.log n (fit_on (no.WrongAnswer n) on)).1 on.wrong)

  pub refused_as : (why : Cause) (r : Refusal) (count : ℕ) → why ≡ no.Refused r → IsRefusedFor bytes why
      → RefusesRecords count r
  refused_as why r count is refused = by (never_bad bytes mine r here (subst (IsRefusedFor bytes) is refused))
    where
      by : (r ≡ NoMemory) ⊎ (r ≡ Device) → RefusesRecords count r
      by (inl memory) = inl memory
      by (inr device) = inr (inl device)
