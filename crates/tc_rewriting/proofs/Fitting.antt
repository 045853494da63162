-- Each record by which rows are written fits the log that it is appended to.
use Rattle.std.proofs.Common.{◌≡◌, ℕ, zero, suc, ◌+◌, ◌*◌, ◌<◌, ◌≤◌, List, [], ◌∷◌, length, drop, get_or, None, refl, sym, ap, ◌∙◌, subst, arith}
use Rattle.std.specs.FinMap.{is_sorted}
use Rattle.std.specs.FinMap.Entries.{below_all}
use Rattle.std.proofs.lemmas.Bool.{and_parts}
use Rattle.std.proofs.lemmas.List.{drop_more}
use Rattle.record_key.specs.declared.op.Op.TheVariants.{Insert}
use Rattle.record_key.specs.declared.op.Answer.TheVariants.{Inserted}
use Rattle.record_key.specs.Laws.{key_cmp}
use Rattle.record_key.specs.Rows.{Row, AreInOrder}
use Rattle.record_key.specs.Table.{Bytes}
use Rattle.history.specs.declared.record.Record.{Record}
use Rattle.history.specs.declared.record.Record.TheVariants as is
use Rattle.history.specs.Legal.{FitsAnswer, FitsCommit, FitsOp}
use Rattle.history.specs.Values.{value_on}
use Rattle.tc_rewriting.specs.Written.{with_row, with_rows, written, count_with, AllHaveEnded, IsWriting, Lacks}
use Rattle.tc_rewriting.proofs.Alone.{begin_writes, legal_row, legal_mid, row_writes, commit_ends}
use Rattle.tc_rewriting.proofs.Rows.{first_lacked, others_lacked}

-- the operation as it was logged is the row's
pub op_is : (log : List Record) (t prev : ℕ) (row : Row) (k v : Bytes) → k ≡ row.0 → v ≡ row.1
    → ◌≡◌ {A = List Record} (is.Op t prev (Insert k v) ∷ log) (is.Op t prev (Insert row.0 row.1) ∷ log)
op_is log t prev row k v key value = λ i. is.Op t prev (Insert (key i) (value i)) ∷ log

pub op_fits : (log : List Record) (t prev : ℕ) (row : Row) (k v : Bytes) → IsWriting log t prev
    → value_on row.0 log ≡ None → k ≡ row.0 → v ≡ row.1 → FitsOp log t prev (Insert k v)
op_fits log t prev row k v h lacks key value =
    subst (λ (x : Bytes). FitsOp log t prev (Insert x v)) (sym key)
    (subst (λ (x : Bytes). FitsOp log t prev (Insert row.0 x)) (sym value) (legal_mid log t prev row h lacks).0)

pub answer_fits : (log new : List Record) (t prev number : ℕ) (row : Row) (k v : Bytes) → IsWriting log t prev
    → value_on row.0 log ≡ None → k ≡ row.0 → v ≡ row.1 → new ≡ is.Op t prev (Insert k v) ∷ log
    → number ≡ length log + 1 → FitsAnswer new number
answer_fits log new t prev number row k v h lacks key value is_new is_number =
    subst (λ (x : List Record). FitsAnswer x number) (sym (is_new ∙ op_is log t prev row k v key value))
    (subst (λ (n : ℕ). FitsAnswer (is.Op t prev (Insert row.0 row.1) ∷ log) n) (sym is_number)
    (legal_row log t prev row h lacks).0)

-- both records stand then
pub row_is : (log mid new : List Record) (t prev number : ℕ) (row : Row) (k v : Bytes) → k ≡ row.0 → v ≡ row.1
    → mid ≡ is.Op t prev (Insert k v) ∷ log → number ≡ length log + 1 → new ≡ is.Answer number Inserted ∷ mid
    → new ≡ with_row t prev row log
row_is log mid new t prev number row k v key value is_mid is_number is_new =
    is_new ∙ (λ i. is.Answer (is_number i) Inserted ∷ (is_mid ∙ op_is log t prev row k v key value) i)

pub commit_fits : (log : List Record) (t prev : ℕ) → IsWriting log t prev → FitsCommit log t
commit_fits log t prev h = (commit_ends log t prev h).legal.0

-- what holds while rows are written: those that are left
pub record IsHalfWay (old log : List Record) (t prev : ℕ) (all left : List Row) : Type 0 where
  pub txn : t ≡ length old + 1
  pub so_far : with_rows t prev left log ≡ with_rows t 0 all (is.Begin ∷ old)
  pub writing : IsWriting log t prev
  pub sorted : AreInOrder left
  pub lacks : Lacks log left

-- one more is written
pub goes_on : (old log new : List Record) (t prev number : ℕ) (all : List Row) (row : Row) (left : List Row)
    → IsHalfWay old log t prev all (row ∷ left) → new ≡ with_row t prev row log → number ≡ length log + 1
    → IsHalfWay old new t number all left
goes_on old log new t prev number all row left h is_new is_number =
    let parts = and_parts (below_all key_cmp row.0 left) (is_sorted key_cmp left) h.sorted in
    let first = first_lacked log row left h.lacks in
    let done : IsHalfWay old (with_row t prev row log) t (length log + 1) all left = record {
      txn = h.txn;
      so_far = h.so_far;
      writing = row_writes log t prev row h.writing first;
      sorted = parts.1;
      lacks = others_lacked log t prev row left parts.0 h.lacks;
    } in
    subst (λ (l : List Record). IsHalfWay old l t number all left) (sym is_new)
    (subst (λ (n : ℕ). IsHalfWay old (with_row t prev row log) t n all left) (sym is_number) done)

-- a transaction begins, and all are left
pub begun : (old log : List Record) (t number : ℕ) (rows : List Row) → AllHaveEnded old → AreInOrder rows → Lacks old rows
    → log ≡ is.Begin ∷ old → number ≡ length old + 1 → IsHalfWay old log number 0 rows rows
begun old log t number rows h sorted lacks is_log is_number =
    let start : IsHalfWay old (is.Begin ∷ old) (length old + 1) 0 rows rows = record {
      txn = refl;
      so_far = refl;
      writing = begin_writes old h;
      sorted = sorted;
      lacks = lacks;
    } in
    subst (λ (l : List Record). IsHalfWay old l number 0 rows rows) (sym is_log)
    (subst (λ (n : ℕ). IsHalfWay old (is.Begin ∷ old) n 0 rows rows) (sym is_number) start)

-- how many records there are, and are yet to be written
count_rows : (rows : List Row) (t prev : ℕ) (log : List Record)
    → length (with_rows t prev rows log) ≡ length log + 2 * length rows
count_rows [] t prev log = omega arith
count_rows (row ∷ rows) t prev log = omega (arith, count_rows rows t (length log + 1) (with_row t prev row log))

pub count_left : (old log : List Record) (t prev : ℕ) (all left : List Row) → IsHalfWay old log t prev all left
    → length log + 2 * length left + 1 ≡ count_with (length old) all
count_left old log t prev all left h =
    omega (
      arith,
      ap (λ (l : List Record). length l) h.so_far,
      count_rows left t prev log,
      count_rows all t 0 (is.Begin ∷ old),
    )

-- the rows that are left, the first of them apart
pub next_left : (old log : List Record) (t prev i : ℕ) (all : List Row) (row : Row) → i < length all
    → row ≡ get_or all i row → IsHalfWay old log t prev all (drop i all)
    → IsHalfWay old log t prev all (row ∷ drop (i + 1) all)
next_left old log t prev i all row lt at h =
    subst (IsHalfWay old log t prev all)
    (drop_more all i row lt ∙ ap (λ (r : Row). r ∷ drop (i + 1) all) (sym at)) h

-- the first of them is lacked
pub first_is_lacked : (old log : List Record) (t prev : ℕ) (all : List Row) (row : Row) (left : List Row)
    → IsHalfWay old log t prev all (row ∷ left) → value_on row.0 log ≡ None
first_is_lacked old log t prev all row left h = first_lacked log row left h.lacks

-- once none is left and the transaction has committed, all are written
none_left : (i : ℕ) (all : List Row) → length all ≤ i → drop i all ≡ []
none_left zero [] h = refl
none_left zero (r ∷ all) h = absurd (omega (arith, h))
none_left (suc i) [] h = refl
none_left (suc i) (r ∷ all) h = none_left i all (omega (arith, h))

pub all_written : (old log new : List Record) (t prev i : ℕ) (all : List Row) → length all ≤ i
    → IsHalfWay old log t prev all (drop i all) → new ≡ is.Commit t ∷ log → new ≡ written all old
all_written old log new t prev i all done h is_new =
    let at_end : with_rows t prev (drop i all) log ≡ log = ap (λ (l : List Row). with_rows t prev l log) (none_left i all done) in
    is_new ∙ ap (λ (l : List Record). is.Commit t ∷ l) (sym at_end ∙ h.so_far)
    ∙ ap (λ (n : ℕ). is.Commit n ∷ with_rows n 0 all (is.Begin ∷ old)) h.txn
