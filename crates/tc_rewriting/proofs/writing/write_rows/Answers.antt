use Rattle.std.proofs.Common.{◌≡◌, ℕ, ◌+◌, ◌<◌, ◌≤◌, ◌∷◌, arith, drop, length, sym, subst, Result, Ok, Err}
use Rattle.std.specs.Prelude.{IfErr}
use Rattle.std.specs.Result.{IsErrAnd}
use Rattle.record_key.specs.declared.refusal.Refusal.{Refusal}
use Rattle.history.specs.declared.record.Record.TheVariants as is
use Rattle.tc_rewriting.specs.Written.{count_with, RefusesRecords}
use Rattle.tc_rewriting.proofs.Devices.{is_number, records_are, refuses, refuses_more}
use Rattle.tc_rewriting.proofs.Fitting.{begun, count_left, next_left, first_is_lacked, goes_on}
use Rattle.tc_rewriting.proofs.writing.write_rows.Goals as goal

pub loop-row-init : goal.loop-row-init
loop-row-init g c =
    let old = c.args.log.now in
    let new = c.append.new.self in
    let appended = c.in_ok-txn.ensures.appended in
    record {
      half = begun old.records new.records 0 c.in_ok-txn.txn c.args.rows.now c.requires.ended c.requires.sorted
          c.requires.lacks (records_are old new is.Begin c.in_ok-txn.txn appended) appended.number_is;
      txn = is_number old.records c.in_ok-txn.txn appended.unspent appended.number_is;
      prev = omega arith;
    }

pub insert-requires-clause-lacks : goal.insert-requires-clause-lacks
insert-requires-clause-lacks g c =
    let old = c.args.log.now.records in
    let log = c.loop-row.log.records in
    first_is_lacked old log c.in_ok-txn.txn c.loop-row.prev c.args.rows.now c.row-item.result
    (drop (c.loop-row.row-index + 1) c.args.rows.now)
    (next_left old log c.in_ok-txn.txn c.loop-row.prev c.loop-row.row-index c.args.rows.now c.row-item.result (omega arith)
    c.row-item.is c.loop-row.invariant.half)

pub loop-row-preserved : goal.loop-row-preserved
loop-row-preserved g c =
    let old = c.args.log.now.records in
    let log = c.loop-row.log.records in
    record {
      half = goes_on old log c.insert.new.log.records c.in_ok-txn.txn c.loop-row.prev c.in_ok-prev.prev
          c.args.rows.now c.row-item.result (drop (c.loop-row.row-index + 1) c.args.rows.now)
          (next_left old log c.in_ok-txn.txn c.loop-row.prev c.loop-row.row-index c.args.rows.now c.row-item.result
          (omega arith) c.row-item.is c.loop-row.invariant.half) c.in_ok-prev.ensures.inserted
          c.in_ok-prev.ensures.number;
      txn = c.loop-row.invariant.txn;
      prev = c.in_ok-prev.ensures.numbered;
    }

-- the refusal of a record is handed on
handed_on : (result : Result (Unit {0}) Refusal) (count : ℕ) (r : Refusal) → IsErrAnd result (λ q. q ≡ r)
    → RefusesRecords count r → IfErr result (RefusesRecords count)
handed_on (Ok u) count r same given = absurd same
handed_on (Err q) count r same given = subst (RefusesRecords count) (sym same) given

pub returns-in_err-prev-clause-refused : goal.returns-in_err-prev-clause-refused
returns-in_err-prev-clause-refused g c =
    let old = c.args.log.now.records in
    let log = c.loop-row.log.records in
    let all = c.args.rows.now in
    let left = drop (c.loop-row.row-index + 1) all in
    let now = next_left old log c.in_ok-txn.txn c.loop-row.prev c.loop-row.row-index all c.row-item.result (omega arith)
    c.row-item.is c.loop-row.invariant.half in
    let within : length log + 2 ≤ count_with (length old) all =
    omega (arith, count_left old log c.in_ok-txn.txn c.loop-row.prev all (c.row-item.result ∷ left) now) in
    handed_on c.from_residual-in_err-prev.result (count_with (length old) all) c.in_err-prev.field-0.0
    c.from_residual-in_err-prev.ensures.1
    (refuses_more (length log + 2) (count_with (length old) all) c.in_err-prev.field-0.0 within c.in_err-prev.ensures.refused)

pub returns-in_err-append-clause-refused : goal.returns-in_err-append-clause-refused
returns-in_err-append-clause-refused g c =
    let old = c.args.log.now.records in
    let log = c.loop-row.log.records in
    let all = c.args.rows.now in
    let more : length log < count_with (length old) all =
    omega (
      arith,
      count_left old log c.in_ok-txn.txn c.loop-row.prev all (drop c.loop-row.row-index all)
          c.loop-row.invariant.half,
    ) in
    handed_on c.from_residual-in_err-append.result (count_with (length old) all) c.in_err-append.field-0.0
    c.from_residual-in_err-append.ensures.1
    (refuses log (count_with (length old) all) c.in_err-append.field-0.0 more c.in_err-append.ensures.refused)
