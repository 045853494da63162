use Rattle.std.proofs.Common.{◌≡◌, ◌<◌, ◌+◌, ℕ, List, length, Option, Some, None, refl, sym, subst, arith}
use Rattle.std.specs.BTreeMap.{get}
use Rattle.std.specs.Ordering.{nat_cmp}
use Rattle.history.specs.declared.record.Record.{Record}
use Rattle.history.specs.Log.{record_at}
use Rattle.framed_log.proofs.Beginning.{everything}
use Rattle.tc_locks.specs.Rebuilt.{Listed, listed_spans}
use Rattle.tc_core.specs.Locking.{op_spans}
use Rattle.tc_core.specs.Opening.{spans_if}
use Rattle.tc_core.proofs.Rebuilt.{AreNoted, noted_none, noted_more, none_past}
use Rattle.tc_core.proofs.opening.keys_of.Goals as goal

pub loop-end-init : goal.loop-end-init
loop-end-init g c =
    let noted = get nat_cmp c.args.open_txns.now in
    let start = c.first_open-end.result in
    let P : List Listed → Type 0 = λ keys. AreNoted c.args.frames.now.records start keys noted in
    subst P (sym c.new-keys.ensures.items)
    (noted_none c.args.frames.now.records start noted c.len-records.ensures.legal
    (omega (arith, c.first_open-end.ensures.within, c.len-records.ensures.count)) c.first_open-end.ensures.first)

-- the record of the loop's number
there : (log : List Record) (end : ℕ) → end < length log → (r : Record) × (record_at log (end + 1) ≡ Some r)
there log end within = by (record_at log (end + 1)) refl
  where
    by : (x : Option Record) → record_at log (end + 1) ≡ x → (r : Record) × (record_at log (end + 1) ≡ Some r)
    by None none = absurd (none_past log end within none)
    by (Some r) some = (r, some)

pub loop-end-preserved : goal.loop-end-preserved
loop-end-preserved g c =
    let log = c.args.frames.now.records in
    let at = there log c.loop-end.end (omega (arith, c.loop-end-test.true, c.len-records.ensures.count)) in
    noted_more log c.loop-end.end at.0 c.loop-end.keys.items c.note_key.new.keys.items
    (get nat_cmp c.args.open_txns.now) at.1 (c.in_ok-note_key.ensures at.0 at.1) c.loop-end.invariant

pub returns : goal.returns
returns g c t =
    let log = c.args.frames.now.records in
    let noted = get nat_cmp c.args.open_txns.now in
    let e : c.loop-end.end ≡ length log =
    omega (arith, c.loop-end-test.false, c.len-records.ensures.count, c.loop-end.auto.end-end) in
    let P : ℕ → Type 0 = λ n. AreNoted log n c.loop-end.keys.items noted in
    let Q : List Record → Type 0 = λ p. listed_spans c.loop-end.keys.items t ≡ spans_if (noted t) (op_spans p t) in
    subst Q (everything log) (subst P e c.loop-end.invariant t)
