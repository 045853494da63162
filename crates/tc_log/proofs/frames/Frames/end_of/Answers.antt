use Rattle.std.proofs.Common.{◌≡◌, ℕ, ◌∙◌, ◌<◌, ◌≤◌, ◌++◌, List, sym, ap, arith, length, get_or}
use Rattle.history.specs.declared.record.Record.{Record}
use Rattle.codec.specs.FrameIndex.{place_at}
use Rattle.codec.proofs.Indexed.{place_of}
use Rattle.tc_log.specs.Kept.{AreIndexed}
use Rattle.framed_log.specs.Beginning.{beginning}
use Rattle.tc_log.specs.Spelled.{framing, spelled, records_of}
use Rattle.framed_log.proofs.Beginning.{everything}
use Rattle.tc_log.proofs.Framed.{indexed_count}
use Rattle.framed_log.proofs.Spelled.{place_at as begins_at}
use Rattle.tc_log.proofs.frames.Frames.end_of.Goals as goal

-- before the last record its frame's place is the end, and after that the log's
at_place : (log : List Record) (bytes left marks : List ℕ) (count : ℕ) (answers : List ℕ) (end n : ℕ)
    → AreIndexed log bytes left marks count answers end → n < count
    → place_at bytes n ≡ length (spelled (beginning log n))
at_place log bytes left marks count answers end n h less =
    sym (place_of bytes count n 0 less) ∙ ap (λ (xs : List ℕ). get_or xs n 0) h.frames.begins_are
    ∙ begins_at framing log n 0 (omega (arith, less, indexed_count log bytes left marks count answers end h))

at_end : (log : List Record) (n end : ℕ) → length log ≤ n
    → n ≤ length log → end ≡ length (spelled log) → end ≡ length (spelled (beginning log n))
at_end log n end all within is =
    let last : n ≡ length log = omega (arith, all, within) in
    is ∙ ap (λ (l : List Record). length (spelled l)) (sym (ap (beginning log) last ∙ everything log))

pub returns-then-count-len : goal.returns-then-count-len
returns-then-count-len g c =
    rw (← c.self.view_is)
    (c.place.ensures ∙ ap (λ (b : List ℕ). place_at b c.args.count) c.held.ensures
    ∙ at_place _ _ _ _ _ _ _ c.args.count c.self.invariant (omega (arith, c.if-count-len.true, c.len.ensures)))

pub returns-else-count-len : goal.returns-else-count-len
returns-else-count-len g c =
    let m = c.self.inside in
    let bytes : List ℕ = g.D.LogDevice.forced m.device ++ g.D.LogDevice.pending m.device in
    let log : List Record = records_of bytes m.index.count in
    let within : c.args.count ≤ length log = rw (← c.self.view_is) at c.requires in
    let all : length log ≤ c.args.count =
    omega (arith, c.if-count-len.false, c.len.ensures, indexed_count _ _ _ _ _ _ _ c.self.invariant) in
    rw (← c.self.view_is) (at_end log c.args.count m.end all within c.self.invariant.frames.end_is)
