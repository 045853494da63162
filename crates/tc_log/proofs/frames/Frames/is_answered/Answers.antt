use Rattle.std.proofs.Common.{◌≡◌, ℕ, ◌++◌, not, refl, sym, ap, ◌∙◌, arith}
use Rattle.std.specs.Prelude.{◌==◌}
use Rattle.tc_log.specs.Spelled.{records_of}
use Rattle.tc_log.proofs.Index.{index_at, index_tells, is_answered-zero}
use Rattle.tc_log.proofs.frames.Frames.is_answered.Goals as goal

pub returns-then-number-eq0 : goal.returns-then-number-eq0
returns-then-number-eq0 g c = rw (c.if-number-eq0.true) (sym (is_answered-zero c.args.self.now.records))

pub returns : goal.returns
returns g c =
    let m = c.self.inside in
    let records = records_of (g.D.LogDevice.forced m.device ++ g.D.LogDevice.pending m.device) m.index.count in
    let place : c.answer_place.result ≡ index_at records c.args.number =
    rw (c.answer_place.ensures, c.as_slice.ensures.value, c.self.invariant.frames.indexed) refl in
    ap (λ (p : ℕ). not (p == 0)) place
    ∙ rw (← c.self.view_is) (sym (index_tells records c.args.number c.self.invariant.frames.legal (omega arith)))
