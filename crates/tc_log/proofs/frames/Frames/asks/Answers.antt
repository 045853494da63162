use Rattle.std.proofs.Common.{◌≡◌, ℕ, ◌++◌, is_some, not, refl, sym, ap, ◌∙◌, arith}
use Rattle.std.specs.Prelude.{◌==◌}
use Rattle.history.specs.Log.{request_in}
use Rattle.tc_log.specs.Index.{asks_nothing}
use Rattle.tc_log.specs.Spelled.{records_of}
use Rattle.tc_log.proofs.Index.{index_at, index_asks, record_at-zero}
use Rattle.tc_log.proofs.frames.Frames.asks.Goals as goal

pub returns-then-number-eq0 : goal.returns-then-number-eq0
returns-then-number-eq0 g c =
    rw (c.if-number-eq0.true)
    (sym (ap (λ r. is_some (request_in r)) (record_at-zero c.args.self.now.records)))

pub returns : goal.returns
returns g c =
    let m = c.self.inside in
    let records = records_of (g.D.LogDevice.forced m.device ++ g.D.LogDevice.pending m.device) m.index.count in
    let place : c.answer_place.result ≡ index_at records c.args.number =
    rw (c.answer_place.ensures, c.as_slice.ensures.value, c.self.invariant.frames.indexed) refl in
    ap (λ (p : ℕ). not (p == asks_nothing)) place
    ∙ rw (← c.self.view_is) (sym (index_asks records c.args.number c.self.invariant.frames.legal
    c.self.invariant.frames.numbered (omega arith)))
