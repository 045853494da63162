use Rattle.std.proofs.Common.{sym, arith, ◌<◌}
use Rattle.tc_log.proofs.Index.{answer_found, answer_of-zero}
use Rattle.tc_log.proofs.frames.Frames.answer_of.Goals as goal

pub returns-then-number-eq0 : goal.returns-then-number-eq0
returns-then-number-eq0 g c =
    rw (← c.self.view_is, c.if-number-eq0.true) (sym (answer_of-zero _ c.self.invariant.frames.legal))

pub returns : goal.returns
returns g c =
    let some : 0 < c.args.number = omega arith in
    rw (
      c.answer_held.ensures,
      c.record.ensures,
      c.answer_place.ensures,
      c.as_slice-answers.ensures.value,
      ←
          c.self.view_is,
      c.self.invariant.frames.indexed,
    )
    (sym (answer_found _ c.args.number c.self.invariant.frames.legal c.self.invariant.frames.numbered some))
