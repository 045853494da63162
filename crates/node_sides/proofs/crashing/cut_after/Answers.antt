use Rattle.std.proofs.Common.{◌≡◌, ◌∙◌, ◌+◌, ◌-◌, ℕ, length, ap, arith}
use Rattle.framed_log.proofs.Spelled.{spelled_longer}
use Rattle.tc_log.specs.Spelled.{framing}
use Rattle.node_laws.specs.Component.{tc_size, bytes_left}
use Rattle.node_laws.proofs.Restarts.Keeping.{part_left}
use Rattle.node_sides.proofs.crashing.cut_after.Goals as goal

pub overflow_sub-next : goal.overflow_sub-next
overflow_sub-next g c =
    omega (
      arith,
      spelled_longer framing c.args.tc.now.log c.args.tc.now.stable (c.loop-number.number + 1)
          (omega (arith, c.loop-number.invariant.0)),
      ap (tc_size c.args.tc.now.log) c.stable_end-stable.ensures,
      c.end_of-start.ensures,
      c.end_of-next.ensures,
    )

pub overflow_sub-result-then-kept-next : goal.overflow_sub-result-then-kept-next
overflow_sub-result-then-kept-next g c =
    omega (
      arith,
      spelled_longer framing c.args.tc.now.log c.args.tc.now.stable c.loop-number.number c.loop-number.invariant.0,
      ap (tc_size c.args.tc.now.log) c.stable_end-stable.ensures,
      c.end_of-start.ensures,
      c.loop-number.invariant.2,
    )

pub overflow_sub-result-3 : goal.overflow_sub-result-3
overflow_sub-result-3 g c =
    omega (
      arith,
      spelled_longer framing c.args.tc.now.log c.args.tc.now.stable c.loop-number.number c.loop-number.invariant.0,
      ap (tc_size c.args.tc.now.log) c.stable_end-stable.ensures,
      c.end_of-start.ensures,
      c.loop-number.invariant.2,
    )

pub returns-then-kept-next : goal.returns-then-kept-next
returns-then-kept-next g c =
    let log = c.args.tc.now.log in
    let size : ℕ → ℕ = tc_size log in
    let held = c.loop-number.invariant in
    let start : c.end_of-start.result ≡ size c.args.tc.now.stable =
    c.end_of-start.ensures ∙ ap size c.stable_end-stable.ensures in
    (λ i. bytes_left size c.args.tc.now.stable (length log) (c.loop-number.number - c.stable_end-stable.ensures i)
    (c.args.kept - (held.2 i - start i)))
    ∙ part_left size (spelled_longer framing log) c.args.tc.now.stable c.loop-number.number (length log) c.args.kept held.0
    (omega (arith, held.2, held.3, start)) (omega (arith, c.loop-number-test.true, c.records-records.ensures))
    (omega (arith, c.if-kept-next.true, start, c.end_of-next.ensures))
