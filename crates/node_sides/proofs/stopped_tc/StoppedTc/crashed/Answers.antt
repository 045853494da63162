use Rattle.std.proofs.Common.{arith}
use Rattle.framed_log.specs.Beginning.{beginning}
use Rattle.stable.specs.LogState.{LogState}
use Rattle.node_laws.proofs.Restarts.TcDowns.{IsHalted, device_length, tc_crash_of, kept_left, tc_crash_is}
use Rattle.node_sides.proofs.stopped_tc.StoppedTc.crashed.Goals as goal
use Rattle.node_sides.proofs.stopped_tc.StoppedTc.crashed.Given as given

-- what is seen of a log's device
abbrev state : (g : given.Over) → g.row.D.Denot → LogState
state g d = record {
  forced = g.D.LogDevice.forced d;
  pending = g.D.LogDevice.pending d;
  usage = g.D.LogDevice.usage d;
}

pub overflow_sub-forced : goal.overflow_sub-forced
overflow_sub-forced g c =
    let all = device_length c.args.tc (state g c.stop-device.result) c.end_of-end.result c.records.result
    c.stop-device.ensures.holds c.records.ensures c.end_of-end.ensures in
    omega (arith, all, c.unforced.ensures)

pub on-found-requires : goal.on-found-requires
on-found-requires g c =
    let w = c.args.tc in
    let device = state g c.stop-device.result in
    let all = device_length w device c.end_of-end.result c.records.result
    c.stop-device.ensures.holds c.records.ensures c.end_of-end.ensures in
    let halted : IsHalted w device =
    record {
      holds = c.stop-device.ensures.holds;
      forced = c.stop-device.ensures.forced;
      just = c.stop-device.ensures.just c.crash.ensures.whole;
      spellable = c.stop-device.ensures.spellable;
      usage = c.stop-device.ensures.usage;
    } in
    let crash = tc_crash_of w device c.args.frames c.args.bytes c.bytes_kept_of-kept.result c.end_of-end.result
    c.saturating_sub.result (state g c.crash.new.self) all (omega (arith, c.saturating_sub.ensures, c.unforced.ensures))
    halted
    (λ i. record {
      forced = c.crash.ensures.left i;
      pending = c.crash.ensures.none_pending i;
      usage = c.crash.ensures.uncounted i;
    }) c.bytes_kept_of-kept.ensures in
    let left = kept_left w device c.args.frames c.args.bytes c.bytes_kept_of-kept.result (state g c.crash.new.self)
    c.kept.ensures crash in
    (beginning w.log left.count, left.holds)

pub invariant_of-result : goal.invariant_of-result
invariant_of-result g c = (c.on-found.ensures, c.crash.ensures.none_pending)

pub returns : goal.returns
returns g c =
    let w = c.args.tc in
    let device = state g c.stop-device.result in
    let all = device_length w device c.end_of-end.result c.records.result
    c.stop-device.ensures.holds c.records.ensures c.end_of-end.ensures in
    let halted : IsHalted w device =
    record {
      holds = c.stop-device.ensures.holds;
      forced = c.stop-device.ensures.forced;
      just = c.stop-device.ensures.just c.crash.ensures.whole;
      spellable = c.stop-device.ensures.spellable;
      usage = c.stop-device.ensures.usage;
    } in
    let crash = tc_crash_of w device c.args.frames c.args.bytes c.bytes_kept_of-kept.result c.end_of-end.result
    c.saturating_sub.result (state g c.crash.new.self) all (omega (arith, c.saturating_sub.ensures, c.unforced.ensures))
    halted
    (λ i. record {
      forced = c.crash.ensures.left i;
      pending = c.crash.ensures.none_pending i;
      usage = c.crash.ensures.uncounted i;
    }) c.bytes_kept_of-kept.ensures in
    tc_crash_is w device c.args.frames c.args.bytes c.bytes_kept_of-kept.result (state g c.crash.new.self)
    c.on-found.result.log c.kept.ensures crash c.on-found.ensures
