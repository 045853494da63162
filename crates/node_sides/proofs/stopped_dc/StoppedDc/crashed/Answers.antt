use Rattle.std.proofs.Common.{◌∙◌, arith}
use Rattle.framed_log.specs.Beginning.{beginning}
use Rattle.stable.specs.LogState.{LogState}
use Rattle.node_laws.proofs.Restarts.Downs.{IsStopped, IsCrash, log_length, crash_of, crash_leaves, crash_is, crash_found}
use Rattle.node_sides.proofs.stopped_dc.StoppedDc.crashed.Goals as goal
use Rattle.node_sides.proofs.stopped_dc.StoppedDc.crashed.Given as given

-- what is seen of a log's device
abbrev state : (g : given.Over) → g.row.D.Denot → LogState
state g d = record {
  forced = g.D.LogDevice.forced d;
  pending = g.D.LogDevice.pending d;
  usage = g.D.LogDevice.usage d;
}

pub overflow_sub-forced : goal.overflow_sub-forced
overflow_sub-forced g c =
    omega (
      arith,
      log_length c.args.dc.system (state g c.stop-log.result.log) c.end_of-end.result c.records.result
          c.stop-log.ensures.holds c.records.ensures c.end_of-end.ensures,
      c.unforced.ensures,
    )

pub on-found-requires : goal.on-found-requires
on-found-requires g c =
    let v = c.args.dc.system in
    let log = state g c.stop-log.result.log in
    let pages = g.P.PageDevice.pages c.crash-2.new.self in
    let page_usage = g.P.PageDevice.usage c.crash-2.new.self in
    let all = log_length v log c.end_of-end.result c.records.result c.stop-log.ensures.holds c.records.ensures
    c.end_of-end.ensures in
    let stopped : IsStopped v log pages page_usage =
    record {
      holds = c.stop-log.ensures.holds;
      forced = c.stop-log.ensures.forced;
      just = c.stop-log.ensures.just c.crash.ensures.whole;
      pages_are = c.crash-2.ensures.pages ∙ c.stop-log.ensures.pages;
      log_usage = c.stop-log.ensures.log_usage;
      page_used = c.crash-2.ensures.uncounted ∙ c.stop-log.ensures.page_usage;
    } in
    let crash =
    crash_of v c.args.frames c.args.bytes c.kept_of-kept.result c.end_of-end.result c.saturating_sub.result log
    (state g c.crash.new.self) pages page_usage all (omega (arith, c.saturating_sub.ensures, c.unforced.ensures))
    stopped
    (λ i. record {
      forced = c.crash.ensures.left i;
      pending = c.crash.ensures.none_pending i;
      usage = c.crash.ensures.uncounted i;
    }) c.kept_of-kept.ensures in
    let left = crash_leaves v c.args.frames c.args.bytes c.kept_of-kept.result log (state g c.crash.new.self) pages
    page_usage c.kept.ensures.system c.requires crash in
    (beginning v.log left.count, left.holds)

-- the crash, with the records found after it
crash_then : (g : given.Over) (c : goal.After-on-found g)
    → IsCrash c.args.dc.system c.args.frames c.args.bytes c.kept_of-kept.result (state g c.stop-log.result.log)
    (state g c.crash.new.self) (g.P.PageDevice.pages c.crash-2.new.self) (g.P.PageDevice.usage c.crash-2.new.self)
crash_then g c =
    let v = c.args.dc.system in
    let log = state g c.stop-log.result.log in
    let pages = g.P.PageDevice.pages c.crash-2.new.self in
    let page_usage = g.P.PageDevice.usage c.crash-2.new.self in
    let all = log_length v log c.end_of-end.result c.records.result c.stop-log.ensures.holds c.records.ensures
    c.end_of-end.ensures in
    let stopped : IsStopped v log pages page_usage =
    record {
      holds = c.stop-log.ensures.holds;
      forced = c.stop-log.ensures.forced;
      just = c.stop-log.ensures.just c.crash.ensures.whole;
      pages_are = c.crash-2.ensures.pages ∙ c.stop-log.ensures.pages;
      log_usage = c.stop-log.ensures.log_usage;
      page_used = c.crash-2.ensures.uncounted ∙ c.stop-log.ensures.page_usage;
    } in
    crash_of v c.args.frames c.args.bytes c.kept_of-kept.result c.end_of-end.result c.saturating_sub.result log
    (state g c.crash.new.self) pages page_usage all (omega (arith, c.saturating_sub.ensures, c.unforced.ensures))
    stopped
    (λ i. record {
      forced = c.crash.ensures.left i;
      pending = c.crash.ensures.none_pending i;
      usage = c.crash.ensures.uncounted i;
    }) c.kept_of-kept.ensures

pub invariant_of-result : goal.invariant_of-result
invariant_of-result g c =
    let is =
    crash_found c.args.dc.system c.args.frames c.args.bytes c.kept_of-kept.result (state g c.stop-log.result.log)
    (state g c.crash.new.self) (g.P.PageDevice.pages c.crash-2.new.self) (g.P.PageDevice.usage c.crash-2.new.self)
    c.on-found.result.log c.kept.ensures.system c.requires (crash_then g c) c.on-found.ensures in
    (c.on-found.ensures, (c.crash.ensures.none_pending, is))

pub returns : goal.returns
returns g c =
    crash_is c.args.dc.system c.args.frames c.args.bytes c.kept_of-kept.result (state g c.stop-log.result.log)
    (state g c.crash.new.self) (g.P.PageDevice.pages c.crash-2.new.self) (g.P.PageDevice.usage c.crash-2.new.self)
    c.on-found.result.log c.kept.ensures.system c.requires (crash_then g c) c.on-found.ensures
