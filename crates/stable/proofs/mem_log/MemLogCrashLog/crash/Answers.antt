use Rattle.std.proofs.Common.{◌≡◌, ◌+◌, ◌++◌, [], length, take, drop, min, subst, sym, ap, arith}
use Rattle.std.proofs.lemmas.Grind.{common_steps}
use Rattle.stable.specs.Crash.{MayLeave}
use Rattle.stable.specs.LogState.{LogState, with_bytes}
use Rattle.stable.proofs.Left.{crash_state, crash_leaves}
use Rattle.stable.proofs.mem_log.MemLogCrashLog.crash.Goals as goal

pub returns-clause-left : goal.returns-clause-left
returns-clause-left c =
    let m = c.self.inside in let left = c.truncate.new.self.items in let end = m.forced + c.min.result in
    let all : end ≡ length left = grind (arith, common_steps) in
    let pending : c.unforced-pending.result ≡ length (drop m.forced m.bytes.items) =
    subst (λ (old : LogState). c.unforced-pending.result ≡ length old.pending) (sym c.self.view_is) c.unforced-pending.ensures in
    let same_end : min end (length m.bytes.items) ≡ min (m.forced + c.args.kept) (length m.bytes.items) =
    grind (arith, pending, common_steps) in
    let Left : LogState → Type 0 = λ old.
    record {
      forced = take end left;
      pending = drop end left;
      usage = m.faults;
    }
    ≡ with_bytes old (old.forced ++ take c.args.kept old.pending) [] in
    subst Left c.self.view_is
    (crash_state m.bytes.items left m.forced c.args.kept end _ c.truncate.ensures.items all same_end)

pub returns-clause-law : goal.returns-clause-law
returns-clause-law c =
    let old = c.args.self.now in
    subst (MayLeave old.forced old.pending) (sym (ap (λ log. log.forced) (returns-clause-left c)))
    (crash_leaves old.forced old.pending c.args.kept)
