use Rattle.std.proofs.Common.{◌≡◌, ◌∙◌, ℕ, ◌+◌, ◌-◌, ◌≤◌, None, length, sym, subst, arith}
use Rattle.history.specs.Log.{record_at}
use Rattle.tc_restart.specs.Plan.{IsFound}
use Rattle.tc_log.proofs.Spelled.{has_record}
use Rattle.tc_restart.proofs.Found.{found_all}
use Rattle.tc_restart.proofs.findings.read.Goals as goal

pub loop-end-init : goal.loop-end-init
loop-end-init g c = c.new-findings.ensures c.args.log.now.records

pub take-requires-clause-so_far : goal.take-requires-clause-so_far
take-requires-clause-so_far g c =
    let e : c.loop-end.end ≡ c.loop-end.end + 1 - 1 = omega arith in
    subst (λ (n : ℕ). IsFound c.args.log.now.records n c.loop-end.findings) e c.loop-end.invariant

pub unreachable-requires : goal.unreachable-requires
unreachable-requires g c =
    let there : c.loop-end.end + 1 ≤ length c.args.log.now.records = omega
    (arith, c.loop-end-test.true, c.len-end-end.ensures.count) in
    let has = has_record c.args.log.now.records (c.loop-end.end + 1) (omega arith) there in
    let none : record_at c.args.log.now.records (c.loop-end.end + 1) ≡ None = sym c.record.ensures ∙ c.in-None.is in
    let some = has.1 in
    cc

pub returns-clause-found : goal.returns-clause-found
returns-clause-found g c =
    let e : c.loop-end.end ≡ length c.args.log.now.records = omega
    (arith, c.loop-end-test.false, c.len-end-end.ensures.count, c.loop-end.auto.end-end) in
    found_all c.args.log.now.records c.loop-end.findings
    (subst (λ (n : ℕ). IsFound c.args.log.now.records n c.loop-end.findings) e c.loop-end.invariant)
