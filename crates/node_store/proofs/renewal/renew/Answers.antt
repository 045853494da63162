use Rattle.std.proofs.Common.{rules, ◌≡◌, ◌∙◌, ℕ, false, List, [], sym, ap, subst, inr}
use Rattle.std.specs.FinMap.{entries}
use Rattle.record_key.specs.Table.{Table}
use Rattle.history.specs.declared.record.Record.{Record}
use Rattle.history.specs.History.{plain}
use Rattle.history.specs.ListMachine.{is_live}
use Rattle.tc_rewriting.specs.Written.{written, count_with}
use Rattle.dc_tree.specs.Leaves.{rows_of}
use Rattle.node_world.specs.dc_core.specs.DcView.{leaves}
use Rattle.simulation.specs.Reading.{machine_read, txn_read}
use Rattle.node_world.specs.Quiet.{IsQuiet}
use Rattle.node_store.proofs.Renewed.{tells, same_log, is_refused, refused_as}
use Rattle.node_store.proofs.renewal.renew.Goals as goal

pub returns-in-Ok-open-clause-log : goal.returns-in-Ok-open-clause-log
returns-in-Ok-open-clause-log g c =
    let table : Table = rows_of (leaves c.args.old.now.dc) in
    let bytes : List ℕ = g.E.LogDevice.forced c.in-Ok.log in
    same_log table bytes c.in-Ok.ensures.log c.in-Ok-open.new.tc.log c.in-Ok-open.ensures.opened.log

pub returns-in-Ok-open-clause-table : goal.returns-in-Ok-open-clause-table
returns-in-Ok-open-clause-table g c m stands =
    let table : Table = rows_of (leaves c.args.old.now.dc) in
    let bytes : List ℕ = g.E.LogDevice.forced c.in-Ok.log in
    let same : c.in-Ok-open.new.tc.log ≡ written (entries table) [] =
    same_log table bytes c.in-Ok.ensures.log c.in-Ok-open.new.tc.log c.in-Ok-open.ensures.opened.log in
    let quiet : IsQuiet c.args.old.now = search rules in
    ap (λ (l : List Record). plain (machine_read l).h) same ∙ (tells table).machine
    ∙ (c.kept.ensures.promised.settled m stands quiet.rest.settled).rows

pub returns-in-Ok-open-clause-over : goal.returns-in-Ok-open-clause-over
returns-in-Ok-open-clause-over g c t =
    let table : Table = rows_of (leaves c.args.old.now.dc) in
    let bytes : List ℕ = g.E.LogDevice.forced c.in-Ok.log in
    let same : c.in-Ok-open.new.tc.log ≡ written (entries table) [] =
    same_log table bytes c.in-Ok.ensures.log c.in-Ok-open.new.tc.log c.in-Ok-open.ensures.opened.log in
    subst (λ (l : List Record). is_live (txn_read l t).status ≡ false) (sym same) ((tells table).over t)

pub unreachable-requires : goal.unreachable-requires
unreachable-requires g c =
    let table : Table = rows_of (leaves c.args.old.now.dc) in
    let bytes : List ℕ = g.E.LogDevice.forced c.in-Ok.log in
    let is = is_refused table bytes c.in-Ok.ensures.log c.in-Err-open.left.cause c.in-Err-open.ensures.refused in
    c.in_default.not-Refused is.0 is.1

pub returns-in-Refused-clause-refused : goal.returns-in-Refused-clause-refused
returns-in-Refused-clause-refused g c =
    let table : Table = rows_of (leaves c.args.old.now.dc) in
    let bytes : List ℕ = g.E.LogDevice.forced c.in-Ok.log in
    let quiet : IsQuiet c.args.old.now = search rules in
    inr (
      quiet,
      refused_as table bytes c.in-Ok.ensures.log c.in-Err-open.left.cause c.in-Refused.refusal
          (count_with 0 (entries table)) c.in-Refused.is c.in-Err-open.ensures.refused,
    )
