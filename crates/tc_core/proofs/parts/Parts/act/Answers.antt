use Rattle.std.proofs.Common.{◌≡◌, ◌∷◌, subst, Some, inr, ap, Err}
use Rattle.history.specs.declared.record.Record.TheVariants.{Op}
use Rattle.history.specs.Spans.{Span, at_key, changed_span}
use Rattle.tc_locks.specs.Meant.{mode_meant}
use Rattle.tc_locks.specs.Locks.{spans_of, set_spans, IsGrantable}
use Rattle.tc_core.specs.declared.change.Change.TheVariants.{Stepped}
use Rattle.tc_log.specs.LogView.{is_spent}
use Rattle.tc_core.specs.Seen.{seen}
use Rattle.tc_core.proofs.KeepsTc.{fits_op, keeps_act}
use Rattle.tc_core.proofs.Rebuilt.{taken_span}
use Rattle.tc_undo.proofs.Numbers.{fits_numbers}
use Rattle.tc_core.proofs.Refused.{keeps_refused, refuses, happened}
use Rattle.tc_core.proofs.Untaken.{holds_some, untaken}
use Rattle.tc_core.proofs.parts.Parts.act.Goals as goal

pub append_op-requires : goal.append_op-requires
append_op-requires g c =
    let w = seen c.args.self.now in
    let o = c.in_ok-prev.field-0.now in
    let found = c.in_ok-prev.ensures.found in
    let P : Span → Type 0 = λ s. IsGrantable w.locks c.args.txn s in
    let free : IsGrantable w.locks o.txn (changed_span c.args.op.now) =
    rw found.at.number (subst P (taken_span c.mode_for.result c.key.result.now c.args.op.now c.mode_for.ensures
    c.key.ensures) c.in_ok-take_key.ensures.free) in
    let fits = fits_op w o c.args.op.now c.requires found.at.is found.waiting free in
    rw (← found.at.number)
    (record { fits = fits; numbers = fits_numbers w.log (Op o.txn o.last c.args.op.now) c.requires.few.records fits })

pub returns-in-Ok-clause-kept : goal.returns-in-Ok-clause-kept
returns-in-Ok-clause-kept g c =
    let w = seen c.args.self.now in
    let o = c.in_ok-prev.field-0.now in
    let t = c.args.txn in
    let op = c.args.op.now in
    let found = c.in_ok-prev.ensures.found in
    let appended = c.in-Ok.ensures.appended in
    let P : Span → Type 0 = λ s. IsGrantable w.locks t s in
    let Q : Span → Type 0 = λ s. c.take_key.new.locks ≡ set_spans t (s ∷ spans_of w.locks t) w.locks in
    let key = taken_span c.mode_for.result c.key.result.now op c.mode_for.ensures c.key.ensures in
    let free : IsGrantable w.locks o.txn (changed_span op) =
    rw found.at.number (subst P key c.in_ok-take_key.ensures.free) in
    let taken : c.take_key.new.locks ≡ set_spans t (changed_span op ∷ spans_of w.locks t) w.locks =
    subst Q key c.in_ok-take_key.ensures.taken in
    rw (
      happened w t o (Stepped c.in-Ok.number c.in-Ok.number (Some c.in-Ok.number)) c.change.new.self found.at
          c.change.ensures,
      taken,
      appended.log,
      appended.number_is,
      ← found.at.number,
    )
    (keeps_act w o op c.requires found.at.is found.waiting found.reading found.rolling free appended.unspent)

pub untake-requires : goal.untake-requires
untake-requires g c =
    holds_some c.args.self.now.locks c.take_key.new.locks c.args.txn (at_key (mode_meant c.mode_for.result) c.key.result.now)
    c.requires.locks.table c.in_ok-take_key.ensures.taken

left : (g : _) (c : goal.After-untake g) → c.untake.new.self ≡ c.args.self.now.locks
left g c =
    untaken c.args.self.now.locks c.take_key.new.locks c.args.txn (at_key (mode_meant c.mode_for.result) c.key.result.now)
    c.requires.locks.table c.in_ok-take_key.ensures.taken
    c.untake.new.self c.untake.ensures

pub returns-in-Err-clause-kept : goal.returns-in-Err-clause-kept
returns-in-Err-clause-kept g c =
    rw (left g c) (keeps_refused (seen c.args.self.now) c.in-Err.refusal c.append_op.new.self c.requires
    c.in-Err.ensures.left)

pub returns-in-Err-clause-gives : goal.returns-in-Err-clause-gives
returns-in-Err-clause-gives g c =
    let w = seen c.args.self.now in
    let P : Span → Type 0 = λ s. IsGrantable w.locks c.args.txn s in
    let free = subst P (taken_span c.mode_for.result c.key.result.now c.args.op.now c.mode_for.ensures
    c.key.ensures) c.in_ok-take_key.ensures.free in
    rw (c.in_ok-prev.ensures.found.allowed, left g c)
    (inr (
      free,
      refuses w (is_spent w.log) c.in-Err.refusal c.append_op.new.self c.in-Err.ensures.refused
          c.in-Err.ensures.left (λ e. c.in-Err.ensures.device (ap Err e)),
    ))
