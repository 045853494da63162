use Rattle.std.proofs.Common.{◌≡◌, ℕ, Some, None, inl, refl}
use Rattle.tc_core.specs.declared.open_txn.OpenTxn.{OpenTxn}
use Rattle.tc_core.specs.Causes.{open_refusal, resend_refusal}
use Rattle.tc_core.specs.OpenTxns.{find}
use Rattle.tc_core.specs.Seen.{seen}
use Rattle.tc_core.specs.TcView.{TcView}
use Rattle.tc_core.proofs.Refused.{at_number}
use Rattle.tc_core.proofs.parts.Parts.awaited_op.Goals as goal

allowed : (w : TcView) (t : ℕ) (o : OpenTxn) (n : ℕ) → open_refusal w t ≡ None → find t w.open_txns ≡ Some o
    → o.waiting ≡ Some n → resend_refusal w t ≡ None
allowed w t o n is_open at waits = rw (is_open, at, waits) refl

pub returns-clause-sent : goal.returns-clause-sent
returns-clause-sent g c =
    let w : TcView = seen c.args.self.now in
    let o : OpenTxn = c.in-Ok.opened.now in
    let n : ℕ = c.in_ok-number.number in
    let found = c.in-Ok.ensures.found in
    let asked = c.in_ok-asked_bytes.ensures.asked in
    record {
      asked = asked;
      gives = (
        allowed w c.args.txn o n found.allowed (at_number w c.args.txn o found.at) c.in_ok-number.was,
        inl (record {
          open_txn = o;
          number = n;
          op = asked.op;
          at = found.at;
          serving = found.serving;
          waiting = c.in_ok-number.was;
          requests = asked.asked;
          is = refl;
        }),
      );
    }
