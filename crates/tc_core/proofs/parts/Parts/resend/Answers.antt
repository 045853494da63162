use Rattle.std.proofs.Common.{◌≡◌, ℕ, Some, None, inr, refl}
use Rattle.tc_core.specs.declared.open_txn.OpenTxn.{OpenTxn}
use Rattle.tc_core.specs.declared.open_txn.Read.{Read}
use Rattle.tc_core.specs.OpenTxns.{find}
use Rattle.tc_core.specs.TcView.{TcView}
use Rattle.tc_core.specs.Causes.{open_refusal, resend_refusal}
use Rattle.tc_core.specs.Seen.{seen}
use Rattle.tc_core.proofs.KeepsTc.{reading_at}
use Rattle.tc_core.proofs.Refused.{at_number}
use Rattle.tc_core.proofs.parts.Parts.resend.Goals as goal

allowed : (w : TcView) (t : ℕ) (o : OpenTxn) (r : Read) → open_refusal w t ≡ None → find t w.open_txns ≡ Some o
    → o.waiting ≡ None → o.reading ≡ Some r → resend_refusal w t ≡ None
allowed w t o r is_open at none some = rw (is_open, at, none, some) refl

pub returns-in-Some : goal.returns-in-Some
returns-in-Some g c =
    let w : TcView = seen c.args.self.now in
    let o : OpenTxn = c.in_ok-opened.opened.now in
    let found = c.in_ok-opened.ensures.found in
    record {
      gives = (
        allowed w c.args.txn o c.in-Some.read found.allowed (at_number w c.args.txn o found.at)
            (reading_at w o c.in-Some.read c.requires found.at.is c.in-Some.is).idle c.in-Some.is,
        inr (record {
          open_txn = o;
          read = c.in-Some.read;
          at = found.at;
          serving = found.serving;
          reading = c.in-Some.is;
          is = c.read_request.ensures;
        }),
      );
    }
