use Rattle.std.proofs.Common.{◌≡◌, ℕ, true, Some, None, refl, sym, ap, ◌∙◌}
use Rattle.std.specs.Option.{option_copied}
use Rattle.tc_core.specs.declared.open_txn.OpenTxn.{OpenTxn}
use Rattle.tc_core.specs.OpenTxns.{find}
use Rattle.tc_core.specs.TcView.{TcView, is_serving}
use Rattle.tc_core.specs.Causes.{serving_refusal}
use Rattle.tc_core.specs.Finds.{FindsOpen}
use Rattle.tc_core.specs.Seen.{seen}
use Rattle.tc_core.proofs.Finding.{found_number, found_own}
use Rattle.tc_core.proofs.parts.Parts.open_at.Goals as goal

finds : (w : TcView) (t : ℕ) (o : OpenTxn) → is_serving w.phase ≡ true → serving_refusal w ≡ None
    → find t w.open_txns ≡ Some o → FindsOpen w t o
finds w t o running allowed is = record {
  at = record { is = found_own t w.open_txns o is; number = found_number t w.open_txns o is };
  serving = running;
  allowed = rw (allowed, is) refl;
}

pub returns-in-Some-clause-found : goal.returns-in-Some-clause-found
returns-in-Some-clause-found g c =
    finds (seen c.args.self.now) c.args.txn c.in-Some.opened.now c.in_ok-serving.ensures.ok
    c.in_ok-serving.ensures.allowed
    (sym c.find.ensures ∙ ap option_copied c.in-Some.is)
