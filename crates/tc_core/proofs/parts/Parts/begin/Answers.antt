use Rattle.std.proofs.Common.{◌≡◌, ◌∙◌, ◌∷◌, ◌+◌, ap, refl, Err}
use Rattle.tc_core.specs.OpenTxns.{AreBelow, without}
use Rattle.tc_core.specs.Seen.{seen}
use Rattle.tc_core.proofs.Finding.{without_new}
use Rattle.tc_core.proofs.KeepsTc.{all_below, keeps_begin}
use Rattle.tc_core.proofs.Refused.{keeps_refused, refuses_unspent}
use Rattle.tc_core.proofs.parts.Parts.begin.Goals as goal

pub add-requires : goal.add-requires
add-requires g c = rw (c.begun.ensures, c.len-txn.ensures.count) (all_below (seen c.args.self.now) c.requires)

pub returns-in-Ok-clause-kept : goal.returns-in-Ok-clause-kept
returns-in-Ok-clause-kept g c =
    rw (c.in-Ok.ensures.appended.log, c.in_ok-add.ensures.added, c.begun.ensures, c.len-txn.ensures.count)
    (keeps_begin (seen c.args.self.now) c.requires c.in_ok-can_begin.ensures.below c.in-Ok.ensures.appended.unspent)

-- the one that was added is removed again
left : (g : _) (c : goal.After-remove g) → c.remove.new.self ≡ c.args.self.now.open_txns
left g c =
    let old = c.args.self.now in
    let below : AreBelow c.begun.result.txn old.open_txns =
    rw (c.begun.ensures, c.len-txn.ensures.count) (all_below (seen old) c.requires) in
    let number : c.len-txn.result + 1 ≡ c.begun.result.txn = rw c.begun.ensures refl in
    c.remove.ensures ∙ ap (without (c.len-txn.result + 1)) c.in_ok-add.ensures.added
    ∙ ap (λ t. without t (c.begun.result ∷ old.open_txns)) number ∙ without_new c.begun.result old.open_txns below

pub returns-in-Err-clause-kept : goal.returns-in-Err-clause-kept
returns-in-Err-clause-kept g c =
    rw (left g c) (keeps_refused (seen c.args.self.now) c.in-Err.refusal c.append.new.self c.requires
    c.in-Err.ensures.left)

pub returns-in-Err-clause-gives : goal.returns-in-Err-clause-gives
returns-in-Err-clause-gives g c =
    let w = seen c.args.self.now in
    let unspent = c.in_ok-can_begin.ensures.unspent in
    rw (c.in_ok-can_begin.ensures.allowed, left g c)
    (refuses_unspent w unspent c.in-Err.refusal c.append.new.self c.in-Err.ensures.refused c.in-Err.ensures.left
    (λ e. c.in-Err.ensures.device (ap Err e)))
