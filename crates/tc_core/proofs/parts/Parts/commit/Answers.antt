use Rattle.std.proofs.Common.{◌≡◌, ◌∷◌, [], ◌++◌, List, ℕ, ap, ◌∙◌}
use Rattle.history.specs.declared.record.Record.TheVariants.{Commit}
use Rattle.tc_core.specs.Seen.{seen}
use Rattle.tc_undo.proofs.Numbers.{fits_numbers}
use Rattle.tc_core.proofs.KeepsUndo.{fits_commit, keeps_commit}
use Rattle.tc_core.proofs.parts.Parts.commit.Goals as goal

pub append-requires : goal.append-requires
append-requires g c =
    let w = seen c.args.self.now in
    let o = c.in_ok-idle.field-0.now in
    let found = c.in_ok-idle.ensures.found in
    let fits = fits_commit w o c.requires found.at.is found.waiting in
    rw (← found.at.number) (record {
      fits = fits;
      numbers = fits_numbers w.log (Commit o.txn) c.requires.few.records fits;
    })

pub returns-clause-kept : goal.returns-clause-kept
returns-clause-kept g c =
    let w = seen c.args.self.now in
    let o = c.in_ok-idle.field-0.now in
    let found = c.in_ok-idle.ensures.found in
    let appended = c.in_ok-number.ensures.appended in
    let queue : c.push_reserved.new.self.items ≡ w.committing ++ c.args.txn ∷ [] =
    c.push_reserved.ensures.items ∙ ap (λ (ts : List ℕ). ts ++ c.args.txn ∷ []) c.in_ok-reserve.ensures.items in
    rw (c.remove.ensures, queue, appended.log, ← found.at.number)
    (keeps_commit w o c.requires found.at.is found.waiting appended.unspent)
