use Rattle.history.specs.declared.record.Record.TheVariants.{End}
use Rattle.tc_core.specs.Seen.{seen}
use Rattle.tc_core.proofs.KeepsLosing.{fits_lost_end, losers_ended, keeps_lost_end}
use Rattle.tc_undo.proofs.Numbers.{fits_numbers}
use Rattle.tc_core.proofs.parts.Parts.end_loser.Goals as goal

pub append-requires : goal.append-requires
append-requires g c =
    let w = seen c.args.self.now in
    let fits = fits_lost_end w c.requires.kept c.requires.undoing c.args.txn c.requires.least.is in
    record { fits = fits; numbers = fits_numbers w.log (End c.args.txn) c.requires.kept.few.records fits }

pub after_redo-self-requires : goal.after_redo-self-requires
after_redo-self-requires g c =
    let w = seen c.args.self.now in
    rw c.in_ok-append.ensures.appended.log
    (losers_ended w c.requires.kept c.requires.undoing c.args.txn c.ended.new.self c.requires.least
    c.ended.ensures.taken c.ended.ensures.same)

pub returns-clause-kept : goal.returns-clause-kept
returns-clause-kept g c =
    let w = seen c.args.self.now in
    let appended = c.in_ok-append.ensures.appended in
    rw (appended.log, c.after_redo-self.ensures, c.release.ensures)
    (keeps_lost_end w c.requires.kept c.requires.undoing c.args.txn c.ended.new.self c.requires.least
    c.ended.ensures.taken c.ended.ensures.same appended.unspent)
