use Rattle.std.proofs.Common.{Some, ap, ◌∙◌}
use Rattle.history.specs.declared.record.Record.TheVariants.{Checkpoint}
use Rattle.tc_core.specs.Seen.{seen}
use Rattle.tc_core.proofs.KeepsLow.{fits_checkpoint, keeps_checkpointed}
use Rattle.tc_undo.proofs.Numbers.{fits_numbers}
use Rattle.tc_core.proofs.parts.Parts.on_checkpointed.Goals as goal

pub append-requires : goal.append-requires
append-requires g c =
    let w = seen c.args.self.now in
    let fits = fits_checkpoint w c.requires c.args.low (c.in-Some.is ∙ ap Some c.if-asked-low.false) in
    record { fits = fits; numbers = fits_numbers w.log (Checkpoint c.args.low) c.requires.few.records fits }

pub returns-clause-kept : goal.returns-clause-kept
returns-clause-kept g c =
    let w = seen c.args.self.now in
    let appended = c.in_ok-number.ensures.appended in
    rw (appended.log, c.greater-self.ensures)
    (keeps_checkpointed w c.requires c.args.low (c.in-Some.is ∙ ap Some c.if-asked-low.false) appended.unspent)
