use Rattle.tc_log.proofs.Checks.{end_test}
use Rattle.tc_log.proofs.fits.fits_end.Goals as goal

pub returns-in-Some : goal.returns-in-Some
returns-in-Some g c = end_test _ c.args.txn c.in-Some.latest c.left_to_undo.result c.requires.legal c.in-Some.ensures
    c.left_to_undo.ensures
