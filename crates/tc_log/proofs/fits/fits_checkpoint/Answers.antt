use Rattle.tc_log.proofs.Checks.{checkpoint_test}
use Rattle.tc_log.proofs.fits.fits_checkpoint.Goals as goal

pub returns : goal.returns
returns g c = checkpoint_test _ c.args.low c.answered_from.result c.answered_from.ensures
