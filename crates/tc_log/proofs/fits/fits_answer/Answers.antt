use Rattle.std.proofs.Common.{ap}
use Rattle.std.specs.Prelude.{not}
use Rattle.tc_log.proofs.Checks.{answer_test}
use Rattle.tc_log.proofs.fits.fits_answer.Goals as goal

pub returns : goal.returns
returns g c = answer_test _ c.args.of _ (ap not c.is_answered.ensures)
