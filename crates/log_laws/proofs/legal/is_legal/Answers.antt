use Rattle.std.proofs.Common.{arith, true≢false}
use Rattle.log_laws.proofs.Reading.{fits_taken}
use Rattle.log_laws.proofs.legal.is_legal.Goals as goal

pub returns-then-not-fits : goal.returns-then-not-fits
returns-then-not-fits c = grind (arith, true≢false, fits_taken)
