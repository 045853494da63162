use Rattle.log_laws.proofs.Cancel.{adds_request}
use Rattle.log_laws.proofs.laws.add_request_law.Goals as goal

pub returns : goal.returns
returns c = adds_request
