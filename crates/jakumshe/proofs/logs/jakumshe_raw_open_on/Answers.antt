use Rattle.std.proofs.Common.{Err, w32, ◌∙◌}
use Rattle.std.proofs.lemmas.Int.{to_z-of_z}
use Rattle.jakumshe.proofs.logs.jakumshe_raw_open_on.Goals as goal

pub returns-in-Err-clause-cause : goal.returns-in-Err-clause-cause
returns-in-Err-clause-cause c none other more = (
  Err c.in-Err.fault,
  to_z-of_z w32 c.status-in-Err.result (record { sfits = c.status-in-Err.type_inv }) ∙ c.status-in-Err.ensures,
  c.in-Err.ensures.refused,
)
