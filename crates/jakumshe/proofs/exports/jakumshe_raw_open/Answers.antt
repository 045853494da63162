use Rattle.std.proofs.Common.{Err, w32, refl, inl, ◌∙◌}
use Rattle.std.proofs.lemmas.Int.{to_z-of_z}
use Rattle.record_key.specs.declared.refusal.Refusal.TheVariants.{NoMemory}
use Rattle.jakumshe.specs.declared.fault.Fault.TheVariants.{Refused}
use Rattle.jakumshe.proofs.exports.jakumshe_raw_open.Goals as goal

pub returns-in-Err-clause-cause : goal.returns-in-Err-clause-cause
returns-in-Err-clause-cause c none other = (
  Err (Refused c.in-Err.refusal),
  to_z-of_z w32 c.status-in-Err.result (record { sfits = c.status-in-Err.type_inv }) ∙ c.status-in-Err.ensures,
  (c.in-Err.refusal, refl, c.in-Err.ensures.refused),
)

pub returns-clause-cause : goal.returns-clause-cause
returns-clause-cause c none other = (
  Err (Refused NoMemory),
  to_z-of_z w32 c.status-in-Err-new.result (record { sfits = c.status-in-Err-new.type_inv })
      ∙ c.status-in-Err-new.ensures,
  (NoMemory, refl, inl refl),
)
