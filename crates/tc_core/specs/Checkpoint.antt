-- What asks the data component for a checkpoint.
use Rattle.std.specs.Prelude.{◌≡◌, Some, None, Result, Ok, Err}
use Rattle.record_key.specs.declared.refusal.Refusal.{Refusal}
use Rattle.codec.specs.declared.request.Request.{Request}
use Rattle.codec.specs.declared.request.Request.TheVariants as asks
use Rattle.tc_core.specs.TcView.{TcView}
use Rattle.tc_core.specs.Causes.{running_refusal}
use Rattle.tc_core.specs.Changes.{asked_checkpoint}

-- it asks with the greatest number that was announced in this session
abbrev pub CheckpointGives : TcView → Result Request Refusal → TcView → Type 0
CheckpointGives old (Ok request) new =
    (running_refusal old ≡ None) × (request ≡ asks.Checkpoint old.session old.announced) × (new ≡ asked_checkpoint old)
CheckpointGives old (Err r) new = (running_refusal old ≡ Some r) × (new ≡ old)
