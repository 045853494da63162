-- Up to which number the data component may forget the answers that it saved.
use Rattle.std.specs.Prelude.{◌≡◌, ◌⊎◌, ℕ, Some, None, Result, Ok, Err}
use Rattle.record_key.specs.declared.refusal.Refusal.{Refusal}
use Rattle.record_key.specs.declared.refusal.Refusal.TheVariants.{BeyondStable}
use Rattle.history.specs.Legal.{FitsCheckpoint}
use Rattle.std.specs.Bool.{MatchBool}
use Rattle.codec.specs.declared.request.Request.{Request}
use Rattle.codec.specs.declared.request.Request.TheVariants as asks
use Rattle.tc_log.specs.Low.{IsGreatestLow}
use Rattle.framed_log.specs.Beginning.{beginning}
use Rattle.tc_core.specs.TcView.{TcView, is_running}
use Rattle.tc_core.specs.Causes.{running_refusal}
use Rattle.tc_core.specs.Changes.{announced}

-- every request up to this number has a stable answer, and the number is stable
abbrev pub MayAnnounce : TcView → ℕ → Type 0
MayAnnounce w l = FitsCheckpoint (beginning w.log w.stable) l

-- the component isn't running, or the number may not be announced
abbrev pub RefusesLow : TcView → ℕ → Refusal → Type 0
RefusesLow w l r = (running_refusal w ≡ Some r)
    ⊎ ((running_refusal w ≡ None) × (r ≡ BeyondStable) × (MayAnnounce w l → ⊥))

-- the number is announced
pub record Announces (w : TcView) (l : ℕ) : Type 0 where
  pub running : running_refusal w ≡ None
  pub allowed : MayAnnounce w l

abbrev pub LowWaterGives : TcView → ℕ → Result Request Refusal → TcView → Type 0
LowWaterGives old l (Ok request) new =
    Announces old l × (request ≡ asks.LowWater old.session l) × (new ≡ announced old l)
LowWaterGives old l (Err r) new = RefusesLow old l r × (new ≡ old)

-- the greatest number that may be announced now, 0 where clients aren't served
abbrev pub IsGreatestAnnounced : TcView → ℕ → Type 0
IsGreatestAnnounced w l = MatchBool (is_running w.phase) (IsGreatestLow w.log w.stable l) (l ≡ 0)
