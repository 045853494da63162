-- What a place has for a session that waits.
use Rattle.std.specs.Prelude.{◌≡◌, ℕ, true, List, Some, None, slice_get}
use Rattle.std.specs.Option.{is_some}
use Rattle.engine_history.specs.declared.status.CallStatus.{CallStatus}
use Rattle.engine_history.specs.declared.status.CallStatus.TheVariants as status
use Rattle.engine_history.specs.declared.place.Place.{Place}

abbrev pub IsStatusOf : {J : Type 0} → Place J → CallStatus → Type 0
IsStatusOf p (status.Line token) = p.line ≡ Some token
IsStatusOf p status.CutOff = (p.line ≡ None) × (p.live ≡ None)
IsStatusOf p (status.Refused f) = (p.line ≡ None) × (is_some p.live ≡ true) × (p.failed ≡ Some f)
IsStatusOf p status.Nothing = (p.line ≡ None) × (is_some p.live ≡ true) × (p.failed ≡ None)

-- the same of the place of a session, where there is one
abbrev pub IsStatusAt : {J : Type 0} → List (Place J) → ℕ → CallStatus → Type 0
IsStatusAt {J} places s n = (p : Place J) → slice_get places s ≡ Some p → IsStatusOf p n
