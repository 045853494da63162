-- Refused calls, each with its cause as the component sees it.
use Rattle.std.specs.Prelude.{◌≡◌, ◌≢◌, ◌⊎◌, ℕ, ◌<◌, ◌≤◌, List, Option, Some, None, IsSome, length}
use Rattle.std.specs.List.{AllByRecursion}
use Rattle.record_key.specs.declared.refusal.Refusal.{Refusal}
use Rattle.record_key.specs.declared.refusal.Refusal.TheVariants as no
use Rattle.record_key.specs.Order.{HasKeys}
use Rattle.history.specs.Spans.{Span, AnyConflict, changed_span}
use Rattle.history.specs.Legal.{IsLegal}
use Rattle.history.specs.ListMachine.{Query, asked_range, asked_span, Machine, Call, ToBegin, ToAct, ToRead, ToSave, ToGoBack, ToRollBack, ToCommit, AreDifferent, IsRefused, Step}
use Rattle.simulation.specs.View.{View, Ready, Awaits, Looks, Rolls, StandsFor}
use Rattle.simulation.specs.Views.{HasTrueSpans}

-- the call may be refused so, and nothing changes
abbrev pub IsRefusal : Machine → Call → Refusal → Type 0
IsRefusal m call r = Step m (IsRefused call r) m

-- the transaction that a call names
abbrev pub caller : Call → Option ℕ
caller ToBegin = None
caller (ToAct t o) = Some t
caller (ToRead t q) = Some t
caller (ToSave t) = Some t
caller (ToGoBack t s) = Some t
caller (ToRollBack t) = Some t
caller (ToCommit t) = Some t

abbrev pub NotOpenIsALine : Type 0
NotOpenIsALine =
    (v : View) (m : Machine) (call : Call) (t : ℕ) → StandsFor v m → caller call ≡ Some t → v.doing t ≡ None
    → IsRefusal m call no.NotOpen

abbrev pub UnansweredIsALine : Type 0
UnansweredIsALine =
    (v : View) (m : Machine) (call : Call) (t : ℕ) → StandsFor v m → caller call ≡ Some t
    → (((n : ℕ) × (v.doing t ≡ Some (Awaits n))) ⊎ ((q : Query) × (v.doing t ≡ Some (Looks q))))
    → IsRefusal m call no.Unanswered

abbrev pub RollingBackIsALine : Type 0
RollingBackIsALine =
    (v : View) (m : Machine) (call : Call) (t : ℕ) (s : Option ℕ) (bound : ℕ) → StandsFor v m → caller call ≡ Some t
    → v.doing t ≡ Some (Rolls s bound)
    → IsRefusal m call no.RollingBack

-- what an operation or a read has to find free, for its transaction
abbrev pub wanted : Call → Option (ℕ × Span)
wanted (ToAct t o) = Some (t, changed_span o)
wanted (ToRead t q) = Some (t, asked_span q)
wanted _ = None

-- by the component's spans another holds what conflicts with this one, and it is the least such
pub record HoldsFirst (v : View) (t : ℕ) (s : Span) (u : ℕ) : Type 0 where
  pub other : u ≢ t
  pub conflicts : AnyConflict s (v.spans u)
  pub least : (w : ℕ) → w ≢ t → AnyConflict s (v.spans w) → u ≤ w

abbrev pub BusyIsALine : Type 0
BusyIsALine =
    (v : View) (m : Machine) (call : Call) (t u : ℕ) (s : Span) → IsLegal v.log → StandsFor v m → HasTrueSpans v
    → v.doing t ≡ Some Ready
    → wanted call ≡ Some (t, s) → HoldsFirst v t s u → IsRefusal m call (no.Busy u)

abbrev pub BadRangeIsALine : Type 0
BadRangeIsALine = (m : Machine) (t : ℕ) (q : Query) → (HasKeys (asked_range q) → ⊥)
    → IsRefusal m (ToRead t q) no.BadRange

-- 64 transactions are open
abbrev pub FullIsALine : Type 0
FullIsALine =
    (v : View) (m : Machine) (ts : List ℕ) → StandsFor v m → length ts ≡ 64 → AreDifferent ts
    → AllByRecursion (λ t. IsSome (v.doing t)) ts
    → IsRefusal m ToBegin no.Full

-- the transaction has 16 savepoints
abbrev pub FullOfSavepointsIsALine : Type 0
FullOfSavepointsIsALine =
    (v : View) (m : Machine) (t : ℕ) → StandsFor v m → v.doing t ≡ Some Ready → 16 ≤ length (v.saves t)
    → IsRefusal m (ToSave t) no.Full

abbrev pub BadSavepointIsALine : Type 0
BadSavepointIsALine =
    (v : View) (m : Machine) (t s : ℕ) → StandsFor v m → v.doing t ≡ Some Ready → ((s ≡ 0) ⊎ (length (v.saves t) < s))
    → IsRefusal m (ToGoBack t s) no.BadSavepoint

-- these say nothing of transactions
abbrev pub IsOfTheNode : Refusal → Type 0
IsOfTheNode no.NoMemory = Unit {0}
IsOfTheNode no.Redoing = Unit {0}
IsOfTheNode no.NotConnected = Unit {0}
IsOfTheNode no.Device = Unit {0}
IsOfTheNode no.NumbersSpent = Unit {0}
IsOfTheNode _ = ⊥

abbrev pub NodeRefusalIsALine : Type 0
NodeRefusalIsALine = (m : Machine) (call : Call) (r : Refusal) → IsOfTheNode r → IsRefusal m call r
