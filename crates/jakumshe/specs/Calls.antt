-- What a call of a client comes to on a node.
use Rattle.std.specs.Prelude.{◌≡◌, ◌⊎◌, ℕ, ℤ, ◌==◌, ◌&&◌, true, List, [], ◌∷◌, Option, Some, None, Result, Ok, Err, length, reverse, if◌then◌else◌}
use Rattle.std.specs.List.{list_any}
use Rattle.record_key.specs.Rows.{Row}
use Rattle.record_key.specs.declared.op.Answer.{Answer}
use Rattle.record_key.specs.declared.op.Answer.TheVariants as answer
use Rattle.record_key.specs.declared.op.Op.{Op}
use Rattle.record_key.specs.declared.refusal.Refusal.{Refusal}
use Rattle.record_key.specs.declared.refusal.Refusal.TheVariants.{NoMemory}
use Rattle.node_laws.specs.declared.event.Event.{Event}
use Rattle.node_laws.specs.declared.event.Event.TheVariants as event
use Rattle.node_laws.specs.declared.event.Out.{Out}
use Rattle.node_laws.specs.declared.event.Out.TheVariants as out
use Rattle.node_laws.specs.Forgetting.{without_messages}
use Rattle.node_laws.specs.Node.{NodeView, fresh_node}
use Rattle.node_laws.specs.Rounds.{Settles, IsDone}
use Rattle.node_laws.specs.Stepping.{IsStep}
use Rattle.jakumshe.specs.declared.fault.Fault.{Fault}
use Rattle.jakumshe.specs.Statuses.{EndsWithStatus}
use Rattle.jakumshe.specs.declared.fault.Fault.TheVariants.{Refused, Exists, NoRecord, NotNumber, Untold}

-- the node settles until nothing is left to do, and tells clients this; then every message is let go
pub record ComesToRest (old : NodeView) (told : List Out) (new : NodeView) : Type 0 where
  pub settled : NodeView
  pub settles : Settles old None [] told (Ok true) settled
  pub left : new ≡ without_messages settled

-- it begins to, and this stops it
pub record StopsSettling (old : NodeView) (r : Refusal) (new : NodeView) : Type 0 where
  pub told : List Out
  pub settles : Settles old None [] told (Err r) new

-- the node was made without records, and has settled
abbrev pub IsNew : NodeView → Type 0
IsNew new = (told : List Out) × ComesToRest fresh_node told new

-- why none is made: memory is refused, or something stops it from settling
abbrev pub NotNew : Refusal → Type 0
NotNew r = (r ≡ NoMemory) ⊎ ((new : NodeView) × StopsSettling fresh_node r new)

abbrev pub NotMade : Fault → Type 0
NotMade fault = (r : Refusal) × (fault ≡ Refused r) × NotNew r

-- the node settles, and then the event happens and comes to this
pub record IsStepped (old : NodeView) (e : Event) (o : Out) (new : NodeView) : Type 0 where
  pub before : List Out
  pub settled : NodeView
  pub settles : ComesToRest old before settled
  pub steps : IsStep settled e o new

-- the event isn't refused, and the node settles after it again and tells clients this
pub record IsTold (old : NodeView) (e : Event) (told : List Out) (new : NodeView) : Type 0 where
  pub out : Out
  pub stepped : NodeView
  pub steps : IsStepped old e out stepped
  pub done : IsDone out
  pub settles : ComesToRest stepped told new

-- the event isn't refused, but what is left to do after it is stopped
pub record IsStoppedAfter (old : NodeView) (e : Event) (r : Refusal) (new : NodeView) : Type 0 where
  pub out : Out
  pub stepped : NodeView
  pub steps : IsStepped old e out stepped
  pub done : IsDone out
  pub stops : StopsSettling stepped r new

-- the event is refused, or before it the node doesn't come to rest
abbrev pub RefusesEvent : NodeView → Event → Refusal → NodeView → Type 0
RefusesEvent old e r new = StopsSettling old r new ⊎ IsStepped old e (out.Refused r) new

-- or after it
abbrev pub Fails : NodeView → Event → Refusal → NodeView → Type 0
Fails old e r new = RefusesEvent old e r new ⊎ IsStoppedAfter old e r new

abbrev pub end_or : {X : Type 0} → Option X → X → X
end_or (Some x) y = x
end_or None y = y

-- how the first of these ends a call that does; where none does it isn't told of
abbrev pub first_end : {X : Type 0} → (Out → Option (Result X Fault)) → List Out → Result X Fault
first_end ends [] = Err Untold
first_end ends (o ∷ os) = end_or (ends o) (first_end ends os)

-- how a call ends whose event is answered at once
abbrev pub Makes : {X : Type 0} → NodeView → Event → (Out → Option (Result X Fault)) → Result X Fault → NodeView → Type 0
Makes old e ends result new =
    ((r : Refusal) × (result ≡ Err (Refused r)) × RefusesEvent old e r new)
    ⊎ ((o : Out) × IsStepped old e o new × IsDone o × (result ≡ first_end ends (o ∷ [])))

-- how a call ends that is answered while the node settles
abbrev pub Tells : {X : Type 0} → NodeView → Event → (Out → Option (Result X Fault)) → Result X Fault → NodeView → Type 0
Tells old e ends result new =
    ((r : Refusal) × (result ≡ Err (Refused r)) × Fails old e r new)
    ⊎ ((told : List Out) × IsTold old e told new × (result ≡ first_end ends told))

-- what ends a call: the number of a new transaction, or of a savepoint
abbrev pub begins : Out → Option (Result ℕ Fault)
begins (out.Begun t) = Some (Ok t)
begins o = None

abbrev pub saves : Out → Option (Result ℕ Fault)
saves (out.Saved s) = Some (Ok s)
saves o = None

-- how an operation ends that was answered so
abbrev pub ended_by : Answer → Result (Unit {0}) Fault
ended_by answer.Exists = Err Exists
ended_by answer.NoRecord = Err NoRecord
ended_by answer.NotNumber = Err NotNumber
ended_by _ = Ok tt

-- how a read ends that has value_found this
abbrev pub value_found : Option (List ℕ) → Result (List ℕ) Fault
value_found (Some value) = Ok value
value_found None = Err NoRecord

-- what ends a call of this transaction: an operation's answer, the value of a read, its rows, that it is back at this
-- savepoint, that it is rolled back, that it has committed
abbrev pub answers : ℕ → Out → Option (Result (Unit {0}) Fault)
answers t (out.Answered u a) = if u == t then Some (ended_by a) else None
answers t o = None

abbrev pub finds : ℕ → Out → Option (Result (List ℕ) Fault)
finds t (out.Row u value) = if u == t then Some (value_found value) else None
finds t o = None

abbrev pub lists : ℕ → Out → Option (Result (List Row) Fault)
lists t (out.Rows u rows) = if u == t then Some (Ok rows) else None
lists t o = None

abbrev pub goes_back : ℕ → ℕ → Out → Option (Result (Unit {0}) Fault)
goes_back t s (out.Back u p) = if u == t && p == s then Some (Ok tt) else None
goes_back t s o = None

abbrev pub rolls_back : ℕ → Out → Option (Result (Unit {0}) Fault)
rolls_back t (out.RolledBack u) = if u == t then Some (Ok tt) else None
rolls_back t o = None

abbrev pub commits : ℕ → Out → Option (Result (Unit {0}) Fault)
commits t (out.Stable end committed) = if list_any (λ u. u == t) committed then Some (Ok tt) else None
commits t o = None

-- the transaction's operation ends so, and a leaf is tended after it
pub record IsActed (old : NodeView) (t : ℕ) (op : Op) (result : Result (Unit {0}) Fault) (new : NodeView) : Type 0 where
  pub told : List Out
  pub acted : NodeView
  pub tells : IsTold old (event.Act t op) told acted
  pub ends : result ≡ first_end (answers t) told
  pub tended : Out
  pub tends : IsStep acted event.Tend tended new

-- how a call of an operation ends
abbrev pub Operates : NodeView → ℕ → Op → Result (Unit {0}) Fault → NodeView → Type 0
Operates old t op result new =
    ((r : Refusal) × (result ≡ Err (Refused r)) × Fails old (event.Act t op) r new) ⊎ IsActed old t op result new

-- the rows of a scan are kept, the last one first, and counted; where there are none, or no memory for them, those before
-- stay
abbrev pub KeepsRows : List Row → List Row → Result (List Row) Fault → Result ℕ Fault → Type 0
KeepsRows before kept (Ok rows) given =
    ((kept ≡ reverse rows) × (given ≡ Ok (length rows))) ⊎ ((kept ≡ before) × (given ≡ Err (Refused NoMemory)))
KeepsRows before kept (Err fault) given = (kept ≡ before) × (given ≡ Err fault)

-- how a scan ends
pub record Reads (old : NodeView) (t : ℕ) (low : List ℕ) (high : Option (List ℕ)) (before kept : List Row) (given : Result ℕ Fault) (new : NodeView) : Type 0 where
  pub rows : Result (List Row) Fault
  pub tells : Tells old (event.Scan t low high) (lists t) rows new
  pub keeps : KeepsRows before kept rows given

-- the upper end of a range: none where there are no bytes
abbrev pub end_of : List ℕ → Option (List ℕ)
end_of [] = None
end_of (b ∷ bs) = Some (b ∷ bs)

-- a call of this status, which ends as what was done says of such an end
abbrev pub EndsSo : {X : Type 0} → ℤ → (Result X Fault → Type 0) → Type 0
EndsSo {X} given P = (r : Result X Fault) × EndsWithStatus given r × P r

-- where the caller wants what a call gives there is that, or what was there before
abbrev pub PutsResult : {X : Type 0} → Result X Fault → X → X → Type 0
PutsResult (Ok x) before after = after ≡ x
PutsResult (Err fault) before after = after ≡ before
