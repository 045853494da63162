-- What a batch of operations adds to its session's list of calls.
use Rattle.std.specs.Prelude.{◌≡◌, ◌⊎◌, ◌<◌, ℕ, List, [], ◌∷◌, Option, Some, None, length, slice_get, take}
use Rattle.boxcar.specs.Table.{Shelves}
use Rattle.history.specs.ListMachine.{TellsAnswer, TellsRolledBack, TellsCommitted}
use Rattle.record_key.specs.declared.op.Answer.{Answer}
use Rattle.record_key.specs.declared.op.Op.{Op}
use Rattle.record_key.specs.declared.refusal.Refusal.{Refusal}
use Rattle.record_key.specs.declared.refusal.Refusal.TheVariants.{NoMemory}
use Rattle.engine_guarded.specs.engine_history.specs.Sessions.{SessionCalls}
use Rattle.engine_guarded.specs.engine_history.specs.node_laws.specs.declared.event.Event.TheVariants as event
use Rattle.engine_guarded.specs.engine_history.specs.node_laws.specs.declared.event.Out.TheVariants as out
use Rattle.engine_guarded.specs.engine_answers.specs.Answers.{AddsCall, AddsLiveCall, RefusedBegin, RefusedCall}
use Rattle.engine_monitor.specs.Beginning.{ShowsBegin}
use Rattle.engine_monitor.specs.declared.batch.BatchRefused.{BatchRefused}
use Rattle.engine_monitor.specs.declared.batch.BatchRefused.TheVariants as refused

-- ---- what is answered

-- a transaction began; right before that call the session had none alive
pub record Begins (entries : Shelves) (session : ℕ) (old new : SessionCalls) : Type 0 where
  pub txn : ℕ
  pub adds : AddsCall event.Begin (out.Begun txn) None old new
  pub live : new.live ≡ Some txn
  pub alone : ShowsBegin entries session (out.Begun txn)

-- an operation of the transaction that is alive was answered so
abbrev pub Acts : Op → Answer → SessionCalls → SessionCalls → Type 0
Acts op a old new =
    (u : ℕ) × (n : ℕ) × AddsLiveCall (λ t. event.Act t op) (out.Logged n) (Some (TellsAnswer u a)) old new

-- each of these was, one after another, and nothing else was called
abbrev pub ActsEach : List Op → List Answer → SessionCalls → SessionCalls → Type 0
ActsEach [] [] old new = new ≡ old
ActsEach (op ∷ ops) (a ∷ answers) old new =
    (mid : SessionCalls) × Acts op a old mid × ActsEach ops answers mid new
ActsEach [] (a ∷ answers) old new = ⊥
ActsEach (op ∷ ops) [] old new = ⊥

-- the transaction has committed, by the record of this number
abbrev pub Commits : ℕ → SessionCalls → SessionCalls → Type 0
Commits n old new =
    (u : ℕ) × AddsLiveCall (λ t. event.Commit t) (out.CommitLogged n) (Some (TellsCommitted u)) old new
    × (new.live ≡ None)

abbrev pub RollsBack : SessionCalls → SessionCalls → Type 0
RollsBack old new =
    (u : ℕ) × AddsLiveCall (λ t. event.Rollback t) out.RollingBack (Some (TellsRolledBack u)) old new × (new.live ≡ None)

-- a transaction began that did these operations, and they were answered so
pub record Does (entries : Shelves) (session : ℕ) (ops : List Op) (answers : List Answer) (old new : SessionCalls)
    : Type 0 where
  pub begun : SessionCalls
  pub begins : Begins entries session old begun
  pub acts : ActsEach ops answers begun new

-- and it has committed
pub record IsBatch (entries : Shelves) (session : ℕ) (ops : List Op) (answers : List Answer) (n : ℕ)
    (old new : SessionCalls) : Type 0 where
  pub acted : SessionCalls
  pub does : Does entries session ops answers old acted
  pub commits : Commits n acted new

-- ---- what is refused

-- the call that begins a transaction was refused; or there was no room for the answers, and nothing was called
abbrev pub IsUnbegun : List Op → SessionCalls → Refusal → SessionCalls → Type 0
IsUnbegun ops old r new = ((r ≡ NoMemory) × (0 < length ops) × (new ≡ old)) ⊎ RefusedBegin old r new

-- the operation of this index was refused, and each before it was answered
pub record StopsAt (ops : List Op) (index : ℕ) (r : Refusal) (answers : List Answer) (old new : SessionCalls)
    : Type 0 where
  pub op : Op
  pub at : slice_get ops index ≡ Some op
  pub acted : SessionCalls
  pub acts : ActsEach (take index ops) answers old acted
  pub refused : RefusedCall (λ t. event.Act t op) acted r new

-- the transaction was rolled back, or that was refused
abbrev pub IsUndone : Option Refusal → SessionCalls → SessionCalls → Type 0
IsUndone None old new = RollsBack old new
IsUndone (Some r) old new = RefusedCall (λ t. event.Rollback t) old r new

-- a transaction began, of which an operation was refused, and then it was undone
pub record IsCutShort (entries : Shelves) (session : ℕ) (ops : List Op) (index : ℕ) (r : Refusal)
    (rollback : Option Refusal) (old new : SessionCalls) : Type 0 where
  pub begun : SessionCalls
  pub begins : Begins entries session old begun
  pub answers : List Answer
  pub stopped : SessionCalls
  pub stops : StopsAt ops index r answers begun stopped
  pub undone : IsUndone rollback stopped new

-- all operations were answered, and the commit was refused
pub record IsUncommitted (entries : Shelves) (session : ℕ) (ops : List Op) (r : Refusal) (old new : SessionCalls)
    : Type 0 where
  pub answers : List Answer
  pub acted : SessionCalls
  pub does : Does entries session ops answers old acted
  pub refused : RefusedCall (λ t. event.Commit t) acted r new

abbrev pub IsRefusedBatch : Shelves → ℕ → List Op → SessionCalls → BatchRefused → SessionCalls → Type 0
IsRefusedBatch entries session ops old (refused.Begin r) new = IsUnbegun ops old r new
IsRefusedBatch entries session ops old (refused.Act a) new =
    IsCutShort entries session ops a.index a.refusal a.rollback old new
IsRefusedBatch entries session ops old (refused.Commit r) new = IsUncommitted entries session ops r old new
