-- What transactions hold, and when another may take a span.
use Rattle.std.specs.Prelude.{◌≡◌, ◌≢◌, ◌⊎◌, ℕ, ◌<◌, ◌==◌, ◌||◌, Bool, true, false, List, [], ◌∷◌, Option, is_some, filter, if◌then◌else◌}
use Rattle.std.specs.List.{AllByRecursion, list_any}
use Rattle.record_key.specs.declared.op.Op.{Op}
use Rattle.record_key.specs.declared.refusal.Refusal.{Refusal}
use Rattle.record_key.specs.declared.refusal.Refusal.TheVariants.{Busy, NumbersSpent}
use Rattle.record_key.specs.FirstCause.{first_of, RefusesAs}
use Rattle.record_key.specs.Table.{is_add}
use Rattle.history.specs.declared.record.Record.{Record}
use Rattle.history.specs.declared.record.Record.TheVariants as is
use Rattle.history.specs.Spans.{Mode, Shared, Increment, Exclusive, Span, AnyConflict, changed_span}
use Rattle.tc_locks.specs.declared.span.Mode as code
use Rattle.tc_locks.specs.declared.span.Mode.TheVariants as held
use Rattle.tc_locks.specs.Locks.{LocksView, spans_of, IsGrantable, IsLeastHolder, IsTable}
use Rattle.tc_core.specs.declared.open_txn.OpenTxn.{OpenTxn}
use Rattle.tc_core.specs.OpenTxns.{find}

-- the keys of a transaction's operations, each for what it is changed for, the newest first
abbrev pub op_spans : List Record → ℕ → List Span
op_spans [] t = []
op_spans (is.Op txn prev op ∷ log) t =
    if t == txn then changed_span op ∷ op_spans log t else op_spans log t
op_spans (r ∷ log) t = op_spans log t

-- what the lock table holds an operation's key for
abbrev pub held_mode : Op → code.Mode
held_mode o = if is_add o then held.Increment else held.Exclusive

-- a transaction holds them from its Begin to its End or until its Commit is stable, undone or not (strict
-- two-phase locking)
abbrev pub is_listed : List ℕ → ℕ → Bool
is_listed ts t = list_any (λ u. u == t) ts

abbrev pub is_holder : List OpenTxn → List ℕ → ℕ → Bool
is_holder os committing t = is_some (find t os) || is_listed committing t

abbrev pub held_spans : List Record → List OpenTxn → List ℕ → ℕ → List Span
held_spans log os committing t = if is_holder os committing t then op_spans log t else []

-- held for a change, and not for a read
abbrev pub is_for_change : Mode → Bool
is_for_change Shared = false
is_for_change Increment = true
is_for_change Exclusive = true

abbrev pub is_changing : Span → Bool
is_changing s = is_for_change s.mode

-- no span of these conflicts with one of those
abbrev pub ConflictNowhere : List Span → List Span → Type 0
ConflictNowhere xs ys = AllByRecursion (λ x. AnyConflict x ys → ⊥) xs

-- the lock table: for a change just the keys of the operations of open transactions and of those that are closing;
-- nobody else holds anything, and no two of them hold what conflicts
pub record AreHeld (log : List Record) (os : List OpenTxn) (committing : List ℕ) (locks : LocksView) : Type 0 where
  pub table : IsTable locks
  pub changing : (t : ℕ) → filter is_changing (spans_of locks t) ≡ held_spans log os committing t
  pub others : (t : ℕ) → is_holder os committing t ≡ false → spans_of locks t ≡ []
  pub apart : (t u : ℕ) → t ≢ u → ConflictNowhere (spans_of locks t) (spans_of locks u)

-- who began below this number, as losers did, holds the keys of its operations only
abbrev pub HoldOperations : ℕ → LocksView → Type 0
HoldOperations below locks = (t : ℕ) → t < below → filter is_changing (spans_of locks t) ≡ spans_of locks t

-- why a span isn't taken: it is busy; else no number is left for the call, or no memory
abbrev pub RefusesLock : LocksView → ℕ → Span → Option Refusal → Refusal → Type 0
RefusesLock locks t s spent r =
    ((u : ℕ) × (r ≡ Busy u) × IsLeastHolder locks t s u) ⊎ (IsGrantable locks t s × RefusesAs spent r)

abbrev pub spent_of : Bool → Option Refusal
spent_of spent = first_of ((spent, NumbersSpent) ∷ [])
