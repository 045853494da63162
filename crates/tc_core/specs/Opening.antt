-- What a component is that was opened on what a crash left.
use Rattle.std.specs.Prelude.{◌≡◌, ◌⊎◌, ℕ, ◌+◌, List, [], ◌∷◌, Option, Some, None, is_some, length, if◌then◌else◌}
use Rattle.record_key.specs.Table.{key_of}
use Rattle.record_key.specs.declared.refusal.Refusal.{Refusal}
use Rattle.record_key.specs.declared.refusal.Refusal.TheVariants.{NoMemory, Device}
use Rattle.history.specs.declared.record.Record.{Record}
use Rattle.history.specs.declared.record.Record.TheVariants as is
use Rattle.history.specs.Log.{IsOpen}
use Rattle.history.specs.Spans.{Span}
use Rattle.tc_locks.specs.Locks.{LocksView, spans_of, IsTable}
use Rattle.stable.specs.Usage.{Usage, called, called_often}
use Rattle.tc_log.specs.Found.{FoundView}
use Rattle.tc_log.specs.Opening.{IsLogOf, cut_calls, FailsDue}
use Rattle.tc_restart.specs.Losers.{LosersView}
use Rattle.tc_core.specs.declared.phase.Phase.TheVariants.{Unconnected}
use Rattle.tc_locks.specs.Rebuilt.{Listed}
use Rattle.tc_core.specs.Locking.{op_spans, held_mode}
use Rattle.tc_core.specs.TcView.{TcView}

-- the key of an operation of a transaction that is noted as open, with that transaction
abbrev pub key_noted : Record → (ℕ → Option ℕ) → List Listed
key_noted (is.Op t p o) noted = if is_some (noted t) then (t, key_of o, held_mode o) ∷ [] else []
key_noted _ noted = []

-- who isn't noted holds nothing
abbrev pub spans_if : Option ℕ → List Span → List Span
spans_if None spans = []
spans_if (Some n) spans = spans

-- each open transaction of the log holds the keys of its operations, and nobody else anything
pub record HoldsOpen (log : List Record) (locks : LocksView) : Type 0 where
  pub table : IsTable locks
  pub own : (t : ℕ) → IsOpen log t → spans_of locks t ≡ op_spans log t
  pub none : (t : ℕ) → (IsOpen log t → ⊥) → spans_of locks t ≡ []

-- all of the log is stable; nobody is connected, and no transaction is open; the device was used so
abbrev pub opened : List Record → Usage → ℕ → LosersView → LocksView → TcView
opened log usage checkpointed losers locks = record {
  log = log;
  stable = length log;
  usage = usage;
  session = 0;
  phase = Unconnected;
  reads = 0;
  announced = 0;
  checkpointing = None;
  checkpointed = checkpointed;
  open_txns = [];
  committing = [];
  losers = losers;
  locks = locks;
}

-- its log is that of the whole frames, and whoever is open in the log is a loser; the device had been used so before a
-- cut last frame was cut off it
pub record IsMadeOf (bytes : List ℕ) (usage : Usage) (w : TcView) : Type 0 where
  pub log : IsLogOf bytes w.log
  pub losers : w.losers.below ≡ length w.log + 1
  pub used : w.usage ≡ called_often (cut_calls bytes w.log) usage
  pub is : w ≡ opened w.log w.usage w.checkpointed w.losers w.locks

-- and before that the device was read, in one call
abbrev pub IsOpened : List ℕ → Usage → TcView → Type 0
IsOpened bytes usage w = IsMadeOf bytes (called usage) w

-- why none is made of what was read, and how its device was used by then: memory lacked and no call was made, or a last
-- frame is cut and the call failed that cuts it off
abbrev pub RefusesMaking : FoundView → Refusal → Usage → Type 0
RefusesMaking found given usage =
    ((given ≡ NoMemory) × (usage ≡ found.usage))
    ⊎ ((given ≡ Device) × (cut_calls found.bytes found.records ≡ 1) × FailsDue found.usage usage)
