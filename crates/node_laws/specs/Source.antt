-- The log that the data component's cached leaves have their effects from.
use Rattle.std.specs.Prelude.{◌≡◌, ◌⊎◌, ℕ, ◌<◌, ◌≤◌, List, ◌++◌, length}
use Rattle.std.specs.List.{AllByRecursion}
use Rattle.history.specs.declared.record.Record.{Record}
use Rattle.history.specs.declared.record.Record.TheVariants as is
use Rattle.tc_core.specs.declared.phase.Phase.{Phase}
use Rattle.tc_core.specs.declared.phase.Phase.TheVariants as phase
use Rattle.tc_core.specs.TcView.{TcView}

-- its records, the newest first, and how many of them no crash of the transaction component can take any more
pub record Source : Type 0 where
  pub log : List Record
  pub sure : ℕ

-- no Connect was taken since the transaction component was opened or began a session: it logs nothing but sessions
abbrev pub IsWaiting : Phase → Type 0
IsWaiting phase.Unconnected = Unit {0}
IsWaiting phase.Connecting = Unit {0}
IsWaiting _ = ⊥

-- it waits, and its session, if it has one, wasn't taken yet
pub record IsUntaken (w : TcView) (stored : ℕ) : Type 0 where
  pub waits : IsWaiting w.phase
  pub later : 0 < w.session → stored < w.session

-- the transaction component's own log, whose stable records are sure
abbrev pub own : TcView → Source
own w = record { log = w.log; sure = w.stable }

-- a crash took what the source has above its sure records, and since then the transaction component waits for a session
-- to be taken and has logged nothing but sessions
pub record IsAsking (w : TcView) (stored : ℕ) (x : Source) : Type 0 where
  pub common : List Record
  pub lost : List Record
  pub since : List Record
  pub source_is : x.log ≡ lost ++ common
  pub log_is : w.log ≡ since ++ common
  pub count : x.sure ≡ length common
  pub stable : x.sure ≤ w.stable
  pub sessions : AllByRecursion (λ r. r ≡ is.Session) since
  pub untaken : IsUntaken w stored

-- the source is the log itself; or what a crash took of it is still in the data component's cache, until that takes a
-- session or crashes
abbrev pub IsSource : TcView → ℕ → Source → Type 0
IsSource w stored x = (x ≡ own w) ⊎ IsAsking w stored x
