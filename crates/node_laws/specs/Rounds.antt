-- The rounds of settling.
use Rattle.std.specs.Prelude.{◌≡◌, ◌≢◌, ◌⊎◌, ℕ, ◌+◌, ◌-◌, ◌<◌, ◌≤◌, Bool, true, false, List, [], ◌∷◌, ◌++◌, Option, Some, None, Result, Ok, Err, length, nat_lt, if◌then◌else◌}
use Rattle.record_key.specs.declared.refusal.Refusal.{Refusal}
use Rattle.record_key.specs.declared.refusal.Refusal.TheVariants.{NoMemory, NumbersSpent, Device}
use Rattle.dc_core.specs.DcView.{DcView}
use Rattle.tc_core.specs.declared.open_txn.OpenTxn.{OpenTxn}
use Rattle.tc_core.specs.declared.open_txn.Read.{Read}
use Rattle.tc_core.specs.declared.phase.Phase.{Phase}
use Rattle.tc_core.specs.declared.phase.Phase.TheVariants as phase
use Rattle.tc_core.specs.OpenTxns.{find}
use Rattle.tc_core.specs.TcView.{TcView, is_waiting, is_rolling, rolls_back}
use Rattle.node_laws.specs.declared.event.Event.{Event}
use Rattle.node_laws.specs.declared.event.Event.TheVariants as event
use Rattle.node_laws.specs.declared.event.Out.{Out}
use Rattle.node_laws.specs.declared.event.Out.TheVariants as out
use Rattle.node_laws.specs.declared.round.Round.{Round}
use Rattle.node_laws.specs.declared.round.Round.TheVariants as round
use Rattle.node_laws.specs.Node.{NodeView, AreUp, StepsTo}
use Rattle.node_laws.specs.Stepping.{IsStep, TellsOn}
use Rattle.node_laws.specs.Simulation.{IsSettled, AreUnrolled}
use Rattle.node_laws.specs.Bound.{most_rounds}

-- nobody waits for anything
abbrev pub AreIdle : List OpenTxn → Type 0
AreIdle os = (t : ℕ) → is_waiting (find t os) ≡ false

-- nothing is left to do: the node is settled, nobody waits, and every record is stable
pub record IsAtRest (w : NodeView) : Type 0 where
  pub settled : IsSettled w
  pub idle : AreIdle w.tc.open_txns
  pub stable : w.tc.stable ≡ length w.tc.log

-- the transaction component has no session that the data component runs
abbrev pub AreApart : TcView → DcView → Type 0
AreApart tc dc = (tc.phase ≡ phase.Unconnected) ⊎ (tc.phase ≡ phase.Connecting) ⊎ (dc.session ≢ tc.session)

abbrev pub IsApart : NodeView → Type 0
IsApart w = AreApart w.tc w.dc

-- a request of recovery is due that may be sent: redo's, or a stable compensation that undo awaits
abbrev pub IsRecovering : ℕ → Phase → Type 0
IsRecovering stable (phase.Redoing next ending) = Unit {0}
IsRecovering stable (phase.Undoing (Some n)) = n ≤ stable
IsRecovering stable _ = ⊥

-- the components run in one session, in which losers are undone; the compensation that is awaited
pub record IsUndoing (w : NodeView) (waiting : Option ℕ) : Type 0 where
  pub undoing : w.tc.phase ≡ phase.Undoing waiting
  pub up : AreUp w
  pub session : w.dc.session ≡ w.tc.session

-- both components run, in one session, and nothing is left to recover
pub record AreRunning (w : NodeView) : Type 0 where
  pub running : w.tc.phase ≡ phase.Running
  pub up : AreUp w
  pub session : w.dc.session ≡ w.tc.session

-- of those that wait, the transaction with the least number waits for this record's answer
pub record IsDue (w : TcView) (t number : ℕ) : Type 0 where
  pub open_txn : OpenTxn
  pub is : find t w.open_txns ≡ Some open_txn
  pub waiting : open_txn.waiting ≡ Some number
  pub least : (u : ℕ) → is_waiting (find u w.open_txns) ≡ true → t ≤ u

-- of those that wait, the transaction with the least number waits for a read
pub record IsReader (w : TcView) (t : ℕ) : Type 0 where
  pub open_txn : OpenTxn
  pub read : Read
  pub is : find t w.open_txns ≡ Some open_txn
  pub reading : open_txn.reading ≡ Some read
  pub least : (u : ℕ) → is_waiting (find u w.open_txns) ≡ true → t ≤ u

-- nobody waits, and of those that are being rolled back this one has the least number
pub record IsRolling (w : TcView) (t : ℕ) : Type 0 where
  pub open_txn : OpenTxn
  pub is : find t w.open_txns ≡ Some open_txn
  pub rolling : rolls_back open_txn ≡ true
  pub idle : AreIdle w.open_txns
  pub least : (u : ℕ) → is_rolling (find u w.open_txns) ≡ true → t ≤ u

-- the log is to be forced: for the request that is waited for, or since nothing else is left to do
abbrev pub IsForced : TcView → Type 0
IsForced w =
    ((t : ℕ) × (n : ℕ) × IsDue w t n × (w.stable < n))
    ⊎ (AreUnrolled w.open_txns × AreIdle w.open_txns × (w.stable < length w.log))

-- the first round that applies: to restart a component that is down; to connect; to recover, which forces the log for a
-- compensation that isn't stable,
-- and logs a record where none is awaited; for an unanswered request to force the log where its record isn't stable,
-- else to exchange it, as a read always is; to undo; to force what isn't stable
abbrev pub IsNextRound : NodeView → Round → Type 0
IsNextRound w round.RestartDc = w.dc_up ≡ false
IsNextRound w round.RestartTc = (w.dc_up ≡ true) × (w.tc_up ≡ false)
IsNextRound w round.Connect = AreUp w × IsApart w
IsNextRound w round.Recover = AreUp w × IsRecovering w.tc.stable w.tc.phase × (w.dc.session ≡ w.tc.session)
IsNextRound w round.Lose = IsUndoing w None
IsNextRound w (round.Exchange t) = AreRunning w × (((n : ℕ) × IsDue w.tc t n × (n ≤ w.tc.stable)) ⊎ IsReader w.tc t)
IsNextRound w (round.Undo t) = AreRunning w × IsRolling w.tc t
IsNextRound w round.Force = (AreRunning w × IsForced w.tc) ⊎ ((n : ℕ) × IsUndoing w (Some n) × (w.tc.stable < n))

-- the round of a transaction that waits for this record's answer, or for a read
abbrev pub round_for : ℕ → ℕ → Option ℕ → Round
round_for t stable None = round.Exchange t
round_for t stable (Some n) = if nat_lt stable n then round.Force else round.Exchange t

-- the round of a recovery that goes on
abbrev pub recovery_round : ℕ → Phase → Round
recovery_round stable (phase.Undoing None) = round.Lose
recovery_round stable (phase.Undoing (Some n)) = if nat_lt stable n then round.Force else round.Recover
recovery_round stable _ = round.Recover

-- an event that sends a request, the request's delivery, and that of its reply
abbrev pub exchange_of : Event → ℕ → ℕ → List Event
exchange_of e i j = e ∷ event.Request i ∷ event.Reply j ∷ []

abbrev pub exchange : NodeView → Event → List Event
exchange w e = exchange_of e (length w.requests + 1) (length w.replies + 1)

abbrev pub events_of : NodeView → Round → List Event
events_of w round.RestartDc = event.RestartDc ∷ []
events_of w round.RestartTc = event.RestartTc ∷ []
events_of w round.Connect = exchange w event.Reconnect
events_of w round.Recover = exchange w event.Recover
events_of w round.Lose = event.Recover ∷ []
events_of w (round.Exchange t) = exchange w (event.Send t)
events_of w (round.Undo t) = event.Undo t ∷ []
events_of w round.Force = event.Force ∷ []

-- the event wasn't refused
abbrev pub IsDone : Out → Type 0
IsDone (out.Refused r) = ⊥
IsDone _ = Unit {0}

-- events with their outputs, one after another, none refused
abbrev pub Plays : NodeView → List Event → List Out → NodeView → Type 0
Plays w [] [] new = new ≡ w
Plays w (e ∷ es) (o ∷ os) new = (mid : NodeView) × IsStep w e o mid × IsDone o × Plays mid es os new
Plays w _ _ new = ⊥

-- the same, until room for an output or an event is refused
abbrev pub StopsAt : NodeView → List Event → List Out → Refusal → NodeView → Type 0
StopsAt w (e ∷ es) [] r new = ((r ≡ NoMemory) × (new ≡ w)) ⊎ IsStep w e (out.Refused r) new
StopsAt w (e ∷ es) (o ∷ os) r new = (mid : NodeView) × IsStep w e o mid × IsDone o × StopsAt mid es os r new
StopsAt w _ _ r new = ⊥

-- the events were done, and their outputs stand after those before
pub record Performed (old : NodeView) (events : List Event) (before after : List Out) (new : NodeView) : Type 0 where
  pub outs : List Out
  pub appended : after ≡ before ++ outs
  pub steps : Plays old events outs new

-- the events up to a refused one, whose outputs are listed but for that one's
pub record Stopped (old : NodeView) (events : List Event) (before after : List Out) (r : Refusal) (new : NodeView) :
    Type 0 where
  pub outs : List Out
  pub appended : after ≡ before ++ outs
  pub stops : StopsAt old events outs r new

abbrev pub Does : NodeView → List Event → List Out → List Out → Result (Unit {0}) Refusal → NodeView → Type 0
Does old events before after (Ok u) new = Performed old events before after new
Does old events before after (Err r) new = Stopped old events before after r new

-- the event sends a request, and the request is replied to
pub record IsExchange (w : NodeView) (e : Event) : Type 0 where
  pub sent : (o : Out) (mid : NodeView) → StepsTo w e o mid → IsDone o → length mid.requests ≡ length w.requests + 1
  pub replied : (o p : Out) (mid after : NodeView) → StepsTo w e o mid → IsDone o
      → StepsTo mid (event.Request (length w.requests + 1)) p after → IsDone p
      → length after.replies ≡ length w.replies + 1

-- only want of memory or of numbers, or a device that failed, stops a round
abbrev pub IsWant : Refusal → Type 0
IsWant r = (r ≡ NoMemory) ⊎ (r ≡ NumbersSpent) ⊎ (r ≡ Device)

-- rounds that may follow one another so
abbrev pub Rounds : NodeView → List Round → List Out → NodeView → Type 0
Rounds w [] outs new = (outs ≡ []) × (new ≡ w)
Rounds w (r ∷ rs) outs new =
    (mid : NodeView) × (first : List Out) × (rest : List Out) × (outs ≡ first ++ rest)
    × IsNextRound w r × Plays w (events_of w r) first mid × Rounds mid rs rest new

-- these rounds were played
pub record Played (old : NodeView) (before after : List Out) (last : NodeView) : Type 0 where
  pub rounds : List Round
  pub outs : List Out
  pub appended : after ≡ before ++ outs
  pub played : Rounds old rounds outs last

-- a round stopped amid its events
pub record Broken (old : NodeView) (before after : List Out) (r : Refusal) (new : NodeView) : Type 0 where
  pub last : NodeView
  pub between : List Out
  pub rounds : Played old before between last
  pub round : Round
  pub next : IsNextRound last round
  pub stopped : Stopped last (events_of last round) between after r new
  pub want : IsWant r

-- so many rounds may be played
abbrev pub IsAllowed : Option ℕ → ℕ → Type 0
IsAllowed None n = Unit {0}
IsAllowed (Some most) n = n ≤ most

-- settling plays rounds until none is left, within the bound; or as many as it may, which is less; or a round
-- stopped. However it ends, what clients were told by then is what some list machine goes on by
abbrev pub Settles : NodeView → Option ℕ → List Out → List Out → Result Bool Refusal → NodeView → Type 0
Settles old most before after (Ok true) new =
    (p : Played old before after new) × IsAllowed most (length p.rounds) × (length p.rounds ≤ most_rounds old.tc.log)
    × IsAtRest new × TellsOn old p.outs new
Settles old most before after (Ok false) new =
    (p : Played old before after new) × (most ≡ Some (length p.rounds)) × (length p.rounds < most_rounds old.tc.log)
    × ((r : Round) × IsNextRound new r) × TellsOn old p.outs new
Settles old most before after (Err r) new =
    (b : Broken old before after r new) × IsAllowed most (length b.rounds.rounds + 1)
    × (length b.rounds.rounds < most_rounds old.tc.log) × TellsOn old (b.rounds.outs ++ b.stopped.outs) new

-- one round less is left to play
abbrev pub fewer : Option ℕ → Option ℕ
fewer None = None
fewer (Some n) = Some (n - 1)
