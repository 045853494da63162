-- What a session asks for, and what answers it.
use Rattle.std.specs.Prelude.{ℕ, Bool, true, false, cond, Option, Some, None}
use Rattle.history.specs.ListMachine.{Line, TellsAnswer, TellsRow, TellsRows, TellsBack, TellsRolledBack, TellsCommitted}
use Rattle.engine_history.specs.node_laws.specs.declared.event.Event.{Event}
use Rattle.engine_history.specs.node_laws.specs.declared.event.Event.TheVariants as event
use Rattle.engine_history.specs.node_laws.specs.declared.event.Out.{Out}
use Rattle.engine_history.specs.node_laws.specs.declared.event.Out.TheVariants as out
use Rattle.engine_answers.specs.declared.ask.Ask.{Ask}
use Rattle.engine_answers.specs.declared.ask.Ask.TheVariants as ask
use Rattle.engine_history.specs.InFlightCalls.{is_commit_logged}
use Rattle.engine_history.specs.Sessions.{SessionCall, is_pending}

-- the event that it is of this transaction
abbrev pub event_of : ℕ → Ask → Event
event_of t (ask.Act op) = event.Act t op
event_of t (ask.Get key) = event.Get t key
event_of t (ask.Scan low high) = event.Scan t low high
event_of t ask.Save = event.Save t
event_of t (ask.GoBack s) = event.GoBack t s
event_of t ask.Rollback = event.Rollback t
event_of t ask.Commit = event.Commit t

-- ---- what a call comes to

abbrev pub is_begun : Out → Bool
is_begun (out.Begun t) = true
is_begun _ = false

abbrev pub is_saved : Out → Bool
is_saved (out.Saved s) = true
is_saved _ = false

abbrev pub is_logged : Out → Bool
is_logged (out.Logged n) = true
is_logged _ = false

abbrev pub is_asked : Out → Bool
is_asked (out.Asked n) = true
is_asked _ = false

abbrev pub is_rolling : Out → Bool
is_rolling out.RollingBack = true
is_rolling _ = false

-- ---- the lines that answer it

abbrev pub is_answer : Line → Bool
is_answer (TellsAnswer u a) = true
is_answer _ = false

abbrev pub is_row : Line → Bool
is_row (TellsRow u value) = true
is_row _ = false

abbrev pub is_rows : Line → Bool
is_rows (TellsRows u rows) = true
is_rows _ = false

abbrev pub is_back : Line → Bool
is_back (TellsBack u s) = true
is_back _ = false

abbrev pub is_rolled_back : Line → Bool
is_rolled_back (TellsRolledBack u) = true
is_rolled_back _ = false

abbrev pub is_committed : Line → Bool
is_committed (TellsCommitted u) = true
is_committed _ = false

-- ---- the outputs that tell them

abbrev pub gives_answer : Out → Bool
gives_answer (out.Answered u a) = true
gives_answer _ = false

abbrev pub gives_row : Out → Bool
gives_row (out.Row u value) = true
gives_row _ = false

abbrev pub gives_rows : Out → Bool
gives_rows (out.Rows u rows) = true
gives_rows _ = false

abbrev pub gives_back : Out → Bool
gives_back (out.Back u s) = true
gives_back _ = false

abbrev pub gives_rolled_back : Out → Bool
gives_rolled_back (out.RolledBack u) = true
gives_rolled_back _ = false

abbrev pub gives_commit : Out → Bool
gives_commit (out.Stable end committed) = true
gives_commit (out.Connects i committed) = true
gives_commit _ = false

-- the one, and the other
abbrev pub both : Bool → Bool → Bool
both a b = cond a b false

-- a call that comes to more than its entry says is answered by such a line
abbrev pub is_told_by : Event → Out → Line → Bool
is_told_by (event.Act t op) o line = both (is_logged o) (is_answer line)
is_told_by (event.Get t key) o line = both (is_asked o) (is_row line)
is_told_by (event.Scan t low high) o line = both (is_asked o) (is_rows line)
is_told_by (event.GoBack t s) o line = both (is_rolling o) (is_back line)
is_told_by (event.Rollback t) o line = both (is_rolling o) (is_rolled_back line)
is_told_by (event.Commit t) o line = both (is_commit_logged o) (is_committed line)
is_told_by _ o line = false

abbrev pub is_told : Event → Out → Option Line → Bool
is_told e o None = false
is_told e o (Some line) = is_told_by e o line

-- another is answered by its entry
abbrev pub is_done : Event → Out → Bool
is_done event.Begin o = is_begun o
is_done (event.Save t) o = is_saved o
is_done _ o = false

-- the call was answered
abbrev pub is_answered : SessionCall → Bool
is_answered c = cond (is_pending c.out) (is_told c.event c.out c.line) (is_done c.event c.out)
