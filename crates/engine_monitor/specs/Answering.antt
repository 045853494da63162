-- What a call asks for, and what a line that is told says to it.
use Rattle.std.specs.Prelude.{◌≡◌, ℕ, Bool, true, false, cond, Option, Some, None}
use Rattle.record_key.specs.declared.refusal.Refusal.{Refusal}
use Rattle.record_key.specs.declared.refusal.Refusal.TheVariants.{NotConnected}
use Rattle.engine_guarded.specs.declared.heard.Heard.{Heard}
use Rattle.engine_guarded.specs.declared.heard.Heard.TheVariants as heard
use Rattle.engine_guarded.specs.engine_history.specs.Failing.{refusal_of}
use Rattle.engine_guarded.specs.engine_history.specs.node_laws.specs.declared.event.Event.{Event}
use Rattle.engine_guarded.specs.engine_history.specs.node_laws.specs.declared.event.Event.TheVariants as event
use Rattle.engine_guarded.specs.engine_history.specs.node_laws.specs.declared.event.Out.{Out}
use Rattle.engine_guarded.specs.engine_history.specs.node_laws.specs.declared.event.Out.TheVariants as out
use Rattle.engine_guarded.specs.engine_answers.specs.Asking.{is_asked, is_logged, is_rolling}
use Rattle.engine_guarded.specs.engine_answers.specs.Why.{why_of}
use Rattle.engine_guarded.specs.engine_answers.specs.declared.ask.Ask.{Ask}
use Rattle.engine_guarded.specs.engine_answers.specs.declared.ask.Ask.TheVariants as ask
use Rattle.engine_guarded.specs.engine_answers.specs.declared.told.Told.{Told}
use Rattle.engine_guarded.specs.engine_answers.specs.declared.told.Told.TheVariants as told
use Rattle.engine_monitor.specs.declared.ended.Ended.{Ended}
use Rattle.engine_monitor.specs.declared.ended.Ended.TheVariants as ended
use Rattle.engine_monitor.specs.declared.sort.Sort.{Sort}
use Rattle.engine_monitor.specs.declared.sort.Sort.TheVariants as sort

-- ---- what a call asks for

abbrev pub sort_of : Ask → Sort
sort_of (ask.Act op) = sort.Act
sort_of (ask.Get key) = sort.Get
sort_of (ask.Scan low high) = sort.Scan
sort_of ask.Save = sort.AtOnce
sort_of (ask.GoBack s) = sort.GoBack
sort_of ask.Rollback = sort.Rollback
sort_of ask.Commit = sort.Commit

-- it is answered by what it comes to at once
abbrev pub is_save : Ask → Bool
is_save ask.Save = true
is_save _ = false

abbrev pub sort_in : Event → Sort
sort_in (event.Act t op) = sort.Act
sort_in (event.Get t key) = sort.Get
sort_in (event.Scan t low high) = sort.Scan
sort_in (event.GoBack t s) = sort.GoBack
sort_in (event.Rollback t) = sort.Rollback
sort_in (event.Commit t) = sort.Commit
sort_in _ = sort.AtOnce

-- ---- what a line says

abbrev pub answer_in : Heard → Option Told
answer_in (heard.Answer a) = Some (told.Answer a)
answer_in _ = None

abbrev pub row_in : Heard → Option Told
row_in (heard.Row v) = Some (told.Row v)
row_in _ = None

abbrev pub rows_in : Heard → Option Told
rows_in (heard.Rows rows) = Some (told.Rows rows)
rows_in _ = None

abbrev pub back_in : Heard → Option Told
back_in (heard.Back s) = Some told.Back
back_in _ = None

abbrev pub rolled_back_in : Heard → Option Told
rolled_back_in heard.RolledBack = Some told.RolledBack
rolled_back_in _ = None

abbrev pub committed_in : ℕ → Heard → Option Told
committed_in n heard.Committed = Some (told.Committed n)
committed_in n _ = None

abbrev pub commit_in : Out → Heard → Option Told
commit_in (out.CommitLogged n) h = committed_in n h
commit_in _ h = None

abbrev pub if_so : Bool → Option Told → Option Told
if_so is t = cond is t None

-- what it says to a call that came to this, if it answers it
abbrev pub told_as : Sort → Out → Heard → Option Told
told_as sort.Act o h = if_so (is_logged o) (answer_in h)
told_as sort.Get o h = if_so (is_asked o) (row_in h)
told_as sort.Scan o h = if_so (is_asked o) (rows_in h)
told_as sort.GoBack o h = if_so (is_rolling o) (back_in h)
told_as sort.Rollback o h = if_so (is_rolling o) (rolled_back_in h)
told_as sort.Commit o h = commit_in o h
told_as sort.AtOnce o h = None

-- ---- why it is refused

-- where neither what it came to nor what was told of it answers it
abbrev pub IsRefusalOf : Bool → (Heard → Type 0) → Out → Ended → Refusal → Type 0
IsRefusalOf done Untold o ended.AtOnce r = (r ≡ why_of o) × (done ≡ false)
IsRefusalOf done Untold o (ended.Told h) r = (r ≡ NotConnected) × Untold h
IsRefusalOf done Untold o (ended.Unfinished f) r = r ≡ refusal_of f
IsRefusalOf done Untold o ended.CutOff r = r ≡ NotConnected
