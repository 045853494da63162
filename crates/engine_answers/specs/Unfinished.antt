-- A call that is unfinished: it has its entry, nothing was told of it yet, and a later step failed.
use Rattle.std.specs.Prelude.{◌≡◌, true, Option, Some, None}
use Rattle.std.specs.Option.{is_some}
use Rattle.boxcar.specs.Table.{Shelves}
use Rattle.record_key.specs.declared.refusal.Refusal.{Refusal}
use Rattle.record_key.specs.declared.refusal.Refusal.TheVariants.{NotOpen, RollingBack, Unanswered}
use Rattle.engine_history.specs.node_laws.specs.declared.event.Out.{Out}
use Rattle.engine_history.specs.node_laws.specs.declared.event.Out.TheVariants as out
use Rattle.engine_history.specs.Sessions.{SessionCall, SessionCalls, called_as, is_pending, pending, IsClosed}
use Rattle.engine_history.specs.Slots.{Slot, Shown}
use Rattle.engine_answers.specs.declared.ended.Ended.{Ended}
use Rattle.engine_answers.specs.declared.ended.Ended.TheVariants as ended
use Rattle.engine_answers.specs.declared.ended.Unfinished.{Unfinished}

-- the latest call is to be told of, and its transaction is alive
abbrev pub IsUnfinished : SessionCalls → Type 0
IsUnfinished calls = (pending calls.latest ≡ true) × (is_some calls.live ≡ true)

-- what the transaction component answers the other calls of a transaction, one of whose calls came to this
abbrev pub bar_of : Out → Refusal
bar_of out.RollingBack = RollingBack
bar_of (out.CommitLogged n) = NotOpen
bar_of _ = Unanswered

abbrev pub bar : Option SessionCall → Refusal
bar None = NotOpen
bar (Some c) = bar_of c.out

-- the call of an entry, of which nothing was told
abbrev pub call_in : Slot → SessionCall
call_in p = called_as p.value.step.value.event p.value.step.value.out None

-- the session's latest call is this one, and it is unfinished
pub record IsHalfDone (entries : Shelves) (calls : SessionCalls) (u : Unfinished) : Type 0 where
  pub shown : Shown entries u.call
  pub awaited : is_pending u.call.value.step.value.out ≡ true
  pub latest : calls.latest ≡ Some (call_in u.call)
  pub alive : is_some calls.live ≡ true

-- what a session knows between two calls: which call is unfinished, if one is
abbrev pub IsBetweenCalls : Shelves → SessionCalls → Option Unfinished → Type 0
IsBetweenCalls entries calls None = IsClosed calls
IsBetweenCalls entries calls (Some u) = IsHalfDone entries calls u

-- the call that is left unfinished
abbrev pub left_by : Ended → Option Unfinished
left_by (ended.Unfinished u f) = Some u
left_by _ = None
