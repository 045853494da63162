-- What a line that is told comes to.
use Rattle.std.specs.Prelude.{ℕ, ◌==◌, Bool, true, false, Option, Some, None}
use Rattle.history.specs.History.{is_among}
use Rattle.history.specs.ListMachine.{Line, TellsAnswer, TellsRow, TellsRows, TellsBack, TellsRolledBack, TellsCommitted, TellsLost}
use Rattle.engine_history.specs.node_laws.specs.declared.event.Out.{Out}
use Rattle.engine_history.specs.node_laws.specs.declared.event.Out.TheVariants as out
use Rattle.engine_guarded.specs.declared.heard.Heard.{Heard}
use Rattle.engine_guarded.specs.declared.heard.Heard.TheVariants as heard

-- the line, told to this transaction
abbrev pub as_line : ℕ → Heard → Line
as_line t (heard.Answer a) = TellsAnswer t a
as_line t (heard.Row value) = TellsRow t value
as_line t (heard.Rows rows) = TellsRows t rows
as_line t (heard.Back s) = TellsBack t s
as_line t heard.RolledBack = TellsRolledBack t
as_line t heard.Committed = TellsCommitted t
as_line t heard.Lost = TellsLost t

abbrev pub heard_if : Bool → Heard → Option Heard
heard_if true h = Some h
heard_if false h = None

-- what an output tells a transaction, if it tells it a line
abbrev pub heard_to : ℕ → Out → Option Heard
heard_to t (out.Answered u a) = heard_if (u == t) (heard.Answer a)
heard_to t (out.Row u value) = heard_if (u == t) (heard.Row value)
heard_to t (out.Rows u rows) = heard_if (u == t) (heard.Rows rows)
heard_to t (out.Back u s) = heard_if (u == t) (heard.Back s)
heard_to t (out.RolledBack u) = heard_if (u == t) heard.RolledBack
heard_to t (out.Lost u) = heard_if (u == t) heard.Lost
heard_to t (out.Stable end committed) = heard_if (is_among t committed) heard.Committed
heard_to t (out.Connects i committed) = heard_if (is_among t committed) heard.Committed
heard_to t _ = None

abbrev pub heard_for : Option ℕ → Out → Option Heard
heard_for None o = None
heard_for (Some t) o = heard_to t o

-- after it the transaction has ended
abbrev pub is_end : Heard → Bool
is_end heard.RolledBack = true
is_end heard.Committed = true
is_end heard.Lost = true
is_end _ = false
