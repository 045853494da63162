-- An output in little room.
use Rattle.std.specs.Prelude.{◌≡◌, Bool, true, false, ⊤}
use Rattle.node_sides.specs.node_laws.specs.declared.event.Out.{Out}
use Rattle.node_sides.specs.node_laws.specs.declared.event.Out.TheVariants as out
use Rattle.engine_history.specs.declared.kept_out.OutForm.{OutForm}
use Rattle.engine_history.specs.declared.kept_out.OutForm.TheVariants as kept

-- the output that is kept so
abbrev pub kept_out : OutForm → Out
kept_out (kept.Begun t) = out.Begun t
kept_out (kept.Logged n) = out.Logged n
kept_out kept.RollingBack = out.RollingBack
kept_out (kept.CommitLogged n) = out.CommitLogged n
kept_out kept.Nothing = out.Nothing
kept_out (kept.Compensated n) = out.Compensated n
kept_out (kept.RolledBack t) = out.RolledBack t
kept_out (kept.Sent i) = out.Sent i
kept_out (kept.Replied j) = out.Replied j
kept_out kept.Noted = out.Noted
kept_out (kept.Asked n) = out.Asked n
kept_out (kept.Undone t) = out.Undone t
kept_out (kept.Refused r) = out.Refused r
kept_out (kept.Other o) = o.value

-- it is told by its kind and one number or reason
abbrev pub is_brief_out : Out → Bool
is_brief_out (out.Begun t) = true
is_brief_out (out.Logged n) = true
is_brief_out out.RollingBack = true
is_brief_out (out.CommitLogged n) = true
is_brief_out out.Nothing = true
is_brief_out (out.Compensated n) = true
is_brief_out (out.RolledBack t) = true
is_brief_out (out.Sent i) = true
is_brief_out (out.Replied j) = true
is_brief_out out.Noted = true
is_brief_out (out.Asked n) = true
is_brief_out (out.Undone t) = true
is_brief_out (out.Refused r) = true
is_brief_out _ = false

-- no box holds what is brief
abbrev pub BoxesOtherOuts : OutForm → Type 0
BoxesOtherOuts (kept.Other o) = is_brief_out o.value ≡ false
BoxesOtherOuts _ = ⊤
