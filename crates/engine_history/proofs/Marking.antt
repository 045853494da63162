-- What the marks show, one entry on.
use Rattle.std.proofs.Common.{◌≡◌, ℕ, ◌≤◌, false, IsTrue, List, [], ◌∷◌, ◌++◌, Option, Some, None, ◌+◌, max, refl, ap, sym, ◌∙◌, subst, inl, inr}
use Rattle.std.proofs.Math.Nat.{max-zero}
use Rattle.std.specs.List.{AllByRecursion}
use Rattle.atomic_table.specs.Seated.{TableId}
use Rattle.codec.specs.declared.request.Request.{Request}
use Rattle.engine_marks.specs.Seen.{Seen}
use Rattle.node_sides.specs.node_laws.specs.declared.event.Event.{Event}
use Rattle.node_sides.specs.node_laws.specs.declared.event.Event.TheVariants as event
use Rattle.node_sides.specs.node_laws.specs.declared.event.Out.{Out}
use Rattle.node_sides.specs.node_laws.specs.declared.event.Out.TheVariants as out
use Rattle.node_sides.specs.node_laws.specs.Component.{TcSide}
use Rattle.node_sides.specs.node_laws.specs.Halves.{of_tc, TcLeads}
use Rattle.engine_history.specs.declared.step.Step.{Step}
use Rattle.engine_history.specs.Latched.{SeatKept}
use Rattle.engine_history.specs.Marking.{low_of, announced, announced_after, IsLowOf}
use Rattle.engine_history.specs.Steps.{is_tc}
use Rattle.engine_history.specs.Views.{Sees}
use Rattle.engine_history.proofs.Stable.{next_low_sent}

announced_append : (low : ℕ) (es fs : List Step)
    → announced_after low (es ++ fs) ≡ announced_after (announced_after low es) fs
announced_append low [] fs = refl
announced_append low (e ∷ es) fs = announced_append (max low (low_of e.event e.out)) es fs

-- only the transaction component announces
quiet : (e : Event) (o : Out) → of_tc e ≡ false → low_of e o ≡ 0
quiet event.Reconnect o is = absurd (cc (is))
quiet event.Recover o is = absurd (cc (is))
quiet event.Begin o is = absurd (cc (is))
quiet (event.Act t op) o is = absurd (cc (is))
quiet (event.Get t k) o is = absurd (cc (is))
quiet (event.Scan t low high) o is = absurd (cc (is))
quiet (event.Save t) o is = absurd (cc (is))
quiet (event.GoBack t s) o is = absurd (cc (is))
quiet (event.Rollback t) o is = absurd (cc (is))
quiet (event.Commit t) o is = absurd (cc (is))
quiet (event.Undo t) o is = absurd (cc (is))
quiet event.Force o is = absurd (cc (is))
quiet (event.Send t) o is = absurd (cc (is))
quiet (event.LowWater l) o is = absurd (cc (is))
quiet event.Checkpoint o is = absurd (cc (is))
quiet event.Tell o is = absurd (cc (is))
quiet (event.Split k) o is = refl
quiet (event.Merge k) o is = refl
quiet event.Tend o is = refl
quiet (event.Flush k) o is = refl
quiet (event.Request i) o is = refl
quiet (event.Reply i) o is = absurd (cc (is))
quiet (event.CrashTc frames bytes) o is = absurd (cc (is))
quiet event.RestartTc o is = absurd (cc (is))
quiet (event.CrashDc frames bytes) o is = refl
quiet event.RestartDc o is = refl
quiet (event.FailTc call) o is = absurd (cc (is))
quiet (event.FailDc device call) o is = refl

quiet_all : (low : ℕ) (es : List Step) → AllByRecursion (λ e. is_tc e ≡ false) es → announced_after low es ≡ low
quiet_all low [] n = refl
quiet_all low (e ∷ es) n =
    ap (λ (l : ℕ). announced_after l es) (ap (max low) (quiet e.event e.out n.0) ∙ max-zero low) ∙ quiet_all low es n.1

-- what the component has not seen announced nothing
announced_seen : (before now : List Step) → Sees is_tc before now → announced now ≡ announced before
announced_seen before now sees =
    ap announced sees.all ∙ announced_append 0 before sees.since ∙ quiet_all (announced before) sees.since sees.none

pub seat_on : (marks : TableId) (before now : List Step) (stable : ℕ) (seat : Seen) → SeatKept marks before stable seat
    → Sees is_tc before now → SeatKept marks now stable seat
seat_on marks before now stable seat k sees = record {
  marks_are = k.marks_are;
  raises = k.raises;
  stable_so = k.stable_so;
  low = k.low ∙ sym (announced_seen before now sees);
}

-- the seat after a step of the component, which may have announced a number
pub seat_marked : (marks : TableId) (before es now : List Step) (e : Step) (old stable : ℕ) (seat next : Seen)
    → SeatKept marks before old seat → Sees is_tc before es → now ≡ es ++ e ∷ [] → next.marks ≡ seat.marks
    → next.raises ≡ seat.raises → next.stable ≤ stable → next.low ≡ max seat.low (low_of e.event e.out)
    → SeatKept marks now stable next
seat_marked marks before es now e old stable seat next k sees is same raises up low = record {
  marks_are = same ∙ k.marks_are;
  raises = subst IsTrue (sym raises) k.raises;
  stable_so = up;
  low =
      low
      ∙ ap (λ (l : ℕ). max l (low_of e.event e.out)) (k.low ∙ sym (announced_seen before es sees))
      ∙ sym (ap announced is ∙ announced_append 0 es (e ∷ []));
}

-- what was announced is stable
sent_is : (old new : TcSide) (sent l : ℕ) (o : Out) (request : Option Request)
    → TcLeads old (Some (sent + 1)) (event.LowWater l) None o request new → IsLowOf (event.LowWater l) o new
sent_is old new sent l (out.Begun t) request leads = inl refl
sent_is old new sent l (out.Logged n) request leads = inl refl
sent_is old new sent l (out.Saved s) request leads = inl refl
sent_is old new sent l out.RollingBack request leads = inl refl
sent_is old new sent l (out.CommitLogged n) request leads = inl refl
sent_is old new sent l out.Nothing request leads = inl refl
sent_is old new sent l (out.Compensated n) request leads = inl refl
sent_is old new sent l (out.RolledBack u) request leads = inl refl
sent_is old new sent l (out.Back u s) request leads = inl refl
sent_is old new sent l (out.Stable end committed) request leads = inl refl
sent_is old new sent l (out.Connects i committed) request leads = inl refl
sent_is old new sent l (out.Sent i) request leads = inr (next_low_sent old new sent l None i request refl leads)
sent_is old new sent l (out.Replied i) request leads = inl refl
sent_is old new sent l out.Noted request leads = inl refl
sent_is old new sent l (out.Connected s) request leads = inl refl
sent_is old new sent l (out.RedoEnded s) request leads = inl refl
sent_is old new sent l (out.Answered u a) request leads = inl refl
sent_is old new sent l (out.Asked n) request leads = inl refl
sent_is old new sent l (out.Row u value) request leads = inl refl
sent_is old new sent l (out.Rows u rows) request leads = inl refl
sent_is old new sent l (out.Undone n) request leads = inl refl
sent_is old new sent l (out.CheckpointLogged n) request leads = inl refl
sent_is old new sent l (out.Split pair) request leads = inl refl
sent_is old new sent l (out.Merged pair) request leads = inl refl
sent_is old new sent l (out.Flushed n) request leads = inl refl
sent_is old new sent l (out.Lost u) request leads = inl refl
sent_is old new sent l out.Down request leads = inl refl
sent_is old new sent l (out.Up n) request leads = inl refl
sent_is old new sent l out.Set request leads = inl refl
sent_is old new sent l (out.Refused r) request leads = inl refl

pub low_is : (old new : TcSide) (sent : ℕ) (e : Event) (o : Out) (request : Option Request)
    → TcLeads old (Some (sent + 1)) e None o request new → IsLowOf e o new
low_is old new sent event.Reconnect o request leads = inl refl
low_is old new sent event.Recover o request leads = inl refl
low_is old new sent event.Begin o request leads = inl refl
low_is old new sent (event.Act t op) o request leads = inl refl
low_is old new sent (event.Get t k) o request leads = inl refl
low_is old new sent (event.Scan t low high) o request leads = inl refl
low_is old new sent (event.Save t) o request leads = inl refl
low_is old new sent (event.GoBack t s) o request leads = inl refl
low_is old new sent (event.Rollback t) o request leads = inl refl
low_is old new sent (event.Commit t) o request leads = inl refl
low_is old new sent (event.Undo t) o request leads = inl refl
low_is old new sent event.Force o request leads = inl refl
low_is old new sent (event.Send t) o request leads = inl refl
low_is old new sent (event.LowWater l) o request leads = sent_is old new sent l o request leads
low_is old new sent event.Checkpoint o request leads = inl refl
low_is old new sent event.Tell o request leads = inl refl
low_is old new sent (event.Split k) o request leads = inl refl
low_is old new sent (event.Merge k) o request leads = inl refl
low_is old new sent event.Tend o request leads = inl refl
low_is old new sent (event.Flush k) o request leads = inl refl
low_is old new sent (event.Request i) o request leads = inl refl
low_is old new sent (event.Reply i) o request leads = inl refl
low_is old new sent (event.CrashTc frames bytes) o request leads = inl refl
low_is old new sent event.RestartTc o request leads = inl refl
low_is old new sent (event.CrashDc frames bytes) o request leads = inl refl
low_is old new sent event.RestartDc o request leads = inl refl
low_is old new sent (event.FailTc call) o request leads = inl refl
low_is old new sent (event.FailDc device call) o request leads = inl refl
