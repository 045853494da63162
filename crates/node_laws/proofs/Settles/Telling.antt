-- What clients are told while rounds are played leads each list machine on that the node stood for.
use Rattle.std.proofs.Common.{◌≡◌, ℕ, List, [], ◌∷◌, ◌++◌, refl, sym, ap, ◌∙◌, subst, inl, inr, append_assoc}
use Rattle.std.specs.List.{AllByRecursion}
use Rattle.record_key.specs.declared.refusal.Refusal.{Refusal}
use Rattle.history.specs.ListMachine.{Machine, Line, Steps}
use Rattle.node_laws.specs.declared.event.Event.{Event}
use Rattle.node_laws.specs.declared.event.Event.TheVariants as event
use Rattle.node_laws.specs.declared.event.Out.{Out}
use Rattle.node_laws.specs.declared.event.Out.TheVariants as out
use Rattle.node_laws.specs.declared.round.Round.{Round}
use Rattle.node_laws.specs.declared.round.Round.TheVariants as round
use Rattle.node_laws.specs.Node.{NodeView}
use Rattle.node_laws.specs.Simulation.{NodeStandsFor, StepsIf, lines_of}
use Rattle.node_laws.specs.Stepping.{IsStep, TellsOn, told_by, told_by_all}
use Rattle.node_laws.specs.Rounds.{Plays, StopsAt, Rounds, events_of}

-- an event of settling: no client's call, and no crash
abbrev IsOfSettling : Event → Type 0
IsOfSettling event.RestartDc = Unit {0}
IsOfSettling event.RestartTc = Unit {0}
IsOfSettling event.Reconnect = Unit {0}
IsOfSettling event.Recover = Unit {0}
IsOfSettling (event.Send t) = Unit {0}
IsOfSettling (event.Request i) = Unit {0}
IsOfSettling (event.Reply i) = Unit {0}
IsOfSettling (event.Undo t) = Unit {0}
IsOfSettling event.Force = Unit {0}
IsOfSettling _ = ⊥

-- its lines are what its output tells
restarted_dc : (m n : Machine) (o : Out) → StepsIf m (lines_of event.RestartDc o) n → Steps m (told_by o) n
restarted_dc m n (out.Up count) h = h
restarted_dc m n out.Nothing h = h
restarted_dc m n (out.Refused r) h = h
restarted_dc m n _ h = absurd h

restarted_tc : (m n : Machine) (o : Out) → StepsIf m (lines_of event.RestartTc o) n → Steps m (told_by o) n
restarted_tc m n (out.Up count) h = h
restarted_tc m n out.Nothing h = h
restarted_tc m n (out.Refused r) h = h
restarted_tc m n _ h = absurd h

reconnected : (m n : Machine) (o : Out) → StepsIf m (lines_of event.Reconnect o) n → Steps m (told_by o) n
reconnected m n (out.Connects i committed) h = h
reconnected m n (out.Refused r) h = h
reconnected m n _ h = absurd h

recovered : (m n : Machine) (o : Out) → StepsIf m (lines_of event.Recover o) n → Steps m (told_by o) n
recovered m n (out.Sent i) h = h
recovered m n out.Nothing h = h
recovered m n (out.Compensated k) h = h
recovered m n (out.Lost t) h = h
recovered m n (out.Refused r) h = h
recovered m n _ h = absurd h

sent : (m n : Machine) (t : ℕ) (o : Out) → StepsIf m (lines_of (event.Send t) o) n → Steps m (told_by o) n
sent m n t (out.Sent i) h = h
sent m n t (out.Refused r) h = h
sent m n t _ h = absurd h

served : (m n : Machine) (i : ℕ) (o : Out) → StepsIf m (lines_of (event.Request i) o) n → Steps m (told_by o) n
served m n i (out.Replied j) h = h
served m n i out.Noted h = h
served m n i (out.Refused r) h = h
served m n i _ h = absurd h

taken : (m n : Machine) (i : ℕ) (o : Out) → StepsIf m (lines_of (event.Reply i) o) n → Steps m (told_by o) n
taken m n i (out.Answered u a) h = h
taken m n i (out.Row u v) h = h
taken m n i (out.Rows u rows) h = h
taken m n i (out.Connected s) h = h
taken m n i (out.RedoEnded s) h = h
taken m n i (out.Undone k) h = h
taken m n i (out.CheckpointLogged k) h = h
taken m n i out.Nothing h = h
taken m n i (out.Refused r) h = h
taken m n i _ h = absurd h

undone : (m n : Machine) (t : ℕ) (o : Out) → StepsIf m (lines_of (event.Undo t) o) n → Steps m (told_by o) n
undone m n t out.Nothing h = h
undone m n t (out.Compensated k) h = h
undone m n t (out.RolledBack u) h = h
undone m n t (out.Back u s) h = h
undone m n t (out.Refused r) h = h
undone m n t _ h = absurd h

forced : (m n : Machine) (o : Out) → StepsIf m (lines_of event.Force o) n → Steps m (told_by o) n
forced m n (out.Stable k committed) h = h
forced m n (out.Refused r) h = h
forced m n _ h = absurd h

lines_told : (m n : Machine) (e : Event) (o : Out) → IsOfSettling e → StepsIf m (lines_of e o) n → Steps m (told_by o) n
lines_told m n event.RestartDc o settles h = restarted_dc m n o h
lines_told m n event.RestartTc o settles h = restarted_tc m n o h
lines_told m n event.Reconnect o settles h = reconnected m n o h
lines_told m n event.Recover o settles h = recovered m n o h
lines_told m n (event.Send t) o settles h = sent m n t o h
lines_told m n (event.Request i) o settles h = served m n i o h
lines_told m n (event.Reply i) o settles h = taken m n i o h
lines_told m n (event.Undo t) o settles h = undone m n t o h
lines_told m n event.Force o settles h = forced m n o h
lines_told m n _ o settles h = absurd settles

all_of_settling : (w : NodeView) (r : Round) → AllByRecursion IsOfSettling (events_of w r)
all_of_settling w round.RestartDc = (tt, tt)
all_of_settling w round.RestartTc = (tt, tt)
all_of_settling w round.Connect = (tt, (tt, (tt, tt)))
all_of_settling w round.Recover = (tt, (tt, (tt, tt)))
all_of_settling w round.Lose = (tt, tt)
all_of_settling w (round.Exchange t) = (tt, (tt, (tt, tt)))
all_of_settling w (round.Undo t) = (tt, tt)
all_of_settling w round.Force = (tt, tt)

-- lines, and lines after them
pub steps_then : (m : Machine) (xs ys : List Line) (mid n : Machine) → Steps m xs mid → Steps mid ys n
    → Steps m (xs ++ ys) n
steps_then m [] ys mid n first rest = subst (λ x. Steps x ys n) first rest
steps_then m (x ∷ xs) ys mid n first rest = (first.0, first.1, steps_then first.0 xs ys mid n first.2 rest)

told_then : (os ps : List Out) → told_by_all (os ++ ps) ≡ told_by_all os ++ told_by_all ps
told_then [] ps = refl
told_then (o ∷ os) ps = ap (λ (xs : List Line). told_by o ++ xs) (told_then os ps)
    ∙ sym (append_assoc (told_by o) (told_by_all os) (told_by_all ps))

-- nothing was told, and one event more
tells_none : (old new : NodeView) → new ≡ old → TellsOn old [] new
tells_none old new same m stands = (m, refl, subst (λ w. NodeStandsFor w m) (sym same) stands)

tells_next : (old mid new : NodeView) (e : Event) (o : Out) (os : List Out) → IsOfSettling e → IsStep old e o mid
    → TellsOn mid os new → TellsOn old (o ∷ os) new
tells_next old mid new e o os settles step rest m stands =
    let one = step.leads m stands in
    let more = rest one.0 one.2 in (
      more.0,
      steps_then m (told_by o) (told_by_all os) one.0 more.0 (lines_told m one.0 e o settles one.1) more.1,
      more.2,
    )

pub tells_then : (old mid new : NodeView) (os ps : List Out) → TellsOn old os mid → TellsOn mid ps new
    → TellsOn old (os ++ ps) new
tells_then old mid new os ps first rest m stands =
    let one = first m stands in
    let more = rest one.0 one.2 in (
      more.0,
      subst (λ (xs : List Line). Steps m xs more.0) (sym (told_then os ps))
          (steps_then m (told_by_all os) (told_by_all ps) one.0 more.0 one.1 more.1),
      more.2,
    )

-- events, and events up to one that is refused
tells_plays : (old new : NodeView) (es : List Event) (os : List Out) → AllByRecursion IsOfSettling es
    → Plays old es os new → TellsOn old os new
tells_plays old new [] [] settle h = tells_none old new h
tells_plays old new [] (o ∷ os) settle h = absurd h
tells_plays old new (e ∷ es) [] settle h = absurd h
tells_plays old new (e ∷ es) (o ∷ os) settle h =
    tells_next old h.0 new e o os settle.0 h.1 (tells_plays h.0 new es os settle.1 h.3)

tells_stops : (old new : NodeView) (es : List Event) (os : List Out) (r : Refusal) → AllByRecursion IsOfSettling es
    → StopsAt old es os r new → TellsOn old os new
tells_stops old new [] [] r settle h = absurd h
tells_stops old new [] (o ∷ os) r settle h = absurd h
tells_stops old new (e ∷ es) [] r settle (inl h) = tells_none old new h.1
tells_stops old new (e ∷ es) [] r settle (inr h) =
    tells_next old new new e (out.Refused r) [] settle.0 h (tells_none new new refl)
tells_stops old new (e ∷ es) (o ∷ os) r settle h =
    tells_next old h.0 new e o os settle.0 h.1 (tells_stops h.0 new es os r settle.1 h.3)

-- rounds
pub tells_rounds : (old new : NodeView) (rs : List Round) (outs : List Out) → Rounds old rs outs new
    → TellsOn old outs new
tells_rounds old new [] outs h =
    subst (λ (os : List Out). TellsOn old os new) (sym h.0) (tells_none old new h.1)
tells_rounds old new (r ∷ rs) outs h =
    subst (λ (os : List Out). TellsOn old os new) (sym h.3)
    (tells_then old h.0 new h.1 h.2 (tells_plays old h.0 (events_of old r) h.1 (all_of_settling old r) h.5)
    (tells_rounds h.0 new rs h.2 h.6))

pub tells_stopped : (old new : NodeView) (r : Round) (os : List Out) (refusal : Refusal)
    → StopsAt old (events_of old r) os refusal new → TellsOn old os new
tells_stopped old new r os refusal h = tells_stops old new (events_of old r) os refusal (all_of_settling old r) h
