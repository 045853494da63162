-- The calls and the told lines of a script are a run of the list machine.
use Rattle.std.proofs.Common.{◌≡◌, ℕ, Bool, true, false, List, [], ◌∷◌, ◌++◌, Option, Some, None, Result, Ok, Err, refl, sym, ap, ◌∙◌, subst, inl, inr}
use Rattle.record_key.specs.declared.refusal.Refusal.{Refusal}
use Rattle.std.specs.FinMap.{entries}
use Rattle.history.specs.ListMachine.{Machine, Line, Steps, fresh}
use Rattle.node_world.specs.node_laws.specs.declared.event.Event.{Event}
use Rattle.node_world.specs.node_laws.specs.declared.event.Event.TheVariants as event
use Rattle.node_world.specs.node_laws.specs.declared.event.Out.{Out}
use Rattle.node_world.specs.node_laws.specs.declared.event.Out.TheVariants as out
use Rattle.node_world.specs.node_laws.specs.Node.{NodeView, StepsTo, fresh_node}
use Rattle.node_world.specs.node_laws.specs.Kept.{IsKept}
use Rattle.node_world.specs.node_laws.specs.Simulation.{NodeStandsFor, StepsIf}
use Rattle.node_world.specs.node_laws.specs.Standing.{IsNode}
use Rattle.node_world.specs.node_laws.specs.Simulation as sim
use Rattle.node_world.specs.node_laws.specs.Stepping.{IsStep, TellsOn, told_by_all}
use Rattle.node_world.specs.node_laws.specs.declared.round.Round.{Round}
use Rattle.node_world.specs.node_laws.specs.Rounds.{Settles, Plays, StopsAt, Rounds, events_of}
use Rattle.node_world.specs.node_laws.proofs.Settles.Telling.{steps_then}
use Rattle.node_world.specs.node_laws.proofs.Machine.Headline.{follows, fresh_stands_for}
use Rattle.node_world.specs.node_laws.proofs.Machine.Settled.{settled_rows}
use Rattle.node_world.specs.node_laws.proofs.Stood.{emptied}
use Rattle.shell_scripts.specs.declared.line_result.LineResult.{LineResult}
use Rattle.shell_scripts.specs.declared.line_result.LineResult.TheVariants as came
use Rattle.row_ranges.specs.Beginnings.{beginning_end}
use Rattle.shell_scripts.specs.Labels.{Bindings}
use Rattle.shell_scripts.specs.Script.{Command, begins, writes, adds, gets, scans, prefixes, calls, treats, steps, settles, tables, forgets, shows}
use Rattle.shell_scripts.specs.Text.{Does, StepsUnless, Runs, goes_on, fails, is_cut, done, lines_if, lines_unless, client_lines, run_lines, op_written, length_fault, keys_fault, event_called, leaf_event, IsPlainTable, IsSettledBy, HasPlainTables, IsLedRun, IsToldRun}

-- whatever machine the node stood for, these lines lead from it to one that the node stands for then; and what holds of
-- a node at every moment goes on to hold
abbrev LeadsBy : NodeView → List Line → NodeView → Type 0
LeadsBy old lines new =
    (IsKept old → IsKept new)
    × ((m : Machine) → NodeStandsFor old m → (n : Machine) × Steps m lines n × NodeStandsFor new n)

-- an event
by_lines : (m n : Machine) (lines : Option (List Line)) → StepsIf m lines n → Steps m (lines_if lines) n
by_lines m n None h = absurd h
by_lines m n (Some lines) h = h

step_leads : (old new : NodeView) (e : Event) (o : Out) → IsStep old e o new
    → LeadsBy old (lines_if (sim.lines_of e o)) new
step_leads old new e o step = (
  λ kept. step.kept,
  λ m stands. let one = step.leads m stands in (one.0, by_lines m one.0 (sim.lines_of e o) one.1, one.2),
)

-- a refused begin, also one that never reached the node
pub refused_step : (w : NodeView) (r : Refusal) → IsKept w → StepsTo w event.Begin (out.Refused r) w
    → IsStep w event.Begin (out.Refused r) w
refused_step w r k step =
    let all = follows w w event.Begin (out.Refused r) k k.tc k.dc step in
    record { step = step; leads = all.leads; kept = all.kept }

-- nothing
stays : (old new : NodeView) → new ≡ old → LeadsBy old [] new
stays old new same = (
  λ kept. subst IsKept (sym same) kept,
  λ m stands. (m, refl, subst (λ w. NodeStandsFor w m) (sym same) stands),
)

unless_leads : (fault : Option Refusal) (old new : NodeView) (e : Event) (o : Out) → StepsUnless fault old e o new
    → LeadsBy old (lines_unless fault e o) new
unless_leads None old new e o step = step_leads old new e o step
unless_leads (Some r) old new e o refused = stays old new refused.1

-- rounds of settling
plays_keep : (old new : NodeView) (es : List Event) (os : List Out) → Plays old es os new → IsKept old → IsKept new
plays_keep old new [] [] h k = subst IsKept (sym h) k
plays_keep old new [] (o ∷ os) h k = absurd h
plays_keep old new (e ∷ es) [] h k = absurd h
plays_keep old new (e ∷ es) (o ∷ os) h k = plays_keep h.0 new es os h.3 h.1.kept

stops_keep : (old new : NodeView) (es : List Event) (os : List Out) (r : Refusal) → StopsAt old es os r new → IsKept old
    → IsKept new
stops_keep old new [] [] r h k = absurd h
stops_keep old new [] (o ∷ os) r h k = absurd h
stops_keep old new (e ∷ es) [] r (inl h) k = subst IsKept (sym h.1) k
stops_keep old new (e ∷ es) [] r (inr h) k = h.kept
stops_keep old new (e ∷ es) (o ∷ os) r h k = stops_keep h.0 new es os r h.3 h.1.kept

rounds_keep : (old new : NodeView) (rs : List Round) (outs : List Out) → Rounds old rs outs new → IsKept old
    → IsKept new
rounds_keep old new [] outs h k = subst IsKept (sym h.1) k
rounds_keep old new (r ∷ rs) outs h k =
    rounds_keep h.0 new rs h.2 h.6 (plays_keep old h.0 (events_of old r) h.1 h.5 k)

settles_keep : (most : Option ℕ) (old new : NodeView) (outs : List Out) (result : Result Bool Refusal)
    → Settles old most [] outs result new → IsKept old → IsKept new
settles_keep most old new outs (Ok true) h k = rounds_keep old new h.0.rounds h.0.outs h.0.played k
settles_keep most old new outs (Ok false) h k = rounds_keep old new h.0.rounds h.0.outs h.0.played k
settles_keep most old new outs (Err r) h k =
    let b = h.0 in
    stops_keep b.last new (events_of b.last b.round) b.stopped.outs r b.stopped.stops
    (rounds_keep old b.last b.rounds.rounds b.rounds.outs b.rounds.played k)

settles_tells : (most : Option ℕ) (old new : NodeView) (outs : List Out) (result : Result Bool Refusal)
    → Settles old most [] outs result new → TellsOn old outs new
settles_tells most old new outs (Ok true) h =
    subst (λ (os : List Out). TellsOn old os new) (sym h.0.appended) h.4
settles_tells most old new outs (Ok false) h =
    subst (λ (os : List Out). TellsOn old os new) (sym h.0.appended) h.4
settles_tells most old new outs (Err r) h =
    subst (λ (os : List Out). TellsOn old os new)
    (sym (h.0.stopped.appended ∙ ap (λ (os : List Out). os ++ h.0.stopped.outs) h.0.rounds.appended)) h.3

settles_leads : (most : Option ℕ) (old new : NodeView) (outs : List Out) (result : Result Bool Refusal)
    → Settles old most [] outs result new → LeadsBy old (told_by_all outs) new
settles_leads most old new outs result h =
    (settles_keep most old new outs result h, settles_tells most old new outs result h)

-- a line
line_leads : (c : Command) (old : NodeView) (labels : Bindings) (r : LineResult) (new : NodeView) (next : Bindings)
    → Does c old labels r new next → LeadsBy old (client_lines c labels r) new
line_leads (begins label) old labels (came.Event o) new next h = step_leads old new event.Begin o h.0
line_leads (begins label) old labels _ new next h = absurd h
line_leads (writes label k key value) old labels (came.Event o) new next h =
    unless_leads (length_fault key value) old new (event.Act (labels.number label) (op_written k key value)) o h.0
line_leads (writes label k key value) old labels _ new next h = absurd h.0
line_leads (adds label key amount) old labels (came.Event o) new next h =
    unless_leads (keys_fault key None) old new _ o h.0
line_leads (adds label key amount) old labels _ new next h = absurd h.0
line_leads (gets label key) old labels (came.Event o) new next h =
    unless_leads (keys_fault key None) old new (event.Get (labels.number label) key) o h.0
line_leads (gets label key) old labels _ new next h = absurd h.0
line_leads (scans label low high k) old labels (came.Event o) new next h =
    unless_leads (keys_fault low high) old new (event.Scan (labels.number label) low high) o h.0
line_leads (scans label low high k) old labels _ new next h = absurd h
line_leads (prefixes label text k) old labels (came.Event o) new next h =
    unless_leads (keys_fault text None) old new (event.Scan (labels.number label) text (beginning_end text)) o h.0
line_leads (prefixes label text k) old labels _ new next h = absurd h
line_leads (calls label c) old labels (came.Event o) new next h =
    step_leads old new (event_called c (labels.number label)) o h.0
line_leads (calls label c) old labels _ new next h = absurd h.0
line_leads (treats c key) old labels (came.Event o) new next h =
    unless_leads (keys_fault key None) old new (leaf_event c key) o h.0
line_leads (treats c key) old labels _ new next h = absurd h.0
line_leads (steps e) old labels (came.Event o) new next h = step_leads old new e o h.0
line_leads (steps e) old labels _ new next h = absurd h.0
line_leads (settles most) old labels (came.Settled outs end) new next h =
    settles_leads most old new outs.items end h.0
line_leads (settles most) old labels _ new next h = absurd h.0
line_leads tables old labels r new next h = stays old new h.1
line_leads forgets old labels r new next h = (
  λ kept. subst IsKept (sym h.1) (emptied old kept),
  λ m stands. (m, refl, subst (λ w. NodeStandsFor w m) (sym h.1) stands),
)
line_leads (shows p) old labels r new next h = stays old new h.1

-- lines one after another
run_leads : (continues : Bool) (cs : List Command) (view : NodeView) (labels : Bindings) (text : List ℕ) (status : ℕ)
    (run : Runs continues cs view labels text status) (m : Machine) → NodeStandsFor view m
    → (n : Machine) × Steps m (run_lines continues cs view labels text status run) n
run_leads _ _ _ _ _ _ (done view labels) m stands = (m, refl)
run_leads continues _ _ _ _ _ (goes_on c cs view labels r after next text status comes on rest) m stands =
    let one = (line_leads c view labels r after next comes.does).1 m stands in
    let more = run_leads continues cs after next text status rest one.0 one.2 in (
      more.0,
      steps_then m (client_lines c labels r) (run_lines continues cs after next text status rest) one.0 more.0 one.1
          more.1,
    )
run_leads _ _ _ _ _ _ (fails c cs view labels r after next comes failed over) m stands =
    let one = (line_leads c view labels r after next comes.does).1 m stands in (one.0, one.1)
run_leads _ _ _ _ _ _ (is_cut c cs view labels r after next text comes cut) m stands =
    let one = (line_leads c view labels r after next comes.does).1 m stands in (one.0, one.1)

-- what a table shows of a settled node, and where one is told to be settled
plain_table : (c : Command) (view : NodeView) (labels : Bindings) (r : LineResult) (after : NodeView) (next : Bindings)
    (m : Machine) → Does c view labels r after next → IsKept view → NodeStandsFor view m → IsPlainTable c r view m
plain_table tables view labels (came.Table rows) after next m h k stands = λ settled.
    h.0.1 ∙ ap entries (settled_rows view m k stands settled)
plain_table tables view labels _ after next m h k stands = tt
plain_table _ view labels r after next m h k stands = tt

settled_by : (c : Command) (view : NodeView) (labels : Bindings) (r : LineResult) (after : NodeView) (next : Bindings)
    → Does c view labels r after next → IsSettledBy c r after
settled_by (settles most) view labels (came.Settled outs (Ok true)) after next h = h.0.3.settled
settled_by (settles most) view labels _ after next h = tt
settled_by _ view labels r after next h = tt

plain_tables : (continues : Bool) (cs : List Command) (view : NodeView) (labels : Bindings) (text : List ℕ) (status : ℕ)
    (run : Runs continues cs view labels text status) (m : Machine) → IsKept view → NodeStandsFor view m
    → HasPlainTables continues cs view labels text status run m
plain_tables _ _ _ _ _ _ (done view labels) m k stands = tt
plain_tables continues _ _ _ _ _ (goes_on c cs view labels r after next text status comes on rest) m k stands =
    let led = line_leads c view labels r after next comes.does in
    let one = led.1 m stands in (
      plain_table c view labels r after next m comes.does k stands,
      settled_by c view labels r after next comes.does,
      (one.0, one.1, plain_tables continues cs after next text status rest one.0 (led.0 k) one.2),
    )
plain_tables _ _ _ _ _ _ (fails c cs view labels r after next comes failed over) m k stands =
    plain_table c view labels r after next m comes.does k stands
plain_tables _ _ _ _ _ _ (is_cut c cs view labels r after next text comes cut) m k stands =
    plain_table c view labels r after next m comes.does k stands

pub led_run : (continues : Bool) (cs : List Command) (view : NodeView) (labels : Bindings) (text : List ℕ) (status : ℕ)
    → IsNode view → Runs continues cs view labels text status → IsLedRun continues cs view labels text status
led_run continues cs view labels text status k runs = record {
  runs = runs;
  stood = k.stood;
  leads = λ m stands. run_leads continues cs view labels text status runs m stands;
  plain = λ m stands. plain_tables continues cs view labels text status runs m k.kept stands;
}

-- a new node stands for the empty list machine
pub told_run : (continues : Bool) (cs : List Command) (labels : Bindings) (text : List ℕ) (status : ℕ)
    → IsLedRun continues cs fresh_node labels text status → IsToldRun continues cs fresh_node labels text status
told_run continues cs labels text status led = record {
  runs = led.runs;
  is_run = led.leads fresh fresh_stands_for;
  plain = led.plain fresh fresh_stands_for;
}
