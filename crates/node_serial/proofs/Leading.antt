-- What is told leads on from what was told before, whichever call tells it.
use Rattle.std.proofs.Common.{◌≡◌, true, false, List, [], ◌∷◌, ◌++◌, Option, Some, None, Ok, Err, refl, sym, ap, ◌∙◌, subst, append_assoc}
use Rattle.std.specs.Prelude.{filter}
use Rattle.history.specs.declared.record.Record.{Record}
use Rattle.history.specs.History.{entries_of}
use Rattle.history.specs.ListMachine.{Machine, Line, Steps}
use Rattle.simulation.specs.View.{standing}
use Rattle.simulation.proofs.Told.{steps_after}
use Rattle.simulation.proofs.Reading.{opened_is_read}
use Rattle.engine_history.specs.node_laws.specs.declared.event.Event.{Event}
use Rattle.engine_history.specs.node_laws.specs.declared.event.Out.{Out}
use Rattle.engine_history.specs.node_laws.specs.Node.{NodeView}
use Rattle.engine_history.specs.node_laws.specs.Simulation.{NodeStandsFor, StepsIf, lines_of}
use Rattle.engine_history.specs.node_laws.specs.Stepping.{IsStep, Chain, told_by_all}
use Rattle.engine_history.specs.Steps.{node_at, events, outs}
use Rattle.serial_laws.specs.Replay.{replay}
use Rattle.serial_laws.specs.Alone.{Alone, starts, is_line_of, StepsAlone}
use Rattle.serial_laws.specs.Serial.{asked, table_before, TellsOf}
use Rattle.serial_laws.proofs.Runs.{fresh_is_a_start, answers_stand, runs_are_serial, told_is_serial, reads_repeat, runs_alone}
use Rattle.node_serial.specs.Telling.{lines_if, lines_in, HasTold, TellsSerially}
use Rattle.node_serial.specs.Laws.{NewHasTold, OpenedHasTold, DriveIsSerial, StepIsSerial, TellingIsSerial, SettleIsSerial, ForgettingTellsNothing, CloseIsSerial, LeftIsSerial}

-- all that the laws say of the run
serially : (log : List Record) (lines : List Line) (w : NodeView) → HasTold log lines w → TellsSerially log lines w
serially log lines w told = record {
  told = told;
  stand = (answers_stand log told.start told.now lines told.begins told.run).0;
  serial = runs_are_serial log told.start told.now lines told.begins told.run;
  in_turn = λ earlier more line m mid t split first step rest none stands.
      subst (λ ls. TellsOf (replay (table_before t (asked log ls) told.now.h) (entries_of t (standing m.h))) m t line)
      (sym split)
      (told_is_serial log told.start m mid told.now earlier more line t told.begins first step rest none stands);
  again = λ earlier between more m mid k n t lo hi rows again split first reads step rest later step_again none own.
      reads_repeat log told.start m mid k n earlier between t lo hi rows again told.begins first reads step rest later
      step_again none own;
  alone = λ earlier more m mid t split first step rest none stands.
      subst (λ ls. (x : Alone)
      × StepsAlone (table_before t (asked log ls) told.now.h) starts (filter (is_line_of t) more) x
      × (x.own ≡ entries_of t (standing told.now.h)))
      (sym split)
      (runs_alone log told.start m mid told.now earlier more t told.begins first step rest none stands);
}

-- whatever machine the node stood for, these lines lead from it to one that it stands for then
abbrev LeadOn : NodeView → List Line → NodeView → Type 0
LeadOn old lines new = (m : Machine) → NodeStandsFor old m → (n : Machine) × Steps m lines n × NodeStandsFor new n

told_on : (log : List Record) (lines more : List Line) (old new : NodeView) → HasTold log lines old
    → LeadOn old more new → TellsSerially log (lines ++ more) new
told_on log lines more old new told leads =
    let next = leads told.now told.stands in
    serially log (lines ++ more) new (record {
      start = told.start;
      begins = told.begins;
      now = next.0;
      run = steps_after told.start lines more told.now next.0 told.run next.1;
      stands = next.2;
    })

some_lines : (m n : Machine) (lines : Option (List Line)) → StepsIf m lines n → Steps m (lines_if lines) n
some_lines m n None h = absurd h
some_lines m n (Some lines) h = h

step_leads : (old new : NodeView) (e : Event) (o : Out) → IsStep old e o new → LeadOn old (lines_if (lines_of e o)) new
step_leads old new e o step m stands =
    let next = step.leads m stands in
    (next.0, some_lines m next.0 (lines_of e o) next.1, next.2)

chain_leads : (old new : NodeView) (es : List Event) (os : List Out) → Chain old es os new
    → LeadOn old (lines_in es os) new
chain_leads old new [] [] chain m stands = (m, refl, subst (λ w. NodeStandsFor w m) (sym chain) stands)
chain_leads old new [] (o ∷ os) chain m stands = absurd chain
chain_leads old new (e ∷ es) [] chain m stands = absurd chain
chain_leads old new (e ∷ es) (o ∷ os) chain m stands =
    let first = step_leads old chain.0 e o chain.1 m stands in
    let rest = chain_leads chain.0 new es os chain.2 first.0 first.2 in (
      rest.0,
      steps_after m (lines_if (lines_of e o)) (lines_in es os) first.0 rest.0 first.1 rest.1,
      rest.2,
    )

pub new_has_told : NewHasTold
new_has_told w stands = record {
  start = _;
  begins = fresh_is_a_start;
  now = _;
  run = refl;
  stands = stands;
}

pub opened_has_told : OpenedHasTold
opened_has_told w kept stands = record {
  start = _;
  begins = record { legal = kept.tc.legal; right = kept.right; stands = opened_is_read w.tc.log kept.tc.legal };
  now = _;
  run = refl;
  stands = stands;
}

pub drive_is_serial : DriveIsSerial
drive_is_serial log lines old new es os told chain =
    told_on log lines (lines_in es os) old new told (chain_leads old new es os chain)

pub step_is_serial : StepIsSerial
step_is_serial log lines old new e o told step =
    told_on log lines (lines_if (lines_of e o)) old new told (step_leads old new e o step)

pub telling_is_serial : TellingIsSerial
telling_is_serial log lines old new os told tells = told_on log lines (told_by_all os) old new told tells

pub settle_is_serial : SettleIsSerial
settle_is_serial log lines old new most before after (Ok true) told settles = (
  settles.0.outs,
  settles.0.appended,
  telling_is_serial log lines old new settles.0.outs told settles.4,
)
settle_is_serial log lines old new most before after (Ok false) told settles = (
  settles.0.outs,
  settles.0.appended,
  telling_is_serial log lines old new settles.0.outs told settles.4,
)
settle_is_serial log lines old new most before after (Err r) told settles =
    let broken = settles.0 in (
      broken.rounds.outs ++ broken.stopped.outs,
      broken.stopped.appended ∙ ap (λ os. os ++ broken.stopped.outs) broken.rounds.appended
          ∙ append_assoc before broken.rounds.outs broken.stopped.outs,
      telling_is_serial log lines old new (broken.rounds.outs ++ broken.stopped.outs) told settles.3,
    )

pub forgetting_tells_nothing : ForgettingTellsNothing
forgetting_tells_nothing log lines w told = record {
  start = told.start;
  begins = told.begins;
  now = told.now;
  run = told.run;
  stands = told.stands;
}

pub close_is_serial : CloseIsSerial
close_is_serial log lines old new start es told is run =
    told_on log lines (lines_in (events es) (outs es)) (node_at start) new
    (subst (HasTold log lines) (sym is) (forgetting_tells_nothing log lines old told))
    (chain_leads (node_at start) new (events es) (outs es) run.chain)

pub left_is_serial : LeftIsSerial
left_is_serial log lines old left start es told is leaves =
    let run = close_is_serial log lines old leaves.node start es told is leaves.runs in
    let more = lines ++ lines_in (events es) (outs es) in
    subst (TellsSerially log more) (sym leaves.left_is)
    (serially log more _ (forgetting_tells_nothing log more leaves.node run.told))
