-- From what the contracts of a node's calls give, its lines are serial.
use Rattle.std.specs.Prelude.{◌≡◌, ℕ, Bool, List, [], ◌++◌, Option, Result}
use Rattle.record_key.specs.declared.refusal.Refusal.{Refusal}
use Rattle.history.specs.declared.record.Record.{Record}
use Rattle.history.specs.ListMachine.{Line, fresh}
use Rattle.simulation.specs.Reading.{machine_read}
use Rattle.engine_history.specs.node_laws.specs.declared.event.Event.{Event}
use Rattle.engine_history.specs.node_laws.specs.declared.event.Out.{Out}
use Rattle.engine_history.specs.node_laws.specs.Forgetting.{without_messages}
use Rattle.engine_history.specs.node_laws.specs.Kept.{IsKept}
use Rattle.engine_history.specs.node_laws.specs.Node.{NodeView}
use Rattle.engine_history.specs.node_laws.specs.Rounds.{Settles}
use Rattle.engine_history.specs.node_laws.specs.Simulation.{NodeStandsFor, lines_of}
use Rattle.engine_history.specs.node_laws.specs.Stepping.{IsStep, Chain, TellsOn, told_by_all}
use Rattle.engine_history.specs.declared.step.Step.{Step}
use Rattle.engine_history.specs.Ending.{LeavesNode}
use Rattle.engine_history.specs.Steps.{Start, node_at, events, outs, RunsTo}
use Rattle.node_serial.specs.Telling.{lines_if, lines_in, HasTold, TellsSerially}

-- a new node (the clause `stands` of `World::new`), and one on a log, whoever wrote that (`stands` of `World::over`,
-- and of `open` and `renew` of `node_store`, with `kept` of `World::kept`)
abbrev pub NewHasTold : Type 0
NewHasTold = (w : NodeView) → NodeStandsFor w fresh → HasTold [] [] w

abbrev pub OpenedHasTold : Type 0
OpenedHasTold = (w : NodeView) → IsKept w → NodeStandsFor w (machine_read w.tc.log) → HasTold w.tc.log [] w

-- events, one after another (the clause `chain` of `drive`)
abbrev pub DriveIsSerial : Type 0
DriveIsSerial =
    (log : List Record) (lines : List Line) (old new : NodeView) (es : List Event) (os : List Out)
    → HasTold log lines old → Chain old es os new → TellsSerially log (lines ++ lines_in es os) new

-- one event (`World::step`)
abbrev pub StepIsSerial : Type 0
StepIsSerial =
    (log : List Record) (lines : List Line) (old new : NodeView) (e : Event) (o : Out)
    → HasTold log lines old → IsStep old e o new → TellsSerially log (lines ++ lines_if (lines_of e o)) new

-- whatever is known to tell clients these outputs (the last part of `bring_up`'s contract)
abbrev pub TellingIsSerial : Type 0
TellingIsSerial =
    (log : List Record) (lines : List Line) (old new : NodeView) (os : List Out)
    → HasTold log lines old → TellsOn old os new → TellsSerially log (lines ++ told_by_all os) new

-- `settle`: its outputs are those that it has added to what it was given
abbrev pub SettleIsSerial : Type 0
SettleIsSerial =
    (log : List Record) (lines : List Line) (old new : NodeView) (most : Option ℕ) (before after : List Out)
    (result : Result Bool Refusal) → HasTold log lines old → Settles old most before after result new
    → (os : List Out) × (after ≡ before ++ os) × TellsSerially log (lines ++ told_by_all os) new

-- `World::forget`
abbrev pub ForgettingTellsNothing : Type 0
ForgettingTellsNothing =
    (log : List Record) (lines : List Line) (w : NodeView) → HasTold log lines w
    → HasTold log lines (without_messages w)

-- an engine over a node (`start` of `Opened::over`), and the steps that it leaves (`run` of `Closed::kept`)
abbrev pub CloseIsSerial : Type 0
CloseIsSerial =
    (log : List Record) (lines : List Line) (old new : NodeView) (start : Start) (es : List Step)
    → HasTold log lines old → node_at start ≡ without_messages old → RunsTo start es new
    → TellsSerially log (lines ++ lines_in (events es) (outs es)) new

-- and the node that it leaves (`left` of `Closed::kept`)
abbrev pub LeftIsSerial : Type 0
LeftIsSerial =
    (log : List Record) (lines : List Line) (old left : NodeView) (start : Start) (es : List Step)
    → HasTold log lines old → node_at start ≡ without_messages old → LeavesNode start es left
    → TellsSerially log (lines ++ lines_in (events es) (outs es)) left
