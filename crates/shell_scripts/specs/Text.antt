-- The text of a script: what its lines come to, and what is printed of that.
use Rattle.std.specs.Prelude.{◌≡◌, ◌⊎◌, ℕ, Bool, true, false, ◌||◌, nat_lt, List, [], ◌∷◌, ◌++◌, Option, Some, None, Result, Ok, Err, length, ⊤, if◌then◌else◌, codes}
use Rattle.std.specs.Io.KnownBytes.{Appends}
use Rattle.record_key.specs.declared.refusal.Refusal.{Refusal}
use Rattle.record_key.specs.declared.refusal.Refusal.TheVariants as refusal
use Rattle.record_key.specs.FirstCause.{first_of}
use Rattle.record_key.specs.declared.op.Op.{Op}
use Rattle.record_key.specs.declared.op.Op.TheVariants as op
use Rattle.std.specs.FinMap.{entries}
use Rattle.history.specs.History.{plain}
use Rattle.history.specs.ListMachine.{Machine, Line, Steps, IsRun, fresh}
use Rattle.node_world.specs.node_laws.specs.Failing.{AreToCome}
use Rattle.node_world.specs.node_laws.specs.declared.event.Event.{Event}
use Rattle.node_world.specs.node_laws.specs.declared.event.Event.TheVariants as event
use Rattle.node_world.specs.node_laws.specs.declared.event.Out.{Out}
use Rattle.node_world.specs.node_laws.specs.declared.event.Out.TheVariants as out
use Rattle.node_world.specs.node_laws.specs.Node.{NodeView, fresh_node}
use Rattle.node_world.specs.node_laws.specs.Stepping.{IsStep, told_by_all}
use Rattle.node_world.specs.node_laws.specs.Simulation.{NodeStandsFor, IsSettled}
use Rattle.node_world.specs.node_laws.specs.Standing.{StandsForSome}
use Rattle.node_world.specs.node_laws.specs.Simulation as sim
use Rattle.node_world.specs.node_laws.specs.Forgetting.{without_messages}
use Rattle.node_world.specs.node_laws.specs.Rounds.{Settles}
use Rattle.row_ranges.specs.Beginnings.{beginning_end}
use Rattle.shell_scripts.specs.Labels.{Bindings, unbound, AreSameBindings, IsBound, IsNoted}
use Rattle.shell_scripts.specs.declared.line.Kind.{Kind}
use Rattle.shell_scripts.specs.declared.line.Kind.TheVariants as kind
use Rattle.shell_scripts.specs.declared.line.Call.{Call}
use Rattle.shell_scripts.specs.declared.line.Call.TheVariants as call
use Rattle.shell_scripts.specs.declared.line.LeafCall.{LeafCall}
use Rattle.shell_scripts.specs.declared.line.LeafCall.TheVariants as leaf_call
use Rattle.shell_scripts.specs.declared.line.Look.{Look}
use Rattle.shell_scripts.specs.declared.looks.Scan.{Scan}
use Rattle.shell_scripts.specs.declared.line_result.LineResult.{LineResult}
use Rattle.shell_scripts.specs.declared.line_result.LineResult.TheVariants as came
use Rattle.shell_scripts.specs.Script.{Command, begins, writes, adds, gets, scans, prefixes, calls, treats, steps, settles, tables, forgets, shows, lines_from, first_fault, commands_of, onto}
use Rattle.shell_scripts.specs.Ending.{is_failure, settled_text}
use Rattle.shell_scripts.specs.Stored.{table_text}
use Rattle.shell_scripts.specs.View.{rows_shown, part_text}
use Rattle.shell_scripts.specs.Printed.{refusal_line}
use Rattle.shell_scripts.specs.Looked.{out_so}

-- the label of a `begin` is bound to the transaction that it began
abbrev pub Rebinds : Out → List ℕ → Bindings → Bindings → Type 0
Rebinds (out.Begun txn) label old new = IsBound old new label txn
Rebinds _ label old new = AreSameBindings old new

-- `begin` is an event; that it is refused for want of memory may be for want of room for the label
abbrev pub Begins : List ℕ → NodeView → Bindings → Out → NodeView → Bindings → Type 0
Begins label before old output after new = IsStep before event.Begin output after × Rebinds output label old new

-- what is wrong with the lengths of a key and a value: an empty key first, then a word that is too long
abbrev pub long_fault : List ℕ → List ℕ → Option Refusal
long_fault key value = if nat_lt 32 (length key) || nat_lt 120 (length value) then Some refusal.TooLong else None

abbrev pub length_fault : List ℕ → List ℕ → Option Refusal
length_fault [] value = Some refusal.EmptyKey
length_fault (b ∷ bs) value = long_fault (b ∷ bs) value

-- an event, where there is no refusal before it
abbrev pub StepsUnless : Option Refusal → NodeView → Event → Out → NodeView → Type 0
StepsUnless None before e output after = IsStep before e output after
StepsUnless (Some r) before e output after = (output ≡ out.Refused r) × (after ≡ before)

-- the operation of a write
abbrev pub op_written : Kind → List ℕ → List ℕ → Op
op_written kind.Insert key value = op.Insert key value
op_written kind.Update key value = op.Update key value
op_written kind.Upsert key value = op.Upsert key value
op_written kind.Delete key value = op.Delete key

abbrev pub Writes : List ℕ → Kind → List ℕ → List ℕ → NodeView → Bindings → Out → NodeView → Type 0
Writes label k key value before labels output after =
    StepsUnless (length_fault key value) before (event.Act (labels.number label) (op_written k key value)) output after

abbrev pub is_empty : List ℕ → Bool
is_empty [] = true
is_empty (b ∷ bs) = false

abbrev pub is_long : List ℕ → Bool
is_long key = nat_lt 32 (length key)

-- what is wrong with the lengths of one or two keys: an empty one first, then one that is too long
abbrev pub keys_fault : List ℕ → Option (List ℕ) → Option Refusal
keys_fault low None = first_of ((is_empty low, refusal.EmptyKey) ∷ (is_long low, refusal.TooLong) ∷ [])
keys_fault low (Some high) =
    first_of ((is_empty low || is_empty high, refusal.EmptyKey) ∷ (is_long low || is_long high, refusal.TooLong) ∷ [])

abbrev pub AddsAmount : List ℕ → List ℕ → ℕ → NodeView → Bindings → Out → NodeView → Type 0
AddsAmount label key amount before labels output after =
    StepsUnless (keys_fault key None) before (event.Act (labels.number label) (op.Add key amount)) output after

abbrev pub Gets : List ℕ → List ℕ → NodeView → Bindings → Out → NodeView → Type 0
Gets label key before labels output after =
    StepsUnless (keys_fault key None) before (event.Get (labels.number label) key) output after

-- it is known how the rows are to be told of a scan that was asked for
abbrev pub Notes : Out → ℕ → Look → Bindings → Bindings → Type 0
Notes (out.Asked read) txn k old new = IsNoted old new txn k
Notes _ txn k old new = AreSameBindings old new

abbrev pub Scans : List ℕ → List ℕ → Option (List ℕ) → NodeView → Bindings → Out → NodeView → Type 0
Scans label low high before labels output after =
    StepsUnless (keys_fault low high) before (event.Scan (labels.number label) low high) output after

-- the keys that begin with a text are those from it on, below the end of them
abbrev pub Prefixes : List ℕ → List ℕ → NodeView → Bindings → Out → NodeView → Type 0
Prefixes label text before labels output after =
    StepsUnless (keys_fault text None) before (event.Scan (labels.number label) text (beginning_end text)) output after

-- the event of a leaf
abbrev pub leaf_event : LeafCall → List ℕ → Event
leaf_event leaf_call.Split key = event.Split key
leaf_event leaf_call.Merge key = event.Merge key
leaf_event leaf_call.Flush key = event.Flush key

abbrev pub Treats : LeafCall → List ℕ → NodeView → Out → NodeView → Type 0
Treats c key before output after = StepsUnless (keys_fault key None) before (leaf_event c key) output after

-- the event of a transaction
abbrev pub event_called : Call → ℕ → Event
event_called call.Save txn = event.Save txn
event_called (call.Back savepoint) txn = event.GoBack txn savepoint
event_called call.Rollback txn = event.Rollback txn
event_called call.Commit txn = event.Commit txn
event_called call.Send txn = event.Send txn
event_called call.Undo txn = event.Undo txn

-- a result that is one event's output of which this holds
abbrev pub IsEvent : (Out → Type 0) → LineResult → Type 0
IsEvent P (came.Event output) = P output
IsEvent P _ = ⊥

abbrev pub IsSettling : Option ℕ → NodeView → LineResult → NodeView → Type 0
IsSettling most before (came.Settled outs end) after = Settles before most [] outs.items end after
IsSettling most before _ after = ⊥

-- the records as they are, or memory for them was refused, or the data component is down
abbrev pub IsTableShown : NodeView → LineResult → Type 0
IsTableShown view (came.Table rows) = (view.dc_up ≡ true) × (rows ≡ rows_shown view)
IsTableShown view (came.Event output) = output ≡ out.Refused (if view.dc_up then refusal.NoMemory else refusal.NotConnected)
IsTableShown view _ = ⊥

-- what a line may do, from a node and labels, and what it leaves
abbrev pub Does : Command → NodeView → Bindings → LineResult → NodeView → Bindings → Type 0
Does (begins label) before old r after new = IsEvent (λ output. Begins label before old output after new) r
Does (writes label k key value) before old r after new =
    IsEvent (λ output. Writes label k key value before old output after) r × AreSameBindings old new
Does (adds label key amount) before old r after new =
    IsEvent (λ output. AddsAmount label key amount before old output after) r × AreSameBindings old new
Does (gets label key) before old r after new =
    IsEvent (λ output. Gets label key before old output after) r × AreSameBindings old new
Does (scans label low high k) before old r after new =
    IsEvent (λ output. Scans label low high before old output after × Notes output (old.number label) k old new) r
Does (prefixes label text k) before old r after new =
    IsEvent (λ output. Prefixes label text before old output after × Notes output (old.number label) k old new) r
Does (calls label c) before old r after new =
    IsEvent (λ output. IsStep before (event_called c (old.number label)) output after) r × AreSameBindings old new
Does (treats c key) before old r after new = IsEvent (λ output. Treats c key before output after) r × AreSameBindings old new
Does (steps e) before old r after new = IsEvent (λ output. IsStep before e output after) r × AreSameBindings old new
Does (settles most) before old r after new = IsSettling most before r after × AreSameBindings old new
Does tables before old r after new = IsTableShown before r × (after ≡ before) × AreSameBindings old new
Does forgets before old r after new =
    (r ≡ came.Forgotten) × (after ≡ without_messages before) × AreSameBindings old new
Does (shows p) before old r after new = (r ≡ came.Shown p) × (after ≡ before) × AreSameBindings old new

-- what a line comes to; a failure that was set is still to come then, so that no call of a device that was due has
-- succeeded
pub record ComesTo (command : Command) (before : NodeView) (old : Bindings) (r : LineResult) (after : NodeView)
    (new : Bindings) : Type 0 where
  pub does : Does command before old r after new
  pub to_come : AreToCome after

-- the client's call and the told lines of an event with its output; none, where the call never reached the node
abbrev pub lines_if : Option (List Line) → List Line
lines_if None = []
lines_if (Some lines) = lines

abbrev pub lines_unless : Option Refusal → Event → Out → List Line
lines_unless None e output = lines_if (sim.lines_of e output)
lines_unless (Some r) e output = []

-- the calls and the told lines of a line of the script, with what it came to
abbrev pub client_lines : Command → Bindings → LineResult → List Line
client_lines (begins label) labels (came.Event output) = lines_if (sim.lines_of event.Begin output)
client_lines (writes label k key value) labels (came.Event output) =
    lines_unless (length_fault key value) (event.Act (labels.number label) (op_written k key value)) output
client_lines (adds label key amount) labels (came.Event output) =
    lines_unless (keys_fault key None) (event.Act (labels.number label) (op.Add key amount)) output
client_lines (gets label key) labels (came.Event output) =
    lines_unless (keys_fault key None) (event.Get (labels.number label) key) output
client_lines (scans label low high k) labels (came.Event output) =
    lines_unless (keys_fault low high) (event.Scan (labels.number label) low high) output
client_lines (prefixes label text k) labels (came.Event output) =
    lines_unless (keys_fault text None) (event.Scan (labels.number label) text (beginning_end text)) output
client_lines (calls label c) labels (came.Event output) = lines_if (sim.lines_of (event_called c (labels.number label)) output)
client_lines (treats c key) labels (came.Event output) =
    lines_unless (keys_fault key None) (leaf_event c key) output
client_lines (steps e) labels (came.Event output) = lines_if (sim.lines_of e output)
client_lines (settles most) labels (came.Settled outs end) = told_by_all outs.items
client_lines _ labels r = []

-- what is printed of a line's result, where this is the node after it, and rows are told as these scans want it
abbrev pub result_text : LineResult → NodeView → List Scan → List ℕ
result_text (came.Event output) view asked = out_so asked output
result_text (came.Settled outs end) view asked = settled_text asked outs.items end
result_text (came.Table rows) view asked = table_text rows
result_text came.Forgotten view asked = codes "forgotten\n"
result_text (came.Shown p) view asked = part_text p view

abbrev pub has_failed_so : Out → Bool
has_failed_so (out.Refused r) = is_failure r
has_failed_so _ = false

abbrev pub settling_failed : Result Bool Refusal → Bool
settling_failed (Ok done) = false
settling_failed (Err r) = is_failure r

-- memory or a device failed in a line
abbrev pub has_failed : LineResult → Bool
has_failed (came.Event output) = has_failed_so output
has_failed (came.Settled outs end) = settling_failed end
has_failed _ = false

-- the exit status of a run that goes on behind a line: that of the lines behind it, but where the line failed
abbrev pub status_after : Bool → ℕ → ℕ
status_after failed status = if failed then 3 else status

-- these bytes are a beginning of the text
abbrev pub IsBeginning : List ℕ → List ℕ → Type 0
IsBeginning written text = (left : List ℕ) × (text ≡ written ++ left)

-- what is written for these lines from a node and labels on, and the exit status; a run continues behind a line that
-- failed, or ends there
pub data Runs (continues : Bool) : List Command → NodeView → Bindings → List ℕ → ℕ → Type 0 where
  -- no line is left
  done : (view : NodeView) (labels : Bindings) → Runs continues [] view labels [] 0
  -- the text of a line, and then of those behind it
  goes_on : (c : Command) (cs : List Command) (view : NodeView) (labels : Bindings) (r : LineResult) (after : NodeView)
      (next : Bindings) (text : List ℕ) (status : ℕ)
      → ComesTo c view labels r after next → (has_failed r ≡ true → continues ≡ true)
      → Runs continues cs after next text status
      → Runs continues (c ∷ cs) view labels (result_text r after next.scans ++ text) (status_after (has_failed r) status)
  -- memory or a device failed: the text of that line is the last
  fails : (c : Command) (cs : List Command) (view : NodeView) (labels : Bindings) (r : LineResult) (after : NodeView)
      (next : Bindings)
      → ComesTo c view labels r after next → has_failed r ≡ true → continues ≡ false
      → Runs continues (c ∷ cs) view labels (result_text r after next.scans) 3
  -- a write failed: a beginning of that line's text is the last
  is_cut : (c : Command) (cs : List Command) (view : NodeView) (labels : Bindings) (r : LineResult) (after : NodeView)
      (next : Bindings) (text : List ℕ)
      → ComesTo c view labels r after next → IsBeginning text (result_text r after next.scans)
      → Runs continues (c ∷ cs) view labels text 3

-- the calls and the told lines of a run
abbrev pub run_lines : (continues : Bool) (commands : List Command) (view : NodeView) (labels : Bindings)
    (text : List ℕ) (status : ℕ)
    → Runs continues commands view labels text status → List Line
run_lines _ _ _ _ _ _ (done view labels) = []
run_lines continues _ _ _ _ _ (goes_on c cs view labels r after next text status came on rest) =
    client_lines c labels r ++ run_lines continues cs after next text status rest
run_lines _ _ _ _ _ _ (fails c cs view labels r after next came failed over) = client_lines c labels r
run_lines _ _ _ _ _ _ (is_cut c cs view labels r after next text came cut) = client_lines c labels r

-- where it is told that the node is settled, it is
abbrev pub IsSettledBy : Command → LineResult → NodeView → Type 0
IsSettledBy (settles most) (came.Settled outs (Ok true)) after = IsSettled after
IsSettledBy _ r after = Unit {0}

-- a settled node's table has the rows of a plain map after the operations that stand for this machine
abbrev pub IsPlainTable : Command → LineResult → NodeView → Machine → Type 0
IsPlainTable tables (came.Table rows) view m = IsSettled view → rows ≡ entries (plain m.h)
IsPlainTable _ r view m = Unit {0}

-- from this machine on, which each line leads on, the tables of a run are so
abbrev pub HasPlainTables : (continues : Bool) (commands : List Command) (view : NodeView) (labels : Bindings)
    (text : List ℕ) (status : ℕ)
    → Runs continues commands view labels text status → Machine → Type 0
HasPlainTables _ _ _ _ _ _ (done view labels) m = Unit {0}
HasPlainTables continues _ _ _ _ _ (goes_on c cs view labels r after next text status came on rest) m =
    IsPlainTable c r view m × IsSettledBy c r after
    × ((n : Machine) × Steps m (client_lines c labels r) n × HasPlainTables continues cs after next text status rest n)
HasPlainTables _ _ _ _ _ _ (fails c cs view labels r after next came failed over) m = IsPlainTable c r view m
HasPlainTables _ _ _ _ _ _ (is_cut c cs view labels r after next text came cut) m = IsPlainTable c r view m

-- the text of these lines is written
pub record WritesRun (continues : Bool) (commands : List Command) (view : NodeView) (labels : Bindings)
    (old new : Option (List ℕ)) (status : ℕ) : Type 0 where
  pub text : List ℕ
  pub appended : Appends old new text
  pub runs : Runs continues commands view labels text status

-- a line, if there is one, is run and its text written: before what the lines behind it write where it failed not or the
-- run continues, else at the end
pub record RunsLine (continues failed : Bool) (command : Option Command) (view : NodeView) (labels : Bindings)
    (after : NodeView) (next : Bindings) (said : List ℕ) : Type 0 where
  pub goes_on : (failed ≡ true → continues ≡ true) → (cs : List Command) (text : List ℕ) (status : ℕ)
      → Runs continues cs after next text status
      → Runs continues (onto command cs) view labels (said ++ text) (status_after failed status)
  pub ends : failed ≡ true → continues ≡ false → (cs : List Command)
      → Runs continues (onto command cs) view labels said 3

-- the same, or a write failed
abbrev pub RunsOr : {E : Type 0} → Bool → Result Bool E → Option Command → NodeView → Bindings → NodeView → Bindings
    → List ℕ → Type 0
RunsOr continues (Ok failed) command view labels after next said =
    RunsLine continues failed command view labels after next said
RunsOr continues (Err error) command view labels after next said =
    (cs : List Command) → Runs continues (onto command cs) view labels said 3

-- what a line writes, whether or not the run continues behind a failure
pub record WritesLine {E : Type 0} (result : Result Bool E) (command : Option Command) (view : NodeView)
    (labels : Bindings) (after : NodeView) (next : Bindings) (old new : Option (List ℕ)) : Type 0 where
  pub said : List ℕ
  pub appended : Appends old new said
  pub runs : (continues : Bool) → RunsOr continues result command view labels after next said

-- a line alone with its exit status, or a beginning of it where a write failed
abbrev pub IsAlone : List ℕ → ℕ → List ℕ → ℕ → Type 0
IsAlone line own text status = ((text ≡ line) × (status ≡ own)) ⊎ (IsBeginning text line × (status ≡ 3))

-- nothing but this line, or a beginning of it, is written
pub record WritesAlone (line : List ℕ) (own : ℕ) (old new : Option (List ℕ)) (status : ℕ) : Type 0 where
  pub text : List ℕ
  pub appended : Appends old new text
  pub alone : IsAlone line own text status

-- the headline: the calls and the told lines of these lines are a run of the list machine, from the empty one on; and
-- whenever the node is settled a printed table is what a plain map holds after them
pub record IsToldRun (continues : Bool) (commands : List Command) (view : NodeView) (labels : Bindings)
    (text : List ℕ) (status : ℕ) : Type 0 where
  pub runs : Runs continues commands view labels text status
  pub is_run : IsRun (run_lines continues commands view labels text status runs)
  pub plain : HasPlainTables continues commands view labels text status runs fresh

-- whatever list machine the node stands for, and there is one, the calls and the told lines of these lines lead from it
-- to another
pub record IsLedRun (continues : Bool) (commands : List Command) (view : NodeView) (labels : Bindings)
    (text : List ℕ) (status : ℕ) : Type 0 where
  pub runs : Runs continues commands view labels text status
  pub stood : StandsForSome view
  pub leads : (m : Machine) → NodeStandsFor view m
      → (n : Machine) × Steps m (run_lines continues commands view labels text status runs) n
  pub plain : (m : Machine) → NodeStandsFor view m → HasPlainTables continues commands view labels text status runs m

-- the text of a script, where this is its first fault
abbrev pub IsTextAfterCheck : Bool → Option ℕ → List ℕ → List ℕ → ℕ → Type 0
IsTextAfterCheck continues (Some line) script text status = IsAlone (refusal_line (refusal.BadScript line)) 2 text status
IsTextAfterCheck continues None script text status =
    (labels : Bindings) × AreSameBindings unbound labels
    × IsToldRun continues (commands_of (lines_from script)) fresh_node labels text status

abbrev pub IsTextOf : Bool → List ℕ → List ℕ → ℕ → Type 0
IsTextOf continues script text status = IsTextAfterCheck continues (first_fault script) script text status

-- the same on this node, with these labels
abbrev pub IsCheckedFrom : Bool → NodeView → Bindings → Option ℕ → List ℕ → List ℕ → ℕ → Type 0
IsCheckedFrom continues view labels (Some line) script text status =
    IsAlone (refusal_line (refusal.BadScript line)) 2 text status
IsCheckedFrom continues view labels None script text status =
    IsLedRun continues (commands_of (lines_from script)) view labels text status

abbrev pub IsTextFrom : Bool → NodeView → Bindings → List ℕ → List ℕ → ℕ → Type 0
IsTextFrom continues view labels script text status =
    IsCheckedFrom continues view labels (first_fault script) script text status

-- what is written where the script could not be read: a device failed, or there was no memory for it or for a node
abbrev pub IsUnread : List ℕ → ℕ → Type 0
IsUnread text status = IsAlone (refusal_line refusal.NoMemory) 3 text status
    ⊎ IsAlone (refusal_line refusal.Device) 3 text status

-- the script is all that the reader had left, where that is known
abbrev pub IsAllOf : Option (List ℕ) → List ℕ → Type 0
IsAllOf None script = ⊤
IsAllOf (Some bytes) script = script ≡ bytes

-- the text of the script that was read is written, and nothing else
pub record WritesText (continues : Bool) (given old new : Option (List ℕ)) (status : ℕ) : Type 0 where
  pub text : List ℕ
  pub appended : Appends old new text
  pub is_text : ((script : List ℕ) × IsAllOf given script × IsTextOf continues script text status) ⊎ IsUnread text status

-- the same on this node, with these labels
pub record WritesTextFrom (continues : Bool) (view : NodeView) (labels : Bindings) (given old new : Option (List ℕ))
    (status : ℕ) : Type 0 where
  pub text : List ℕ
  pub appended : Appends old new text
  pub is_text : ((script : List ℕ) × IsAllOf given script × IsTextFrom continues view labels script text status)
      ⊎ IsUnread text status

-- and with no label bound
abbrev pub WritesTextOn : Bool → NodeView → Option (List ℕ) → Option (List ℕ) → Option (List ℕ) → ℕ → Type 0
WritesTextOn continues view given old new status =
    (labels : Bindings) × AreSameBindings unbound labels × WritesTextFrom continues view labels given old new status
