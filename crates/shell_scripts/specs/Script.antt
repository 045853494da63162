-- The grammar of scripts, over their bytes.
use Rattle.std.specs.Prelude.{ℕ, ◌+◌, ◌==◌, ◌&&◌, Bool, true, not, nat_le, List, [], ◌∷◌, Option, Some, None, length, codes, bytes_eq, is_none, option_map, if◌then◌else◌}
use Rattle.std.specs.List.{slice_split}
use Rattle.node_world.specs.dc_store.specs.declared.devices.Device.TheVariants as of_dc
use Rattle.node_world.specs.node_laws.specs.declared.event.Event.{Event}
use Rattle.node_world.specs.node_laws.specs.declared.event.Event.TheVariants as event
use Rattle.shell_scripts.specs.declared.line.Kind.{Kind}
use Rattle.shell_scripts.specs.declared.line.Kind.TheVariants as kind
use Rattle.shell_scripts.specs.declared.line.Call.{Call}
use Rattle.shell_scripts.specs.declared.line.Call.TheVariants as call
use Rattle.shell_scripts.specs.declared.line.LeafCall.{LeafCall}
use Rattle.shell_scripts.specs.declared.line.LeafCall.TheVariants as leaf_call
use Rattle.shell_scripts.specs.declared.line.Component.{Component}
use Rattle.shell_scripts.specs.declared.line.Component.TheVariants as component
use Rattle.shell_scripts.specs.declared.line.Device.{Device}
use Rattle.shell_scripts.specs.declared.line.Device.TheVariants as device
use Rattle.shell_scripts.specs.declared.line.Part.{Part}
use Rattle.shell_scripts.specs.declared.line.Part.TheVariants as part
use Rattle.shell_scripts.specs.declared.line.Look.{Look}
use Rattle.shell_scripts.specs.declared.line.Look.TheVariants as look
use Rattle.shell_scripts.specs.declared.line.Written.{Written}
use Rattle.shell_scripts.specs.declared.line.Written.TheVariants as written
use Rattle.shell_scripts.specs.declared.line.Line.{Line}
use Rattle.shell_scripts.specs.declared.line.Line.TheVariants as line
use Rattle.shell_scripts.specs.Words.{words_of, label_in, written_in, end_in, number_in, amount_written}

-- what stands between the ends of lines, which are byte 10. A last end leaves an empty line, which is skipped
abbrev pub lines_from : List ℕ → List (List ℕ)
lines_from script = slice_split (λ b. b == 10) script

-- what a line asks for
pub data Command : Type 0 where
  -- a transaction, to be named by this label
  begins : List ℕ → Command
  -- a write of this label's transaction, to a key, of a value
  writes : List ℕ → Kind → List ℕ → List ℕ → Command
  -- an increment of this label's transaction, at a key, by an amount
  adds : List ℕ → List ℕ → ℕ → Command
  -- the value at a key, for this label's transaction
  gets : List ℕ → List ℕ → Command
  -- the rows from a key on, below another or to the end, for this label's transaction, to be told so
  scans : List ℕ → List ℕ → Option (List ℕ) → Look → Command
  -- the rows whose keys begin with a text
  prefixes : List ℕ → List ℕ → Look → Command
  -- an event of this label's transaction
  calls : List ℕ → Call → Command
  -- what happens to the leaf that has a key
  treats : LeafCall → List ℕ → Command
  -- an event
  steps : Event → Command
  -- the node works, for so many rounds at most where there is a number
  settles : Option ℕ → Command
  -- the records are printed
  tables : Command
  -- every message is let go
  forgets : Command
  shows : Part → Command

-- a line of one word
abbrev pub bare : List ℕ → Option Command
bare name =
    if bytes_eq name (codes "settle") then Some (settles None)
    else (if bytes_eq name (codes "force") then Some (steps event.Force)
    else (if bytes_eq name (codes "tend") then Some (steps event.Tend)
    else (if bytes_eq name (codes "checkpoint") then Some (steps event.Checkpoint)
    else (if bytes_eq name (codes "tell") then Some (steps event.Tell)
    else (if bytes_eq name (codes "connect") then Some (steps event.Reconnect)
    else (if bytes_eq name (codes "recover") then Some (steps event.Recover)
    else (if bytes_eq name (codes "table") then Some tables
    else (if bytes_eq name (codes "log") then Some (shows part.Log)
    else (if bytes_eq name (codes "leaves") then Some (shows part.Leaves)
    else (if bytes_eq name (codes "forget") then Some forgets else None))))))))))

-- the name of what happens to a label's transaction
abbrev pub call_named : List ℕ → Option Call
call_named name =
    if bytes_eq name (codes "save") then Some call.Save
    else (if bytes_eq name (codes "rollback") then Some call.Rollback
    else (if bytes_eq name (codes "commit") then Some call.Commit
    else (if bytes_eq name (codes "send") then Some call.Send
    else (if bytes_eq name (codes "undo") then Some call.Undo else None))))

-- a line of two words, the second a label
abbrev pub with_label : List ℕ → Option (List ℕ) → Option Command
with_label name None = None
with_label name (Some label) =
    if bytes_eq name (codes "begin") then Some (begins label) else option_map (calls label) (call_named name)

-- a line of two words, the second a number
abbrev pub with_number : List ℕ → Option ℕ → Option Command
with_number name None = None
with_number name (Some n) =
    if bytes_eq name (codes "low") then Some (steps (event.LowWater n))
    else (if bytes_eq name (codes "req") then Some (steps (event.Request n))
    else (if bytes_eq name (codes "rep") then Some (steps (event.Reply n))
    else (if bytes_eq name (codes "settle") then Some (settles (Some n)) else None)))

-- the name of what happens to a leaf
abbrev pub leaf_call_named : List ℕ → Option LeafCall
leaf_call_named name =
    if bytes_eq name (codes "split") then Some leaf_call.Split
    else (if bytes_eq name (codes "merge") then Some leaf_call.Merge
    else (if bytes_eq name (codes "flush") then Some leaf_call.Flush else None))

-- a line of two words, the second the key of a leaf
abbrev pub treating_leaf : List ℕ → Option (List ℕ) → Option Command
treating_leaf name None = None
treating_leaf name (Some key) = option_map (λ c. treats c key) (leaf_call_named name)

-- the component that a word names
abbrev pub component_in : List ℕ → Option Component
component_in word =
    if bytes_eq word (codes "tc") then Some component.Tc
    else (if bytes_eq word (codes "dc") then Some component.Dc else None)

-- a component loses what isn't on its devices; of its log's records that aren't stable so many stay, and so many
-- bytes of the next one
abbrev pub crash_of : Component → ℕ → ℕ → Event
crash_of component.Tc frames bytes = event.CrashTc frames bytes
crash_of component.Dc frames bytes = event.CrashDc frames bytes

-- a component is opened on its devices
abbrev pub restart_of : Component → Event
restart_of component.Tc = event.RestartTc
restart_of component.Dc = event.RestartDc

-- the device that a word names
abbrev pub device_in : List ℕ → Option Device
device_in word =
    if bytes_eq word (codes "tclog") then Some device.TcLog
    else (if bytes_eq word (codes "dclog") then Some device.DcLog
    else (if bytes_eq word (codes "pages") then Some device.Pages else None))

-- the device's call of this number from now fails
abbrev pub failing_call : Device → ℕ → Event
failing_call device.TcLog call = event.FailTc call
failing_call device.DcLog call = event.FailDc of_dc.Log call
failing_call device.Pages call = event.FailDc of_dc.Pages call

-- a line of three words, a device and the number of one of its calls, from 1, behind its name
abbrev pub with_device : List ℕ → Option Device → Option ℕ → Option Command
with_device name None call = None
with_device name (Some d) None = None
with_device name (Some d) (Some call) =
    if bytes_eq name (codes "fail") && nat_le 1 call then Some (steps (failing_call d call)) else None

-- a line of two words, the second a component
abbrev pub with_component : List ℕ → Option Component → Option Command
with_component name None = None
with_component name (Some c) = if bytes_eq name (codes "restart") then Some (steps (restart_of c)) else None

abbrev pub first_command : Option Command → Option Command → Option Command
first_command None second = second
first_command (Some command) second = Some command

-- a line of three words, a label and a key behind its name
abbrev pub with_key : List ℕ → Option (List ℕ) → Option (List ℕ) → Option Command
with_key name None key = None
with_key name (Some label) None = None
with_key name (Some label) (Some key) =
    if bytes_eq name (codes "get") then Some (gets label key)
    else (if bytes_eq name (codes "delete") then Some (writes label kind.Delete key [])
    else (if bytes_eq name (codes "prefix") then Some (prefixes label key look.All) else None))

-- a line of three words, a label and a savepoint behind its name
abbrev pub with_savepoint : List ℕ → Option (List ℕ) → Option ℕ → Option Command
with_savepoint name None savepoint = None
with_savepoint name (Some label) None = None
with_savepoint name (Some label) (Some savepoint) =
    if bytes_eq name (codes "back") then Some (calls label (call.Back savepoint)) else None

-- the name of a write of four words
abbrev pub kind_with_value : List ℕ → Option Kind
kind_with_value name =
    if bytes_eq name (codes "insert") then Some kind.Insert
    else (if bytes_eq name (codes "update") then Some kind.Update
    else (if bytes_eq name (codes "upsert") then Some kind.Upsert else None))

abbrev pub write_of : Option Kind → Option (List ℕ) → Option (List ℕ) → Option (List ℕ) → Option Command
write_of None label key value = None
write_of (Some k) None key value = None
write_of (Some k) (Some label) None value = None
write_of (Some k) (Some label) (Some key) None = None
write_of (Some k) (Some label) (Some key) (Some value) = Some (writes label k key value)

abbrev pub add_of : Option (List ℕ) → Option (List ℕ) → Option ℕ → Option Command
add_of None key amount = None
add_of (Some label) None amount = None
add_of (Some label) (Some key) None = None
add_of (Some label) (Some key) (Some amount) = Some (adds label key amount)

-- how rows are told, by one word
abbrev pub look_in : List ℕ → Option Look
look_in word =
    if bytes_eq word (codes "back") then Some look.Back
    else (if bytes_eq word (codes "count") then Some look.Count else None)

-- and by a word and a number
abbrev pub limit_in : List ℕ → Option ℕ → Option Look
limit_in word None = None
limit_in word (Some most) =
    if bytes_eq word (codes "first") then Some (look.First most)
    else (if bytes_eq word (codes "last") then Some (look.Last most) else None)

abbrev pub scan_of : Option (List ℕ) → Option (List ℕ) → Option (Option (List ℕ)) → Option Look → Option Command
scan_of label low high None = None
scan_of None low high (Some k) = None
scan_of (Some label) None high (Some k) = None
scan_of (Some label) (Some low) None (Some k) = None
scan_of (Some label) (Some low) (Some high) (Some k) = Some (scans label low high k)

abbrev pub prefix_of : Option (List ℕ) → Option (List ℕ) → Option Look → Option Command
prefix_of label text None = None
prefix_of None text (Some k) = None
prefix_of (Some label) None (Some k) = None
prefix_of (Some label) (Some text) (Some k) = Some (prefixes label text k)

abbrev pub crash_in : Option Component → Option ℕ → Option ℕ → Option Command
crash_in None frames bytes = None
crash_in (Some c) None bytes = None
crash_in (Some c) (Some frames) None = None
crash_in (Some c) (Some frames) (Some bytes) = Some (steps (crash_of c frames bytes))

-- a line of two words that has no label
abbrev pub unlabelled : List ℕ → List ℕ → Option Command
unlabelled name word =
    first_command (with_number name (number_in word))
    (first_command (treating_leaf name (written_in word)) (with_component name (component_in word)))

-- a line of three words
abbrev pub of_three : List ℕ → List ℕ → List ℕ → Option Command
of_three name first second =
    first_command (with_key name (label_in first) (written_in second))
    (first_command (with_savepoint name (label_in first) (number_in second))
    (with_device name (device_in first) (number_in second)))

-- a line of four words
abbrev pub of_four : List ℕ → List ℕ → List ℕ → List ℕ → Option Command
of_four name first second last =
    if bytes_eq name (codes "scan") then scan_of (label_in first) (written_in second) (end_in last) (Some look.All)
    else (if bytes_eq name (codes "prefix") then prefix_of (label_in first) (written_in second) (look_in last)
    else (if bytes_eq name (codes "crash") then crash_in (component_in first) (number_in second) (number_in last)
    else (if bytes_eq name (codes "add") then add_of (label_in first) (written_in second) (amount_written last)
    else write_of (kind_with_value name) (label_in first) (written_in second) (written_in last))))

-- a line of five words
abbrev pub of_five : List ℕ → List ℕ → List ℕ → List ℕ → List ℕ → Option Command
of_five name first second third fourth =
    if bytes_eq name (codes "scan") then scan_of (label_in first) (written_in second) (end_in third) (look_in fourth)
    else (if bytes_eq name (codes "prefix")
    then prefix_of (label_in first) (written_in second) (limit_in third (number_in fourth)) else None)

-- a line of six words
abbrev pub of_six : List ℕ → List ℕ → List ℕ → List ℕ → List ℕ → List ℕ → Option Command
of_six name first second third fourth fifth =
    if bytes_eq name (codes "scan")
    then scan_of (label_in first) (written_in second) (end_in third) (limit_in fourth (number_in fifth)) else None

-- the grammar: one case for each number of words
abbrev pub command_of : List (List ℕ) → Option Command
command_of (name ∷ []) = bare name
command_of (name ∷ word ∷ []) = first_command (with_label name (label_in word)) (unlabelled name word)
command_of (name ∷ first ∷ second ∷ []) = of_three name first second
command_of (name ∷ first ∷ second ∷ last ∷ []) = of_four name first second last
command_of (name ∷ first ∷ second ∷ third ∷ fourth ∷ []) = of_five name first second third fourth
command_of (name ∷ first ∷ second ∷ third ∷ fourth ∷ fifth ∷ []) = of_six name first second third fourth fifth
command_of _ = None

-- a line that is passed over: an empty one, or one that begins with `#`
abbrev pub is_skipped : List ℕ → Bool
is_skipped [] = true
is_skipped (b ∷ bs) = b == 35

-- the number of the first line that is neither skipped nor in the grammar, where the first has this number
abbrev pub is_fault : List ℕ → Bool
is_fault bytes = not (is_skipped bytes) && is_none (command_of (words_of bytes))

abbrev pub fault_from : ℕ → List (List ℕ) → Option ℕ
fault_from n [] = None
fault_from n (bytes ∷ rest) = if is_fault bytes then Some n else fault_from (n + 1) rest

abbrev pub first_fault : List ℕ → Option ℕ
first_fault script = fault_from 1 (lines_from script)

-- what a line asks for: nothing where it is skipped
abbrev pub asked_by : List ℕ → Option Command
asked_by bytes = if is_skipped bytes then None else command_of (words_of bytes)

abbrev pub onto : Option Command → List Command → List Command
onto None commands = commands
onto (Some command) commands = command ∷ commands

-- what the lines ask for, in order
abbrev pub commands_of : List (List ℕ) → List Command
commands_of [] = []
commands_of (bytes ∷ rest) = onto (asked_by bytes) (commands_of rest)

-- the bytes of a key or a value as a line gives it
abbrev pub written_bytes : Written → List ℕ
written_bytes (written.Text text) = text.now
written_bytes (written.Bytes value) = value

-- what a line that was read asks for
abbrev pub meaning : Line → Command
meaning (line.Begin label) = begins label
meaning (line.Write label k key value) = writes label k (written_bytes key) (written_bytes value)
meaning (line.Add label key amount) = adds label (written_bytes key) amount
meaning (line.Get label key) = gets label (written_bytes key)
meaning (line.Scan label low high k) = scans label (written_bytes low) (option_map written_bytes high) k
meaning (line.Prefix label text k) = prefixes label (written_bytes text) k
meaning (line.Call label c) = calls label c
meaning (line.Leaf c key) = treats c (written_bytes key)
meaning (line.Step e) = steps e
meaning (line.Settle most) = settles most
meaning line.Table = tables
meaning line.Forget = forgets
meaning (line.Show p) = shows p

-- the parts of what is left, cut at this byte
abbrev pub parts_left : ℕ → Option (List ℕ) → List (List ℕ)
parts_left at None = []
parts_left at (Some bytes) = slice_split (λ b. b == at) bytes

-- how many bytes are left, and one for the line that they begin
abbrev pub size_left : Option (List ℕ) → ℕ
size_left None = 0
size_left (Some bytes) = length bytes + 1
