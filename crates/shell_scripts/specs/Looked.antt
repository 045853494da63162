-- The exact bytes of rows, as their scan wants them to be told.
use Rattle.std.specs.Prelude.{ℕ, ◌-◌, List, codes, length, take, drop, reverse}
use Rattle.record_key.specs.Rows.{Row}
use Rattle.node_world.specs.node_laws.specs.declared.event.Out.{Out}
use Rattle.node_world.specs.node_laws.specs.declared.event.Out.TheVariants as out
use Rattle.shell_scripts.specs.declared.line.Look.{Look}
use Rattle.shell_scripts.specs.declared.line.Look.TheVariants as look
use Rattle.shell_scripts.specs.declared.looks.Scan.{Scan}
use Rattle.shell_scripts.specs.Answers.{counted_line, found_text}
use Rattle.shell_scripts.specs.Looks.{look_for}
use Rattle.shell_scripts.specs.Told.{told_text}
use Rattle.shell_scripts.specs.Outcome.{out_text}

-- the rows that a transaction asked for: those that are told, and first how many they are; or how many there are
abbrev pub looked_text : Look → ℕ → List Row → List ℕ
looked_text look.All txn rows = found_text txn rows
looked_text look.Back txn rows = found_text txn (reverse rows)
looked_text (look.First most) txn rows = found_text txn (take most rows)
looked_text (look.Last most) txn rows = found_text txn (reverse (drop (length rows - most) rows))
looked_text look.Count txn rows = counted_line (codes "count ") txn (length rows)

-- what clients are told by an output, rows as their scans want it
abbrev pub told_so : List Scan → Out → List ℕ
told_so scans (out.Rows txn rows) = looked_text (look_for txn scans) txn rows
told_so scans output = told_text output

-- the lines of one event's output, rows as their scans want it
abbrev pub out_so : List Scan → Out → List ℕ
out_so scans (out.Rows txn rows) = looked_text (look_for txn scans) txn rows
out_so scans output = out_text output
