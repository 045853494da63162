-- What is told while the node settles, and how a line ends.
use Rattle.std.specs.Prelude.{ℕ, Bool, true, false, List, ◌++◌, Result, Ok, Err, codes, flat_map}
use Rattle.record_key.specs.declared.refusal.Refusal.{Refusal}
use Rattle.record_key.specs.declared.refusal.Refusal.TheVariants as refusal
use Rattle.node_world.specs.node_laws.specs.declared.event.Out.{Out}
use Rattle.shell_scripts.specs.Printed.{refusal_line}
use Rattle.shell_scripts.specs.declared.looks.Scan.{Scan}
use Rattle.shell_scripts.specs.Looked.{told_so}

-- no round is left, or as many were played as may be, or why it could not go on
abbrev pub end_line : Result Bool Refusal → List ℕ
end_line (Ok true) = codes "settled\n"
end_line (Ok false) = codes "paused\n"
end_line (Err r) = refusal_line r

abbrev pub settled_text : List Scan → List Out → Result Bool Refusal → List ℕ
settled_text scans outs end = flat_map (told_so scans) outs ++ end_line end

-- memory or a device failed
abbrev pub is_failure : Refusal → Bool
is_failure refusal.NoMemory = true
is_failure refusal.Device = true
is_failure _ = false
