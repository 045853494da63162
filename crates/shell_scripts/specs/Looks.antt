-- How the rows are told of which scans have asked.
use Rattle.std.specs.Prelude.{ℕ, ◌==◌, List, ◌∷◌, Option, None, Some, get_or, position, take}
use Rattle.shell_scripts.specs.declared.line.Look.{Look}
use Rattle.shell_scripts.specs.declared.line.Look.TheVariants as look
use Rattle.shell_scripts.specs.declared.looks.Scan.{Scan}

-- how the rows of the scan at this place are told
abbrev pub look_at : List Scan → Option ℕ → Look
look_at scans None = look.All
look_at scans (Some place) = (get_or scans place (record { txn = 0; look = look.All })).look

-- how the rows of a transaction's last scan are told
abbrev pub look_for : ℕ → List Scan → Look
look_for txn scans = look_at scans (position (λ s. s.txn == txn) scans)

-- one more was asked for: of 64 it is known, the latest first
abbrev pub noted : ℕ → Look → List Scan → List Scan
noted txn look scans = record { txn = txn; look = look } ∷ take 63 scans
