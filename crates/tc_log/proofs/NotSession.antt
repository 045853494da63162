-- The last record that isn't a Session stays known as records are taken in.
use Rattle.std.proofs.Common.{◌≡◌, ℕ, ◌+◌, List, ◌∷◌, length}
use Rattle.history.specs.declared.record.Record.{Record}
use Rattle.history.specs.declared.record.Record.TheVariants as is
use Rattle.tc_log.specs.LogView.{last_not_session}
use Rattle.tc_log.specs.NotSession.{last_with}

pub last_longer : (r : Record) (log : List Record) (n last : ℕ) → n ≡ length log + 1 → last ≡ last_not_session log
    → last_with r n last ≡ last_not_session (r ∷ log)
last_longer is.Session log n last number was = was
last_longer is.Begin log n last number was = number
last_longer (is.Op t p o) log n last number was = number
last_longer (is.Answer of a) log n last number was = number
last_longer (is.Comp t u x i) log n last number was = number
last_longer (is.Commit t) log n last number was = number
last_longer (is.End t) log n last number was = number
last_longer (is.Checkpoint l) log n last number was = number
