-- The exact bytes of what clients are told.
use Rattle.std.specs.Prelude.{ℕ, List, [], ◌∷◌, codes, decimal, flat_map}
use Rattle.std.specs.List.{concat}
use Rattle.node_world.specs.node_laws.specs.declared.event.Out.{Out}
use Rattle.node_world.specs.node_laws.specs.declared.event.Out.TheVariants as out
use Rattle.shell_scripts.specs.Printed.{numbered}
use Rattle.shell_scripts.specs.Answers.{answered_line, value_line, found_text}

-- a transaction is back at its savepoint
abbrev pub back_line : ℕ → ℕ → List ℕ
back_line txn savepoint = concat (codes "back " ∷ decimal txn ∷ codes " " ∷ decimal savepoint ∷ codes "\n" ∷ [])

-- a transaction has committed
abbrev pub committed_line : ℕ → List ℕ
committed_line txn = numbered (codes "committed ") txn

-- a line of each of those who have committed, in this order
abbrev pub committed_text : List ℕ → List ℕ
committed_text txns = flat_map committed_line txns

-- what clients are told by an output: answers, values and rows, ended rollbacks, and who has committed
abbrev pub told_text : Out → List ℕ
told_text (out.Answered txn answer) = answered_line txn answer
told_text (out.Row txn value) = value_line txn value
told_text (out.Rows txn rows) = found_text txn rows
told_text (out.Back txn savepoint) = back_line txn savepoint
told_text (out.RolledBack txn) = numbered (codes "rolled back ") txn
told_text (out.Lost txn) = numbered (codes "lost ") txn
told_text (out.Stable end committed) = committed_text committed
told_text (out.Connects request committed) = committed_text committed
told_text _ = []
