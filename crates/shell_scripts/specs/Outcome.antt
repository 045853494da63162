-- The exact bytes of what an event came to.
use Rattle.std.specs.Prelude.{ℕ, List, [], ◌∷◌, ◌++◌, codes, decimal}
use Rattle.std.specs.List.{concat}
use Rattle.node_world.specs.dc_store.specs.declared.tended.Neighbours.{Neighbours}
use Rattle.node_world.specs.node_laws.specs.declared.event.Out.{Out}
use Rattle.node_world.specs.node_laws.specs.declared.event.Out.TheVariants as out
use Rattle.shell_scripts.specs.Printed.{numbered, refusal_line}
use Rattle.shell_scripts.specs.Told.{committed_text, told_text}

-- what happened to two leaves, with their numbers
abbrev pub pair_line : List ℕ → Neighbours → List ℕ
pair_line text pair = concat (text ∷ decimal pair.left ∷ codes " " ∷ decimal pair.right ∷ codes "\n" ∷ [])

-- the lines of one event's output: its own, and what clients are told
abbrev pub out_text : Out → List ℕ
out_text (out.Begun txn) = numbered (codes "txn ") txn
out_text (out.Logged lsn) = numbered (codes "logged ") lsn
out_text (out.Asked number) = numbered (codes "asked ") number
out_text (out.Saved savepoint) = numbered (codes "savepoint ") savepoint
out_text out.RollingBack = codes "rolling back\n"
out_text (out.CommitLogged lsn) = numbered (codes "commit logged ") lsn
out_text (out.Compensated lsn) = numbered (codes "comp ") lsn
out_text out.Nothing = codes "nothing\n"
out_text (out.Stable end committed) = numbered (codes "stable ") end ++ committed_text committed
out_text (out.Connects request committed) = numbered (codes "request ") request ++ committed_text committed
out_text (out.Sent number) = numbered (codes "request ") number
out_text (out.Replied number) = numbered (codes "reply ") number
out_text out.Noted = codes "noted\n"
out_text (out.Connected session) = numbered (codes "connected ") session
out_text (out.RedoEnded session) = numbered (codes "redo ended ") session
out_text (out.Undone lsn) = numbered (codes "undone ") lsn
out_text (out.CheckpointLogged lsn) = numbered (codes "checkpoint logged ") lsn
out_text (out.Split pair) = pair_line (codes "split ") pair
out_text (out.Merged pair) = pair_line (codes "merged ") pair
out_text (out.Flushed id) = numbered (codes "flushed ") id
out_text out.Down = codes "down\n"
out_text (out.Up count) = numbered (codes "up ") count
out_text out.Set = codes "set\n"
out_text (out.Refused refusal) = refusal_line refusal
out_text (out.Answered txn answer) = told_text (out.Answered txn answer)
out_text (out.Row txn value) = told_text (out.Row txn value)
out_text (out.Rows txn rows) = told_text (out.Rows txn rows)
out_text (out.Back txn savepoint) = told_text (out.Back txn savepoint)
out_text (out.RolledBack txn) = told_text (out.RolledBack txn)
out_text (out.Lost txn) = told_text (out.Lost txn)
