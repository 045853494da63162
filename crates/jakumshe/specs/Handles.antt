-- What a call by a handle comes to.
use Rattle.std.specs.Prelude.{◌≡◌, ℕ, ℤ, pos, Option, None, Some}
use Rattle.record_key.specs.declared.op.Op.{Op}
use Rattle.jakumshe.specs.declared.node.Node.{Node}
use Rattle.jakumshe.specs.Calls.{Operates, EndsSo}
use Rattle.jakumshe.specs.Holding.{OnNode}

-- the transaction's operation ends with this status, and the rows that were read last stay
abbrev pub Acted : Op → ℕ → Option Node → Option Node → ℤ → Type 0
Acted op t old new given =
    OnNode old new given (λ n m. EndsSo given (λ r. Operates n.world t op r m.world) × (m.rows ≡ n.rows))

-- of two handles with nodes the first one has the second one's, but for the rows that were read last, and the second one
-- none; else both are as they were
abbrev pub Replaces : Option Node → Option Node → Option Node → Option Node → ℤ → Type 0
Replaces (Some n) (Some m) None renewed given = ⊥
Replaces (Some n) (Some m) (Some new) renewed given =
    (given ≡ pos 0) × (renewed ≡ None) × (new.world ≡ m.world) × (new.rows ≡ n.rows)
Replaces held from left renewed given = (given ≡ pos 33) × (left ≡ held) × (renewed ≡ from)
