use Rattle.std.proofs.Common.{◌≡◌, ◌≤◌, ◌-◌, length}
use Rattle.jakumshe.specs.Records.{GivesRows}
use Rattle.jakumshe.proofs.node.Node.page.Given as goal

abbrev pub invariant-loop-count : goal.invariant-loop-count
invariant-loop-count l =
    GivesRows l.initial.self.rows.items l.self.rows.items l.room l.count × (l.count ≤ length l.room)
    × (l.self.world ≡ l.initial.self.world) × (length l.room ≡ length l.initial.room)

abbrev pub decreases-loop-count : goal.decreases-loop-count
decreases-loop-count l = length l.room - l.count
