-- A node that may be left for good: nothing is left to do in it, and nobody is open.
use Rattle.std.specs.Prelude.{◌≡◌, []}
use Rattle.node_sides.specs.node_laws.specs.Node.{NodeView}
use Rattle.node_sides.specs.node_laws.specs.Rounds.{IsAtRest}

pub record IsQuiet (w : NodeView) : Type 0 where
  pub rest : IsAtRest w
  pub closed : w.tc.open_txns ≡ []
