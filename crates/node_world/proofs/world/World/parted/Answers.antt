use Rattle.std.proofs.Common.{sym, ap}
use Rattle.node_sides.specs.node_laws.specs.Forgetting.{without_messages}
use Rattle.node_sides.specs.node_laws.specs.Node.{NodeView}
use Rattle.node_world.proofs.world.World.parted.Goals as goal

pub returns-clause-node : goal.returns-clause-node
returns-clause-node g c = ap (λ (w : NodeView). without_messages w) (sym c.self.view_is)
