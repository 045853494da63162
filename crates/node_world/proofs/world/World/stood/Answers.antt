use Rattle.node_world.proofs.world.World.stood.Goals as goal

pub returns : goal.returns
returns g c = rw (← c.self.view_is) c.self.invariant.stood
