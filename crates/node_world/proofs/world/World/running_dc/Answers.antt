use Rattle.node_world.proofs.world.World.running_dc.Goals as goal

pub returns-clause-dc : goal.returns-clause-dc
returns-clause-dc g c = rw (← c.self.view_is) c.running.ensures.dc

pub returns-clause-down : goal.returns-clause-down
returns-clause-down g c = rw (← c.self.view_is) c.running.ensures.down
