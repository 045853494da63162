use Rattle.node_world.proofs.world.World.rows.Goals as goal

pub returns-clause-rows : goal.returns-clause-rows
returns-clause-rows g c = rw (← c.self.view_is) c.rows.ensures.rows

pub returns-clause-up : goal.returns-clause-up
returns-clause-up g c = rw (← c.self.view_is) c.rows.ensures.up

pub returns-clause-refused : goal.returns-clause-refused
returns-clause-refused g c = rw (← c.self.view_is) c.rows.ensures.refused
