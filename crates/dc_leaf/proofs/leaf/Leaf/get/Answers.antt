use Rattle.dc_leaf.proofs.leaf.Leaf.get.Goals as goal

pub returns : goal.returns
returns c = rw (← c.self.view_is, ← c.lent-rows.ensures) c.value_at.ensures
