use Rattle.std.proofs.Common.{refl, inr}
use Rattle.jakumshe.proofs.node.Node.renewed.Goals as goal

-- the renewed node is stopped before it comes to rest
pub returns-in-Err-bring_up-clause-refused : goal.returns-in-Err-bring_up-clause-refused
returns-in-Err-bring_up-clause-refused c = inr (inr (record {
  told = c.in-Ok.field-0.items;
  rests = c.in-Ok.ensures.rests;
  made = c.in-Ok-renewal_of.node.world;
  renews = c.in-Ok-renewal_of.ensures.made;
  why = c.in-Err-bring_up.refusal;
  new = c.bring_up.new.self.world;
  stops = c.in-Err-bring_up.ensures;
  is = refl;
}))
