use Rattle.std.proofs.Common.{inr, ap, ◌∙◌}
use Rattle.jakumshe.specs.Calls.{first_end, answers}
use Rattle.jakumshe.proofs.node.Node.act.Goals as goal

pub returns-clause-acted : goal.returns-clause-acted
returns-clause-acted c = inr (record {
  told = c.in-Ok.told.items;
  acted = c.call.new.self.world;
  tells = c.in-Ok.ensures.told;
  ends = c.answer.ensures ∙ ap (first_end (answers c.args.txn)) c.deref.ensures.value;
  tended = c.step.result;
  tends = c.step.ensures.step;
})
