use Rattle.std.proofs.Common.{Option, subst}
use Rattle.codec.specs.declared.reply.Reply.{Reply}
use Rattle.node_sides.specs.dc_core.specs.Serves.{Serves}
use Rattle.node_sides.specs.node_laws.proofs.Invariant.Spellable.{reply_ordered}
use Rattle.shell_halves.proofs.serving.reply_to.Goals as goal

pub spell-requires : goal.spell-requires
spell-requires g c =
    let given = subst (λ (r : Option Reply). Serves c.args.dc.now c.args.request.now r c.serve.new.self) c.in-Some.is
    c.in-Ok.ensures.gives.1 in
    reply_ordered c.args.request.now c.in-Some.given c.args.dc.now c.serve.new.self c.requires.numbers given
