use Rattle.std.proofs.Common.{ap, subst}
use Rattle.std.specs.Option.{option_copied}
use Rattle.node_laws.specs.Halves.{MayDc}
use Rattle.node_laws.specs.declared.event.Event.{Event}
use Rattle.node_laws.specs.declared.event.Event.TheVariants as event
use Rattle.node_laws.proofs.Halves.{owed}
use Rattle.node_sides.proofs.dc_side.DcSide.step_into.Goals as goal

pub serve-requires-clause-owed : goal.serve-requires-clause-owed
serve-requires-clause-owed g c =
    let dc = c.args.self.now in
    let i = c.in-Request.number in
    let May : Event → Type 0 = λ e. MayDc dc e (option_copied c.args.request) in
    owed dc i c.in-Some.request.now
    (subst (MayDc dc (event.Request i)) (ap option_copied c.in-Some.is) (subst May c.in-Request.is c.requires.may)).0
