use Rattle.std.proofs.Common.{subst}
use Rattle.node_sides.specs.node_laws.specs.Rounds.{IsNextRound}
use Rattle.node_sides.specs.node_laws.specs.declared.round.Round.TheVariants as round
use Rattle.node_sides.specs.node_laws.proofs.Settles.Asking.{asks_connect, asks_recover, asks_send}
use Rattle.node_world.proofs.settling.play.Goals as goal

pub exchange-requires : goal.exchange-requires
exchange-requires g c =
    let next : IsNextRound c.args.world.now round.Connect =
    subst (IsNextRound c.args.world.now) c.in-Connect.is c.requires.next in
    asks_connect c.args.world.now next.0

pub exchange-requires-in-Recover : goal.exchange-requires-in-Recover
exchange-requires-in-Recover g c =
    let next : IsNextRound c.args.world.now round.Recover =
    subst (IsNextRound c.args.world.now) c.in-Recover.is c.requires.next in
    asks_recover c.args.world.now next.0 next.1

pub exchange-requires-in-Exchange : goal.exchange-requires-in-Exchange
exchange-requires-in-Exchange g c =
    let t = c.in-Exchange.txn in
    let next : IsNextRound c.args.world.now (round.Exchange t) =
    subst (IsNextRound c.args.world.now) c.in-Exchange.is c.requires.next in
    asks_send c.args.world.now t next.0.up
