use Rattle.std.proofs.Common.{refl}
use Rattle.codec.specs.Parted.{request_to}
use Rattle.record_key.specs.Lent.{op_on}
use Rattle.node_sides.specs.node_laws.proofs.Halves.{owed}
use Rattle.node_world.specs.Seen.{seen}
use Rattle.node_world.proofs.node.Node.serve.Goals as goal

pub serve_op-requires-clause-owed : goal.serve_op-requires-clause-owed
serve_op-requires-clause-owed g c =
    let n = c.args.self.now in
    let asked = c.in-Perform-Some-default in
    let sent = rw (asked.is-0, asked.is-1) at c.in-Ok.ensures.read in
    owed n.dc c.args.number (request_to asked.asking (op_on asked.key asked.change)) (record {
      node = seen n;
      kept = c.requires;
      dc_is = refl;
      brings = sent.0;
    })

pub serve_other-requires-clause-owed : goal.serve_other-requires-clause-owed
serve_other-requires-clause-owed g c =
    let n = c.args.self.now in
    let asked = c.in-Other-default-Some in
    let sent = rw (asked.is-0, asked.is-2) at c.in-Ok.ensures.read in
    owed n.dc c.args.number asked.request (record { node = seen n; kept = c.requires; dc_is = refl; brings = sent.0 })
