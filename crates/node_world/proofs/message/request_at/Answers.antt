use Rattle.std.proofs.Common.{◌∙◌, sym}
use Rattle.node_world.specs.SentReads.{request_reads}
use Rattle.node_world.proofs.Framed.{record_is}
use Rattle.node_world.proofs.message.request_at.Goals as goal

pub returns-clause-found : goal.returns-clause-found
returns-clause-found c =
    let there = c.requires in
    record_is (sym c.in-Record.is ∙ c.take_request.ensures.only there.message there.rest there.fits there.parts)
    ∙ sym (request_reads c.args.bytes.now c.args.place there)
