use Rattle.std.proofs.Common.{◌∙◌, ◌<◌, ◌^◌, length, ap, sym, arith}
use Rattle.std.proofs.lemmas.Grind.{common_steps}
use Rattle.std.proofs.lemmas.List.{length-map}
use Rattle.codec.specs.FrameIndex.{places_of}
use Rattle.codec.proofs.Indexed.{indexed_few, length-places_of}
use Rattle.node_world.specs.Sent.{SentView}
use Rattle.node_world.proofs.sent.Sent.len.Goals as goal

pub returns-clause-count : goal.returns-clause-count
returns-clause-count g c =
    let m = c.self.inside in
    c.len.ensures ∙ sym (length-places_of m.bytes.items m.index.count)
    ∙ sym (length-map (places_of m.bytes.items m.index.count) (g.M.Message.read_at m.bytes.items))
    ∙ ap (λ (v : SentView _). length v.messages) c.self.view_is

pub returns-clause-few : goal.returns-clause-few
returns-clause-few g c =
    let m = c.self.inside in
    let long : length m.bytes.items < 2 ^ 64 = grind (arith, common_steps) in
    omega (arith, c.len.ensures, indexed_few _ _ _ c.self.invariant.indexes, long)
