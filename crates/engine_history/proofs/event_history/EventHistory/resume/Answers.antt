use Rattle.std.proofs.Common.{◌<◌, refl, length, rules}
use Rattle.std.proofs.lemmas.Option.{slice_get_read}
use Rattle.engine_history.proofs.Entering.{places_resumed}
use Rattle.engine_history.proofs.event_history.EventHistory.resume.Goals as goal

pub invariant_of-self : goal.invariant_of-self
invariant_of-self g c =
    let J = g.J.Naming in
    let s = c.self.inside in
    let n = c.caller.inside.number in
    let ps = s.places.items in
    let p = c.index_mut-place.result.now in
    let less : n < length ps = search rules in
    let at = slice_get_read ps (length ps) n p refl less c.index_mut-place.ensures.value in
    (places_resumed J.entries J.names s.lines ps n p _ c.self.invariant.0 at refl, c.self.invariant.1, c.self.invariant.2)
