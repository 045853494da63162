use Rattle.std.proofs.Common.{◌<◌, ◌∙◌, length, refl, arith}
use Rattle.std.proofs.lemmas.Option.{slice_get_read}
use Rattle.engine_history.specs.Sessions.{calls_by}
use Rattle.engine_guarded.proofs.guarded.Guarded.live.Goals as goal

pub returns : goal.returns
returns g c =
    let n = c.caller.inside.number in
    let ps = c.self.inside.places.items in
    let p = c.index.result.now in
    let within = c.caller.invariant.within in
    let count = c.self.invariant.count in
    let less : n < length ps = omega (arith, within, count) in
    let at = slice_get_read ps (length ps) n p refl less c.index.ensures in
    (c.self.invariant.places_are n p at).live ∙ (λ i. (calls_by (c.caller.view_is i).number (c.self.view_is i).steps).live)
