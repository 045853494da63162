use Rattle.std.proofs.Common.{◌≡◌, ◌<◌, ◌∙◌, List, Some, ap, sym, subst, set, length, rules, refl, slice_get}
use Rattle.std.proofs.lemmas.Option.{slice_get_read}
use Rattle.engine_history.specs.declared.place.Place.{Place}
use Rattle.engine_history.specs.Kept.{place_after}
use Rattle.engine_history.proofs.Lists.{replaced_at}
use Rattle.engine_history.proofs.event_history.hear_all.Goals as goal

pub loop-place-preserved : goal.loop-place-preserved
loop-place-preserved g c =
    let xs = c.deref_mut-place-items.result.now in
    let i = c.loop-place.place-index in
    let ys = c.loop-place.place-items in
    let p = c.place-item.result in
    let f = place_after c.args.token.now in
    let less : i < length xs = search rules in
    let within : i < length ys = search rules in
    let at : slice_get ys i ≡ Some p = slice_get_read ys (length ys) i p refl within c.place-item.is in
    ap (λ (q : Place g.row.J.Denot). set ys i q) (c.hear.ensures ∙ ap f (sym c.place-item.is))
    ∙ ap (λ (zs : List (Place g.row.J.Denot)). set zs i (f p)) c.loop-place.invariant
    ∙ replaced_at f xs i p less (subst (λ (zs : List
    (Place g.row.J.Denot)). slice_get zs i ≡ Some p) c.loop-place.invariant at)
