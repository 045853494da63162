use Rattle.std.proofs.Common.{◌≡◌, ◌+◌, ℕ, List, [], length, ap, sym, ◌∙◌, subst, arith}
use Rattle.std.proofs.lemmas.List.{length-map}
use Rattle.engine_guarded.specs.Places.{PlaceKept, PlacesKept}
use Rattle.engine_guarded.specs.declared.place.Place.{Place}
use Rattle.engine_monitor.specs.declared.opened.SessionStart.{SessionStart}
use Rattle.engine_monitor.specs.Opened.{OpenedView}
use Rattle.engine_monitor.proofs.Opening.{places_snoc}
use Rattle.engine_monitor.proofs.engine.share.Goals as goal

-- the last place is the engine's own
pub new-requires-2-clause-places : goal.new-requires-2-clause-places
new-requires-2-clause-places g c =
    let J = g.J.Naming in
    let session_starts = c.opened.inside.session_starts.items in
    let made = c.in_ok-places.field-0 in
    let ps = made.places.items in
    let p = c.new.result in
    let named = ap (λ (o : OpenedView). length o.sessions) c.opened.view_is in
    let agreements = length-map session_starts (λ (x : SessionStart). x.ends) in
    let same : c.len-count.result ≡ length ps =
    omega (arith, c.len-count.ensures, agreements, named, c.requires.named.count, c.in_ok-places.ensures.count) in
    let placed : PlaceKept J.entries J.names [] (length ps) p =
    subst (λ (m : ℕ). PlaceKept J.entries J.names [] m p) same c.new.ensures in
    subst (λ (all : List Place). PlacesKept J.entries J.names [] all) (sym c.in_ok-push.ensures.items)
    (places_snoc J.entries J.names ps p c.in_ok-places.ensures.places placed)

pub new-requires-6-clause-name : goal.new-requires-6-clause-name
new-requires-6-clause-name g c =
    let J = g.J.Naming in
    let session_starts = c.opened.inside.session_starts.items in
    let named = ap (λ (o : OpenedView). length o.sessions) c.opened.view_is in
    let agreements = length-map session_starts (λ (x : SessionStart). x.ends) in
    let same : J.sessions + 2 ≡ c.len-count.result + 2 =
    omega (arith, c.len-count.ensures, agreements, named, c.requires.named.count) in
    let own_is : c.into_inner-entries.result.own ≡ c.args.opened.own =
    ap (λ (s : _). s.own) c.into_inner-entries.ensures ∙ ap (λ (o : OpenedView). o.own) c.opened.view_is in
    ap (λ t. t.name) c.at-far_end.ensures.mark ∙ c.at-far_end.ensures.name ∙ own_is ∙ c.requires.named.own ∙ ap J.names same
