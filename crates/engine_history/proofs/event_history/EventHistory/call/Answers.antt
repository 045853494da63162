use Rattle.std.proofs.Common.{◌≡◌, ◌<◌, ◌++◌, ◌∷◌, [], ℕ, List, Some, None, ap, sym, ◌∙◌, subst, refl, length, rules, set, map}
use Rattle.std.proofs.lemmas.Option.{slice_get_read}
use Rattle.std.specs.Prelude.{slice_get}
use Rattle.engine_history.specs.declared.entry.Entry.{Entry}
use Rattle.engine_history.specs.declared.place.Place.{Place}
use Rattle.engine_history.specs.declared.step.Step.{Step}
use Rattle.engine_history.specs.Callers.{CallerView}
use Rattle.engine_history.specs.Commands.{OwnKept}
use Rattle.engine_history.specs.Kept.{PlaceKept, PlacesKept, calls_of, place_after}
use Rattle.engine_history.specs.InFlightCalls.{in_flight_of}
use Rattle.engine_history.specs.Sessions.{IsCalled, IsLeft, live_after, is_pending, calls_by, IsClosed}
use Rattle.engine_history.specs.Slots.{Slot, through}
use Rattle.engine_history.specs.Views.{View, Sees}
use Rattle.engine_history.proofs.Commanding.{own_mild}
use Rattle.engine_history.proofs.Entering.{own_place, places_called, one_more_call, calls_same}
use Rattle.engine_history.proofs.NextCalls.{called_kept, grown}
use Rattle.engine_history.proofs.event_history.EventHistory.call.Goals as goal

pub meet-requires-clause-name : goal.meet-requires-clause-name
meet-requires-clause-name g c =
    let J = g.J.Naming in
    let s = c.self.inside in
    let n = c.caller.inside.number in
    let token = c.enter_tc-token.result in
    let p = c.index_mut-place.result.now in
    let less : n < length c.hear_all.new.places.items = search rules in
    let there = slice_get_read c.hear_all.new.places.items
    (length c.hear_all.new.places.items) n p refl less c.index_mut-place.ensures.value in
    let at : slice_get (map (place_after token) s.places.items) n ≡ Some p =
    subst (λ (ps : List (Place g.row.J.Denot)). slice_get ps n ≡ Some p) c.hear_all.ensures.heard there in
    let own : token.value.step.value.caller ≡ Some n =
    ap (λ (e : Step). e.caller) c.enter_tc-token.ensures.value ∙ c.requires.own
    ∙ ap (λ (v : CallerView). Some v.number) (sym c.caller.view_is) in
    let k = own_place J.entries J.names s.lines s.places.items token n p c.self.invariant.0 own at in
    k.name ∙ sym c.caller.invariant.1

pub invariant_of-self : goal.invariant_of-self
invariant_of-self g c =
    let J = g.J.Naming in
    let s = c.self.inside in
    let n = c.caller.inside.number in
    let token = c.enter_tc-token.result in
    let e = token.value.step.value in
    let p = c.index_mut-place.result.now in
    let less : n < length c.hear_all.new.places.items = search rules in
    let there = slice_get_read c.hear_all.new.places.items
    (length c.hear_all.new.places.items) n p refl less c.index_mut-place.ensures.value in
    let at : slice_get (map (place_after token) s.places.items) n ≡ Some p =
    subst (λ (ps : List (Place g.row.J.Denot)). slice_get ps n ≡ Some p) c.hear_all.ensures.heard there in
    let own : e.caller ≡ Some n =
    ap (λ (x : Step). x.caller) c.enter_tc-token.ensures.value ∙ c.requires.own
    ∙ ap (λ (v : CallerView). Some v.number) (sym c.caller.view_is) in
    let k = own_place J.entries J.names s.lines s.places.items token n p c.self.invariant.0 own at in
    let thr : through token.value ≡ s.lines ++ e ∷ [] =
    c.enter_tc-token.ensures.through ∙ ap (λ (x : Step). s.lines ++ x ∷ []) (sym c.enter_tc-token.ensures.value) in
    let cursor_end : c.meet.new.self ≡ record { name = p.cursor_end.name; steps = s.lines ++ e ∷ [] } =
    c.meet.ensures.cursor_end
    ∙ ap (λ (es : List Step). record { name = p.cursor_end.name; steps = es }) (ap (λ
    (x : Slot). through x.value) c.again.ensures ∙ thr) in
    let entry : c.deref.result.now ≡ e = c.deref.ensures ∙ ap (λ (x : Entry). x.step.value) c.value-entry.ensures in
    let q : Place g.row.J.Denot = record {
      number = p.number;
      cursor_end = c.meet.new.self;
      live = c.live_after-place.result;
      awaits = c.is_pending-place.result;
      line = None;
      in_flight = c.in_flight-place.result;
      failed = None;
    } in
    let done : PlaceKept J.entries J.names (s.lines ++ e ∷ []) n q =
    called_kept J.entries J.names s.lines n p q e (calls_same e.caller n own) k refl cursor_end
    (c.live_after-place.ensures ∙ ap (λ (x : Step). live_after p.live x.out) entry)
    (c.is_pending-place.ensures ∙ ap (λ (x : Step). is_pending x.out) entry) refl
    (c.in_flight-place.ensures ∙ ap (λ (x : Step). in_flight_of x.out) entry) refl in
    let kept = places_called J.entries J.names s.lines s.places.items token n q c.self.invariant.0
    c.enter_tc-token.ensures.shown own done in
    let now : s.lines ++ e ∷ [] ≡ c.enter_tc-token.new.self =
    ap (λ (x : Step). s.lines ++ x ∷ []) c.enter_tc-token.ensures.value ∙ sym c.enter_tc-token.ensures.entered in (
      subst (λ (w : List Step × List (Place g.row.J.Denot)). PlacesKept J.entries J.names w.0 (set w.1 n q))
          (λ i. (now i, sym c.hear_all.ensures.heard i)) kept,
      c.hear_all.ensures.count ∙ c.self.invariant.1,
      subst (λ (es : List Step). OwnKept J.names es s.own) (sym c.enter_tc-token.ensures.entered)
          (own_mild J.names s.lines s.own c.args.step.value c.requires.mild c.self.invariant.2),
    )

pub returns-clause-called : goal.returns-clause-called
returns-clause-called g c =
    let J = g.J.Naming in
    let s = c.self.inside in
    let n = c.caller.inside.number in
    let token = c.enter_tc-token.result in
    let p = c.index_mut-place.result.now in
    let less : n < length c.hear_all.new.places.items = search rules in
    let there = slice_get_read c.hear_all.new.places.items
    (length c.hear_all.new.places.items) n p refl less c.index_mut-place.ensures.value in
    let at : slice_get (map (place_after token) s.places.items) n ≡ Some p =
    subst (λ (ps : List (Place g.row.J.Denot)). slice_get ps n ≡ Some p) c.hear_all.ensures.heard there in
    let number : c.args.caller.now.number ≡ n = ap (λ (v : CallerView). v.number) (sym c.caller.view_is) in
    let own : token.value.step.value.caller ≡ Some n =
    ap (λ (x : Step). x.caller) c.enter_tc-token.ensures.value ∙ c.requires.own ∙ ap (λ (m : ℕ). Some m) number in
    let k = own_place J.entries J.names s.lines s.places.items token n p c.self.invariant.0 own at in
    let sees : Sees (calls_of n) c.caller.inside.cursor.steps s.lines =
    subst (λ (v : View). Sees (calls_of n) v.steps s.lines) c.meet.ensures.same k.sees in
    let closed = subst (λ (v : CallerView). IsClosed v.calls) (sym c.caller.view_is) c.requires.closed in
    let now : c.meet.new.cursor.steps ≡ s.lines ++ c.args.step.value ∷ [] =
    ap (λ (v : View). v.steps) (c.meet.ensures.cursor ∙ c.meet.ensures.cursor_end)
    ∙ ap (λ (x : Slot). through x.value) c.again.ensures ∙ c.enter_tc-token.ensures.through in
    subst (λ (v : CallerView). IsCalled v.calls c.args.step.value.event c.args.step.value.out
    (calls_by n c.meet.new.cursor.steps)) c.caller.view_is
    (one_more_call n c.caller.inside.cursor.steps s.lines c.meet.new.cursor.steps c.args.step.value
    (c.requires.own ∙ ap (λ (m : ℕ). Some m) number) sees closed now)

-- between calls the session's transaction stays or is gone
pub returns-clause-left : goal.returns-clause-left
returns-clause-left g c =
    let J = g.J.Naming in
    let s = c.self.inside in
    let n = c.caller.inside.number in
    let token = c.enter_tc-token.result in
    let p = c.index_mut-place.result.now in
    let less : n < length c.hear_all.new.places.items = search rules in
    let there = slice_get_read c.hear_all.new.places.items
    (length c.hear_all.new.places.items) n p refl less c.index_mut-place.ensures.value in
    let at : slice_get (map (place_after token) s.places.items) n ≡ Some p =
    subst (λ (ps : List (Place g.row.J.Denot)). slice_get ps n ≡ Some p) c.hear_all.ensures.heard there in
    let number : c.args.caller.now.number ≡ n = ap (λ (v : CallerView). v.number) (sym c.caller.view_is) in
    let own : token.value.step.value.caller ≡ Some n =
    ap (λ (x : Step). x.caller) c.enter_tc-token.ensures.value ∙ c.requires.own ∙ ap (λ (m : ℕ). Some m) number in
    let k = own_place J.entries J.names s.lines s.places.items token n p c.self.invariant.0 own at in
    let sees : Sees (calls_of n) c.caller.inside.cursor.steps s.lines =
    subst (λ (v : View). Sees (calls_of n) v.steps s.lines) c.meet.ensures.same k.sees in
    subst (λ (v : CallerView). IsLeft v.calls.live (calls_by v.number token.value.before.steps).live) c.caller.view_is
    (subst (λ (es : List Step). IsLeft (calls_by n c.caller.inside.cursor.steps).live (calls_by n es).live)
    (sym c.enter_tc-token.ensures.before) (grown n c.caller.inside.cursor.steps s.lines sees).live)
