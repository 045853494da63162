use Rattle.std.proofs.Common.{◌≡◌, ◌<◌, List, Some, None, IfSome, ap, sym, ◌∙◌, subst, refl, length, rules}
use Rattle.std.proofs.lemmas.Option.{slice_get_read}
use Rattle.engine_history.specs.declared.step.Step.{Step}
use Rattle.engine_history.specs.Callers.{CallerView, IsGrown, IsStatus}
use Rattle.engine_history.specs.Kept.{calls_of}
use Rattle.engine_history.specs.Sessions.{SessionCalls, calls_by, line_of}
use Rattle.engine_history.specs.Waiting.{IsStatusAt}
use Rattle.engine_history.specs.Views.{View, Sees}
use Rattle.engine_history.proofs.Entering.{places_seen, status_is}
use Rattle.engine_history.proofs.NextCalls.{grown, still}
use Rattle.engine_history.proofs.event_history.show.Goals as goal

pub meet-requires-clause-name : goal.meet-requires-clause-name
meet-requires-clause-name g c =
    let n = c.caller.inside.number in
    let ps = c.args.places.now.items in
    let p = c.index_mut-place.result.now in
    let less : n < length ps = search rules in
    let at = slice_get_read ps (length ps) n p refl less c.index_mut-place.ensures.value in
    (c.requires.places n p at).name ∙ sym c.caller.invariant.1

pub returns-clause-places : goal.returns-clause-places
returns-clause-places g c =
    let n = c.caller.inside.number in
    let ps = c.args.places.now.items in
    let es = c.args.lines.now in
    let p = c.index_mut-place.result.now in
    let less : n < length ps = search rules in
    let at = slice_get_read ps (length ps) n p refl less c.index_mut-place.ensures.value in
    let cursor_end : c.meet.new.self ≡ record { name = p.cursor_end.name; steps = es } =
    c.meet.ensures.cursor_end ∙ ap (λ (xs : List Step). record { name = p.cursor_end.name; steps = xs }) c.last-last.ensures.seen in
    places_seen g.J.Naming.entries g.J.Naming.names es ps n p _ c.requires.places at
    (ap (λ (v : View). record p { cursor_end = v; failed = None }) cursor_end)

pub returns-clause-grown : goal.returns-clause-grown
returns-clause-grown g c =
    let n = c.caller.inside.number in
    let ps = c.args.places.now.items in
    let es = c.args.lines.now in
    let p = c.index_mut-place.result.now in
    let less : n < length ps = search rules in
    let at = slice_get_read ps (length ps) n p refl less c.index_mut-place.ensures.value in
    let before = c.caller.inside.cursor.steps in
    let sees : Sees (calls_of n) before es =
    subst (λ (v : View). Sees (calls_of n) v.steps es) c.meet.ensures.same (c.requires.places n p at).sees in
    let now : c.meet.new.cursor.steps ≡ es =
    ap (λ (v : View). v.steps) (c.meet.ensures.cursor ∙ c.meet.ensures.cursor_end) ∙ c.last-last.ensures.seen in
    subst (λ (w : SessionCalls × List Step). IsGrown w.0 (calls_by n w.1))
    (λ i. (ap (λ (v : CallerView). v.calls) c.caller.view_is i, sym now i)) (grown n before es sees)

pub returns-clause-status : goal.returns-clause-status
returns-clause-status g c untold status is =
    let J = g.J.Naming in
    let n = c.caller.inside.number in
    let ps = c.args.places.now.items in
    let es = c.args.lines.now in
    let p = c.index_mut-place.result.now in
    let less : n < length ps = search rules in
    let at = slice_get_read ps (length ps) n p refl less c.index_mut-place.ensures.value in
    let before = c.caller.inside.cursor.steps in
    let old = subst (λ (v : CallerView). line_of v.calls.latest ≡ None) (sym c.caller.view_is) untold in
    let found_is = subst (λ (v : CallerView). IsStatusAt ps v.number status) (sym c.caller.view_is) is in
    let now : c.meet.new.cursor.steps ≡ es =
    ap (λ (v : View). v.steps) (c.meet.ensures.cursor ∙ c.meet.ensures.cursor_end) ∙ c.last-last.ensures.seen in
    let found = status_is J.entries J.names n before es p status (c.requires.places n p at)
    (ap (λ (v : View). v.steps) (sym c.meet.ensures.same)) old (found_is p at) in
    subst (λ (w : SessionCalls × List Step). IsStatus J.entries w.0 (calls_by n w.1) status)
    (λ i. (ap (λ (v : CallerView). v.calls) c.caller.view_is i, sym now i)) found

pub returns-clause-live : goal.returns-clause-live
returns-clause-live g c =
    let n = c.caller.inside.number in
    let ps = c.args.places.now.items in
    let p = c.index_mut-place.result.now in
    let less : n < length ps = search rules in
    let at = slice_get_read ps (length ps) n p refl less c.index_mut-place.ensures.value in
    let now : c.meet.new.cursor.steps ≡ c.args.lines.now =
    ap (λ (v : View). v.steps) (c.meet.ensures.cursor ∙ c.meet.ensures.cursor_end) ∙ c.last-last.ensures.seen in
    (c.requires.places n p at).live ∙ ap (λ (es : List Step). (calls_by n es).live) (sym now)

pub returns-clause-kept : goal.returns-clause-kept
returns-clause-kept g c =
    let n = c.caller.inside.number in
    let ps = c.args.places.now.items in
    let es = c.args.lines.now in
    let p = c.index_mut-place.result.now in
    let less : n < length ps = search rules in
    let at = slice_get_read ps (length ps) n p refl less c.index_mut-place.ensures.value in
    let k = c.requires.places n p at in
    let before = c.caller.inside.cursor.steps in
    let sees : Sees (calls_of n) before es =
    subst (λ (v : View). Sees (calls_of n) v.steps es) c.meet.ensures.same k.sees in
    subst (λ (v : CallerView). IfSome p.live (λ t. v.calls.live ≡ Some t)) c.caller.view_is
    (still p.live (calls_by n before).live (calls_by n es).live k.live (grown n before es sees).live)
