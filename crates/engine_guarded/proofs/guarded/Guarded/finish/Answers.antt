use Rattle.std.proofs.Common.{◌≡◌, ◌+◌, ◌<◌, ◌∙◌, false, List, None, length, refl, ap, sym, subst, arith}
use Rattle.std.proofs.lemmas.List.{length-set}
use Rattle.std.proofs.lemmas.Option.{slice_get_read}
use Rattle.boxcar.specs.Table.{Shelves}
use Rattle.engine_agreement.specs.Agreed.{Agreed, agreed_at}
use Rattle.engine_history.specs.Sessions.{line_of, calls_by}
use Rattle.engine_history.specs.declared.step.Step.{Step}
use Rattle.engine_guarded.specs.Callers.{CallerView, IsMade, IsStatus, is_busy}
use Rattle.engine_guarded.specs.Slots.{Shown, seen}
use Rattle.engine_guarded.specs.declared.entry.Entry.{Entry}
use Rattle.engine_guarded.specs.declared.place.Place.{Place}
use Rattle.engine_guarded.proofs.Calls.{busy_is, idle_is, status_amid, status_resting, resting, same_status}
use Rattle.engine_guarded.proofs.Places.{finished_kept, places_set}
use Rattle.engine_guarded.proofs.guarded.Guarded.finish.Goals as goal

pub agree-requires : goal.agree-requires
agree-requires g c =
    let n = c.caller.inside.number in
    let ps = c.self.inside.places.items in
    let p = c.index_mut-place.result.now in
    let within = c.caller.invariant.within in
    let count = c.self.invariant.count in
    let less : n < length ps = omega (arith, within, count) in
    let at = slice_get_read ps (length ps) n p refl less c.index_mut-place.ensures.value in
    record { name = (c.self.invariant.places_are n p at).name ∙ sym c.caller.invariant.name }

pub same_seen-requires-clause-one : goal.same_seen-requires-clause-one
same_seen-requires-clause-one g c =
    let n = c.caller.inside.number in
    let ps = c.self.inside.places.items in
    let p = c.index_mut-place.result.now in
    let within = c.caller.invariant.within in
    let count = c.self.invariant.count in
    let less : n < length ps = omega (arith, within, count) in
    let at = slice_get_read ps (length ps) n p refl less c.index_mut-place.ensures.value in
    subst (λ (r : Shelves). Shown r p.last) (sym c.requires.entries) (c.self.invariant.places_are n p at).shown

pub same_seen-requires-clause-agreed : goal.same_seen-requires-clause-agreed
same_seen-requires-clause-agreed g c idle =
    let n = c.caller.inside.number in
    let ps = c.self.inside.places.items in
    let es = c.self.inside.steps.items in
    let p = c.index_mut-place.result.now in
    let last = c.caller.inside.last in
    let within = c.caller.invariant.within in
    let count = c.self.invariant.count in
    let less : n < length ps = omega (arith, within, count) in
    let at = slice_get_read ps (length ps) n p refl less c.index_mut-place.ensures.value in
    let k = c.self.invariant.places_are n p at in
    let same : c.number.result ≡ c.caller.inside.mark.number =
    c.number.ensures ∙ ap (λ (t : Agreed). t.number) c.agree.ensures.mark in
    let own = idle_is c.caller.inside.mark.number last.index c.caller.invariant.agreed (ap is_busy (sym same) ∙ idle) in
    let number : p.far_end.number ≡ last.index + 1 = ap (λ (t : Agreed). t.number) c.agree.ensures.agree ∙ own in
    let there = (resting es n p last.index k.stands number).0 in
    omega (arith, there, number)

pub invariant_of-self : goal.invariant_of-self
invariant_of-self g c =
    let J = g.J.Naming in
    let n = c.caller.inside.number in
    let ps = c.self.inside.places.items in
    let es = c.self.inside.steps.items in
    let p = c.index_mut-place.result.now in
    let last = c.caller.inside.last in
    let within = c.caller.invariant.within in
    let count = c.self.invariant.count in
    let less : n < length ps = omega (arith, within, count) in
    let at = slice_get_read ps (length ps) n p refl less c.index_mut-place.ensures.value in
    let k = c.self.invariant.places_are n p at in
    let token = c.pushed-token.result in
    let q : Place = record c.status_of-status.new.place { failed = None } in
    let far_end_is : c.set.new.self ≡ agreed_at p.far_end.name (token.index + 1) =
    c.set.ensures.far_end
    ∙ (λ i. agreed_at (ap (λ (t : Agreed). t.name) c.agree.ensures.far_end i) (c.index-2.ensures i + 1)) in
    let is : q ≡ record p { far_end = agreed_at p.far_end.name (token.index + 1); last = token; line = None; failed = None } =
    ap (λ (x : Place). record x { failed = None }) c.status_of-status.ensures.left
    ∙ (λ i. record p { far_end = far_end_is i; last = c.again-2.ensures i; line = None; failed = None }) in
    let here : Shown J.entries token = subst (λ (r : Shelves). Shown r token) c.requires.entries c.pushed-token.ensures.shown in
    let all : seen token ≡ es = ap (λ (e : Entry). e.past.items) c.pushed-token.ensures.value ∙ c.again.ensures in
    record {
      passes = c.self.invariant.passes;
      places_are =
          places_set J.entries J.names es ps n q c.self.invariant.places_are
          (finished_kept J.entries J.names es n p q p.far_end.name token k here all refl is);
      count = length-set ps n q ∙ count;
      owned = c.self.invariant.owned;
      low_is = c.self.invariant.low_is;
      low_stable = c.self.invariant.low_stable;
    }

pub returns-clause-amid : goal.returns-clause-amid
returns-clause-amid g c busy before made =
    let J = g.J.Naming in
    let n = c.caller.inside.number in
    let ps = c.self.inside.places.items in
    let es = c.self.inside.steps.items in
    let p = c.index_mut-place.result.now in
    let last = c.caller.inside.last in
    let within = c.caller.invariant.within in
    let count = c.self.invariant.count in
    let less : n < length ps = omega (arith, within, count) in
    let at = slice_get_read ps (length ps) n p refl less c.index_mut-place.ensures.value in
    let k = c.self.invariant.places_are n p at in
    let r = c.status_of-status.result in
    let none : c.caller.inside.mark.number ≡ 0 =
    busy_is c.caller.inside.mark.number (ap (λ (v : CallerView). v.busy) c.caller.view_is ∙ busy) in
    let number : p.far_end.number ≡ 0 = ap (λ (t : Agreed). t.number) c.agree.ensures.agree ∙ none in
    let status = same_status p c.set.new.self c.again-2.result r c.status_of-status.ensures.status in
    let own : IsMade n before es =
    subst (λ (w : CallerView × List Step). IsMade w.0.number before w.1)
    (λ i. (sym c.caller.view_is i, (sym c.self.view_is i).steps)) made in
    subst (λ (w : CallerView × List Step). IsStatus (calls_by w.0.number before) (calls_by w.0.number w.1) r)
    (λ i. (c.caller.view_is i, (c.self.view_is i).steps))
    (status_amid J.entries J.names n before es p r k number own status)

pub returns-clause-resting : goal.returns-clause-resting
returns-clause-resting g c busy old =
    let J = g.J.Naming in
    let n = c.caller.inside.number in
    let ps = c.self.inside.places.items in
    let es = c.self.inside.steps.items in
    let p = c.index_mut-place.result.now in
    let last = c.caller.inside.last in
    let within = c.caller.invariant.within in
    let count = c.self.invariant.count in
    let less : n < length ps = omega (arith, within, count) in
    let at = slice_get_read ps (length ps) n p refl less c.index_mut-place.ensures.value in
    let k = c.self.invariant.places_are n p at in
    let same : c.number.result ≡ c.caller.inside.mark.number =
    c.number.ensures ∙ ap (λ (t : Agreed). t.number) c.agree.ensures.mark in
    let r = c.status_of-status.result in
    let idle : is_busy c.caller.inside.mark.number ≡ false =
    ap (λ (v : CallerView). v.busy) c.caller.view_is ∙ busy in
    let own = idle_is c.caller.inside.mark.number last.index c.caller.invariant.agreed idle in
    let number : p.far_end.number ≡ last.index + 1 = ap (λ (t : Agreed). t.number) c.agree.ensures.agree ∙ own in
    let seen_is : seen p.last ≡ seen last = c.same_seen.ensures (ap is_busy same ∙ idle) in
    let status = same_status p c.set.new.self c.again-2.result r c.status_of-status.ensures.status in
    let before : line_of (calls_by n (seen last)).latest ≡ None =
    subst (λ (v : CallerView). line_of (calls_by v.number v.steps).latest ≡ None) (sym c.caller.view_is) old in
    subst (λ (w : CallerView × List Step). IsStatus (calls_by w.0.number w.0.steps) (calls_by w.0.number w.1) r)
    (λ i. (c.caller.view_is i, (c.self.view_is i).steps))
    (status_resting J.entries J.names n (seen last) es p r last.index k number seen_is before status)
