use Rattle.std.proofs.Common.{◌≡◌, ◌+◌, ◌<◌, ◌∙◌, false, List, length, refl, ap, sym, subst, arith}
use Rattle.std.proofs.lemmas.Option.{slice_get_read}
use Rattle.boxcar.specs.Table.{Shelves, Shows}
use Rattle.engine_agreement.specs.Agreed.{Agreed}
use Rattle.engine_history.specs.Kept.{calls_of}
use Rattle.engine_history.specs.Views.{Sees}
use Rattle.engine_history.specs.declared.step.Step.{Step}
use Rattle.engine_guarded.specs.Callers.{CallerView, is_busy}
use Rattle.engine_guarded.specs.Slots.{seen}
use Rattle.engine_guarded.specs.declared.entry.Entry.{Entry}
use Rattle.engine_guarded.proofs.Calls.{idle_is, resting}
use Rattle.engine_guarded.proofs.guarded.Guarded.see.Goals as goal

pub agree-requires : goal.agree-requires
agree-requires g c =
    let n = c.caller.inside.number in
    let ps = c.self.inside.places.items in
    let p = c.index_mut-place.result.now in
    let within = c.caller.invariant.within in
    let count = c.self.invariant.count in
    let less : n < length ps = omega (arith, within, count) in
    let at = slice_get_read ps (length ps) n p refl less c.index_mut-place.ensures.value in
    record { name = (c.self.invariant.places_are n p at).name ∙ sym c.caller.invariant.name }

pub agrees-requires : goal.agrees-requires
agrees-requires g c =
    let n = c.caller.inside.number in
    let ps = c.self.inside.places.items in
    let p = c.index_mut-place.result.now in
    let last = c.caller.inside.last in
    let within = c.caller.invariant.within in
    let count = c.self.invariant.count in
    let less : n < length ps = omega (arith, within, count) in
    let at = slice_get_read ps (length ps) n p refl less c.index_mut-place.ensures.value in
    let k = c.self.invariant.places_are n p at in
    let idle : is_busy c.caller.inside.mark.number ≡ false =
    ap (λ (v : CallerView). v.busy) c.caller.view_is ∙ c.requires.rest in
    let own = idle_is c.caller.inside.mark.number last.index c.caller.invariant.agreed idle in
    let number : p.far_end.number ≡ last.index + 1 = ap (λ (t : Agreed). t.number) c.agree.ensures.agree ∙ own in
    let there = (resting c.self.inside.steps.items n p last.index k.stands number).0 in
    let same : p.last.index ≡ last.index = omega (arith, there, number) in (
      subst (λ (r : Shelves). Shows r p.last) (sym c.requires.entries) k.shown.shows,
      subst (λ (r : Shelves). Shows r last) (sym c.requires.entries) c.caller.invariant.shown.shows,
      same,
    )

pub returns-clause-sees : goal.returns-clause-sees
returns-clause-sees g c =
    let n = c.caller.inside.number in
    let ps = c.self.inside.places.items in
    let p = c.index_mut-place.result.now in
    let last = c.caller.inside.last in
    let within = c.caller.invariant.within in
    let count = c.self.invariant.count in
    let less : n < length ps = omega (arith, within, count) in
    let at = slice_get_read ps (length ps) n p refl less c.index_mut-place.ensures.value in
    let k = c.self.invariant.places_are n p at in
    let idle : is_busy c.caller.inside.mark.number ≡ false =
    ap (λ (v : CallerView). v.busy) c.caller.view_is ∙ c.requires.rest in
    let own = idle_is c.caller.inside.mark.number last.index c.caller.invariant.agreed idle in
    let number : p.far_end.number ≡ last.index + 1 = ap (λ (t : Agreed). t.number) c.agree.ensures.agree ∙ own in
    let sees = (resting c.self.inside.steps.items n p last.index k.stands number).1 in
    let same : seen p.last ≡ seen last = ap (λ (e : Entry). e.past.items) c.agrees.ensures in
    let found : Sees (calls_of n) (seen last) c.self.inside.steps.items =
    subst (λ (xs : List Step). Sees (calls_of n) xs c.self.inside.steps.items) same sees in
    subst (λ (w : CallerView × List Step). Sees (calls_of w.0.number) w.0.steps w.1)
    (λ i. (c.caller.view_is i, (c.self.view_is i).steps)) found
