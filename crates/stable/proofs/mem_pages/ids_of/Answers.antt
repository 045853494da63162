use Rattle.std.proofs.Common.{◌≡◌, ℕ, List, [], ◌∷◌, ◌++◌, true, false, refl, sym, ap, ◌∙◌, subst, append_assoc}
use Rattle.std.specs.List.Sorted.{IsStrictlyIncreasing}
use Rattle.std.proofs.lemmas.List.{append-nil}
use Rattle.stable.specs.declared.mem_pages.Page.{Page}
use Rattle.stable.proofs.Pages.{numbers, keys-pages_of, numbers_rise}
use Rattle.stable.proofs.mem_pages.ids_of.Goals as goal

-- what a page adds, and what none does
written_one : (ids ids' : List ℕ) (id : ℕ) (page : Page) (rest : List (ℕ × Page)) → page.is_written ≡ true
    → ids' ≡ ids ++ id ∷ [] → ids' ++ numbers rest ≡ ids ++ numbers ((id, page) ∷ rest)
written_one ids ids' id page rest is e =
    rw is (ap (λ (xs : List ℕ). xs ++ numbers rest) e ∙ append_assoc ids (id ∷ []) (numbers rest))

passed_over : (ids : List ℕ) (id : ℕ) (page : Page) (rest : List (ℕ × Page)) → page.is_written ≡ false
    → ids ++ numbers rest ≡ ids ++ numbers ((id, page) ∷ rest)
passed_over ids id page rest is = rw is refl

pub loop-id-init : goal.loop-id-init
loop-id-init c =
    ap (λ (xs : List ℕ). xs ++ numbers c.into_iter-id-iterator.result) c.new-ids.ensures.items
    ∙ ap numbers c.into_iter-id-iterator.ensures.into_iter_gives.0

pub loop-id-preserved-in-Continue-1 : goal.loop-id-preserved-in-Continue-1
loop-id-preserved-in-Continue-1 c =
    let step : c.loop-id.id-iterator ≡ (c.in-Some.id.now, c.in-Some.page.now) ∷ c.next.new.self =
    c.in-Some.ensures.steps in
    written_one c.loop-id.ids.items c.push.new.self.items c.in-Some.id.now c.in-Some.page.now c.next.new.self
    c.if-page.true c.in_ok-push.ensures.items
    ∙ ap (λ es. c.loop-id.ids.items ++ numbers es) (sym step) ∙ c.loop-id.invariant

pub loop-id-preserved : goal.loop-id-preserved
loop-id-preserved c =
    let step : c.loop-id.id-iterator ≡ (c.in-Some.id.now, c.in-Some.page.now) ∷ c.next.new.self =
    c.in-Some.ensures.steps in
    passed_over c.loop-id.ids.items c.in-Some.id.now c.in-Some.page.now c.next.new.self c.if-page.false
    ∙ ap (λ es. c.loop-id.ids.items ++ numbers es) (sym step) ∙ c.loop-id.invariant

-- at its end the loop has all numbers
ended : (c : goal.In-None) → c.loop-id.ids.items ≡ numbers c.args.places.now.entries
ended c =
    sym (append-nil c.loop-id.ids.items)
    ∙ ap (λ es. c.loop-id.ids.items ++ numbers es) (sym c.in-None.ensures.steps.0) ∙ c.loop-id.invariant

pub returns-clause-written : goal.returns-clause-written
returns-clause-written c =
    ended c ∙ sym (keys-pages_of c.args.places.now.entries c.into_iter-id-iterator.ensures.into_iter_gives.5)

pub returns-clause-rising : goal.returns-clause-rising
returns-clause-rising c =
    subst IsStrictlyIncreasing (sym (ended c))
    (numbers_rise c.args.places.now.entries c.into_iter-id-iterator.ensures.into_iter_gives.5)
