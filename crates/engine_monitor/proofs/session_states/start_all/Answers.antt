use Rattle.std.proofs.Common.{◌≡◌, ℕ, false, List, [], ◌∷◌, length, ap, sym, ◌∙◌, subst, arith}
use Rattle.std.proofs.lemmas.List.{length-append, map-append}
use Rattle.std.specs.List.{AllByRecursion}
use Rattle.engine_guarded.specs.Callers.{CallerView}
use Rattle.engine_guarded.specs.Places.{PlaceKept, PlacesKept}
use Rattle.engine_guarded.specs.Slots.{Slot, seen}
use Rattle.engine_guarded.specs.declared.place.Place.{Place}
use Rattle.engine_guarded.specs.engine_history.proofs.Lists.{all_snoc}
use Rattle.engine_guarded.specs.engine_history.specs.declared.step.Step.{Step}
use Rattle.engine_monitor.specs.declared.opened.SessionStart.{SessionStart}
use Rattle.engine_monitor.specs.declared.session_states.SessionState.{SessionState}
use Rattle.engine_monitor.specs.Ending.{calls_in}
use Rattle.engine_monitor.specs.Engines.{IsFreshState, numbers_in}
use Rattle.engine_monitor.specs.Opened.{ReadsMarks, agreements_of}
use Rattle.engine_monitor.proofs.Opening.{AgreedFrom, below_more, places_snoc, agreed_first, agreed_rest}
use Rattle.engine_monitor.proofs.session_states.start_all.Goals as goal

pub new-requires-clause-name : goal.new-requires-clause-name
new-requires-clause-name g c =
    let names = g.J.Naming.names in
    let rest = c.next.new.self.rest.items in
    let agreed = subst (λ (xs : List SessionStart). AgreedFrom names c.loop-session_start.number (agreements_of xs)) c.in-Some.ensures.steps.0
    c.loop-session_start.invariant.5 in
    c.at-far_end.ensures.name ∙ agreed_first names c.loop-session_start.number c.in-Some.session_start.ends (agreements_of rest) agreed

pub new-requires-in-loop-session_start-clause-name : goal.new-requires-in-loop-session_start-clause-name
new-requires-in-loop-session_start-clause-name g c =
    let names = g.J.Naming.names in
    let rest = c.next.new.self.rest.items in
    let agreed = subst (λ (xs : List SessionStart). AgreedFrom names c.loop-session_start.number (agreements_of xs)) c.in-Some.ensures.steps.0
    c.loop-session_start.invariant.5 in
    ap (λ t. t.name) c.at-far_end.ensures.mark ∙ c.at-far_end.ensures.name
    ∙ agreed_first names c.loop-session_start.number c.in-Some.session_start.ends (agreements_of rest) agreed

pub loop-session_start-preserved : goal.loop-session_start-preserved
loop-session_start-preserved g c =
    let J = g.J.Naming in
    let rest = c.next.new.self.rest.items in
    let k = c.loop-session_start.invariant in
    let n = c.loop-session_start.number in
    let agreed = subst (λ (xs : List SessionStart). AgreedFrom J.names n (agreements_of xs)) c.in-Some.ensures.steps.0 k.5 in
    let read = subst (AllByRecursion (ReadsMarks J.marks)) c.in-Some.ensures.steps.0 k.4 in
    let left = ap (λ (xs : List SessionStart). length xs) c.in-Some.ensures.steps.0 in
    let p = c.new.result in
    let placed : PlaceKept J.entries J.names [] (length c.loop-session_start.places.items) p =
    subst (λ (m : ℕ). PlaceKept J.entries J.names [] m p) (sym k.1) c.new.ensures in
    let added = ap (λ (xs : List Place). length xs) c.in_ok-push.ensures.items in
    let none : seen c.again-in-loop-session_start.result ≡ [] =
    ap (λ (s : Slot). seen s) c.again-in-loop-session_start.ensures ∙ c.requires.empty in
    let is : c.new-in-loop-session_start.result ≡ record { number = n; steps = []; busy = false } =
    c.new-in-loop-session_start.ensures ∙ ap (λ (xs : List Step). record { number = n; steps = xs; busy = false }) none in (
      subst (λ (ps : List Place). PlacesKept J.entries J.names [] ps) (sym c.in_ok-push.ensures.items)
          (places_snoc J.entries J.names c.loop-session_start.places.items p k.0 placed),
      omega (arith, added, k.1, length-append c.loop-session_start.places.items (p ∷ [])),
      subst (λ (ss : List (SessionState g.row.J.Denot)). AllByRecursion (IsFreshState J.marks) ss) (sym c.in_ok-push-2.ensures.items)
          (all_snoc (IsFreshState J.marks) c.loop-session_start.states.items _ k.2
          (ap (λ (v : CallerView). v.busy) is, ap calls_in is, c.new-in-loop-session_start-2.ensures ∙ read.0)),
      ap (λ (ss : List (SessionState g.row.J.Denot)). numbers_in ss) c.in_ok-push-2.ensures.items
          ∙ map-append (λ (s : SessionState g.row.J.Denot). s.caller.number) c.loop-session_start.states.items (_ ∷ [])
          ∙ below_more n _ _ k.3 (ap (λ (v : CallerView). v.number) is),
      read.1,
      agreed_rest J.names n c.in-Some.session_start.ends (agreements_of rest) agreed,
      omega (arith, left, k.6),
    )
