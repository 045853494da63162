use Rattle.std.proofs.Common.{ℕ, List, [], ◌∷◌, length, ap, sym, ◌∙◌, subst, arith}
use Rattle.std.proofs.lemmas.List.{length-append, map-append}
use Rattle.std.specs.List.{AllByRecursion}
use Rattle.engine_workers.specs.declared.opened.SessionStart.{SessionStart}
use Rattle.engine_sessions.specs.engine_history.specs.declared.place.Place.{Place}
use Rattle.engine_workers.specs.declared.session_states.SessionState.{SessionState}
use Rattle.engine_workers.specs.Closing.{IsFreshState, numbers_in}
use Rattle.engine_sessions.specs.engine_history.specs.Kept.{PlaceKept, PlacesKept}
use Rattle.engine_workers.specs.Opened.{ReadsMarks, agreements_of}
use Rattle.engine_sessions.specs.engine_history.proofs.Lists.{all_snoc}
use Rattle.engine_workers.proofs.Opening.{AgreedFrom, below_more, places_snoc, agreed_first, agreed_rest}
use Rattle.engine_workers.proofs.session_states.start_all.Goals as goal

pub new-requires-clause-name : goal.new-requires-clause-name
new-requires-clause-name g c =
    let names = g.J.Naming.names in
    let rest = c.next.new.self.rest.items in
    let agreed = subst (λ (xs : List SessionStart). AgreedFrom names c.loop-session_start.number (agreements_of xs)) c.in-Some.ensures.steps.0
    c.loop-session_start.invariant.5 in
    c.parted-far_end.ensures.name ∙ agreed_first names c.loop-session_start.number c.in-Some.session_start.ends (agreements_of rest) agreed

pub new-requires-in-loop-session_start-clause-name : goal.new-requires-in-loop-session_start-clause-name
new-requires-in-loop-session_start-clause-name g c =
    let names = g.J.Naming.names in
    let rest = c.next.new.self.rest.items in
    let agreed = subst (λ (xs : List SessionStart). AgreedFrom names c.loop-session_start.number (agreements_of xs)) c.in-Some.ensures.steps.0
    c.loop-session_start.invariant.5 in
    ap (λ t. t.name) c.parted-far_end.ensures.mark ∙ c.parted-far_end.ensures.name
    ∙ agreed_first names c.loop-session_start.number c.in-Some.session_start.ends (agreements_of rest) agreed

pub loop-session_start-preserved : goal.loop-session_start-preserved
loop-session_start-preserved g c =
    let J = g.J.Naming in
    let rest = c.next.new.self.rest.items in
    let k = c.loop-session_start.invariant in
    let n = c.loop-session_start.number in
    let agreed = subst (λ (xs : List SessionStart). AgreedFrom J.names n (agreements_of xs)) c.in-Some.ensures.steps.0 k.5 in
    let read = subst (AllByRecursion (ReadsMarks J.marks)) c.in-Some.ensures.steps.0 k.4 in
    let left = ap (λ (xs : List SessionStart). length xs) c.in-Some.ensures.steps.0 in
    let p = c.new.result in
    let placed : PlaceKept J.entries J.names [] (length c.loop-session_start.places.items) p =
    subst (λ (m : ℕ). PlaceKept J.entries J.names [] m p) (sym k.1) c.new.ensures in
    let added = ap (λ (xs : List (Place g.row.J.Denot)). length xs) c.in_ok-push.ensures.items in (
      subst (λ (ps : List (Place g.row.J.Denot)). PlacesKept J.entries J.names [] ps) (sym c.in_ok-push.ensures.items)
          (places_snoc J.entries J.names c.loop-session_start.places.items p k.0 placed),
      omega (arith, added, k.1, length-append c.loop-session_start.places.items (p ∷ [])),
      subst (λ (ss : List (SessionState g.row.J.Denot)). AllByRecursion (IsFreshState J.marks) ss) (sym c.in_ok-push-2.ensures.items)
          (all_snoc (IsFreshState J.marks) c.loop-session_start.states.items _ k.2
          (ap (λ v. v.calls) c.new-in-loop-session_start.ensures, read.0)),
      ap (λ (ss : List (SessionState g.row.J.Denot)). numbers_in ss) c.in_ok-push-2.ensures.items
          ∙ map-append (λ (s : SessionState g.row.J.Denot). s.caller.number) c.loop-session_start.states.items (_ ∷ [])
          ∙ below_more n _ _ k.3 (ap (λ v. v.number) c.new-in-loop-session_start.ensures),
      read.1,
      agreed_rest J.names n c.in-Some.session_start.ends (agreements_of rest) agreed,
      omega (arith, left, k.6),
    )
