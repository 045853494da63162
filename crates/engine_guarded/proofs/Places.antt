-- What lies under the lock of a session, one step on.
use Rattle.std.proofs.Common.{◌≡◌, ◌⊎◌, ℕ, ◌+◌, zero, suc, ◌==◌, Bool, true, false, cond, List, [], ◌∷◌, ◌++◌, Option, Some, None, refl, ap, sym, ◌∙◌, subst, inl, inr, arith, slice_get, map, set, eqb→eq}
use lib.Dec.{T}
use Rattle.std.specs.Option.{option_map}
use Rattle.boxcar.specs.Table.{Shelves}
use Rattle.history.specs.ListMachine.{Line}
use Rattle.engine_history.specs.declared.failure.Failure.{Failure}
use Rattle.engine_history.specs.declared.step.Step.{Step}
use Rattle.engine_history.specs.node_laws.specs.declared.event.Event.{Event}
use Rattle.engine_history.specs.node_laws.specs.declared.event.Out.{Out}
use Rattle.engine_history.specs.node_laws.specs.Halves.{also}
use Rattle.engine_history.specs.InFlightCalls.{FailsSince, in_flight_after, fails}
use Rattle.engine_history.specs.Kept.{calls_of, later_failure}
use Rattle.engine_history.specs.Sessions.{SessionCalls, SessionCall, awaits, called, called_as, calls_as, cut, cuts_off, heard, hears, is_pending, line_for, line_of, live_after, no_calls, calls_by, pending, told, told_of, worked}
use Rattle.engine_history.specs.Views.{Sees}
use Rattle.engine_agreement.specs.Agreed.{Agreed, agreed_at}
use Rattle.engine_guarded.specs.declared.heard.Heard.{Heard}
use Rattle.engine_guarded.specs.declared.place.Place.{Place}
use Rattle.engine_guarded.specs.Hearing.{as_line, heard_for, heard_to}
use Rattle.engine_guarded.specs.Places.{CameSince, HeardSince, IsAmid, IsResting, PlaceKept, PlacesKept, place_after, place_called, place_heard, place_worked, with_heard}
use Rattle.engine_guarded.specs.Running.{made}
use Rattle.engine_guarded.specs.Slots.{Shown, Slot, seen}
use Rattle.engine_guarded.proofs.Telling.{end_is, tells}
use Rattle.engine_history.proofs.Entering.{calls_same, sees_all, sees_snoc}
use Rattle.engine_history.proofs.Failures.{failed_on, none_since}
use Rattle.engine_history.proofs.NextCalls.{after_called, after_heard, calls_snoc}

pub not_pending : (b : Bool) → cond b false false ≡ false
not_pending true = refl
not_pending false = refl

told_awaits : (c : SessionCall) (l : Line) → awaits (told c l) ≡ false
told_awaits c l = at (awaits c) refl
  where
    at : (b : Bool) → awaits c ≡ b → awaits (called_as c.event c.out (cond (awaits c) (Some l) c.line)) ≡ false
    at true is =
        ap (λ (x : Bool). awaits (called_as c.event c.out (cond x (Some l) c.line))) is ∙ not_pending (is_pending c.out)
    at false is = ap (λ (x : Bool). awaits (called_as c.event c.out (cond x (Some l) c.line))) is ∙ is

told_pending : (o : Option SessionCall) (l : Line) → pending (told_of o l) ≡ false
told_pending None l = refl
told_pending (Some c) l = told_awaits c l

pending_at : (o : Out) → is_pending o ≡ cond (is_pending o) true false
pending_at o = at (is_pending o)
  where
    at : (b : Bool) → b ≡ cond b true false
    at true = refl
    at false = refl

told_line : (was : Option Line) (t : ℕ) (h : Heard) (o : Option SessionCall) (before : Option Heard) (b : Bool)
    → pending o ≡ b → HeardSince was (line_of o) before
    → HeardSince was (line_of (told_of o (as_line t h))) (cond b (Some h) before)
told_line was t h None before true is since = absurd (cc (is))
told_line was t h None before false is since = since
told_line was t h (Some c) before true is since = (t, ap (λ (b : Bool). cond b (Some (as_line t h)) c.line) is)
told_line was t h (Some c) before false is since =
    subst (λ (l : Option Line). HeardSince was l before)
    (sym (ap (λ (b : Bool). cond b (Some (as_line t h)) c.line) is)) since

module _ (was : Option Line) (fs : List Failure) where
  -- the place tells what the calls have
  record Tells (calls : SessionCalls) (p : Place) : Type 0 where
    live : p.live ≡ calls.live
    awaits_so : p.awaits ≡ pending calls.latest
    in_flight : p.in_flight ≡ calls.in_flight
    came : CameSince was fs calls p

  hear_tells : (calls : SessionCalls) (p : Place) (t : ℕ) (h : Option Heard) → Tells calls p
      → Tells (hears calls (option_map (as_line t) h)) (with_heard h p)
  hear_tells calls p t None k = k
  hear_tells calls p t (Some h) k = record {
    live = λ i. cond (sym (end_is t h) i) None (k.live i);
    awaits_so = sym (told_pending calls.latest (as_line t h));
    in_flight = k.in_flight;
    came = record {
      line =
          subst (λ (b : Bool). HeardSince was (line_of (told_of calls.latest (as_line t h))) (cond b (Some h) p.line))
          (sym k.awaits_so) (told_line was t h calls.latest p.line (pending calls.latest) refl k.came.line);
      failed = k.came.failed;
    };
  }

  line_tells : (o : Out) (calls : SessionCalls) (p : Place) (live : Option ℕ) → Tells calls p
      → Tells (hears calls (line_for live o)) (with_heard (heard_for live o) p)
  line_tells o calls p None k = k
  line_tells o calls p (Some t) k =
      subst (λ (l : Option Line). Tells (hears calls l) (with_heard (heard_to t o) p)) (tells t o)
      (hear_tells calls p t (heard_to t o) k)

  worked_tells : (e : Event) (o : Out) (calls : SessionCalls) (p : Place) → Tells calls p
      → Tells (worked calls e o) (place_worked e o p)
  worked_tells e o calls p k =
      let f = fails calls.live calls.in_flight e o in
      let same : fails p.live p.in_flight e o ≡ f = λ i. fails (k.live i) (k.in_flight i) e o in
      record {
        live = k.live;
        awaits_so = k.awaits_so;
        in_flight = λ i. in_flight_after (k.live i) (k.in_flight i) e o;
        came = record {
          line = k.came.line;
          failed =
              subst (λ (u : Option Failure). FailsSince fs (also calls.failures f) (later_failure p.failed u)) (sym same)
              (failed_on fs calls.failures p.failed f k.came.failed);
        };
      }

  heard_tells : (e : Event) (o : Out) (calls : SessionCalls) (p : Place) (b : Bool) → Tells calls p
      → Tells (cond b (cut calls) (hears (worked calls e o) (line_for calls.live o)))
      (cond b (record p { live = None }) (with_heard (heard_for p.live o) (place_worked e o p)))
  heard_tells e o calls p true k =
      record { live = refl; awaits_so = k.awaits_so; in_flight = k.in_flight; came = record { line = k.came.line; failed = k.came.failed } }
  heard_tells e o calls p false k =
      let mid = worked calls e o in
      let q = place_worked e o p in
      subst (λ (live : Option ℕ). Tells (hears mid (line_for calls.live o)) (with_heard (heard_for live o) q)) (sym k.live)
      (line_tells o mid q calls.live (worked_tells e o calls p k))

-- what a step leaves of a place that isn't its caller's
record Keeps (p q : Place) : Type 0 where
  number : q.number ≡ p.number
  far_end : q.far_end ≡ p.far_end
  last : q.last ≡ p.last

heard_keeps : (h : Option Heard) (p : Place) → Keeps p (with_heard h p)
heard_keeps None p = record { number = refl; far_end = refl; last = refl }
heard_keeps (Some h) p = record { number = refl; far_end = refl; last = refl }

keeps_at : (e : Event) (o : Out) (p : Place) (b : Bool)
    → Keeps p (cond b (record p { live = None }) (with_heard (heard_for p.live o) (place_worked e o p)))
keeps_at e o p true = record { number = refl; far_end = refl; last = refl }
keeps_at e o p false =
    let k = heard_keeps (heard_for p.live o) (place_worked e o p) in
    record { number = k.number; far_end = k.far_end; last = k.last }

module _ (entries : Shelves) (names : ℕ → ℕ) where
  -- a place after a step that is no call of its session
  heard_kept : (es : List Step) (s : ℕ) (p : Place) (e : Step) → calls_of s e ≡ false → PlaceKept entries names es s p
      → PlaceKept entries names (es ++ e ∷ []) s (place_heard e.event e.out p)
  heard_kept es s p e other k =
      let q = place_heard e.event e.out p in
      let keeps : Keeps p q = keeps_at e.event e.out p (cuts_off e.event) in
      let calls = calls_by s es in
      let next : calls_by s (es ++ e ∷ []) ≡ heard calls e.event e.out =
      calls_snoc s no_calls es e ∙ after_heard s calls e other in
      let on : (was : Option Line) (fs : List Failure) → CameSince was fs calls p → Tells was fs (calls_by s (es ++ e ∷ [])) q =
      λ was fs came. subst (λ (x : SessionCalls). Tells was fs x q) (sym next)
      (heard_tells was fs e.event e.out calls p (cuts_off e.event)
      (record { live = k.live; awaits_so = k.awaits; in_flight = k.in_flight; came = came })) in
      let stands_on : IsAmid es s p ⊎ IsResting es s p → (IsAmid (es ++ e ∷ []) s q ⊎ IsResting (es ++ e ∷ []) s q) × ((was : Option Line) × (fs : List Failure) × CameSince was fs calls p) =
      stand es s p q e other keeps on in
      let st = stands_on k.stands in
      let t = on st.1.0 st.1.1 st.1.2 in
      record {
        number = keeps.number ∙ k.number;
        name = ap (λ (b : Agreed). b.name) keeps.far_end ∙ k.name;
        shown = subst (Shown entries) (sym keeps.last) k.shown;
        live = t.live;
        awaits = t.awaits_so;
        in_flight = t.in_flight;
        stands = st.0;
      }
    where
      stand : (es : List Step) (s : ℕ) (p q : Place) (e : Step) → calls_of s e ≡ false → Keeps p q
          → ((was : Option Line) (fs : List Failure) → CameSince was fs (calls_by s es) p → Tells was fs (calls_by s (es ++ e ∷ [])) q)
          → IsAmid es s p ⊎ IsResting es s p
          → (IsAmid (es ++ e ∷ []) s q ⊎ IsResting (es ++ e ∷ []) s q)
          × ((was : Option Line) × (fs : List Failure) × CameSince was fs (calls_by s es) p)
      stand es s p q e other keeps on (inl (zero_is, came)) =
          (inl (ap (λ (b : Agreed). b.number) keeps.far_end ∙ zero_is, (on None [] came).came), (None, [], came))
      stand es s p q e other keeps on (inr (number, sees, came)) =
          let was = line_of (calls_by s (seen p.last)).latest in
          let fs = (calls_by s (seen p.last)).failures in
          let now = es ++ e ∷ [] in
          let new = (on was fs came).came in (
            inr (
              ap (λ (b : Agreed). b.number) keeps.far_end ∙ number ∙ ap (λ (x : Slot). x.index + 1) (sym keeps.last),
              subst (λ (x : Slot). Sees (calls_of s) (seen x) now) (sym keeps.last)
                  (sees_snoc (calls_of s) (seen p.last) es e other sees),
              subst (λ (x : Slot). CameSince (line_of (calls_by s (seen x)).latest) (calls_by s (seen x)).failures
                  (calls_by s now) q) (sym keeps.last) new,
            ),
            (was, fs, came),
          )

  -- the place of the session that called
  pub called_kept : (es : List Step) (s : ℕ) (p : Place) (e : Event) (o : Out) (name : ℕ) → PlaceKept entries names es s p
      → name ≡ p.far_end.name
      → PlaceKept entries names (es ++ made (Some s) e o ∷ []) s (record (place_called o p) { far_end = agreed_at name 0 })
  called_kept es s p e o name k named =
      let calls = calls_by s es in
      let next : calls_by s (es ++ made (Some s) e o ∷ []) ≡ called calls e o =
      calls_snoc s no_calls es (made (Some s) e o)
      ∙ after_called s calls (made (Some s) e o) (calls_same (Some s) s refl) in
      record {
        number = k.number;
        name = named ∙ k.name;
        shown = k.shown;
        live = ap (λ (l : Option ℕ). live_after l o) k.live ∙ sym (ap (λ (x : SessionCalls). x.live) next);
        awaits = pending_at o ∙ sym (ap (λ (x : SessionCalls). pending x.latest) next);
        in_flight = sym (ap (λ (x : SessionCalls). x.in_flight) next);
        stands = inl (
          refl,
          record {
            line = ap (λ (x : SessionCalls). line_of x.latest) next;
            failed =
                subst (λ (fs : List Failure). FailsSince [] fs None) (sym (ap (λ (x : SessionCalls). x.failures) next)) (none_since []);
          },
        );
      }

  -- the place of a session that has seen all
  pub finished_kept : (es : List Step) (s : ℕ) (p q : Place) (name : ℕ) (token : Slot) → PlaceKept entries names es s p
      → Shown entries token → seen token ≡ es → name ≡ p.far_end.name
      → q ≡ record p { far_end = agreed_at name (token.index + 1); last = token; line = None; failed = None }
      → PlaceKept entries names es s q
  finished_kept es s p q name token k here all named is =
      subst (PlaceKept entries names es s) (sym is) (record {
        number = k.number;
        name = named ∙ k.name;
        shown = here;
        live = k.live;
        awaits = k.awaits;
        in_flight = k.in_flight;
        stands = inr (
          refl,
          sees_all (calls_of s) (seen token) es (sym all),
          record {
            line = ap (λ (xs : List Step). line_of (calls_by s xs).latest) (sym all);
            failed =
                subst (λ (xs : List Step). FailsSince (calls_by s xs).failures (calls_by s es).failures None) (sym all)
                (none_since (calls_by s es).failures);
          },
        );
      })

-- ---- all places

calls_other : (o : Option ℕ) (n s : ℕ) → o ≡ Some n → (s ≡ n → ⊥) → calls_as o s ≡ false
calls_other o n s is other =
    subst (λ (w : Option ℕ). calls_as w s ≡ false) (sym is)
    (false_of (n == s) (λ t. other (sym (eqb→eq n s (subst T (sym t) tt)))))
  where
    false_of : (b : Bool) → (b ≡ true → ⊥) → b ≡ false
    false_of true h = absurd (h refl)
    false_of false h = refl

map_get : {A B : Type 0} (f : A → B) (xs : List A) (k : ℕ) (y : B) → slice_get (map f xs) k ≡ Some y
    → (x : A) × (slice_get xs k ≡ Some x) × (f x ≡ y)
map_get f [] k y at = absurd (cc (at))
map_get f (x ∷ xs) zero y at = (x, refl, cc (at))
map_get f (x ∷ xs) (suc k) y at = map_get f xs k y at

data Placed {A : Type 0} (xs : List A) (n : ℕ) (x : A) (s : ℕ) (p : A) : Type 0 where
  here : s ≡ n → x ≡ p → Placed xs n x s p
  elsewhere : (s ≡ n → ⊥) → slice_get xs s ≡ Some p → Placed xs n x s p

placed : {A : Type 0} → (xs : List A) (n : ℕ) (x : A) (s : ℕ) (p : A) → slice_get (set xs n x) s ≡ Some p
    → Placed xs n x s p
placed [] n x s p at = absurd (cc (at))
placed (y ∷ ys) zero x zero p at = here refl (cc (at))
placed (y ∷ ys) zero x (suc s) p at = elsewhere (λ e. omega (arith, e)) at
placed (y ∷ ys) (suc n) x zero p at = elsewhere (λ e. omega (arith, e)) at
placed (y ∷ ys) (suc n) x (suc s) p at =
    elim (placed ys n x s p at) [
      | here e h ↦ here (omega (arith, e)) h
      | elsewhere e a ↦ elsewhere (λ q. e (omega (arith, q))) a
    ]

module _ (entries : Shelves) (names : ℕ → ℕ) where
  -- a step that nobody called
  pub places_stepped : (es : List Step) (places : List Place) (e : Event) (o : Out) → PlacesKept entries names es places
      → PlacesKept entries names (es ++ made None e o ∷ []) (map (place_after (made None e o)) places)
  places_stepped es places e o kept s q at =
      let found = map_get (place_after (made None e o)) places s q at in
      subst (PlaceKept entries names (es ++ made None e o ∷ []) s) found.2
      (heard_kept entries names es s found.0 (made None e o) refl (kept s found.0 found.1))

  -- the place of a session that called, before it is set
  pub own_place : (es : List Step) (places : List Place) (n : ℕ) (e : Event) (o : Out) (p : Place)
      → PlacesKept entries names es places → slice_get (map (place_after (made (Some n) e o)) places) n ≡ Some p
      → (q : Place) × PlaceKept entries names es n q × (p ≡ place_called o q)
  own_place es places n e o p kept at =
      let found = map_get (place_after (made (Some n) e o)) places n p at in
      let q = found.0 in
      let k = kept n q found.1 in
      let own : calls_as (Some n) q.number ≡ true = ap (calls_as (Some n)) k.number ∙ calls_same (Some n) n refl in
      (q, k, sym found.2 ∙ ap (λ (b : Bool). cond b (place_called o q) (place_heard e o q)) own)

  -- a call, whose session hasn't seen it to its end
  pub places_called : (es : List Step) (places : List Place) (n : ℕ) (e : Event) (o : Out) (p r : Place) (name : ℕ)
      → PlacesKept entries names es places → slice_get (map (place_after (made (Some n) e o)) places) n ≡ Some p
      → name ≡ p.far_end.name → r ≡ record p { far_end = agreed_at name 0 }
      → PlacesKept entries names (es ++ made (Some n) e o ∷ []) (set (map (place_after (made (Some n) e o)) places) n r)
  places_called es places n e o p r name kept there named r_is s x at =
      let step = made (Some n) e o in
      elim (placed (map (place_after step) places) n r s x at) [
        | here same is ↦
            let own = own_place es places n e o p kept there in
            let q = own.0 in
            let done : PlaceKept entries names (es ++ step ∷ []) n (record p { far_end = agreed_at name 0 }) =
            subst (λ (y : Place). PlaceKept entries names (es ++ step ∷ []) n (record y { far_end = agreed_at name 0 })) (sym own.2)
            (called_kept entries names es n q e o name own.1 (named ∙ ap (λ (y : Place). y.far_end.name) own.2)) in
            subst (λ (w : ℕ × Place). PlaceKept entries names (es ++ step ∷ []) w.0 w.1)
            (λ i. (sym same i, (sym r_is ∙ is) i)) done
        | elsewhere other old ↦
            let found = map_get (place_after step) places s x old in
            let q = found.0 in
            let k = kept s q found.1 in
            let off : calls_as (Some n) s ≡ false = calls_other (Some n) n s refl other in
            let same : place_after step q ≡ place_heard e o q =
            ap (λ (b : Bool). cond b (place_called o q) (place_heard e o q)) (ap (calls_as (Some n)) k.number ∙ off) in
            subst (PlaceKept entries names (es ++ step ∷ []) s) (sym same ∙ found.2)
            (heard_kept entries names es s q step off k)
      ]

  -- one place has changed
  pub places_set : (es : List Step) (places : List Place) (n : ℕ) (q : Place) → PlacesKept entries names es places
      → PlaceKept entries names es n q → PlacesKept entries names es (set places n q)
  places_set es places n q kept done s x at =
      elim (placed places n q s x at) [
        | here same is ↦
            subst (λ (w : ℕ × Place). PlaceKept entries names es w.0 w.1) (λ i. (sym same i, is i)) done
        | elsewhere other old ↦ kept s x old
      ]
