-- A session's calls, one entry on.
use Rattle.std.proofs.Common.{◌≡◌, ◌⊎◌, ℕ, IfSome, Bool, true, false, cond, List, [], ◌∷◌, ◌++◌, Option, Some, None, refl, ap, sym, ◌∙◌, subst, inl, inr}
use Rattle.std.specs.List.{AllByRecursion}
use Rattle.boxcar.specs.Table.{Shelves}
use Rattle.history.specs.ListMachine.{Line}
use Rattle.node_sides.specs.node_laws.specs.declared.event.Event.{Event}
use Rattle.node_sides.specs.node_laws.specs.declared.event.Out.{Out}
use Rattle.node_sides.specs.node_laws.specs.Halves.{also}
use Rattle.engine_history.specs.declared.failure.Failure.{Failure}
use Rattle.engine_history.specs.declared.place.Place.{Place}
use Rattle.engine_history.specs.declared.step.Step.{Step}
use Rattle.engine_history.specs.InFlightCalls.{FailsSince, in_flight_after, in_flight_of, fails}
use Rattle.engine_history.specs.Kept.{calls_of, PlaceKept, IsLine, later_failure, with_told, place_heard, place_worked}
use Rattle.engine_history.specs.Sessions.{SessionCall, SessionCalls, with_latest, call_list, line_to, line_for, is_pending, awaits, told, told_of, pending, line_of, live_after, ends, called_as, hears, worked, cut, cuts_off, heard, called, next_calls, calls_after, no_calls, calls_by, IsClosed, IsLeft, IsSameCall}
use Rattle.engine_history.specs.Callers.{IsGrown}
use Rattle.engine_history.specs.Slots.{Slot, Shown, IsShown}
use Rattle.engine_history.specs.Views.{View, Sees}
use Rattle.engine_history.proofs.Failures.{also_since, failed_on, none_since, since_on}
use Rattle.engine_history.proofs.Lists.{all_snoc}
use Rattle.std.proofs.lemmas.List.{append-nil}
use Rattle.std.proofs.Common.{append_assoc}

pub calls_snoc : (s : ℕ) (calls : SessionCalls) (es : List Step) (e : Step)
    → calls_after s calls (es ++ e ∷ []) ≡ next_calls s (calls_after s calls es) e
calls_snoc s calls [] e = refl
calls_snoc s calls (x ∷ es) e = calls_snoc s (next_calls s calls x) es e

pub calls_append : (s : ℕ) (calls : SessionCalls) (es fs : List Step)
    → calls_after s calls (es ++ fs) ≡ calls_after s (calls_after s calls es) fs
calls_append s calls [] fs = refl
calls_append s calls (x ∷ es) fs = calls_append s (next_calls s calls x) es fs

pub after_heard : (s : ℕ) (calls : SessionCalls) (e : Step) → calls_of s e ≡ false → next_calls s calls e ≡ heard calls e.event e.out
after_heard s calls e is =
    ap (λ (b : Bool). cond b (called calls e.event e.out) (heard calls e.event e.out)) is

pub after_called : (s : ℕ) (calls : SessionCalls) (e : Step) → calls_of s e ≡ true → next_calls s calls e ≡ called calls e.event e.out
after_called s calls e is =
    ap (λ (b : Bool). cond b (called calls e.event e.out) (heard calls e.event e.out)) is

-- ---- steps that are no calls of the session

told_same : (c : SessionCall) (line : Line) → awaits c ≡ false → told c line ≡ c
told_same c line is = λ i. called_as c.event c.out (cond (is i) (Some line) c.line)

told_of_same : (o : Option SessionCall) (line : Line) → pending o ≡ false → told_of o line ≡ o
told_of_same None line is = refl
told_of_same (Some c) line is = ap (λ (d : SessionCall). Some d) (told_same c line is)

left_on : (old mid new : Option ℕ) → IsLeft old mid → IsLeft mid new → IsLeft old new
left_on old mid new a (inr gone) = inr gone
left_on old mid new (inl same) (inl still) = inl (still ∙ same)
left_on old mid new (inr gone) (inl still) = inr (still ∙ gone)

left_if : (b : Bool) (live : Option ℕ) → IsLeft live (cond b None live)
left_if true live = inr refl
left_if false live = inl refl

record Stays (old new : SessionCalls) : Type 0 where
  before : new.before ≡ old.before
  latest : new.latest ≡ old.latest
  closed : IsClosed new
  live : IsLeft old.live new.live

hears_closed : (calls : SessionCalls) (line : Option Line) → IsClosed calls → (calls.live ≡ None → line ≡ None)
    → Stays calls (hears calls line)
hears_closed calls None is none = record { before = refl; latest = refl; closed = is; live = inl refl }
hears_closed calls (Some line) (inl gone) none = absurd (cc (none gone))
hears_closed calls (Some line) (inr idle) none =
    let same = told_of_same calls.latest line idle in
    record { before = refl; latest = same; closed = inr (ap pending same ∙ idle); live = left_if (ends line) calls.live }

line_for_none : (live : Option ℕ) (o : Out) → live ≡ None → line_for live o ≡ None
line_for_none live o is = ap (λ (l : Option ℕ). line_for l o) is

heard_at : (calls : SessionCalls) (b : Bool) (e : Event) (o : Out) → IsClosed calls
    → Stays calls (cond b (cut calls) (hears (worked calls e o) (line_for calls.live o)))
heard_at calls true e o is = record { before = refl; latest = refl; closed = inl refl; live = inr refl }
heard_at calls false e o is =
    let s = hears_closed (worked calls e o) (line_for calls.live o) is (line_for_none calls.live o) in
    record { before = s.before; latest = s.latest; closed = s.closed; live = s.live }

on : (old mid new : SessionCalls) → Stays old mid → Stays mid new → Stays old new
on old mid new a b = record {
  before = b.before ∙ a.before;
  latest = b.latest ∙ a.latest;
  closed = b.closed;
  live = left_on old.live mid.live new.live a.live b.live;
}

stays : (s : ℕ) (calls : SessionCalls) (es : List Step) → AllByRecursion (λ e. calls_of s e ≡ false) es → IsClosed calls
    → Stays calls (calls_after s calls es)
stays s calls [] n is = record { before = refl; latest = refl; closed = is; live = inl refl }
stays s calls (e ∷ es) n is =
    let one : Stays calls (next_calls s calls e) =
    subst (Stays calls) (sym (after_heard s calls e n.0)) (heard_at calls (cuts_off e.event) e.event e.out is) in
    on calls (next_calls s calls e) _ one (stays s (next_calls s calls e) es n.1 one.closed)

-- what a session has seen to be closed is still so, and no other transaction is its own
pub closed_on : (s : ℕ) (before now : List Step) → Sees (calls_of s) before now → IsClosed (calls_by s before)
    → (call_list (calls_by s now) ≡ call_list (calls_by s before)) × IsClosed (calls_by s now)
    × (((calls_by s now).live ≡ (calls_by s before).live) ⊎ ((calls_by s now).live ≡ None))
closed_on s before now sees is =
    let all : calls_by s now ≡ calls_after s (calls_by s before) sees.since =
    ap (calls_by s) sees.all ∙ calls_append s no_calls before sees.since in
    let st = stays s (calls_by s before) sees.since sees.none is in
    let st' : Stays (calls_by s before) (calls_by s now) = subst (Stays (calls_by s before)) (sym all) st in
    ((λ i. with_latest (st'.before i) (st'.latest i)), st'.closed, st'.live)

-- so one that is alive was so before
pub still : (o live seen : Option ℕ) → o ≡ seen → (seen ≡ live) ⊎ (seen ≡ None) → IfSome o (λ t. live ≡ Some t)
still None live seen is left = tt
still (Some t) live seen is (inl same) = sym same ∙ sym is
still (Some t) live seen is (inr gone) = absurd (cc (is ∙ gone))

-- ---- a line after which the transaction has ended

abbrev EndsAll : SessionCalls → Type 0
EndsAll calls = (l : Line) → line_of calls.latest ≡ Some l → ends l ≡ true → calls.live ≡ None

ended_hears : (calls : SessionCalls) (line : Option Line) → EndsAll calls → EndsAll (hears calls line)
ended_hears calls None all = all
ended_hears calls (Some heard) all = at calls.latest (awaits_of calls.latest) refl all
  where
    awaits_of : Option SessionCall → Bool
    awaits_of o = pending o

    gone : (b : Bool) (live : Option ℕ) → live ≡ None → cond b None live ≡ None
    gone true live is = refl
    gone false live is = is

    at : (o : Option SessionCall) (b : Bool) → pending o ≡ b
        → ((l : Line) → line_of o ≡ Some l → ends l ≡ true → calls.live ≡ None)
        → (l : Line) → line_of (told_of o heard) ≡ Some l → ends l ≡ true → cond (ends heard) None calls.live ≡ None
    at None b is was l has end = absurd (cc (has))
    at (Some c) true is was l has end =
        let same : heard ≡ l = cc (sym (ap (λ (x : Bool). cond x (Some heard) c.line) is) ∙ has) in
        ap (λ (x : Bool). cond x None calls.live) (ap ends same ∙ end)
    at (Some c) false is was l has end =
        gone (ends heard) calls.live
        (was l (sym (ap (λ (x : Bool). cond x (Some heard) c.line) is) ∙ has) end)

ended_heard : (calls : SessionCalls) (b : Bool) (e : Event) (o : Out) → EndsAll calls
    → EndsAll (cond b (cut calls) (hears (worked calls e o) (line_for calls.live o)))
ended_heard calls true e o all = λ l has end. refl
ended_heard calls false e o all = ended_hears (worked calls e o) (line_for calls.live o) all

ended_after : (s : ℕ) (calls : SessionCalls) (e : Step) → EndsAll calls → EndsAll (next_calls s calls e)
ended_after s calls e all = at (calls_of s e)
  where
    at : (b : Bool) → EndsAll (cond b (called calls e.event e.out) (heard calls e.event e.out))
    at true = λ l has end. absurd (cc (has))
    at false = ended_heard calls (cuts_off e.event) e.event e.out all

ended_all : (s : ℕ) (calls : SessionCalls) (es : List Step) → EndsAll calls → EndsAll (calls_after s calls es)
ended_all s calls [] all = all
ended_all s calls (e ∷ es) all = ended_all s (next_calls s calls e) es (ended_after s calls e all)

-- once it was told so
pub ended : (s : ℕ) (es : List Step) (l : Line) → line_of (calls_by s es).latest ≡ Some l → ends l ≡ true
    → (calls_by s es).live ≡ None
ended s es = ended_all s no_calls es (λ l has end. absurd (cc (has)))

record Grows (old new : SessionCalls) : Type 0 where
  before : new.before ≡ old.before
  latest : IsSameCall old.latest new.latest
  live : IsLeft old.live new.live
  failures : FailsSince old.failures new.failures None

same_call : (o : Option SessionCall) → IsSameCall o o
same_call None = refl
same_call (Some c) = (c.line, refl)

told_same_call : (o : Option SessionCall) (line : Line) → IsSameCall o (told_of o line)
told_same_call None line = refl
told_same_call (Some c) line = (cond (awaits c) (Some line) c.line, refl)

same_call_on : (a b c : Option SessionCall) → IsSameCall a b → IsSameCall b c → IsSameCall a c
same_call_on None b c is m = subst (λ (o : Option SessionCall). IsSameCall o c) is m
same_call_on (Some x) b c is m =
    let n : IsSameCall (Some (called_as x.event x.out is.0)) c = subst (λ (o : Option SessionCall). IsSameCall o c) is.1 m in
    (n.0, n.1)

hears_grows : (calls : SessionCalls) (line : Option Line) → Grows calls (hears calls line)
hears_grows calls None =
    record { before = refl; latest = same_call calls.latest; live = inl refl; failures = none_since calls.failures }
hears_grows calls (Some line) = record {
  before = refl;
  latest = told_same_call calls.latest line;
  live = left_if (ends line) calls.live;
  failures = none_since calls.failures;
}

grows_at : (calls : SessionCalls) (b : Bool) (e : Event) (o : Out)
    → Grows calls (cond b (cut calls) (hears (worked calls e o) (line_for calls.live o)))
grows_at calls true e o =
    record { before = refl; latest = same_call calls.latest; live = inr refl; failures = none_since calls.failures }
grows_at calls false e o =
    let mid = worked calls e o in
    let g = hears_grows mid (line_for calls.live o) in
    record {
      before = g.before;
      latest = g.latest;
      live = g.live;
      failures =
          since_on calls.failures mid.failures (hears mid (line_for calls.live o)).failures
          (also_since calls.failures (fails calls.live calls.in_flight e o)) g.failures;
    }

grows : (s : ℕ) (calls : SessionCalls) (es : List Step) → AllByRecursion (λ e. calls_of s e ≡ false) es
    → Grows calls (calls_after s calls es)
grows s calls [] n =
    record { before = refl; latest = same_call calls.latest; live = inl refl; failures = none_since calls.failures }
grows s calls (e ∷ es) n =
    let one : Grows calls (next_calls s calls e) =
    subst (Grows calls) (sym (after_heard s calls e n.0)) (grows_at calls (cuts_off e.event) e.event e.out) in
    let rest = grows s (next_calls s calls e) es n.1 in
    record {
      before = rest.before ∙ one.before;
      latest = same_call_on calls.latest (next_calls s calls e).latest _ one.latest rest.latest;
      live = left_on calls.live (next_calls s calls e).live _ one.live rest.live;
      failures = since_on calls.failures (next_calls s calls e).failures _ one.failures rest.failures;
    }

-- the session's calls are those that it knows of, and of the latest more may have been told
pub grown : (s : ℕ) (before now : List Step) → Sees (calls_of s) before now → IsGrown (calls_by s before) (calls_by s now)
grown s before now sees =
    let all : calls_by s now ≡ calls_after s (calls_by s before) sees.since =
    ap (calls_by s) sees.all ∙ calls_append s no_calls before sees.since in
    let g : Grows (calls_by s before) (calls_by s now) =
    subst (Grows (calls_by s before)) (sym all) (grows s (calls_by s before) sees.since sees.none) in
    record {
      before = g.before;
      latest = g.latest;
      live = g.live;
      failures = g.failures;
      closed = λ is. let on = closed_on s before now sees is in (on.0, on.1);
    }

-- ---- the place of a session

teller : (live : Option ℕ) (o : Out) (l : Line) → line_for live o ≡ Some l → (t : ℕ) × (line_to t o ≡ Some l)
teller None o l is = absurd (cc (is))
teller (Some t) o l is = (t, is)

not_pending : (b : Bool) → cond b false false ≡ false
not_pending true = refl
not_pending false = refl

told_awaits : (c : SessionCall) (l : Line) → awaits (told c l) ≡ false
told_awaits c l = told_awaits_at (awaits c) refl
  where
    told_awaits_at : (b : Bool) → awaits c ≡ b → awaits (called_as c.event c.out (cond (awaits c) (Some l) c.line)) ≡ false
    told_awaits_at true is =
        ap (λ (x : Bool). awaits (called_as c.event c.out (cond x (Some l) c.line))) is ∙ not_pending (is_pending c.out)
    told_awaits_at false is =
        ap (λ (x : Bool). awaits (called_as c.event c.out (cond x (Some l) c.line))) is ∙ is

told_line : (token : Slot) (o : Option SessionCall) (l : Line) (was : Option Slot) (t : ℕ) → line_to t token.value.step.value.out ≡ Some l
    → IsLine (line_of o) was → (b : Bool) → pending o ≡ b → IsLine (line_of (told_of o l)) (cond b (Some token) was)
told_line token None l was t tells is true aw = absurd (cc (aw))
told_line token None l was t tells is false aw = is
told_line token (Some c) l was t tells is true aw =
    (t, (l, ap (λ (b : Bool). cond b (Some l) c.line) aw, tells))
told_line token (Some c) l was t tells is false aw =
    subst (λ (line : Option Line). IsLine line was) (sym (ap (λ (b : Bool). cond b (Some l) c.line) aw)) is

told_pending : (o : Option SessionCall) (l : Line) → pending (told_of o l) ≡ false
told_pending None l = refl
told_pending (Some c) l = told_awaits c l

shown_at : (entries : Shelves) (token : Slot) (b : Bool) (was : Option Slot) → Shown entries token → IsShown entries was
    → IsShown entries (cond b (Some token) was)
shown_at entries token true was here there = here
shown_at entries token false was here there = there

pending_at : (o : Out) → is_pending o ≡ cond (is_pending o) true false
pending_at o = at (is_pending o)
  where
    at : (b : Bool) → b ≡ cond b true false
    at true = refl
    at false = refl

module _ {J : Type 0} (entries : Shelves) where
  -- the place tells what the calls have
  record Tells (before : List Failure) (calls : SessionCalls) (p : Place J) : Type 0 where
    live : p.live ≡ calls.live
    awaits : p.awaits ≡ pending calls.latest
    line : IsLine (line_of calls.latest) p.line
    in_flight : p.in_flight ≡ calls.in_flight
    failed : FailsSince before calls.failures p.failed

  hears_tells : (before : List Failure) (token : Slot) (calls : SessionCalls) (p : Place J) (line : Option Line)
      → Tells before calls p → line_for calls.live token.value.step.value.out ≡ line
      → Tells before (hears calls line) (with_told line token p)
  hears_tells before token calls p None k is = k
  hears_tells before token calls p (Some l) k is =
      let t = teller calls.live token.value.step.value.out l is in
      record {
        live = ap (cond (ends l) None) k.live;
        awaits = sym (told_pending calls.latest l);
        line =
            subst (λ (b : Bool). IsLine (line_of (told_of calls.latest l)) (cond b (Some token) p.line)) (sym k.awaits)
            (told_line token calls.latest l p.line t.0 t.1 k.line (pending calls.latest) refl);
        in_flight = k.in_flight;
        failed = k.failed;
      }

  worked_tells : (before : List Failure) (e : Event) (o : Out) (calls : SessionCalls) (p : Place J) → Tells before calls p
      → Tells before (worked calls e o) (place_worked e o p)
  worked_tells before e o calls p k =
      let f = fails calls.live calls.in_flight e o in
      let same : fails p.live p.in_flight e o ≡ f = λ i. fails (k.live i) (k.in_flight i) e o in
      record {
        live = k.live;
        awaits = k.awaits;
        line = k.line;
        in_flight = λ i. in_flight_after (k.live i) (k.in_flight i) e o;
        failed =
            subst (λ (u : Option Failure). FailsSince before (also calls.failures f) (later_failure p.failed u)) (sym same)
            (failed_on before calls.failures p.failed f k.failed);
      }

  heard_tells : (before : List Failure) (token : Slot) (e : Event) (calls : SessionCalls) (p : Place J) (b : Bool)
      → Tells before calls p
      → Tells before
      (cond b (cut calls)
      (hears (worked calls e token.value.step.value.out) (line_for calls.live token.value.step.value.out)))
      (cond b (record p { live = None })
      (with_told (line_for p.live token.value.step.value.out) token (place_worked e token.value.step.value.out p)))
  heard_tells before token e calls p true k =
      record { live = refl; awaits = k.awaits; line = k.line; in_flight = k.in_flight; failed = k.failed }
  heard_tells before token e calls p false k =
      let o = token.value.step.value.out in
      let mid = worked calls e o in
      let q = place_worked e o p in
      subst (λ (live : Option ℕ). Tells before (hears mid (line_for calls.live o)) (with_told (line_for live o) token q))
      (sym k.live)
      (hears_tells before token mid q (line_for calls.live o) (worked_tells before e o calls p k) refl)

  -- what an entry leaves of a place that isn't its caller's
  record Keeps (token : Slot) (p q : Place J) : Type 0 where
    number : q.number ≡ p.number
    cursor_end : q.cursor_end ≡ p.cursor_end
    shown : IsShown entries p.line → IsShown entries q.line

  with_told_keeps : (token : Slot) (p : Place J) (line : Option Line) → Shown entries token
      → Keeps token p (with_told line token p)
  with_told_keeps token p None here = record { number = refl; cursor_end = refl; shown = λ there. there }
  with_told_keeps token p (Some l) here =
      record { number = refl; cursor_end = refl; shown = λ there. shown_at entries token p.awaits p.line here there }

  heard_keeps : (token : Slot) (e : Event) (o : Out) (p : Place J) (b : Bool) → Shown entries token
      → Keeps token p (cond b (record p { live = None }) (with_told (line_for p.live o) token (place_worked e o p)))
  heard_keeps token e o p true here = record { number = refl; cursor_end = refl; shown = λ there. there }
  heard_keeps token e o p false here =
      let k = with_told_keeps token (place_worked e o p) (line_for p.live o) here in
      record { number = k.number; cursor_end = k.cursor_end; shown = k.shown }

  -- a place after an entry that is no call of its session
  pub heard_kept : (names : ℕ → ℕ) (es : List Step) (s : ℕ) (p : Place J) (token : Slot) → Shown entries token
      → calls_of s token.value.step.value ≡ false → PlaceKept entries names es s p
      → PlaceKept entries names (es ++ token.value.step.value ∷ []) s
      (place_heard token.value.step.value.event token.value.step.value.out token p)
  heard_kept names es s p token here other k =
      let e = token.value.step.value in
      let q = place_heard e.event e.out token p in
      let keeps : Keeps token p q = heard_keeps token e.event e.out p (cuts_off e.event) here in
      let calls = calls_by s es in
      let next : calls_by s (es ++ e ∷ []) ≡ heard calls e.event e.out =
      calls_snoc s no_calls es e ∙ after_heard s calls e other in
      let before = (calls_by s p.cursor_end.steps).failures in
      let was : Tells before calls p =
      record { live = k.live; awaits = k.awaits; line = k.line; in_flight = k.in_flight; failed = k.failed } in
      let tells : Tells before (calls_by s (es ++ e ∷ [])) q =
      subst (λ (x : SessionCalls). Tells before x q) (sym next) (heard_tells before token e.event calls p (cuts_off e.event) was) in
      let sees : Sees (calls_of s) p.cursor_end.steps (es ++ e ∷ []) = record {
        since = k.sees.since ++ e ∷ [];
        all = ap (λ (xs : List Step). xs ++ e ∷ []) k.sees.all ∙ append_assoc p.cursor_end.steps k.sees.since (e ∷ []);
        none = all_snoc (λ x. calls_of s x ≡ false) k.sees.since e k.sees.none other;
      } in
      record {
        number = keeps.number ∙ k.number;
        name = ap (λ (v : View). v.name) keeps.cursor_end ∙ k.name;
        sees = subst (λ (v : View). Sees (calls_of s) v.steps (es ++ e ∷ [])) (sym keeps.cursor_end) sees;
        live = tells.live;
        awaits = tells.awaits;
        shown = keeps.shown k.shown;
        line = tells.line;
        in_flight = tells.in_flight;
        failed =
            subst (λ (v : View). FailsSince (calls_by s v.steps).failures (calls_by s (es ++ e ∷ [])).failures q.failed)
            (sym keeps.cursor_end) tells.failed;
      }

  -- a place after a call of its session, which has seen it
  pub called_kept : (names : ℕ → ℕ) (es : List Step) (s : ℕ) (p q : Place J) (e : Step) → calls_of s e ≡ true
      → PlaceKept entries names es s p → q.number ≡ p.number
      → q.cursor_end ≡ record { name = p.cursor_end.name; steps = es ++ e ∷ [] } → q.live ≡ live_after p.live e.out
      → q.awaits ≡ is_pending e.out → q.line ≡ None → q.in_flight ≡ in_flight_of e.out → q.failed ≡ None
      → PlaceKept entries names (es ++ e ∷ []) s q
  called_kept names es s p q e own k number cursor_end live awaits_is line in_flight failed =
      let calls = calls_by s es in
      let next : calls_by s (es ++ e ∷ []) ≡ called calls e.event e.out =
      calls_snoc s no_calls es e ∙ after_called s calls e own in
      record {
        number = number ∙ k.number;
        name = ap (λ (v : View). v.name) cursor_end ∙ k.name;
        sees = record {
          since = [];
          all = sym (append-nil (es ++ e ∷ [])) ∙ ap (λ (v : View). v.steps ++ []) (sym cursor_end);
          none = tt;
        };
        live = live ∙ ap (λ (l : Option ℕ). live_after l e.out) k.live ∙ sym (ap (λ (x : SessionCalls). x.live) next);
        awaits = awaits_is ∙ pending_at e.out ∙ sym (ap (λ (x : SessionCalls). pending x.latest) next);
        shown = subst (IsShown entries) (sym line) tt;
        line =
            subst (λ (o : Option Slot). IsLine (line_of (calls_by s (es ++ e ∷ [])).latest) o) (sym line)
            (ap (λ (x : SessionCalls). line_of x.latest) next);
        in_flight = in_flight ∙ sym (ap (λ (x : SessionCalls). x.in_flight) next);
        failed =
            let now = (calls_by s (es ++ e ∷ [])).failures in
            subst (λ (w : List Step × Option Failure). FailsSince (calls_by s w.0).failures now w.1)
            (λ i. (sym (ap (λ (v : View). v.steps) cursor_end) i, sym failed i)) (none_since now);
      }
