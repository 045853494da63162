-- The history, one entry on.
use Rattle.std.proofs.Common.{◌≡◌, ℕ, zero, suc, ◌==◌, Bool, true, false, not, cond, List, [], ◌∷◌, ◌++◌, Option, Some, None, refl, ap, sym, ◌∙◌, subst, arith, slice_get, map, set, eq-eqb, eqb→eq, inl, inr}
use Rattle.std.proofs.lemmas.Bool.{not-true}
use lib.Dec.{T}
use Rattle.std.specs.Prelude.{filter, Result, Ok, Err, IfOk, OnErr, IfSome, IfNone}
use Rattle.std.specs.Option.{is_some}
use Rattle.std.proofs.lemmas.List.{append-nil, map-append}
use Rattle.std.proofs.Common.{append_assoc}
use Rattle.boxcar.specs.Table.{Shelves}
use Rattle.history.specs.ListMachine.{Line}
use Rattle.node_sides.specs.node_laws.specs.declared.event.Out.{Out}
use Rattle.node_sides.specs.node_laws.specs.declared.event.Out.TheVariants as out
use Rattle.node_sides.specs.node_laws.specs.Halves.{IsSpelledIf, node_of}
use Rattle.node_sides.specs.node_laws.specs.Messages.{message_at}
use Rattle.engine_history.specs.declared.place.Place.{Place}
use Rattle.engine_history.specs.declared.step.Step.{Step}
use Rattle.engine_history.specs.Kept.{is_dc, calls_of, IsLine, PlaceKept, PlacesKept, LinesKept, place_after, place_heard, EntersTc, EntersDc, IsInRun, IsSentBy}
use Rattle.engine_history.specs.Sessions.{IsCalled, LeavesLive, SessionCall, SessionCalls, calls_as, called, no_calls, line_of, pending, calls_by, awaits, called_as, is_pending, live_after, IsClosed, IsLeft, IsSameCall}
use Rattle.engine_history.specs.Ending.{LeavesNode}
use Rattle.engine_history.specs.InFlightCalls.{FailsSince}
use Rattle.engine_history.specs.declared.failure.Failure.{Failure}
use Rattle.engine_history.specs.declared.status.CallStatus.{CallStatus}
use Rattle.engine_history.specs.declared.status.CallStatus.TheVariants as status
use Rattle.engine_history.specs.Callers.{Awaits, HasLine, IsToldBy, IsUntold, IsStatus}
use Rattle.engine_history.specs.Waiting.{IsStatusOf}
use Rattle.engine_history.specs.Slots.{Slot, step_at, steps, asks, gives, through, seen, Shown, IsShown, last_of}
use Rattle.engine_history.specs.Steps.{is_tc, requests, replies, TcState, DcState, Start, IsStart, GivesTc, GivesDc, RunsFrom}
use Rattle.engine_history.specs.Views.{View, Sees}
use Rattle.engine_history.proofs.Lists.{all_snoc, all_map, kept_at, last_snoc, filter_snoc, request_of, reply_of}
use Rattle.engine_history.proofs.Along.{tc_on, dc_on, tc_entered, dc_entered, runs, leaves_node, in_run, spelled}
use Rattle.engine_history.proofs.Failures.{forgotten, none_since}
use Rattle.engine_history.proofs.NextCalls.{heard_kept, grown, calls_snoc, after_called, closed_on, ended}

-- ---- the entries

pub sees_all : (mine : Step → Bool) (es now : List Step) → now ≡ es → Sees mine es now
sees_all mine es now same = record { since = []; all = same ∙ sym (append-nil es); none = tt }

pub sees_snoc : (mine : Step → Bool) (before now : List Step) (e : Step) → mine e ≡ false → Sees mine before now
    → Sees mine before (now ++ e ∷ [])
sees_snoc mine before now e other sees = record {
  since = sees.since ++ e ∷ [];
  all = ap (λ (xs : List Step). xs ++ e ∷ []) sees.all ∙ append_assoc before sees.since (e ∷ []);
  none = all_snoc (λ x. mine x ≡ false) sees.since e sees.none other;
}

steps_snoc : (tokens : List Slot) (p : Slot) → steps (tokens ++ p ∷ []) ≡ steps tokens ++ p.value.step.value ∷ []
steps_snoc tokens p = map-append step_at tokens (p ∷ [])

not_false : (b : Bool) → b ≡ true → not b ≡ false
not_false b is = ap not is

pub on_ok : {A E : Type 0} {P Q : A → Type 0} (r : Result A E) → ((x : A) → P x → Q x) → IfOk r P → IfOk r Q
on_ok (Ok x) f p = f x p
on_ok (Err e) f p = p

pub on_err : {A E : Type 0} {P Q : Type 0} (r : Result A E) → (P → Q) → OnErr r P → OnErr r Q
on_err (Ok x) f p = p
on_err (Err e) f p = f p

pub on_some : {A : Type 0} {P : A → Type 0} (o : Option A) → ((x : A) → o ≡ Some x → P x) → IfSome o P
on_some None f = tt
on_some (Some x) f = f x refl

pub on_none : {A : Type 0} {P : Type 0} (o : Option A) → (o ≡ None → P) → IfNone o P
on_none None f = f refl
on_none (Some x) f = tt

module _ (start : Start) (entries : Shelves) (names : ℕ → ℕ) where
  pub through_is : (tokens : List Slot) (p : Slot) (e : Step) → p.value.step.value ≡ e → p.value.before.steps ≡ steps tokens
      → through p.value ≡ steps tokens ++ e ∷ []
  through_is tokens p e step before = λ i. before i ++ step i ∷ []

  pub tc_enters : (tokens asked given tokens' asked' : List Slot) (tc dc tc' : View) (p : Slot) (e : Step)
      → LinesKept start entries names tokens asked given tc dc → Shown entries p → p.value.step.value ≡ e
      → p.value.before.steps ≡ steps tokens → is_tc e ≡ true → (n : TcState) → EntersTc start tc.steps e n
      → tokens' ≡ tokens ++ p ∷ [] → asked' ≡ asked ++ cond (is_some e.sent) (p ∷ []) []
      → tc' ≡ record { name = tc.name; steps = through p.value } → e.given ≡ None
      → LinesKept start entries names tokens' asked' given tc' dc
  tc_enters tokens asked given tokens' asked' tc dc tc' p e k shown step before is n enters all sent view none =
      let es = steps tokens in
      let now : steps (tokens ++ p ∷ []) ≡ es ++ e ∷ [] = steps_snoc tokens p ∙ ap (λ (x : Step). es ++ x ∷ []) step in
      let thr : through p.value ≡ es ++ e ∷ [] = through_is tokens p e step before in
      let dc_runs : GivesDc start (es ++ e ∷ []) k.gives_dc.0 =
      dc_on start es (es ++ e ∷ []) k.gives_dc.0 (record {
        since = e ∷ [];
        all = refl;
        none = (
          not_false
              (is_tc e) is,
          tt,
        );
      }) k.gives_dc.1 in
      let done : LinesKept start entries names (tokens ++ p ∷ []) (asked ++ cond (is_some e.sent) (p ∷ []) []) given
      (record { name = tc.name; steps = through p.value }) dc = record {
        shown = all_snoc (Shown entries) tokens p k.shown shown;
        last = ap seen (last_snoc tokens p) ∙ thr ∙ sym now;
        asked_are =
            ap (λ (xs : List Slot). xs ++ cond (is_some e.sent) (p ∷ []) []) k.asked_are
            ∙ ap (λ (x : Step). filter asks tokens ++ cond (is_some x.sent) (p ∷ []) []) (sym step)
            ∙ sym (filter_snoc asks tokens p);
        given_are = k.given_are ∙ sym (append-nil (filter gives tokens))
            ∙ ap (λ (b : Bool). filter gives tokens ++ cond b (p ∷ []) []) (sym (ap (λ
            (x : Step). is_some x.given) step ∙ ap is_some none))
            ∙ sym (filter_snoc gives tokens p);
        starts = k.starts;
        gives_tc = (
          n,
          subst (λ (xs : List Step). GivesTc start xs n) (sym now)
              (tc_entered start tc.steps es e n is k.tc_sees enters),
        );
        gives_dc = (k.gives_dc.0, subst (λ (xs : List Step). GivesDc start xs k.gives_dc.0) (sym now) dc_runs);
        tc_name = k.tc_name;
        dc_name = k.dc_name;
        tc_sees = sees_all is_tc (through p.value) (steps (tokens ++ p ∷ [])) (now ∙ sym thr);
        dc_sees = subst (Sees is_dc dc.steps) (sym now) (sees_snoc is_dc dc.steps es e (not_false
            (is_tc e) is) k.dc_sees);
      } in
      subst (λ (w : List Slot × List Slot × View). LinesKept start entries names w.0 w.1 given w.2 dc)
      (λ i. (sym all i, sym sent i, sym view i)) done

  pub dc_enters : (tokens asked given tokens' given' : List Slot) (tc dc dc' : View) (p : Slot) (e : Step)
      → LinesKept start entries names tokens asked given tc dc → Shown entries p → p.value.step.value ≡ e
      → p.value.before.steps ≡ steps tokens → is_dc e ≡ true → (n : DcState) → EntersDc start dc.steps e n
      → tokens' ≡ tokens ++ p ∷ [] → given' ≡ given ++ cond (is_some e.given) (p ∷ []) []
      → dc' ≡ record { name = dc.name; steps = through p.value } → e.sent ≡ None
      → LinesKept start entries names tokens' asked given' tc dc'
  dc_enters tokens asked given tokens' given' tc dc dc' p e k shown step before is n enters all gave view none =
      let es = steps tokens in
      let other : is_tc e ≡ false = not-true (is_tc e) is in
      let now : steps (tokens ++ p ∷ []) ≡ es ++ e ∷ [] = steps_snoc tokens p ∙ ap (λ (x : Step). es ++ x ∷ []) step in
      let thr : through p.value ≡ es ++ e ∷ [] = through_is tokens p e step before in
      let tc_runs : GivesTc start (es ++ e ∷ []) k.gives_tc.0 =
      tc_on start es (es ++ e ∷ []) k.gives_tc.0 (record { since = e ∷ []; all = refl; none = (other, tt) }) k.gives_tc.1 in
      let done : LinesKept start entries names (tokens ++ p ∷ []) asked (given ++ cond (is_some e.given) (p ∷ []) []) tc
      (record { name = dc.name; steps = through p.value }) = record {
        shown = all_snoc (Shown entries) tokens p k.shown shown;
        last = ap seen (last_snoc tokens p) ∙ thr ∙ sym now;
        asked_are = k.asked_are ∙ sym (append-nil (filter asks tokens))
            ∙ ap (λ (b : Bool). filter asks tokens ++ cond b (p ∷ []) []) (sym (ap (λ
            (x : Step). is_some x.sent) step ∙ ap is_some none))
            ∙ sym (filter_snoc asks tokens p);
        given_are =
            ap (λ (xs : List Slot). xs ++ cond (is_some e.given) (p ∷ []) []) k.given_are
            ∙ ap (λ (x : Step). filter gives tokens ++ cond (is_some x.given) (p ∷ []) []) (sym step)
            ∙ sym (filter_snoc gives tokens p);
        starts = k.starts;
        gives_tc = (k.gives_tc.0, subst (λ (xs : List Step). GivesTc start xs k.gives_tc.0) (sym now) tc_runs);
        gives_dc = (
          n,
          subst (λ (xs : List Step). GivesDc start xs n) (sym now)
              (dc_entered start dc.steps es e n other k.dc_sees enters),
        );
        tc_name = k.tc_name;
        dc_name = k.dc_name;
        tc_sees = subst (Sees is_tc tc.steps) (sym now) (sees_snoc is_tc tc.steps es e other k.tc_sees);
        dc_sees = sees_all is_dc (through p.value) (steps (tokens ++ p ∷ [])) (now ∙ sym thr);
      } in
      subst (λ (w : List Slot × List Slot × View). LinesKept start entries names w.0 asked w.1 tc w.2)
      (λ i. (sym all i, sym gave i, sym view i)) done

  pub lines_none : (tc dc : View) → tc ≡ record { name = names 0; steps = [] }
      → dc ≡ record { name = names 1; steps = [] } → IsStart start → LinesKept start entries names [] [] [] tc dc
  lines_none tc dc tc_is dc_is starts = record {
    shown = tt;
    last = refl;
    asked_are = refl;
    given_are = refl;
    starts = starts;
    gives_tc = (_, refl);
    gives_dc = (_, refl);
    tc_name = ap (λ (v : View). v.name) tc_is;
    dc_name = ap (λ (v : View). v.name) dc_is;
    tc_sees = sees_all is_tc tc.steps [] (ap (λ (v : View). v.steps) (sym tc_is));
    dc_sees = sees_all is_dc dc.steps [] (ap (λ (v : View). v.steps) (sym dc_is));
  }

  pub last_seen : (tokens asked given : List Slot) (tc dc : View) → LinesKept start entries names tokens asked given tc dc
      → (o : Option Slot) → o ≡ last_of tokens → seen o ≡ steps tokens
  last_seen tokens asked given tc dc k o is = ap seen is ∙ k.last

  pub request_found : (tokens asked given : List Slot) (tc dc : View) (n : ℕ) (p : Slot)
      → LinesKept start entries names tokens asked given tc dc → message_at asked n ≡ Some p
      → Shown entries p × IsSentBy (requests (steps tokens)) n p.value.step.value.sent × IsSpelledIf p.value.step.value.sent
  request_found tokens asked given tc dc n p k at =
      let at' : message_at (filter asks tokens) n ≡ Some p = ap (λ (ms : List Slot). message_at ms n)
      (sym k.asked_are) ∙ at in (
        kept_at (Shown entries) asks tokens n p k.shown at',
        request_of tokens n p at',
        kept_at (λ (q : Slot). IsSpelledIf q.value.step.value.sent) asks tokens n p
            (all_map step_at (λ (e : Step). IsSpelledIf e.sent) tokens
            (spelled start (steps tokens) k.gives_tc.0 k.gives_dc.0 k.gives_tc.1 k.gives_dc.1)) at',
      )

  pub reply_found : (tokens asked given : List Slot) (tc dc : View) (n : ℕ) (p : Slot)
      → LinesKept start entries names tokens asked given tc dc → message_at given n ≡ Some p
      → Shown entries p × IsSentBy (replies (steps tokens)) n p.value.step.value.given
  reply_found tokens asked given tc dc n p k at =
      let at' : message_at (filter gives tokens) n ≡ Some p = ap (λ (ms : List Slot). message_at ms n)
      (sym k.given_are) ∙ at in
      (kept_at (Shown entries) gives tokens n p k.shown at', reply_of tokens n p at')

  pub lines_run : (tokens asked given : List Slot) (tc dc : View) → LinesKept start entries names tokens asked given tc dc
      → RunsFrom start (steps tokens)
  lines_run tokens asked given tc dc k =
      (_, runs start (steps tokens) k.gives_tc.0 k.gives_dc.0 k.starts k.gives_tc.1 k.gives_dc.1)

  pub lines_in_run : (tokens asked given : List Slot) (tc dc : View) (s : DcState)
      → LinesKept start entries names tokens asked given tc dc → GivesDc start dc.steps s → IsInRun start (steps tokens) s.side
  lines_in_run tokens asked given tc dc s k gives =
      in_run start (steps tokens) k.gives_tc.0 s k.starts k.gives_tc.1 (dc_on start dc.steps (steps tokens) s k.dc_sees gives)

  pub lines_leave : (tokens asked given : List Slot) (tc dc : View) (t : TcState) (u : DcState)
      → LinesKept start entries names tokens asked given tc dc → GivesTc start (steps tokens) t → GivesDc start (steps tokens) u
      → LeavesNode start (steps tokens) (node_of t.side u.side [] [])
  lines_leave tokens asked given tc dc t u k a b = leaves_node start (steps tokens) t u k.starts a b

calls_other : (o : Option ℕ) (n s : ℕ) → o ≡ Some n → (s ≡ n → ⊥) → calls_as o s ≡ false
calls_other o n s is other =
    subst (λ (w : Option ℕ). calls_as w s ≡ false) (sym is)
    (false_of (n == s) (λ t. other (sym (eqb→eq n s (subst T (sym t) tt)))))
  where
    false_of : (b : Bool) → (b ≡ true → ⊥) → b ≡ false
    false_of true h = absurd (h refl)
    false_of false h = refl

pub calls_same : (o : Option ℕ) (n : ℕ) → o ≡ Some n → calls_as o n ≡ true
calls_same o n is = subst (λ (w : Option ℕ). calls_as w n ≡ true) (sym is) (eq-eqb n n refl)

map_get : {A B : Type 0} (f : A → B) (xs : List A) (k : ℕ) (y : B) → slice_get (map f xs) k ≡ Some y
    → (x : A) × (slice_get xs k ≡ Some x) × (f x ≡ y)
map_get f [] k y at = absurd (cc (at))
map_get f (x ∷ xs) zero y at = (x, refl, cc (at))
map_get f (x ∷ xs) (suc k) y at = map_get f xs k y at

data Placed {A : Type 0} (xs : List A) (n : ℕ) (x : A) (s : ℕ) (p : A) : Type 0 where
  here : s ≡ n → x ≡ p → Placed xs n x s p
  elsewhere : (s ≡ n → ⊥) → slice_get xs s ≡ Some p → Placed xs n x s p

placed : {A : Type 0} → (xs : List A) (n : ℕ) (x : A) (s : ℕ) (p : A) → slice_get (set xs n x) s ≡ Some p
    → Placed xs n x s p
placed [] n x s p at = absurd (cc (at))
placed (y ∷ ys) zero x zero p at = here refl (cc (at))
placed (y ∷ ys) zero x (suc s) p at = elsewhere (λ e. omega (arith, e)) at
placed (y ∷ ys) (suc n) x zero p at = elsewhere (λ e. omega (arith, e)) at
placed (y ∷ ys) (suc n) x (suc s) p at =
    elim (placed ys n x s p at) [
      | here e h ↦ here (omega (arith, e)) h
      | elsewhere e a ↦ elsewhere (λ q. e (omega (arith, q))) a
    ]

module _ {J : Type 0} (entries : Shelves) (names : ℕ → ℕ) where
  -- ---- the sessions' places

  -- an entry that no session called
  pub places_heard : (es : List Step) (places : List (Place J)) (token : Slot) → PlacesKept entries names es places
      → Shown entries token → token.value.step.value.caller ≡ None
      → PlacesKept entries names (es ++ token.value.step.value ∷ []) (map (place_after token) places)
  places_heard es places token kept shown none s q at =
      let e = token.value.step.value in
      let found = map_get (place_after token) places s q at in
      let p = found.0 in
      let k = kept s p found.1 in
      let same : place_after token p ≡ place_heard e.event e.out token p =
      ap (λ (o : Option ℕ). cond (calls_as o p.number) p (place_heard e.event e.out token p)) none in
      subst (PlaceKept entries names (es ++ e ∷ []) s) (sym same ∙ found.2)
      (heard_kept entries names es s p token shown (ap (λ (o : Option ℕ). calls_as o s) none) k)

  -- the place of the session that called is what it was, until it is set
  pub own_place : (es : List Step) (places : List (Place J)) (token : Slot) (n : ℕ) (p : Place J)
      → PlacesKept entries names es places → token.value.step.value.caller ≡ Some n
      → slice_get (map (place_after token) places) n ≡ Some p → PlaceKept entries names es n p
  own_place es places token n p kept own at =
      let e = token.value.step.value in
      let found = map_get (place_after token) places n p at in
      let q = found.0 in
      let k = kept n q found.1 in
      let called : calls_as e.caller q.number ≡ true =
      ap (calls_as e.caller) k.number ∙ calls_same e.caller n own in
      let same : place_after token q ≡ q = ap (λ (b : Bool). cond b q (place_heard e.event e.out token q)) called in
      subst (PlaceKept entries names es n) (sym same ∙ found.2) k

  -- an entry that a session called, of which its place was told
  pub places_called : (es : List Step) (places : List (Place J)) (token : Slot) (n : ℕ) (q : Place J)
      → PlacesKept entries names es places → Shown entries token → token.value.step.value.caller ≡ Some n
      → PlaceKept entries names (es ++ token.value.step.value ∷ []) n q
      → PlacesKept entries names (es ++ token.value.step.value ∷ []) (set (map (place_after token) places) n q)
  places_called es places token n q kept shown own done s r at =
      let e = token.value.step.value in
      elim (placed (map (place_after token) places) n q s r at) [
        | here same is ↦
            subst (λ (w : ℕ × Place J). PlaceKept entries names (es ++ e ∷ []) w.0 w.1) (λ i. (sym same i, is i)) done
        | elsewhere other there ↦
            let found = map_get (place_after token) places s r there in
            let p = found.0 in
            let k = kept s p found.1 in
            let off : calls_as e.caller s ≡ false = calls_other e.caller n s own other in
            let same : place_after token p ≡ place_heard e.event e.out token p =
            ap (λ (b : Bool). cond b p (place_heard e.event e.out token p)) (ap (calls_as e.caller) k.number ∙ off) in
            subst (PlaceKept entries names (es ++ e ∷ []) s) (sym same ∙ found.2)
            (heard_kept entries names es s p token shown off k)
      ]

  -- only what a session has seen changes, and what failed so far is of no matter any more
  pub places_seen : (es : List Step) (places : List (Place J)) (n : ℕ) (p q : Place J) → PlacesKept entries names es places
      → slice_get places n ≡ Some p
      → q ≡ record p { cursor_end = record { name = p.cursor_end.name; steps = es }; failed = None }
      → PlacesKept entries names es (set places n q)
  places_seen es places n p q kept there is s r at =
      elim (placed places n q s r at) [
        | here same r_is ↦
            let k = kept n p there in
            let done : PlaceKept entries names es n
            (record p { cursor_end = record { name = p.cursor_end.name; steps = es }; failed = None }) = record {
              number = k.number;
              name = k.name;
              sees = sees_all (calls_of n) es es refl;
              live = k.live;
              awaits = k.awaits;
              shown = k.shown;
              line = k.line;
              in_flight = k.in_flight;
              failed = none_since (calls_by n es).failures;
            } in
            subst (λ (w : ℕ × Place J). PlaceKept entries names es w.0 w.1) (λ i. (sym same i, (sym is ∙ r_is) i)) done
        | elsewhere other old ↦ kept s r old
      ]

  -- what failed so far is of no matter any more
  pub places_resumed : (es : List Step) (places : List (Place J)) (n : ℕ) (p q : Place J)
      → PlacesKept entries names es places → slice_get places n ≡ Some p → q ≡ record p { failed = None }
      → PlacesKept entries names es (set places n q)
  places_resumed es places n p q kept there is s r at =
      elim (placed places n q s r at) [
        | here same r_is ↦
            let k = kept n p there in
            let done : PlaceKept entries names es n (record p { failed = None }) = record {
              number = k.number;
              name = k.name;
              sees = k.sees;
              live = k.live;
              awaits = k.awaits;
              shown = k.shown;
              line = k.line;
              in_flight = k.in_flight;
              failed =
                  forgotten (calls_by n p.cursor_end.steps).failures (calls_by n es).failures p.failed k.failed;
            } in
            subst (λ (w : ℕ × Place J). PlaceKept entries names es w.0 w.1) (λ i. (sym same i, (sym is ∙ r_is) i)) done
        | elsewhere other old ↦ kept s r old
      ]

  -- ---- what a session that waits finds

  pub status_line : (s : ℕ) (before es : List Step) (p : Place J) (token : Slot) → PlaceKept entries names es s p
      → before ≡ p.cursor_end.steps → p.line ≡ Some token
      → IsToldBy (calls_by s before) (calls_by s es) token.value.step.value.out
  status_line s before es p token k seen_is is =
      let g = grown s before es (subst (λ (xs : List Step). Sees (calls_of s) xs es) (sym seen_is) k.sees) in
      let l = subst (IsLine (line_of (calls_by s es).latest)) is k.line in
      let h = has_line (calls_by s before).latest (calls_by s es).latest l.1.0 g.latest l.1.1 in
      record {
        txn = l.0;
        line = l.1.0;
        tells = l.1.2;
        before = g.before;
        latest = h;
        closed = inr (idle (calls_by s es).latest l.1.0 l.1.1);
        over = ended s es l.1.0 l.1.1;
      }
    where
      not_pending : (b : Bool) → cond b false false ≡ false
      not_pending true = refl
      not_pending false = refl

      has_line : (old new : Option SessionCall) (l : Line) → IsSameCall old new → line_of new ≡ Some l → HasLine old new l
      has_line None new l same is = absurd (cc (sym (ap line_of same) ∙ is))
      has_line (Some c) new l same is =
          same.1 ∙ ap (λ (o : Option Line). Some (called_as c.event c.out o)) (sym (ap line_of same.1) ∙ is)

      idle : (new : Option SessionCall) (l : Line) → line_of new ≡ Some l → pending new ≡ false
      idle None l is = refl
      idle (Some c) l is =
          ap (λ (o : Option Line). awaits (called_as c.event c.out o)) is ∙ not_pending (is_pending c.out)

  pub status_none : (s : ℕ) (before es : List Step) (p : Place J) → PlaceKept entries names es s p → before ≡ p.cursor_end.steps
      → line_of (calls_by s before).latest ≡ None → p.line ≡ None → IsUntold (calls_by s before) (calls_by s es)
  status_none s before es p k seen_is old is =
      let g = grown s before es (subst (λ (xs : List Step). Sees (calls_of s) xs es) (sym seen_is) k.sees) in
      record {
        before = g.before;
        latest = untold (calls_by s before).latest (calls_by s es).latest g.latest old (subst
            (IsLine (line_of (calls_by s es).latest)) is k.line);
      }
    where
      untold : (old new : Option SessionCall) → IsSameCall old new → line_of old ≡ None → line_of new ≡ None → new ≡ old
      untold None new same a b = same
      untold (Some c) new same a b =
          same.1 ∙ ap (λ (o : Option Line). Some (called_as c.event c.out o)) (sym (ap line_of same.1) ∙ b ∙ sym a)

  -- nothing was told, and its transaction is alive
  awaits_status : (s : ℕ) (before es : List Step) (p : Place J) → PlaceKept entries names es s p → before ≡ p.cursor_end.steps
      → line_of (calls_by s before).latest ≡ None → p.line ≡ None → is_some p.live ≡ true
      → Awaits (calls_by s before) (calls_by s es)
  awaits_status s before es p k seen_is old is alive =
      let g = grown s before es (subst (λ (xs : List Step). Sees (calls_of s) xs es) (sym seen_is) k.sees) in
      let lives : is_some (calls_by s es).live ≡ true =
      ap (λ (o : Option ℕ). is_some o) (sym k.live) ∙ alive in
      record {
        untold = status_none s before es p k seen_is old is;
        live = same (calls_by s before).live (calls_by s es).live g.live lives;
        alive = lives;
      }
    where
      same : (old new : Option ℕ) → IsLeft old new → is_some new ≡ true → new ≡ old
      same old new (inl is) lives = is
      same old new (inr gone) lives = absurd (cc (sym (ap (λ (o : Option ℕ). is_some o) gone) ∙ lives))

  failures_status : (s : ℕ) (before es : List Step) (p : Place J) (u : Option Failure) → PlaceKept entries names es s p
      → before ≡ p.cursor_end.steps → p.failed ≡ u
      → FailsSince (calls_by s before).failures (calls_by s es).failures u
  failures_status s before es p u k seen_is is =
      subst (λ (w : List Step × Option Failure). FailsSince (calls_by s w.0).failures (calls_by s es).failures w.1)
      (λ i. (sym seen_is i, is i)) k.failed

  pub status_is : (s : ℕ) (before es : List Step) (p : Place J) (n : CallStatus) → PlaceKept entries names es s p
      → before ≡ p.cursor_end.steps → line_of (calls_by s before).latest ≡ None → IsStatusOf p n
      → IsStatus entries (calls_by s before) (calls_by s es) n
  status_is s before es p (status.Line token) k seen_is old is =
      (subst (IsShown entries) is k.shown, status_line s before es p token k seen_is is)
  status_is s before es p status.CutOff k seen_is old is =
      (status_none s before es p k seen_is old is.0, sym k.live ∙ is.1)
  status_is s before es p (status.Refused f) k seen_is old is =
      (awaits_status s before es p k seen_is old is.0 is.1, failures_status s before es p (Some f) k seen_is is.2)
  status_is s before es p status.Nothing k seen_is old is =
      (awaits_status s before es p k seen_is old is.0 is.1, failures_status s before es p None k seen_is is.2)

-- what a call came to at once leaves of the transaction
leaves : (o : Out) (was : Option ℕ) (calls : SessionCalls) (live : Option ℕ) → IsLeft was live → calls.live ≡ live_after live o
    → LeavesLive was o calls
leaves (out.Begun t) was calls live left is = is
leaves _ was calls live left is = subst (IsLeft was) (sym is) left

-- what a session's calls are once one more stands in the history
pub one_more_call : (s : ℕ) (before es now : List Step) (e : Step) → e.caller ≡ Some s → Sees (calls_of s) before es
    → IsClosed (calls_by s before) → now ≡ es ++ e ∷ [] → IsCalled (calls_by s before) e.event e.out (calls_by s now)
one_more_call s before es now e own sees closed is =
    let next : calls_by s now ≡ called (calls_by s es) e.event e.out =
    ap (calls_by s) is ∙ calls_snoc s no_calls es e ∙ after_called s (calls_by s es) e (calls_same e.caller s own) in
    let same = closed_on s before es sees closed in
    record {
      before = ap (λ (p : SessionCalls). p.before) next ∙ same.0;
      latest = ap (λ (p : SessionCalls). p.latest) next;
      live =
          leaves e.out (calls_by s before).live (calls_by s now) (calls_by s es).live same.2
          (ap (λ (p : SessionCalls). p.live) next);
      failures = ap (λ (p : SessionCalls). p.failures) next;
    }
