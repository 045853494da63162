-- What a session finds of its latest call.
use Rattle.std.proofs.Common.{◌≡◌, ◌⊎◌, ℕ, ◌+◌, zero, suc, true, false, List, [], ◌∷◌, ◌++◌, Option, Some, None, refl, ap, sym, ◌∙◌, subst, inl, inr, arith}
use Rattle.std.specs.Option.{is_some}
use Rattle.boxcar.specs.Table.{Shelves}
use Rattle.history.specs.ListMachine.{Line}
use Rattle.engine_agreement.specs.Agreed.{Agreed}
use Rattle.engine_history.specs.declared.failure.Failure.{Failure}
use Rattle.engine_history.specs.declared.step.Step.{Step}
use Rattle.engine_history.specs.node_laws.specs.declared.event.Event.{Event}
use Rattle.engine_history.specs.node_laws.specs.declared.event.Out.{Out}
use Rattle.engine_history.specs.Callers.{Awaits, HasLine, IsUntold}
use Rattle.engine_history.specs.InFlightCalls.{FailsSince}
use Rattle.engine_history.specs.Kept.{calls_of}
use Rattle.engine_history.specs.Sessions.{IsClosed, IsLeft, IsSameCall, SessionCalls, SessionCall, awaits, called_as, is_pending, line_of, calls_by, pending}
use Rattle.engine_history.specs.Views.{Sees}
use Rattle.engine_guarded.specs.declared.heard.Heard.{Heard}
use Rattle.engine_guarded.specs.declared.status.CallStatus.{CallStatus}
use Rattle.engine_guarded.specs.declared.status.CallStatus.TheVariants as status
use Rattle.engine_guarded.specs.declared.place.Place.{Place}
use Rattle.engine_guarded.specs.Callers.{CallsWith, IsCut, IsMade, IsStatus, IsStatusOf, IsTold, is_busy}
use Rattle.engine_guarded.specs.Hearing.{as_line}
use Rattle.engine_guarded.specs.Places.{CameSince, HeardSince, IsAmid, IsResting, PlaceKept}
use Rattle.engine_guarded.specs.Running.{GoesOn, made}
use Rattle.engine_guarded.specs.Slots.{Slot, seen}
use Rattle.engine_guarded.proofs.Places.{not_pending}
use Rattle.engine_guarded.proofs.Running.{sees_on}
use Rattle.engine_history.proofs.Entering.{one_more_call}
use Rattle.engine_history.proofs.NextCalls.{ended, grown}

-- ---- by what a place has

has_line : (old new : Option SessionCall) (l : Line) → IsSameCall old new → line_of new ≡ Some l → HasLine old new l
has_line None new l same is = absurd (cc (sym (ap line_of same) ∙ is))
has_line (Some c) new l same is =
    same.1 ∙ ap (λ (o : Option Line). Some (called_as c.event c.out o)) (sym (ap line_of same.1) ∙ is)

idle : (new : Option SessionCall) (l : Line) → line_of new ≡ Some l → pending new ≡ false
idle None l is = refl
idle (Some c) l is =
    ap (λ (o : Option Line). awaits (called_as c.event c.out o)) is ∙ not_pending (is_pending c.out)

untold : (old new : Option SessionCall) → IsSameCall old new → line_of old ≡ None → line_of new ≡ None → new ≡ old
untold None new same a b = same
untold (Some c) new same a b =
    same.1 ∙ ap (λ (o : Option Line). Some (called_as c.event c.out o)) (sym (ap line_of same.1) ∙ b ∙ sym a)

same_live : (old new : Option ℕ) → IsLeft old new → is_some new ≡ true → new ≡ old
same_live old new (inl is) lives = is
same_live old new (inr gone) lives = absurd (cc (sym (ap (λ (o : Option ℕ). is_some o) gone) ∙ lives))

-- since these steps, at which nothing was told of the latest call
module _ (s : ℕ) (before es : List Step) (fs : List Failure) (p : Place) (sees : Sees (calls_of s) before es)
    (old : line_of (calls_by s before).latest ≡ None) (same : (calls_by s before).failures ≡ fs)
    (live : p.live ≡ (calls_by s es).live) (came : CameSince None fs (calls_by s es) p) where
  told_status : (h : Heard) → p.line ≡ Some h → IsTold (calls_by s before) (calls_by s es) h
  told_status h is =
      let g = grown s before es sees in
      let l = subst (HeardSince None (line_of (calls_by s es).latest)) is came.line in
      record {
        txn = l.0;
        before = g.before;
        latest = has_line (calls_by s before).latest (calls_by s es).latest (as_line l.0 h) g.latest l.1;
        closed = inr (idle (calls_by s es).latest (as_line l.0 h) l.1);
        over = ended s es (as_line l.0 h) l.1;
      }

  untold_status : p.line ≡ None → IsUntold (calls_by s before) (calls_by s es)
  untold_status is =
      let g = grown s before es sees in
      record {
        before = g.before;
        latest =
            untold (calls_by s before).latest (calls_by s es).latest g.latest old
            (subst (HeardSince None (line_of (calls_by s es).latest)) is came.line);
      }

  awaits_status : p.line ≡ None → is_some p.live ≡ true → Awaits (calls_by s before) (calls_by s es)
  awaits_status is alive =
      let g = grown s before es sees in
      let lives : is_some (calls_by s es).live ≡ true = ap (λ (o : Option ℕ). is_some o) (sym live) ∙ alive in
      record {
        untold = untold_status is;
        live = same_live (calls_by s before).live (calls_by s es).live g.live lives;
        alive = lives;
      }

  failures_status : (u : Option Failure) → p.failed ≡ u → FailsSince (calls_by s before).failures (calls_by s es).failures u
  failures_status u is =
      subst (λ (w : List Failure × Option Failure). FailsSince w.0 (calls_by s es).failures w.1)
      (λ i. (sym same i, is i)) came.failed

  status_since : (n : CallStatus) → IsStatusOf p n → IsStatus (calls_by s before) (calls_by s es) n
  status_since (status.Told h) is = told_status h is
  status_since status.CutOff is = (untold_status is.0, sym live ∙ is.1)
  status_since (status.Refused f) is = (awaits_status is.0 is.1, failures_status (Some f) is.2)
  status_since status.Nothing is = (awaits_status is.0 is.1, failures_status None is.2)

-- a place that isn't amid a call is resting, and one that is isn't
pub resting : (es : List Step) (s : ℕ) (p : Place) (n : ℕ) → IsAmid es s p ⊎ IsResting es s p → p.far_end.number ≡ n + 1
    → IsResting es s p
resting es s p n (inl amid) is = absurd (omega (arith, amid.0, is))
resting es s p n (inr rest) is = rest

pub amid : (es : List Step) (s : ℕ) (p : Place) → IsAmid es s p ⊎ IsResting es s p → p.far_end.number ≡ 0 → IsAmid es s p
amid es s p (inl a) is = a
amid es s p (inr rest) is = absurd (omega (arith, rest.0, is))

pub busy_is : (m : ℕ) → is_busy m ≡ true → m ≡ 0
busy_is zero is = refl
busy_is (suc n) is = absurd (cc (is))

pub idle_is : (m n : ℕ) → (m ≡ 0) ⊎ (m ≡ n + 1) → is_busy m ≡ false → m ≡ n + 1
idle_is m n (inl none) is = absurd (cc (sym (ap is_busy none) ∙ is))
idle_is m n (inr some) is = some

pub status_amid : (entries : Shelves) (names : ℕ → ℕ) (s : ℕ) (before es : List Step) (p : Place) (n : CallStatus)
    → PlaceKept entries names es s p → p.far_end.number ≡ 0 → IsMade s before es → IsStatusOf p n
    → IsStatus (calls_by s before) (calls_by s es) n
status_amid entries names s before es p n k zero_is made is =
    status_since s before es [] p made.sees made.untold made.fresh k.live (amid es s p k.stands zero_is).1 n is

pub status_resting : (entries : Shelves) (names : ℕ → ℕ) (s : ℕ) (before es : List Step) (p : Place) (n : CallStatus) (m : ℕ)
    → PlaceKept entries names es s p → p.far_end.number ≡ m + 1 → seen p.last ≡ before → line_of (calls_by s before).latest ≡ None
    → IsStatusOf p n → IsStatus (calls_by s before) (calls_by s es) n
status_resting entries names s before es p n m k number seen_is old is =
    let r = resting es s p m k.stands number in
    let sees = subst (λ (xs : List Step). Sees (calls_of s) xs es) seen_is r.1 in
    let came = subst (λ (xs : List Step). CameSince (line_of (calls_by s xs).latest) (calls_by s xs).failures (calls_by s es) p)
    seen_is r.2 in
    status_since s before es (calls_by s before).failures p sees old refl k.live
    (subst (λ (l : Option Line). CameSince l (calls_by s before).failures (calls_by s es) p) old came) n is

-- where nothing was told since, and no transaction is alive
pub cut_off : (entries : Shelves) (names : ℕ → ℕ) (s : ℕ) (before es : List Step) (p : Place) (m : ℕ)
    → PlaceKept entries names es s p → p.far_end.number ≡ m + 1 → seen p.last ≡ before → p.live ≡ None → p.line ≡ None
    → IsCut (calls_by s before) (calls_by s es)
cut_off entries names s before es p m k number seen_is gone none =
    let r = resting es s p m k.stands number in
    let came = subst (λ (xs : List Step). CameSince (line_of (calls_by s xs).latest) (calls_by s xs).failures (calls_by s es) p)
    seen_is r.2 in
    record {
      live = sym k.live ∙ gone;
      line = subst (HeardSince (line_of (calls_by s before).latest) (line_of (calls_by s es).latest)) none came.line;
    }

line_in : (old new : Option SessionCall) (l : Line) → HasLine old new l → line_of new ≡ Some l
line_in None new l h = absurd h
line_in (Some c) new l h = ap line_of h

not_alive : (o : Option ℕ) → o ≡ None → is_some o ≡ true → ⊥
not_alive o gone alive = cc (sym (ap (λ (x : Option ℕ). is_some x) gone) ∙ alive)

-- nothing else is new of a call that was cut off
pub status_cut : (old new : SessionCalls) (n : CallStatus) → IsCut old new → line_of old.latest ≡ None → IsStatus old new n
    → (n ≡ status.CutOff) × IsUntold old new
status_cut old new (status.Told h) cut none is =
    absurd (cc (sym (line_in old.latest new.latest (as_line is.txn h) is.latest) ∙ cut.line ∙ none))
status_cut old new status.CutOff cut none is = (refl, is.0)
status_cut old new (status.Refused f) cut none is = absurd (not_alive new.live cut.live is.0.alive)
status_cut old new status.Nothing cut none is = absurd (not_alive new.live cut.live is.0.alive)

-- ---- a call, up to what is found of it

pub calls_with : (s : ℕ) (before es mid now : List Step) (e : Event) (o : Out) (n : CallStatus) → Sees (calls_of s) before es
    → IsClosed (calls_by s before) → mid ≡ es ++ made (Some s) e o ∷ [] → GoesOn mid now
    → (is_pending o ≡ false → now ≡ mid)
    → (IsMade s mid now → IsStatus (calls_by s mid) (calls_by s now) n)
    → CallsWith e o (calls_by s before) n (calls_by s now)
calls_with s before es mid now e o n sees closed mid_is goes done found =
    let called = one_more_call s before es mid (made (Some s) e o) refl sees closed mid_is in
    record {
      mid = calls_by s mid;
      called = called;
      follows = record {
        awaited = λ _. found (record {
          sees = sees_on s mid now goes;
          untold = ap line_of called.latest;
          fresh = called.failures;
        });
        done = λ is. ap (calls_by s) (done is);
      };
    }

-- only what was told and failed counts
pub same_status : (p : Place) (far_end : Agreed) (last : Slot) (n : CallStatus) → IsStatusOf (record p { far_end = far_end; last = last }) n
    → IsStatusOf p n
same_status p far_end last (status.Told h) is = is
same_status p far_end last status.CutOff is = is
same_status p far_end last (status.Refused f) is = is
same_status p far_end last status.Nothing is = is
