-- Why a call is refused that was made.
use Rattle.std.proofs.Common.{◌≡◌, ◌⊎◌, ℕ, Bool, true, false, cond, Option, Some, None, refl, ap, sym, ◌∙◌, subst, inl, inr}
use Rattle.std.specs.Prelude.{⊤}
use Rattle.std.specs.Bool.{MatchBool}
use Rattle.record_key.specs.declared.refusal.Refusal.{Refusal}
use Rattle.record_key.specs.declared.refusal.Refusal.TheVariants.{NotConnected}
use Rattle.engine_guarded.specs.Hearing.{as_line}
use Rattle.engine_guarded.specs.declared.heard.Heard.{Heard}
use Rattle.engine_guarded.specs.engine_history.specs.Sessions.{SessionCalls, SessionCall, called_as, is_pending}
use Rattle.engine_guarded.specs.engine_history.specs.node_laws.specs.declared.event.Event.{Event}
use Rattle.engine_guarded.specs.engine_history.specs.node_laws.specs.declared.event.Event.TheVariants as event
use Rattle.engine_guarded.specs.engine_history.specs.node_laws.specs.declared.event.Out.{Out}
use Rattle.engine_guarded.specs.engine_answers.specs.Answers.{Refused}
use Rattle.engine_guarded.specs.engine_answers.specs.Asking.{event_of, is_done, is_saved, is_begun, is_told_by}
use Rattle.engine_guarded.specs.engine_answers.specs.Why.{IsHalted, IsWhy, why_of}
use Rattle.engine_guarded.specs.engine_answers.specs.declared.ask.Ask.{Ask}
use Rattle.engine_guarded.specs.engine_answers.specs.declared.ask.Ask.TheVariants as ask
use Rattle.engine_monitor.proofs.Telling.{not_told, sort_is}
use Rattle.engine_monitor.specs.Answering.{IsRefusalOf, is_save, sort_of, told_as}
use Rattle.engine_monitor.specs.Ending.{Ends}
use Rattle.engine_monitor.specs.declared.ended.Ended.{Ended}
use Rattle.engine_monitor.specs.declared.ended.Ended.TheVariants as ended
use Rattle.engine_monitor.specs.declared.sort.Sort.{Sort}

abbrev WhyAwaited : SessionCall → Option ℕ → Refusal → SessionCalls → Type 0
WhyAwaited c was r new = ((r ≡ NotConnected) × (c.line ≡ None → new.live ≡ None)) ⊎ IsHalted c was r new

why_awaited : (c : SessionCall) (was : Option ℕ) (r : Refusal) (new : SessionCalls) → is_pending c.out ≡ true
    → WhyAwaited c was r new → IsWhy c was r new
why_awaited c was r new pends why =
    subst (λ (b : Bool). MatchBool b (WhyAwaited c was r new) (r ≡ why_of c.out)) (sym pends) why

why_at_once : (c : SessionCall) (was : Option ℕ) (r : Refusal) (new : SessionCalls) → is_pending c.out ≡ false
    → r ≡ why_of c.out → IsWhy c was r new
why_at_once c was r new done why =
    subst (λ (b : Bool). MatchBool b (WhyAwaited c was r new) (r ≡ why_of c.out)) (sym done) why

-- a call that is answered neither by what it came to nor by what was told of it
refuses : (e : Event) (o : Out) (old new : SessionCalls) (how : Ended) (r : Refusal) (done : Bool) (Untold : Heard → Type 0)
    → is_done e o ≡ done → ((u : ℕ) (h : Heard) → Untold h → is_told_by e o (as_line u h) ≡ false)
    → Ends e o old how new → IsRefusalOf done Untold o how r → Refused e old.live old r new
refuses e o old new ended.AtOnce r done Untold same untold (at_once, adds, live) (why, isnt) = record {
  call = called_as e o None;
  event = refl;
  adds = adds;
  unanswered = ap (λ (b : Bool). cond b false (is_done e o)) at_once ∙ same ∙ isnt;
  why = why_at_once (called_as e o None) old.live r new at_once why;
}
refuses e o old new (ended.Told h) r done Untold same untold (pends, (t, adds, over)) (why, isnt) = record {
  call = called_as e o (Some (as_line t h));
  event = refl;
  adds = adds;
  unanswered =
      ap (λ (b : Bool). cond b (is_told_by e o (as_line t h)) (is_done e o)) pends ∙ untold t h isnt;
  why = why_awaited (called_as e o (Some (as_line t h))) old.live r new pends (inl (why, λ none. absurd (cc (none))));
}
refuses e o old new (ended.Unfinished f) r done Untold same untold (pends, still, alive, adds, failed) why = record {
  call = called_as e o None;
  event = refl;
  adds = adds;
  unanswered = ap (λ (b : Bool). cond b false (is_done e o)) pends;
  why =
      why_awaited (called_as e o None) old.live r new pends
      (inr record { failure = f; failed = failed; why = why; untold = refl; still = still; alive = alive });
}
refuses e o old new ended.CutOff r done Untold same untold (pends, gone, adds) why = record {
  call = called_as e o None;
  event = refl;
  adds = adds;
  unanswered = ap (λ (b : Bool). cond b false (is_done e o)) pends;
  why = why_awaited (called_as e o None) old.live r new pends (inl (why, λ none. gone));
}

pub refuses_begin : (o : Out) (old new : SessionCalls) (how : Ended) (r : Refusal) → Ends event.Begin o old how new
    → IsRefusalOf (is_begun o) (λ (h : Heard). ⊤) o how r → Refused event.Begin old.live old r new
refuses_begin o old new how r ends why =
    refuses event.Begin o old new how r (is_begun o) (λ (h : Heard). ⊤) refl (λ u h none. refl) ends why

pub refuses_save : (t : ℕ) (o : Out) (old new : SessionCalls) (how : Ended) (r : Refusal) → Ends (event.Save t) o old how new
    → IsRefusalOf (is_saved o) (λ (h : Heard). ⊤) o how r → Refused (event.Save t) old.live old r new
refuses_save t o old new how r ends why =
    refuses (event.Save t) o old new how r (is_saved o) (λ (h : Heard). ⊤) refl (λ u h none. refl) ends why

-- another call is never answered by what it comes to
never_done : (t : ℕ) (a : Ask) (o : Out) → is_save a ≡ false → is_done (event_of t a) o ≡ false
never_done t ask.Save o isnt = absurd (cc (isnt))
never_done t _ o isnt = refl

pub refuses_told : (t : ℕ) (a : Ask) (o : Out) (old new : SessionCalls) (how : Ended) (r : Refusal) → is_save a ≡ false
    → Ends (event_of t a) o old how new
    → IsRefusalOf false (λ (h : Heard). told_as (sort_of a) o h ≡ None) o how r
    → Refused (event_of t a) old.live old r new
refuses_told t a o old new how r isnt ends why =
    refuses (event_of t a) o old new how r false (λ (h : Heard). told_as (sort_of a) o h ≡ None)
    (never_done t a o isnt)
    (λ u h none. not_told (event_of t a) o u h
    (subst (λ (s : Sort). told_as s o h ≡ None) (sym (sort_is t a)) none)) ends why
