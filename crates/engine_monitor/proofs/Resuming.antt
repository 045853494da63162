-- What became of an unfinished call that was carried on.
use Rattle.std.proofs.Common.{◌≡◌, Bool, true, false, cond, [], ◌∷◌, ◌++◌, Option, Some, None, refl, ap, sym, ◌∙◌, subst, inl, inr}
use Rattle.history.specs.ListMachine.{Line}
use Rattle.record_key.specs.declared.refusal.Refusal.{Refusal}
use Rattle.engine_guarded.specs.Callers.{IsTold}
use Rattle.engine_guarded.specs.Hearing.{as_line}
use Rattle.engine_guarded.specs.declared.heard.Heard.{Heard}
use Rattle.engine_guarded.specs.engine_history.specs.Callers.{HasLine}
use Rattle.engine_guarded.specs.engine_history.specs.Sessions.{SessionCalls, SessionCall, called_as, call_list, is_pending, pending, with_latest}
use Rattle.engine_guarded.specs.engine_history.specs.node_laws.specs.declared.event.Event.{Event}
use Rattle.engine_guarded.specs.engine_history.specs.node_laws.specs.declared.event.Out.{Out}
use Rattle.engine_guarded.specs.engine_answers.specs.Again.{CarriesOn, RefusedAgain}
use Rattle.engine_guarded.specs.engine_answers.specs.Asking.{is_answered, is_done, is_told}
use Rattle.engine_guarded.specs.engine_answers.specs.Unfinished.{IsUnfinished}
use Rattle.engine_guarded.specs.engine_answers.specs.declared.told.Told.{Told}
use Rattle.engine_monitor.proofs.Telling.{not_told, telling}
use Rattle.engine_monitor.specs.Answering.{IsRefusalOf, told_as}
use Rattle.engine_monitor.specs.Ending.{IsHalfDone, Resumes}
use Rattle.engine_monitor.specs.declared.ended.Ended.{Ended}
use Rattle.engine_monitor.specs.declared.ended.Ended.TheVariants as ended
use Rattle.engine_monitor.specs.declared.sort.Sort.{Sort}

pub unfinished : (calls : SessionCalls) (sort : Sort) (o : Out) → IsHalfDone calls sort o → IsUnfinished calls
unfinished calls sort o was = (
  ap pending was.latest ∙ ap (λ (b : Bool). cond b true false) was.awaited,
  was.alive,
)

-- the list, of which the latest call has this line
listed : (old new : SessionCalls) (c : SessionCall) → new.before ≡ old.before → new.latest ≡ Some c
    → call_list new ≡ old.before ++ c ∷ []
listed old new c before latest i = with_latest (before i) (latest i)

-- the latest call with what was told of it
has_told : (old new : SessionCalls) (c : SessionCall) (h : Heard) (told : IsTold old new h) → old.latest ≡ Some c
    → call_list new ≡ old.before ++ called_as c.event c.out (Some (as_line told.txn h)) ∷ []
has_told old new c h told was =
    listed old new (called_as c.event c.out (Some (as_line told.txn h))) told.before
    (subst (λ (o : Option SessionCall). HasLine o new.latest (as_line told.txn h)) was told.latest)

carries : (sort : Sort) (o : Out) (old new : SessionCalls) (h : Heard) (a : Told) → told_as sort o h ≡ Some a
    → Resumes sort o old (ended.Told h) new → CarriesOn old a new
carries sort o old new h a says resumed =
    let was = resumed.was in
    let told = resumed.finishes.1 in
    record {
      unfinished = unfinished old sort o was;
      call = called_as was.event o None;
      was = was.latest;
      line = as_line told.txn h;
      answers =
          telling was.event o told.txn h a
          (subst (λ (s : Sort). told_as s o h ≡ Some a) (sym was.sort_is) says);
      list = has_told old new (called_as was.event o None) h told was.latest;
      over = told.over;
    }

-- a line was told of it that answers it
pub carries_on : (sort : Sort) (o : Out) (old new : SessionCalls) (how : Ended) (a : Told) → Resumes sort o old how new
    → (h : Heard) × (how ≡ ended.Told h) × (told_as sort o h ≡ Some a) → CarriesOn old a new
carries_on sort o old new how a resumed (h, is, says) =
    carries sort o old new h a says (subst (λ (w : Ended). Resumes sort o old w new) is resumed)

not_answered : (e : Event) (o : Out) (line : Option Line) → is_pending o ≡ true → is_told e o line ≡ false
    → is_answered (called_as e o line) ≡ false
not_answered e o line pends isnt = ap (λ (b : Bool). cond b (is_told e o line) (is_done e o)) pends ∙ isnt

-- it isn't answered
pub refused_again : (sort : Sort) (o : Out) (old new : SessionCalls) (how : Ended) (r : Refusal) → Resumes sort o old how new
    → IsRefusalOf false (λ (h : Heard). told_as sort o h ≡ None) o how r → RefusedAgain old r new
refused_again sort o old new ended.AtOnce r resumed (why, isnt) =
    absurd (cc (sym resumed.finishes.0 ∙ resumed.was.awaited))
refused_again sort o old new (ended.Told h) r resumed (why, isnt) =
    let was = resumed.was in
    let told = resumed.finishes.1 in
    let line = as_line told.txn h in
    inr (inr (
      why,
      unfinished old sort o was,
      record {
        call = called_as was.event o None;
        was = was.latest;
        line = Some line;
        list = has_told old new (called_as was.event o None) h told was.latest;
        unanswered =
            not_answered was.event o (Some line) was.awaited
            (not_told was.event o told.txn h
            (subst (λ (s : Sort). told_as s o h ≡ None) (sym was.sort_is) isnt));
        cut = λ none. absurd (cc (none));
      },
    ))
refused_again sort o old new (ended.Unfinished f) r resumed why =
    let waits = resumed.finishes.1 in
    inr (inl record {
      unfinished = unfinished old sort o resumed.was;
      failure = f;
      failed = resumed.finishes.2;
      why = why;
      same = λ i. with_latest (waits.untold.before i) (waits.untold.latest i);
      still = waits.live;
    })
refused_again sort o old new ended.CutOff r resumed why =
    let was = resumed.was in
    let untold = resumed.finishes.1 in
    inr (inr (
      why,
      unfinished old sort o was,
      record {
        call = called_as was.event o None;
        was = was.latest;
        line = None;
        list = listed old new (called_as was.event o None) untold.before (untold.latest ∙ was.latest);
        unanswered = not_answered was.event o None was.awaited refl;
        cut = λ none. resumed.finishes.2;
      },
    ))
