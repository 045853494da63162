-- What became of an unfinished call that was carried on.
use Rattle.std.proofs.Common.{◌≡◌, ℕ, ◌==◌, Bool, true, false, cond, [], ◌∷◌, ◌++◌, Option, Some, None, refl, ap, sym, ◌∙◌, subst, inl, inr}
use Rattle.boxcar.specs.Table.{Shelves}
use Rattle.history.specs.ListMachine.{Line, TellsAnswer, TellsRow, TellsRows, TellsBack, TellsRolledBack}
use Rattle.record_key.specs.declared.refusal.Refusal.{Refusal}
use Rattle.engine_history.specs.node_laws.specs.declared.event.Event.{Event}
use Rattle.engine_history.specs.node_laws.specs.declared.event.Event.TheVariants as event
use Rattle.engine_history.specs.node_laws.specs.declared.event.Out.{Out}
use Rattle.engine_history.specs.Callers.{HasLine}
use Rattle.engine_history.specs.Sessions.{SessionCall, SessionCalls, called_as, call_list, is_pending, line_to, pending, with_latest}
use Rattle.engine_history.specs.Slots.{Slot}
use Rattle.engine_answers.proofs.Telling.{commits, given_as_told, one_line}
use Rattle.engine_answers.specs.Again.{CarriesOn, IsAnswerTo, AnswersWith, IsNotTold, IsToldSo, RefusedAgain, Resumes}
use Rattle.engine_answers.specs.Asking.{is_answered, is_done, is_told}
use Rattle.engine_answers.specs.Unfinished.{call_in}
use Rattle.engine_answers.specs.declared.ended.Ended.{Ended}
use Rattle.engine_answers.specs.declared.ended.Ended.TheVariants as ended
use Rattle.engine_answers.specs.declared.told.Told.{Told}
use Rattle.engine_answers.specs.declared.told.Told.TheVariants as told
use Rattle.engine_answers.proofs.Ending.{out_of}

abbrev event_in : Slot → Event
event_in p = p.value.step.value.event

-- an output that answers a call tells the line that does
answers : (e : Event) (o : Out) (t : ℕ) (l : Out) (line : Line) (a : Told) → line_to t l ≡ Some line
    → AnswersWith e o l a → IsAnswerTo e o line a
answers (event.Act u op) o t l line (told.Answer a) is (logged, (v, l_is)) =
    let so = subst (λ (x : Out). line_to t x ≡ Some line) l_is is in
    (logged, (v, one_line (v == t) (TellsAnswer v a) line so))
answers (event.Get u key) o t l line (told.Row a) is (asked, (v, l_is)) =
    let so = subst (λ (x : Out). line_to t x ≡ Some line) l_is is in
    (asked, (v, one_line (v == t) (TellsRow v a) line so))
answers (event.Scan u low high) o t l line (told.Rows a) is (asked, (v, l_is)) =
    let so = subst (λ (x : Out). line_to t x ≡ Some line) l_is is in
    (asked, (v, one_line (v == t) (TellsRows v a) line so))
answers (event.GoBack u s) o t l line told.Back is (rolling, (v, n, l_is)) =
    let so = subst (λ (x : Out). line_to t x ≡ Some line) l_is is in
    (rolling, (v, n, one_line (v == t) (TellsBack v n) line so))
answers (event.Rollback u) o t l line told.RolledBack is (rolling, (v, l_is)) =
    let so = subst (λ (x : Out). line_to t x ≡ Some line) l_is is in
    (rolling, (v, one_line (v == t) (TellsRolledBack v) line so))
answers (event.Commit u) o t l line (told.Committed n) is (logged, tells) = (logged, (t, commits t l line is tells))
answers _ o t l line _ is given = absurd given

-- the list, of which the latest call has this line
listed : (old new : SessionCalls) (c : SessionCall) → new.before ≡ old.before → new.latest ≡ Some c
    → call_list new ≡ old.before ++ c ∷ []
listed old new c before latest i = with_latest (before i) (latest i)

pub carries_on : (entries : Shelves) (old new : SessionCalls) (how : Ended) (a : Told) → Resumes entries old how new → IsToldSo how a
    → CarriesOn old a new
carries_on entries old new (ended.Told p q) a (s, s_shown, was, unfinished, (p_shown, is, q_shown, pends, by)) given =
    let now : old.latest ≡ Some (call_in p) = was ∙ ap (λ (x : Slot). Some (call_in x)) (sym is) in
    record {
      unfinished = unfinished;
      call = call_in p;
      was = now;
      line = by.line;
      answers = answers (event_in p) (out_of p) by.txn (out_of q) by.line a by.tells given;
      list =
          listed old new (called_as (event_in p) (out_of p) (Some by.line)) by.before
          (subst (λ (o : Option SessionCall). HasLine o new.latest by.line) now by.latest);
      over = by.over;
    }
carries_on entries old new (ended.AtOnce p) a resumes given = absurd given
carries_on entries old new (ended.Unfinished u f) a resumes given = absurd given
carries_on entries old new ended.CutOff a resumes given = absurd given

-- a call that is to be told of isn't answered by its entry
pends_of : (s : Slot) (latest : Option SessionCall) → latest ≡ Some (call_in s) → pending latest ≡ true
    → is_pending (out_of s) ≡ true
pends_of s latest is pends = at (is_pending (out_of s)) (sym (ap (λ (o : Option SessionCall). pending o) is) ∙ pends)
  where
    at : (b : Bool) → cond b true false ≡ true → b ≡ true
    at true so = refl
    at false so = absurd (cc (so))

not_answered : (e : Event) (o : Out) (line : Option Line) → is_pending o ≡ true → is_told e o line ≡ false
    → is_answered (called_as e o line) ≡ false
not_answered e o line pends isnt = ap (λ (b : Bool). cond b (is_told e o line) (is_done e o)) pends ∙ isnt

pub refused_again : (entries : Shelves) (old new : SessionCalls) (how : Ended) (r : Refusal) → Resumes entries old how new
    → IsNotTold how r → RefusedAgain old r new
refused_again entries old new (ended.AtOnce p) r (s, s_shown, was, unfinished, (p_shown, is, done, still)) isnt =
    absurd (cc (sym done ∙ pends_of s old.latest was unfinished.0))
refused_again entries old new (ended.Told p q) r (s, s_shown, was, unfinished, (p_shown, is, q_shown, pends, by)) (why, isnt) =
    let now : old.latest ≡ Some (call_in p) = was ∙ ap (λ (x : Slot). Some (call_in x)) (sym is) in
    let awaited : is_pending (out_of p) ≡ true = ap (λ (x : Slot). is_pending (out_of x)) is ∙ pends in
    inr (inr (
      why,
      unfinished,
      record {
        call = call_in p;
        was = now;
        line = Some by.line;
        list =
            listed old new (called_as (event_in p) (out_of p) (Some by.line)) by.before
            (subst (λ (o : Option SessionCall). HasLine o new.latest by.line) now by.latest);
        unanswered =
            not_answered (event_in p) (out_of p) (Some by.line) awaited
            (sym (given_as_told (event_in p) (out_of p) by.txn (out_of q) by.line by.tells) ∙ isnt);
        cut = λ none. absurd (cc (none));
      },
    ))
refused_again entries old new (ended.Unfinished u f) r (s, s_shown, was, unfinished, (is, pends, waits, failed)) why =
    inr (inl record {
      unfinished = unfinished;
      failure = f;
      failed = failed;
      why = why;
      same = λ i. with_latest (waits.untold.before i) (waits.untold.latest i);
      still = waits.live;
    })
refused_again entries old new ended.CutOff r (s, s_shown, was, unfinished, (pends, gone, untold)) why =
    inr (inr (
      why,
      unfinished,
      record {
        call = call_in s;
        was = was;
        line = None;
        list = listed old new (call_in s) untold.before (untold.latest ∙ was);
        unanswered = not_answered (event_in s) (out_of s) None pends refl;
        cut = λ none. gone;
      },
    ))
