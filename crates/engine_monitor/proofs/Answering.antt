-- What a call answers that was made.
use Rattle.std.proofs.Common.{◌≡◌, ℕ, Some, sym, subst}
use Rattle.engine_guarded.specs.Hearing.{as_line}
use Rattle.engine_guarded.specs.declared.heard.Heard.{Heard}
use Rattle.engine_guarded.specs.engine_history.specs.Sessions.{SessionCalls}
use Rattle.engine_guarded.specs.engine_history.specs.node_laws.specs.declared.event.Out.{Out}
use Rattle.engine_guarded.specs.engine_answers.specs.Asking.{event_of}
use Rattle.engine_guarded.specs.engine_answers.specs.declared.ask.Ask.{Ask}
use Rattle.engine_guarded.specs.engine_answers.specs.declared.told.Told.{Told}
use Rattle.engine_monitor.proofs.Telling.{sort_is, telling}
use Rattle.engine_monitor.specs.Answering.{sort_of, told_as}
use Rattle.engine_monitor.specs.Ending.{Ends}
use Rattle.engine_monitor.specs.Sessions.{AnswersCall}
use Rattle.engine_monitor.specs.declared.ended.Ended.{Ended}
use Rattle.engine_monitor.specs.declared.ended.Ended.TheVariants as ended
use Rattle.engine_monitor.specs.declared.sort.Sort.{Sort}

-- a line was told of it that answers it
pub answers : (t : ℕ) (a : Ask) (o : Out) (old new : SessionCalls) (how : Ended) (x : Told) → old.live ≡ Some t
    → Ends (event_of t a) o old how new
    → (h : Heard) × (how ≡ ended.Told h) × (told_as (sort_of a) o h ≡ Some x)
    → AnswersCall (λ u. event_of u a) x old new
answers t a o old new how x live is_end (h, is, says) =
    let made = subst (λ (w : Ended). Ends (event_of t a) o old w new) is is_end in
    let answer =
    telling (event_of t a) o made.1.0 h x (subst (λ (s : Sort). told_as s o h ≡ Some x) (sym (sort_is t a)) says) in
    (t, live, (o, as_line made.1.0 h, answer, made.1.1, made.1.2))
