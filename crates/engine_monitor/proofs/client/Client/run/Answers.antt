use Rattle.std.proofs.Common.{◌≡◌, ℕ, false, None, Some, ap, subst, inr}
use Rattle.std.proofs.lemmas.Result.{IfErr-weaker, IfOk-weaker}
use Rattle.record_key.specs.declared.refusal.Refusal.{Refusal}
use Rattle.engine_guarded.specs.declared.heard.Heard.{Heard}
use Rattle.engine_guarded.specs.engine_history.specs.Callers.{SessionView}
use Rattle.engine_guarded.specs.engine_history.specs.Sessions.{SessionCalls}
use Rattle.engine_guarded.specs.engine_answers.specs.Answers.{Refused, RefusedCall}
use Rattle.engine_guarded.specs.engine_answers.specs.Asking.{event_of}
use Rattle.engine_guarded.specs.engine_answers.specs.declared.told.Told.{Told}
use Rattle.engine_monitor.proofs.Answering.{answers}
use Rattle.engine_monitor.proofs.Refusing.{refuses_told}
use Rattle.engine_monitor.specs.Answering.{IsRefusalOf, told_as}
use Rattle.engine_monitor.specs.Ending.{calls_in}
use Rattle.engine_monitor.specs.Sessions.{AnswersCall}
use Rattle.engine_monitor.specs.declared.ended.Ended.TheVariants as ended
use Rattle.engine_monitor.specs.declared.sort.Sort.{Sort}
use Rattle.engine_monitor.proofs.client.Client.run.Goals as goal

pub returns-clause-answered : goal.returns-clause-answered
returns-clause-answered g c =
    let ask = c.args.ask in
    let o = c.run.new.outs.call in
    let how = c.in_ok-ended.ended in
    let old = calls_in c.self.inside.caller in
    let new = calls_in c.run.new.caller in
    let made = c.in_ok-ended.ensures.ends in
    IfOk-weaker c.told.result
    (λ (x : Told). (h : Heard) × (how ≡ ended.Told h) × (told_as c.of-sort.result o h ≡ Some x))
    (λ (x : Told). AnswersCall (λ t. event_of t ask) x c.args.self.now.calls new)
    (λ x says.
    subst (λ (p : SessionCalls). AnswersCall (λ t. event_of t ask) x p new) (ap (λ (s : SessionView). s.calls) c.self.view_is)
    (answers made.0 ask o old new how x made.1 made.2
    (subst (λ (s : Sort). (h : Heard) × (how ≡ ended.Told h) × (told_as s o h ≡ Some x)) c.of-sort.ensures says)))
    c.told.ensures.told

pub returns-clause-refused : goal.returns-clause-refused
returns-clause-refused g c =
    let ask = c.args.ask in
    let o = c.run.new.outs.call in
    let how = c.in_ok-ended.ended in
    let old = calls_in c.self.inside.caller in
    let new = calls_in c.run.new.caller in
    let made = c.in_ok-ended.ensures.ends in
    IfErr-weaker c.told.result
    (IsRefusalOf false (λ (h : Heard). told_as c.of-sort.result o h ≡ None) o how)
    (λ (r : Refusal). RefusedCall (λ t. event_of t ask) c.args.self.now.calls r new)
    (λ r why.
    inr (subst (λ (p : SessionCalls). (t : ℕ) × (p.live ≡ Some t) × Refused (event_of t ask) p.live p r new)
    (ap (λ (s : SessionView). s.calls) c.self.view_is) (
      made.0,
      made.1,
      refuses_told made.0 ask o old new how r c.requires.told made.2
          (subst (λ (s : Sort). IsRefusalOf false (λ (h : Heard). told_as s o h ≡ None) o how r) c.of-sort.ensures why),
    ))) c.told.ensures.refused
