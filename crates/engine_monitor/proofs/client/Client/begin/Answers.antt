use Rattle.std.proofs.Common.{ap, subst, inr}
use Rattle.std.specs.Prelude.{⊤}
use Rattle.std.proofs.lemmas.Result.{IfErr-weaker}
use Rattle.engine_guarded.specs.declared.heard.Heard.{Heard}
use Rattle.engine_guarded.specs.engine_history.specs.Callers.{SessionView}
use Rattle.engine_guarded.specs.engine_history.specs.Sessions.{SessionCalls}
use Rattle.engine_guarded.specs.engine_history.specs.node_laws.specs.declared.event.Event.TheVariants as event
use Rattle.engine_guarded.specs.engine_answers.specs.Answers.{Refused, RefusedBegin}
use Rattle.engine_guarded.specs.engine_answers.specs.Asking.{is_begun}
use Rattle.record_key.specs.declared.refusal.Refusal.{Refusal}
use Rattle.engine_monitor.proofs.Refusing.{refuses_begin}
use Rattle.engine_monitor.specs.Answering.{IsRefusalOf}
use Rattle.engine_monitor.specs.Ending.{calls_in}
use Rattle.engine_monitor.proofs.client.Client.begin.Goals as goal

pub returns-clause-refused : goal.returns-clause-refused
returns-clause-refused g c =
    let o = c.begin.new.outs.call in
    let how = c.in-Some.ended in
    let old = calls_in c.self.inside.caller in
    let new = calls_in c.begin.new.caller in
    IfErr-weaker c.begun.result (IsRefusalOf (is_begun o) (λ (h : Heard). ⊤) o how)
    (λ (r : Refusal). RefusedBegin c.args.self.now.calls r new)
    (λ r why.
    inr (subst (λ (p : SessionCalls). Refused event.Begin p.live p r new) (ap (λ (s : SessionView). s.calls) c.self.view_is)
    (refuses_begin o old new how r c.in-Some.ensures.ends why))) c.begun.ensures.refused
