use Rattle.std.specs.Prelude.{⊤}
use Rattle.std.proofs.Common.{◌≡◌, ℕ, Some, ap, subst, inr}
use Rattle.std.proofs.lemmas.Result.{IfErr-weaker}
use Rattle.record_key.specs.declared.refusal.Refusal.{Refusal}
use Rattle.engine_guarded.specs.declared.heard.Heard.{Heard}
use Rattle.engine_guarded.specs.engine_history.specs.Callers.{SessionView}
use Rattle.engine_guarded.specs.engine_history.specs.Sessions.{SessionCalls}
use Rattle.engine_guarded.specs.engine_history.specs.node_laws.specs.declared.event.Event.TheVariants as event
use Rattle.engine_guarded.specs.engine_answers.specs.Answers.{Refused, RefusedCall}
use Rattle.engine_guarded.specs.engine_answers.specs.Asking.{is_saved}
use Rattle.engine_monitor.proofs.Refusing.{refuses_save}
use Rattle.engine_monitor.specs.Answering.{IsRefusalOf}
use Rattle.engine_monitor.specs.Ending.{calls_in}
use Rattle.engine_monitor.proofs.client.Client.save.Goals as goal

pub returns-clause-refused : goal.returns-clause-refused
returns-clause-refused g c =
    let o = c.run.new.outs.call in
    let how = c.in_ok-ended.ended in
    let old = calls_in c.self.inside.caller in
    let new = calls_in c.run.new.caller in
    let made = c.in_ok-ended.ensures.ends in
    IfErr-weaker c.saved.result (IsRefusalOf (is_saved o) (λ (h : Heard). ⊤) o how)
    (λ (r : Refusal). RefusedCall (λ t. event.Save t) c.args.self.now.calls r new)
    (λ r why.
    inr (subst (λ (p : SessionCalls). (t : ℕ) × (p.live ≡ Some t) × Refused (event.Save t) p.live p r new)
    (ap (λ (s : SessionView). s.calls) c.self.view_is)
    (made.0, made.1, refuses_save made.0 o old new how r made.2 why))) c.saved.ensures.refused
