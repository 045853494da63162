use Rattle.std.proofs.Common.{◌≡◌, false, None, Some, ap, subst}
use Rattle.std.proofs.lemmas.Result.{IfErr-weaker, IfOk-weaker}
use Rattle.record_key.specs.declared.refusal.Refusal.{Refusal}
use Rattle.engine_guarded.specs.declared.heard.Heard.{Heard}
use Rattle.engine_guarded.specs.engine_history.specs.Callers.{SessionView}
use Rattle.engine_guarded.specs.engine_history.specs.Sessions.{SessionCalls}
use Rattle.engine_guarded.specs.engine_answers.specs.Again.{CarriesOn, RefusedAgain}
use Rattle.engine_guarded.specs.engine_answers.specs.declared.told.Told.{Told}
use Rattle.engine_monitor.proofs.Resuming.{carries_on, refused_again}
use Rattle.engine_monitor.specs.Answering.{IsRefusalOf, told_as}
use Rattle.engine_monitor.specs.Ending.{calls_in}
use Rattle.engine_monitor.specs.declared.ended.Ended.TheVariants as ended
use Rattle.engine_monitor.proofs.client.Client.resume.Goals as goal

pub returns-clause-told : goal.returns-clause-told
returns-clause-told g c =
    let sort = c.in_ok-sort.sort in
    let o = c.again.new.outs.call in
    let how = c.in_ok-sort.ended in
    let old = calls_in c.self.inside.caller in
    let new = calls_in c.again.new.caller in
    IfOk-weaker c.told.result
    (λ (x : Told). (h : Heard) × (how ≡ ended.Told h) × (told_as sort o h ≡ Some x))
    (λ (x : Told). CarriesOn c.args.self.now.calls x new)
    (λ x says.
    subst (λ (p : SessionCalls). CarriesOn p x new) (ap (λ (s : SessionView). s.calls) c.self.view_is)
    (carries_on sort o old new how x c.in_ok-sort.ensures.resumes says)) c.told.ensures.told

pub returns-clause-refused : goal.returns-clause-refused
returns-clause-refused g c =
    let sort = c.in_ok-sort.sort in
    let o = c.again.new.outs.call in
    let how = c.in_ok-sort.ended in
    let old = calls_in c.self.inside.caller in
    let new = calls_in c.again.new.caller in
    IfErr-weaker c.told.result (IsRefusalOf false (λ (h : Heard). told_as sort o h ≡ None) o how)
    (λ (r : Refusal). RefusedAgain c.args.self.now.calls r new)
    (λ r why.
    subst (λ (p : SessionCalls). RefusedAgain p r new) (ap (λ (s : SessionView). s.calls) c.self.view_is)
    (refused_again sort o old new how r c.in_ok-sort.ensures.resumes why)) c.told.ensures.refused
