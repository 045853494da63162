use Rattle.std.proofs.Common.{◌≡◌, sym, subst}
use Rattle.std.specs.Prelude.{Result, Ok, Err, IfErr, IsErrAnd}
use Rattle.engine_shared.specs.engine_history.specs.Sessions.{SessionCalls}
use Rattle.record_key.specs.declared.refusal.Refusal.{Refusal}
use Rattle.engine_shared.specs.engine_answers.proofs.Resuming.{carries_on, refused_again}
use Rattle.engine_shared.specs.engine_answers.specs.Again.{CarriesOn, RefusedAgain}
use Rattle.engine_shared.specs.engine_answers.specs.declared.told.Told.{Told}
use Rattle.engine_sessions.proofs.session.Session.again.Goals as goal

refused_as : (result : Result Told Refusal) (r : Refusal) (old new : SessionCalls) → RefusedAgain old r new
    → IsErrAnd result (λ q. q ≡ r) → IfErr result (λ q. RefusedAgain old q new)
refused_as (Ok told) r old new why same = absurd same
refused_as (Err q) r old new why same = subst (λ (x : Refusal). RefusedAgain old x new) (sym same) why

pub returns-in_err-told-clause-refused : goal.returns-in_err-told-clause-refused
returns-in_err-told-clause-refused g c =
    let old = c.args.self.now.calls in
    let new = c.resume.new.self.calls in
    let why = refused_again g.J.Naming.entries old new c.in_ok-ended.ended c.in_err-told.field-0.0
    c.in_ok-ended.ensures.resumes c.in_err-told.ensures.refused in
    refused_as c.from_residual-in_err-told.result c.in_err-told.field-0.0 old new why
    c.from_residual-in_err-told.ensures.1

pub returns-clause-told : goal.returns-clause-told
returns-clause-told g c =
    subst (λ (p : SessionCalls). CarriesOn c.args.self.now.calls c.in_ok-told.told p) (sym c.learn_of.ensures.same.1)
    (carries_on g.J.Naming.entries c.args.self.now.calls c.resume.new.self.calls c.in_ok-ended.ended c.in_ok-told.told
    c.in_ok-ended.ensures.resumes c.in_ok-told.ensures.told)
