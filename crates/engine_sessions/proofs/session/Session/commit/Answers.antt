use Rattle.std.proofs.Common.{◌≡◌, ℕ, Some, None, subst, sym, ap}
use Rattle.history.specs.ListMachine.{Line, TellsCommitted}
use Rattle.boxcar.specs.Table.{Shelves}
use Rattle.engine_shared.specs.node_laws.specs.declared.event.Event.TheVariants as event
use Rattle.engine_shared.specs.node_laws.specs.declared.event.Out.{Out}
use Rattle.engine_shared.specs.node_laws.specs.declared.event.Out.TheVariants as out
use Rattle.engine_shared.specs.engine_answers.specs.declared.ended.Ended.{Ended}
use Rattle.engine_shared.specs.engine_answers.specs.declared.ended.Ended.TheVariants as ended
use Rattle.engine_shared.specs.engine_answers.specs.Answers.{AddsCall, Ends, IsToldAs, TellsCommit}
use Rattle.engine_shared.specs.engine_history.specs.Sessions.{SessionCalls, ends}
use Rattle.engine_shared.specs.engine_answers.proofs.Telling.{commits as committed}
use Rattle.engine_sessions.proofs.session.Session.commit.Goals as goal

-- a commit that was told
abbrev Committed : ℕ → SessionCalls → SessionCalls → Type 0
Committed n old new =
    (u : ℕ) × ((t : ℕ) × (old.live ≡ Some t)
    × AddsCall (event.Commit t) (out.CommitLogged n) (Some (TellsCommitted u)) old new) × (new.live ≡ None)

commits : (entries : Shelves) (how : Ended) (old new : SessionCalls) (n t : ℕ) → old.live ≡ Some t
    → Ends entries (event.Commit t) old how new → IsToldAs (λ (o : Out). o ≡ out.CommitLogged n) TellsCommit how
    → Committed n old new
commits entries (ended.Told p q) old new n t live (p_shown, q_shown, pending, (u, (line, is, over, adds))) (call, what) =
    let told = committed u q.value.step.value.out line is what in
    let so = subst (λ (l : Line). AddsCall (event.Commit t) p.value.step.value.out (Some l) old new) told adds in (
      u,
      (t, live, subst (λ (o : Out). AddsCall (event.Commit t) o (Some (TellsCommitted u)) old new) call so),
      over (ap ends told),
    )
commits entries (ended.AtOnce p) old new n t live how told = absurd told
commits entries ended.CutOff old new n t live how told = absurd told
commits entries (ended.Unfinished u f) old new n t live how told = absurd told

pub returns-clause-committed : goal.returns-clause-committed
returns-clause-committed g c =
    let old = c.args.self.now.calls in
    let run = c.in_ok-ended.ensures.ends in
    let n = c.in_ok-number.number in
    subst (λ (p : SessionCalls). Committed n old p) (sym c.learn.ensures.same.1)
    (commits g.J.Naming.entries c.in_ok-ended.ended old c.run.new.self.calls n run.0 run.1 run.2 c.in_ok-number.ensures.told)
