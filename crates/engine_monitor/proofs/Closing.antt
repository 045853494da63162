-- What each session knows of the steps that an engine leaves.
use Rattle.std.proofs.Common.{◌≡◌, ℕ, List, [], ◌∷◌, subst}
use Rattle.std.specs.List.{AllByRecursion}
use Rattle.engine_guarded.specs.Callers.{CallerView}
use Rattle.engine_guarded.specs.Closing.{HasSeenAll}
use Rattle.engine_guarded.specs.engine_history.specs.Callers.{IsGrown, SessionView}
use Rattle.engine_guarded.specs.engine_history.specs.Sessions.{SessionCalls, calls_by}
use Rattle.engine_guarded.specs.engine_history.specs.declared.step.Step.{Step}
use Rattle.engine_monitor.specs.Ending.{calls_in}
use Rattle.engine_monitor.specs.Engines.{IsCovered, callers_as, callers_in}

pub covered : (es : List Step) (cs : List CallerView) (ss : List SessionView) → callers_in cs ≡ callers_as ss
    → AllByRecursion (HasSeenAll es) cs → AllByRecursion (IsCovered es) ss
covered es [] [] same all = tt
covered es [] (s ∷ ss) same all = absurd (cc (same))
covered es (c ∷ cs) [] same all = absurd (cc (same))
covered es (c ∷ cs) (s ∷ ss) same all =
    let first : (c.number, calls_in c) ≡ (s.number, s.calls) = cc (same) in
    let rest : callers_in cs ≡ callers_as ss = cc (same) in (
      subst (λ (p : ℕ × SessionCalls). IsGrown p.1 (calls_by p.0 es)) first all.0.grown,
      covered es cs ss rest all.1,
    )
