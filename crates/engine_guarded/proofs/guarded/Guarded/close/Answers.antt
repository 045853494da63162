use Rattle.std.proofs.Common.{◌≡◌, ◌∙◌, ℕ, List, subst, sym}
use Rattle.std.specs.List.{AllByRecursion}
use Rattle.engine_history.specs.Kept.{calls_of}
use Rattle.engine_history.specs.Views.{Sees}
use Rattle.engine_history.specs.declared.step.Step.{Step}
use Rattle.engine_guarded.specs.Found.{Found, IsOwned}
use Rattle.engine_guarded.proofs.Commanding.{commands_seen}
use Rattle.engine_guarded.proofs.guarded.Guarded.close.Goals as goal

pub returns-clause-commands : goal.returns-clause-commands
returns-clause-commands g c =
    let own = c.args.own in
    let es = c.args.self.steps in
    let same : c.see.new.self ≡ c.args.self = c.see.ensures.same ∙ c.see_all.ensures.same in
    let owned : AllByRecursion (IsOwned own.number) es =
    subst (λ (w : ℕ × List Step). AllByRecursion (IsOwned w.0) w.1) (λ i. (sym c.requires.own i, (same i).steps))
    c.kept.ensures.owned in
    let sees : Sees (calls_of own.number) own.steps es =
    subst (λ (f : Found). Sees (calls_of own.number) own.steps f.steps) c.see_all.ensures.same c.see.ensures.sees in
    commands_seen own.number own.steps es owned sees
