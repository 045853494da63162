use Rattle.std.proofs.Common.{◌∙◌, subst, sym}
use Rattle.std.specs.List.{AllByRecursion}
use Rattle.engine_history.specs.Kept.{calls_of}
use Rattle.engine_history.specs.Views.{Sees}
use Rattle.engine_guarded.specs.Closing.{HasSeenAll, IsIdle}
use Rattle.engine_guarded.specs.Found.{Found}
use Rattle.engine_guarded.proofs.Closing.{has_seen}
use Rattle.engine_guarded.proofs.closed.see_all.Goals as goal

pub loop-caller-preserved : goal.loop-caller-preserved
loop-caller-preserved g c =
    let es = c.args.guarded.now.steps in
    let caller = c.in-Some.caller in
    let all = c.loop-caller.invariant in
    let rest = c.in-Some.ensures.steps.0 in
    let sees : Sees (calls_of caller.number) caller.steps es =
    subst (λ (f : Found). Sees (calls_of caller.number) caller.steps f.steps) all.0 c.see.ensures.sees in (
      c.see.ensures.same ∙ all.0,
      (subst (AllByRecursion IsIdle) rest all.1).1,
      λ left. all.2 (subst (AllByRecursion (HasSeenAll es)) (sym rest) (has_seen es caller sees, left)),
    )
