-- What the sessions have seen at the end.
use Rattle.std.proofs.Common.{List}
use Rattle.engine_history.specs.Kept.{calls_of}
use Rattle.engine_history.specs.Views.{Sees}
use Rattle.engine_history.specs.declared.step.Step.{Step}
use Rattle.engine_guarded.specs.Callers.{CallerView}
use Rattle.engine_guarded.specs.Closing.{HasSeenAll}
use Rattle.engine_history.proofs.NextCalls.{grown}

pub has_seen : (es : List Step) (c : CallerView) → Sees (calls_of c.number) c.steps es → HasSeenAll es c
has_seen es c sees = record { sees = sees; grown = grown c.number c.steps es sees }
