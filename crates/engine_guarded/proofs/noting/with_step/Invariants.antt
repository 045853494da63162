use Rattle.std.proofs.Common.{◌++◌, ◌∷◌, [], None}
use Rattle.engine_guarded.specs.Running.{made}
use Rattle.engine_guarded.proofs.noting.with_step.Given as goal

abbrev pub ghost-picked : goal.ghost-picked
ghost-picked a = a.a.now.items ++ made None a.b.now a.c.now ∷ []
