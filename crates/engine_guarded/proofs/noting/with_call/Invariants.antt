use Rattle.std.proofs.Common.{◌++◌, ◌∷◌, [], Some}
use Rattle.engine_guarded.specs.Running.{made}
use Rattle.engine_guarded.proofs.noting.with_call.Given as goal

abbrev pub ghost-picked : goal.ghost-picked
ghost-picked a = a.a.now.items ++ made (Some a.number) a.b.now a.c.now ∷ []
