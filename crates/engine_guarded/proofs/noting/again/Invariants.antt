use Rattle.engine_guarded.proofs.noting.again.Given as goal

abbrev pub ghost-picked : goal.ghost-picked
ghost-picked a = a.a.now.items
