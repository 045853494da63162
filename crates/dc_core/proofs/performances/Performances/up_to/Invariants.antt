use Rattle.dc_core.specs.Serves.{kept_to}
use Rattle.dc_core.proofs.performances.Performances.up_to.Given as goal

abbrev pub ghost-picked : goal.ghost-picked
ghost-picked a = kept_to a.number a.a.now.items
