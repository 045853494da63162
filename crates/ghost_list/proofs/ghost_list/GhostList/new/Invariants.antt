use Rattle.std.proofs.Common.{[]}
use Rattle.ghost_list.proofs.ghost_list.GhostList.new.Given as goal

abbrev pub ghost-picked : goal.ghost-picked
ghost-picked g a = []
