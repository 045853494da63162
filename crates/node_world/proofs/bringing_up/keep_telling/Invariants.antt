use Rattle.std.specs.Prelude.{◌≡◌, ◌-◌, ◌≤◌, ◌++◌, length, take, drop, filter}
use Rattle.node_world.specs.BringingUp.{tells}
use Rattle.node_world.proofs.bringing_up.keep_telling.Given as goal

abbrev pub invariant-loop-place : goal.invariant-loop-place
invariant-loop-place l = record {
  within : l.place ≤ length l.outs.items;
  rest : take l.fn.from l.initial.outs.items ++ filter tells (drop l.fn.from l.initial.outs.items)
      ≡ take l.place l.outs.items ++ filter tells (drop l.place l.outs.items);
}

abbrev pub decreases-loop-place : goal.decreases-loop-place
decreases-loop-place l = length l.outs.items - l.place
