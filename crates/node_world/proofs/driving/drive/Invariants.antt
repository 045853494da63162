use Rattle.std.proofs.Common.{◌≡◌, ◌≤◌, length, take, vec_len}
use Rattle.std.specs.Vec.{vec_capacity}
use Rattle.node_sides.specs.node_laws.specs.Stepping.{Chain}
use Rattle.node_sides.specs.node_laws.specs.Simulation.{LeadsAll}
use Rattle.node_world.proofs.driving.drive.Given as goal

-- the events so far are a chain and a run, and there is room for the outputs of the rest
abbrev pub invariant-loop-event : goal.invariant-loop-event
invariant-loop-event g l = record {
  chain : Chain l.initial.world (take l.event-index l.events) l.outs.items l.world;
  run : LeadsAll l.initial.world (take l.event-index l.events) l.outs.items l.world;
  count : vec_len l.outs ≡ l.event-index;
  room : length l.events ≤ vec_capacity l.outs;
}
