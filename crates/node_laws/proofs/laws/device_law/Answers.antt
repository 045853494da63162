use Rattle.node_laws.proofs.Devices.Steps.{fresh_is_sound, steps_are_sound, chains_are_sound, settles_soundly}
use Rattle.node_laws.proofs.Devices.Refusals.{steps_are_readable}
use Rattle.node_laws.proofs.laws.device_law.Goals as goal

pub returns : goal.returns
returns c = record {
  fresh = fresh_is_sound;
  step = steps_are_sound;
  run = chains_are_sound;
  settle = settles_soundly;
  readable = steps_are_readable;
}
