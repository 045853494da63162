use denote.RattleType.{RattleType}
use denote.Struct.Declared.{shape}
use denote.Param.Send.{IsSend, recorded_send, struct_send, sendable}
use Rattle.std.proofs.Crossing.{crosses}
use Rattle.record_key.proofs.refusal.Refusal.TheSendSync as refusal
use Rattle.bench_crew.specs.contracts.player.Player as Player
use Rattle.bench_crew.proofs.timing.go.Goals as goal

player_send : (S : RattleType) → IsSend S → IsSend (Player.the_row S)
player_send S s = recorded_send (Player.the_field S).row _ _ (Player.the_type S).to_one
    (struct_send (shape (Player.the_type S)) (s, (search (refusal.the_send, crosses, sendable) depth 20, tt)))

pub for_each_mut-requires-send-T : goal.for_each_mut-requires-send-T
for_each_mut-requires-send-T g c κs within = search (player_send, sendable) depth 40

pub for_each_mut-requires-clause-accepts : goal.for_each_mut-requires-clause-accepts
for_each_mut-requires-clause-accepts g c κs within = λ i p lt e. tt
