-- What a client's thread is given and gives back may go from one thread to another.
use denote.RattleType.{RattleType}
use denote.Struct.Declared.{shape}
use denote.Param.Send.{IsSend, recorded_send, struct_send, sendable}
use Rattle.std.proofs.Crossing.{crosses}
use Rattle.std.specs.contracts.alloc.Global as Global
use Rattle.std.specs.contracts.impls.GlobalAllocator.TheImpl.{ghosts}
use Rattle.std.specs.contracts.sync.Arc as Arc
use Rattle.record_key.proofs.refusal.Refusal.TheSendSync as refusal
use Rattle.record_key.proofs.value.Value.TheSendSync as value
use Rattle.shell_pool.proofs.holding.Holding.TheSendSync as holding
use Rattle.shell_pool.specs.contracts.holding.Holding as Holding
use Rattle.shell_pool.specs.contracts.clients.Ended as Ended

pub holding_send : IsSend (Arc.the_row Holding.the_row Global.the_row ghosts)
holding_send = search (holding.the_send, holding.the_sync, crosses, sendable) depth 20

pub ended_send : (S : RattleType) → IsSend S → IsSend (Ended.the_row S)
ended_send S s = recorded_send (Ended.the_field S).row _ _ (Ended.the_type S).to_one
    (struct_send (shape (Ended.the_type S)) (
      s,
      (search (value.the_send, refusal.the_send, crosses, sendable) depth 20, tt),
    ))
