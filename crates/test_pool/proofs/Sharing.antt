-- What a client's thread is given and gives back may go from one thread to another.
use denote.RattleType.{RattleType}
use denote.Struct.Declared.{shape}
use denote.Param.Send.{IsSend, recorded_send, struct_send, sendable}
use Rattle.std.proofs.Crossing.{crosses}
use Rattle.record_key.proofs.refusal.Refusal.TheSendSync as refusal
use Rattle.test_pool_cases.proofs.Sharing.{client_field_send}
use Rattle.test_pool.specs.contracts.threads.Ended as Ended

pub ended_send : (S : RattleType) → IsSend S → IsSend (Ended.the_row S)
ended_send S s = recorded_send (Ended.the_field S).row _ _ (Ended.the_type S).to_one
    (struct_send (shape (Ended.the_type S)) (
      client_field_send S s,
      (search (refusal.the_send, crosses, sendable) depth 20, tt),
    ))
