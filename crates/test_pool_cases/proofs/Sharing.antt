-- What a client has may go from one thread to another, where its session may.
use denote.RattleType.{RattleType}
use denote.Struct.Declared.{shape}
use denote.Param.Send.{IsSend, recorded_send, struct_send, sendable}
use Rattle.std.proofs.Crossing.{crosses}
use Rattle.std.specs.contracts.alloc.Global as Global
use Rattle.std.specs.contracts.impls.GlobalAllocator.TheImpl.{ghosts}
use Rattle.std.specs.contracts.sync.Arc as Arc
use Rattle.test_pool_cases.proofs.client.Note.TheSendSync as note
use Rattle.test_pool_cases.proofs.stage.Stage.TheSendSync as stage
use Rattle.test_pool_cases.specs.contracts.client.Client as Client
use Rattle.test_pool_cases.specs.contracts.stage.Stage as Stage

pub stage_send : IsSend (Arc.the_row Stage.the_row Global.the_row ghosts)
stage_send = search (stage.the_send, stage.the_sync, crosses, sendable) depth 20

module _ (S : RattleType) (s : IsSend S) where
  pub client_field_send : IsSend (Client.the_field S).row
  client_field_send = struct_send (shape (Client.the_type S)) (
    search sendable,
    (s, (search sendable, (search (note.the_send, crosses, sendable) depth 20, tt))),
  )

  pub client_send : IsSend (Client.the_row S)
  client_send = recorded_send (Client.the_field S).row _ _ (Client.the_type S).to_one client_field_send
