use denote.Param.Send.{IsSend}
use Rattle.engine_agreement.proofs.Sent.{far_send}
use Rattle.engine_agreement.specs.contracts.Far.{the_row}

pub send : IsSend the_row
send = far_send
