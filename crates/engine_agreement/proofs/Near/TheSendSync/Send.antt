use denote.Param.Send.{IsSend}
use Rattle.engine_agreement.proofs.Sent.{near_send}
use Rattle.engine_agreement.specs.contracts.Near.{the_row}

pub send : IsSend the_row
send = near_send
