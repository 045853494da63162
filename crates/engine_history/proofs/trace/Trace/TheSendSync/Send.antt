use denote.Param.Send.{IsSend}
use Rattle.engine_history.proofs.Sent.{trace_send}
use Rattle.engine_history.specs.contracts.trace.Trace.{the_row}

pub send : IsSend the_row
send = trace_send
