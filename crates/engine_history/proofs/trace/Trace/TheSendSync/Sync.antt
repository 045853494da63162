use denote.Param.Send.{IsSync}
use Rattle.engine_history.proofs.Sent.{trace_sync}
use Rattle.engine_history.specs.contracts.trace.Trace.{the_row}

pub sync : IsSync the_row
sync = trace_sync
