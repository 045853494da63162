-- A trace has no bytes and owns nothing, so it may go to another thread and be shared.
use denote.Param.Send.{IsSend, IsSync, part_keyless}
use Rattle.engine_history.specs.contracts.trace.Trace as Trace

pub trace_send : IsSend Trace.the_row
trace_send = record { owned = λ d vs. ((λ vss. (tt, ((λ uss. (tt, tt)), tt))), tt); leaving = λ k f vs. tt }

pub trace_sync : IsSync Trace.the_row
trace_sync = record { shared = λ d b o κ q. part_keyless Trace.the_row trace_send q d b o }
