use Rattle.std.proofs.Common.{drop}
use Rattle.codec.proofs.Ends.{body_taken}
use Rattle.codec.proofs.Frames.{bad_read}
use Rattle.codec.proofs.frame.read_framed.Goals as goal

pub returns-in-Err-clause-cause : goal.returns-in-Err-clause-cause
returns-in-Err-clause-cause g c =
    body_taken c.args.limit c.args.at (drop c.args.at c.args.bytes.now) g.T.Framed.takes_memory _ _
    (rw c.in-Record.is at c.take_body.ensures) c.in-Err.ensures.cause

pub returns-in-Bad-clause-value : goal.returns-in-Bad-clause-value
returns-in-Bad-clause-value g c =
    bad_read _ g.T.Framed.read_at c.args.limit c.args.at (drop c.args.at c.args.bytes.now)
    (rw c.in-Bad.is at c.take_body.ensures)
