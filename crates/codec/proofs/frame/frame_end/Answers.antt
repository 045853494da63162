use Rattle.std.proofs.Common.{drop}
use Rattle.codec.proofs.Ends.{ends_so}
use Rattle.codec.proofs.frame.frame_end.Goals as goal

pub returns-in-Record : goal.returns-in-Record
returns-in-Record c =
    let told = ends_so c.args.limit c.args.at (drop c.args.at c.args.bytes.now)
    _ (rw c.in-Record.is at c.take_body.ensures) in
    record { whole = told.whole; short = told.short; bad = told.bad }

pub returns-in-Short : goal.returns-in-Short
returns-in-Short c =
    let told = ends_so c.args.limit c.args.at (drop c.args.at c.args.bytes.now)
    _ (rw c.in-Short.is at c.take_body.ensures) in
    record { whole = told.whole; short = told.short; bad = told.bad }

pub returns-in-Bad : goal.returns-in-Bad
returns-in-Bad c =
    let told = ends_so c.args.limit c.args.at (drop c.args.at c.args.bytes.now)
    _ (rw c.in-Bad.is at c.take_body.ensures) in
    record { whole = told.whole; short = told.short; bad = told.bad }
