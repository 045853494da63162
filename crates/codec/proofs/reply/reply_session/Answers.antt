use Rattle.std.proofs.Common.{◌∙◌, drop, sym, ap}
use Rattle.codec.specs.Reading.{number_at}
use Rattle.codec.proofs.Sessions.{session_told}
use Rattle.codec.proofs.Told.{first}
use Rattle.codec.proofs.reply.reply_session.Goals as goal

pub returns-in_err-take_number : goal.returns-in_err-take_number
returns-in_err-take_number c = λ r rest fits e.
    c.from_residual.ensures ∙ ap first (sym c.in_err-take_number.ensures)
    ∙ ap (λ b. first (number_at b)) (c.left_at-2.ensures ∙ ap (drop 9) c.left_at.ensures)
    ∙ session_told r (drop c.args.at c.args.bytes.now) rest fits e

pub returns : goal.returns
returns c = λ r rest fits e.
    ap first (sym c.in_ok-take_number.ensures)
    ∙ ap (λ b. first (number_at b)) (c.left_at-2.ensures ∙ ap (drop 9) c.left_at.ensures)
    ∙ session_told r (drop c.args.at c.args.bytes.now) rest fits e
