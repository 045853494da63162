use Rattle.std.proofs.Common.{◌≡◌, ◌∙◌, ◌+◌, length, drop}
use Rattle.codec.specs.declared.taken.Taken.TheVariants as took
use Rattle.codec.specs.Frames.{frame}
use Rattle.codec.specs.Requests.{request_bytes}
use Rattle.codec.proofs.Frames.{not_taken}
use Rattle.codec.proofs.Requests.{request_framed}
use Rattle.codec.proofs.parted.asking_at.Goals as goal

pub returns-in-Record-clause-asked : goal.returns-in-Record-clause-asked
returns-in-Record-clause-asked c = λ r rest fits e.
    let at = c.args.at in
    let same : took.Record c.in-Record.body.now c.in-Record.field-1
    ≡ took.Record (request_bytes r) (at + length (frame (request_bytes r))) =
    c.in-Record.ensures ∙ request_framed r at (drop at c.args.bytes.now) rest fits e in
    c.asking_in.ensures.asked r fits (cc same)

pub returns-in-Short : goal.returns-in-Short
returns-in-Short c = record {
  asked = λ r rest fits e.
      absurd (not_taken _ _ _ _ c.in-Short.is
      (c.take_body.ensures ∙ request_framed r c.args.at (drop c.args.at c.args.bytes.now) rest fits e));
  key = tt;
}
