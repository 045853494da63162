use Rattle.std.proofs.Common.{◌≡◌, ◌∙◌, ◌+◌, length, drop, refl, ap, arith}
use Rattle.std.proofs.lemmas.List.{length-take}
use Rattle.codec.specs.declared.taken.Taken.TheVariants as took
use Rattle.codec.specs.Fields.{first_number}
use Rattle.codec.specs.Frames.{frame}
use Rattle.codec.specs.Records.{record_bytes}
use Rattle.codec.proofs.Ends.{body_taken}
use Rattle.codec.proofs.Frames.{framed, not_taken}
use Rattle.codec.proofs.Records.{record_length}
use Rattle.codec.proofs.undoing.answer_bytes_at.Goals as goal

pub answer_in-requires : goal.answer_in-requires
answer_in-requires c =
    let left = drop c.args.at c.args.bytes.now in
    let body = c.in-Record.body.now in
    let there = body_taken 181 c.args.at left (λ b. b ≡ body) body c.in-Record.field-1 c.in-Record.ensures refl in
    omega (arith, ap length there.body, length-take (first_number left) (drop 8 left), there.whole.allowed)

pub returns-in-Record-clause-held : goal.returns-in-Record-clause-held
returns-in-Record-clause-held c = λ r rest fits e.
    let at = c.args.at in
    let left = drop at c.args.bytes.now in
    let length_is = record_length r fits in
    let same : took.Record c.in-Record.body.now c.in-Record.field-1
    ≡ took.Record (record_bytes r) (at + length (frame (record_bytes r))) =
    c.in-Record.ensures ∙ framed 181 at (record_bytes r) left rest length_is.0 length_is.1 (omega arith) e in
    c.answer_in.ensures.held r (cc same)

pub returns-in-Short : goal.returns-in-Short
returns-in-Short c = record {
  held = λ r rest fits e.
      let at = c.args.at in
      let length_is = record_length r fits in
      absurd (not_taken _ _ _ _ c.in-Short.is
      (c.take_body.ensures
      ∙ framed 181 at (record_bytes r) (drop at c.args.bytes.now) rest length_is.0 length_is.1 (omega arith) e));
  short = tt;
}
