use Rattle.std.proofs.Common.{rules, ◌≡◌, ◌∙◌, ℕ, Bor, List, ◌∷◌, [], ◌++◌, ◌+◌, ◌≤◌, Option, Some, None, length, append_assoc, sym, ap, arith}
use Rattle.std.specs.Prelude.{IfSome}
use Rattle.std.specs.Option.{option_copied, option_map}
use Rattle.std.proofs.lemmas.Option.{none-some, same_Some}
use Rattle.record_key.specs.declared.op.Answer.{Answer}
use Rattle.record_key.specs.declared.lent.AnswerRef.{AnswerRef}
use Rattle.record_key.specs.Lent.{answer_lent}
use Rattle.codec.specs.declared.reply.Reply.TheVariants as says
use Rattle.codec.specs.Fields.{optional, answer_bytes, IsAnswer}
use Rattle.codec.specs.Replies.{reply_bytes}
use Rattle.codec.proofs.Fields.{optional_length, answer_length}
use Rattle.codec.proofs.LongHeads.{headed_length, long_headed_frame}
use Rattle.codec.proofs.parted.put_answered.Goals.{in-None, in-Some}
use Rattle.codec.proofs.parted.put_answered.Goals as goal

-- the answer that is lent, if any
abbrev told : Option (Bor AnswerRef) → Option Answer
told answer = option_map answer_lent (option_copied answer)

short : (session n : ℕ) (o : Option Answer) → IfSome o IsAnswer → length (reply_bytes (says.Answered session n o)) ≤ 256
unfolding reply_bytes
short session n o fits =
    omega (
      arith,
      headed_length 18 session n (optional answer_bytes o),
      optional_length answer_bytes IsAnswer 122 answer_length o fits,
    )

pub returns-in_err-reserve-clause-short : goal.returns-in_err-reserve-clause-short
returns-in_err-reserve-clause-short c =
    let fits : IfSome (told c.args.answer) IsAnswer = search rules in
    short c.args.session c.args.number _ fits

pub returns-in-None-answer-clause-spelling : goal.returns-in-None-answer-clause-spelling
unfolding reply_bytes
returns-in-None-answer-clause-spelling c =
    let a = c.args in
    let copied : told a.answer ≡ None = ap told c.in-None-answer.is in
    let len_is : c.match-answer.length ≡ 18 = elim c.match-answer.branch [
      | in-None w ↦ w.length-is
      | in-Some w ↦ absurd (none-some w.in-Some.answer (sym c.in-None-answer.is ∙ w.in-Some.is))
    ] in
    long_headed_frame 18 c.match-answer.length (optional answer_bytes (told a.answer)) a.out.now.items
    _ c.put_long_start.new.out.items c.put_byte.new.out.items c.in_ok-reserve.ensures.items
    (c.put_byte.ensures.items
    ∙ ap (λ (o : Option Answer). c.put_long_start.new.out.items ++ optional answer_bytes o) (sym copied))
    a.session a.number c.put_long_start.ensures.items
    (len_is ∙ ap (λ (o : Option Answer). 17 + length (optional answer_bytes o)) (sym copied))

pub returns-in-None-answer-clause-short : goal.returns-in-None-answer-clause-short
returns-in-None-answer-clause-short c =
    let fits : IfSome (told c.args.answer) IsAnswer = search rules in
    short c.args.session c.args.number _ fits

pub returns-in-Some-answer-clause-spelling : goal.returns-in-Some-answer-clause-spelling
unfolding reply_bytes
returns-in-Some-answer-clause-spelling c =
    let a = c.args in
    let started = c.put_long_start.new.out.items in
    let answer = answer_lent c.in-Some-answer.answer.now in
    let copied : told a.answer ≡ Some answer = ap told c.in-Some-answer.is in
    let len_is : c.match-answer.length ≡ 17 + length (optional answer_bytes (Some answer)) = elim c.match-answer.branch [
      | in-None w ↦ absurd (none-some c.in-Some-answer.answer (sym w.in-None.is ∙ c.in-Some-answer.is))
      | in-Some w ↦
          let same : told a.answer ≡ Some (answer_lent w.in-Some.answer.now) = ap told w.in-Some.is in
          let one : answer_lent w.in-Some.answer.now ≡ answer = same_Some _ _ (sym same ∙ copied) in
          omega (arith, w.length-is, w.answer_len.ensures.len, ap (λ (o : Answer). length (answer_bytes o)) one)
    ] in
    long_headed_frame 18 c.match-answer.length (optional answer_bytes (told a.answer)) a.out.now.items
    _ started c.put_answer.new.out.items c.in_ok-reserve.ensures.items
    (c.put_answer.ensures.items
    ∙ ap (λ (b : List ℕ). b ++ answer_bytes answer) c.put_byte-in-Some-answer.ensures.items
    ∙ append_assoc started (1 ∷ []) (answer_bytes answer)
    ∙ ap (λ (o : Option Answer). started ++ optional answer_bytes o) (sym copied))
    a.session a.number c.put_long_start.ensures.items
    (len_is ∙ ap (λ (o : Option Answer). 17 + length (optional answer_bytes o)) (sym copied))

pub returns-in-Some-answer-clause-short : goal.returns-in-Some-answer-clause-short
returns-in-Some-answer-clause-short c =
    let fits : IfSome (told c.args.answer) IsAnswer = search rules in
    short c.args.session c.args.number _ fits
