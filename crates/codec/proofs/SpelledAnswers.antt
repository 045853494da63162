-- The bytes that spell an answer, at the front of those that are read.
use Rattle.std.proofs.Common.{◌≡◌, ◌∙◌, ℕ, ◌-◌, ◌≤◌, List, [], ◌++◌, length, take, drop, Some, sym, ap, subst, append-nil, arith}
use Rattle.std.proofs.lemmas.List.{length-append, take_at, drop_at}
use Rattle.record_key.specs.declared.op.Answer.{Answer}
use Rattle.codec.specs.Fields.{answer_bytes, IsAnswer}
use Rattle.codec.specs.Parted.{answer_or, answer_in, SpellAnswer}
use Rattle.codec.specs.Reading.{answer_at}
use Rattle.codec.proofs.Fields.{answer_reads}
use Rattle.codec.proofs.Readers.{IsBytes}

pub spelled_read : (a : Answer) → IsAnswer a → answer_at (answer_bytes a) ≡ Some (a, [])
spelled_read a fits = ap answer_at (sym (append-nil (answer_bytes a))) ∙ answer_reads.again a [] fits

spelled_again : (a : Answer) → IsAnswer a → answer_in (answer_bytes a) ≡ a
unfolding answer_in
spelled_again a fits = ap answer_or (spelled_read a fits)

-- what is read spells the answer, up to what is left
module _ (bytes rest : List ℕ) (a : Answer) (fits : IsBytes bytes) (read : answer_at bytes ≡ Some (a, rest)) where
  abbrev front : List ℕ
  front = take (length bytes - length rest) bytes

  parts : bytes ≡ answer_bytes a ++ rest
  parts = (answer_reads.takes bytes (a, rest) fits read).0.parts

  has : IsAnswer a
  has = (answer_reads.takes bytes (a, rest) fits read).1

  pub left_fits : length rest ≤ length bytes
  left_fits = omega (arith, ap length parts, length-append (answer_bytes a) rest)

  long : length (answer_bytes a) ≡ length bytes - length rest
  long = omega (arith, ap length parts, length-append (answer_bytes a) rest)

  front_is : front ≡ answer_bytes a
  front_is = ap (take (length bytes - length rest)) parts ∙ take_at (answer_bytes a) rest _ long

  pub left_is : drop (length bytes - length rest) bytes ≡ rest
  left_is = ap (drop (length bytes - length rest)) parts ∙ drop_at (answer_bytes a) rest _ long

  pub told : answer_in front ≡ a
  told = ap answer_in front_is ∙ spelled_again a has

  pub spelled : SpellAnswer front
  spelled = (front_is ∙ ap answer_bytes (sym told), subst IsAnswer (sym told) has)
