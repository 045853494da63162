use Rattle.std.proofs.Common.{rules, arith, ◌∙◌, ◌<◌, ◌≤◌, ℕ, Bor, List, length, Option, Some, None, ap}
use Rattle.std.specs.Prelude.{IfSome}
use Rattle.std.proofs.lemmas.List.{length-drop}
use Rattle.codec.specs.Reading.{bytes_if}
use Rattle.codec.proofs.Asked.{op_asked, inverse_asked, nothing_asked, some_body}
use Rattle.codec.proofs.spelled_op.asked_in.Goals as goal

shorter : (asked : Option (Bor (List ℕ))) (bytes : List ℕ) → length bytes ≤ 165
    → IfSome asked (λ a. length a.now < length bytes) → IfSome asked (λ a. length a.now ≤ 164)
shorter None bytes few fewer = tt
shorter (Some a) bytes few fewer = omega (arith, few, fewer)

pub returns-in_err-kind-clause-asked : goal.returns-in_err-kind-clause-asked
returns-in_err-kind-clause-asked c = λ r stands. absurd
    (some_body r c.args.body.now stands c.in_err-kind.ensures.cases)

pub returns-in-3-clause-asked : goal.returns-in-3-clause-asked
returns-in-3-clause-asked c = λ r stands. rw c.left_at.ensures
    (op_asked r c.args.body.now c.in_ok-kind.kind.now c.in_ok-kind.rest.now c.in_ok-kind.ensures.cases.0 stands
    c.in-3.is)

pub returns-in-3-clause-short : goal.returns-in-3-clause-short
returns-in-3-clause-short c =
    omega (
      arith,
      c.requires,
      ap length c.in_ok-kind.ensures.cases.0,
      ap length c.left_at.ensures,
      length-drop 16 c.in_ok-kind.rest.now,
    )

pub returns-in-5-clause-asked : goal.returns-in-5-clause-asked
returns-in-5-clause-asked c = λ r stands. c.bytes_if.ensures.after ∙ ap bytes_if c.left_at-in-5.ensures
    ∙ inverse_asked r c.args.body.now c.in_ok-kind.kind.now c.in_ok-kind.rest.now c.in_ok-kind.ensures.cases.0 stands
    c.in-5.is

pub returns-in-5-clause-short : goal.returns-in-5-clause-short
returns-in-5-clause-short c =
    shorter c.bytes_if.result c.left_at-in-5.result.now
    (omega (
      arith,
      c.requires,
      ap length c.in_ok-kind.ensures.cases.0,
      ap length c.left_at-in-5.ensures,
      length-drop 24 c.in_ok-kind.rest.now,
    ))
    c.bytes_if.ensures.fewer

pub returns-in_default-clause-asked : goal.returns-in_default-clause-asked
returns-in_default-clause-asked c = λ r stands.
    nothing_asked r c.args.body.now c.in_ok-kind.kind.now c.in_ok-kind.rest.now c.in_ok-kind.ensures.cases.0 stands
    (search rules) (search rules)
