use Rattle.std.proofs.Common.{rules, ◌∙◌, length, arith, sym, ap}
use Rattle.codec.specs.Parted.{asked_with}
use Rattle.codec.proofs.Apart.{both_first, with_key, asking_told, nothing_asked}
use Rattle.codec.proofs.Requests.{request_fits}
use Rattle.codec.proofs.parted.asking_in.Goals as goal

pub returns-in_err-kind-clause-asked : goal.returns-in_err-kind-clause-asked
returns-in_err-kind-clause-asked c = λ r fits stands.
    absurd (omega (arith, (request_fits r fits).0, ap length stands, c.in_err-kind.ensures.cases))

pub returns-then-kind-ne2-clause-asked : goal.returns-then-kind-ne2-clause-asked
returns-then-kind-ne2-clause-asked c = λ r fits stands.
    nothing_asked r c.in_ok-kind.kind.now c.in_ok-kind.rest.now (sym c.in_ok-kind.ensures.cases.0 ∙ stands)
    (search rules)

pub returns-in_err-asked-clause-asked : goal.returns-in_err-asked-clause-asked
returns-in_err-asked-clause-asked c = λ r fits stands.
    ap (λ a. asked_with a c.take_asked.new.key) c.from_residual-in_err-asked.ensures
    ∙ ap both_first (sym c.in_err-asked.ensures)
    ∙ asking_told r c.in_ok-kind.kind.now c.in_ok-kind.rest.now fits (sym c.in_ok-kind.ensures.cases.0 ∙ stands)
    (search rules)

pub returns-clause-asked : goal.returns-clause-asked
returns-clause-asked c = λ r fits stands.
    with_key c.in_ok-asked.asked c.take_asked.new.key ∙ ap both_first (sym c.in_ok-asked.ensures)
    ∙ asking_told r c.in_ok-kind.kind.now c.in_ok-kind.rest.now fits (sym c.in_ok-kind.ensures.cases.0 ∙ stands)
    (search rules)
