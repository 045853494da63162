use Rattle.std.proofs.Common.{rules, ◌≡◌, ◌∙◌, None, Some, length, refl, arith, sym, ap}
use Rattle.codec.specs.Parted.{both}
use Rattle.codec.proofs.ApartReads.{reading_at, reading_told, nothing_read}
use Rattle.codec.proofs.Requests.{request_fits}
use Rattle.codec.proofs.Told.{first}
use Rattle.codec.proofs.parted_reads.reading_in.Goals as goal

pub returns-in_err-kind-clause-asked : goal.returns-in_err-kind-clause-asked
returns-in_err-kind-clause-asked c = λ r fits stands.
    absurd (omega (arith, (request_fits r fits).0, ap length stands, c.in_err-kind.ensures.cases))

pub returns-then-kind-ne3-clause-asked : goal.returns-then-kind-ne3-clause-asked
returns-then-kind-ne3-clause-asked c = λ r fits stands.
    nothing_read r c.in_ok-kind.kind.now c.in_ok-kind.rest.now (sym c.in_ok-kind.ensures.cases.0 ∙ stands)
    (search rules)

pub returns-in_err-session-clause-asked : goal.returns-in_err-session-clause-asked
returns-in_err-session-clause-asked c = λ r fits stands.
    let none : reading_at c.in_ok-kind.rest.now ≡ None = rw c.in_err-session.ensures refl in
    ap (λ q. both q c.args.key.now) c.from_residual-in_err-session.ensures
    ∙ ap first (sym none)
    ∙ reading_told r c.in_ok-kind.kind.now c.in_ok-kind.rest.now fits (sym c.in_ok-kind.ensures.cases.0 ∙ stands)
    (search rules)

pub returns-in_err-read-clause-asked : goal.returns-in_err-read-clause-asked
returns-in_err-read-clause-asked c = λ r fits stands.
    let none : reading_at c.in_ok-kind.rest.now ≡ None =
    rw c.in_ok-session.ensures (rw c.in_err-read.ensures refl) in
    ap (λ q. both q c.args.key.now) c.from_residual-in_err-read.ensures
    ∙ ap first (sym none)
    ∙ reading_told r c.in_ok-kind.kind.now c.in_ok-kind.rest.now fits (sym c.in_ok-kind.ensures.cases.0 ∙ stands)
    (search rules)

pub returns-in_err-asked-clause-asked : goal.returns-in_err-asked-clause-asked
returns-in_err-asked-clause-asked c = λ r fits stands.
    let none : reading_at c.in_ok-kind.rest.now ≡ None =
    rw c.in_ok-session.ensures (rw c.in_ok-read.ensures (rw c.in_err-asked.ensures refl)) in
    ap (λ q. both q c.args.key.now) c.from_residual-in_err-asked.ensures
    ∙ ap first (sym none)
    ∙ reading_told r c.in_ok-kind.kind.now c.in_ok-kind.rest.now fits (sym c.in_ok-kind.ensures.cases.0 ∙ stands)
    (search rules)

pub returns-clause-asked : goal.returns-clause-asked
returns-clause-asked c = λ r fits stands.
    let some : reading_at c.in_ok-kind.rest.now
    ≡ Some (
      (record { session = c.in_ok-session.session; read = c.in_ok-read.read }, c.in_ok-asked.asked),
      c.in_ok-asked.field-0-1.now,
    ) = rw c.in_ok-session.ensures (rw c.in_ok-read.ensures (rw c.in_ok-asked.ensures refl)) in
    ap first (sym some)
    ∙ reading_told r c.in_ok-kind.kind.now c.in_ok-kind.rest.now fits (sym c.in_ok-kind.ensures.cases.0 ∙ stands)
    (search rules)
