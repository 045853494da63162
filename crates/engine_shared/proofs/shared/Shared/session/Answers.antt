use Rattle.std.specs.Prelude.{◌≡◌, true, IfOk, IfSome, OnOk}
use Rattle.std.proofs.Common.{Option, ℕ, sym, subst}
use Rattle.engine_answers.specs.engine_history.specs.Latched.{DcFound}
use Rattle.engine_answers.specs.engine_history.specs.Steps.{GivesDc}
use Rattle.engine_answers.specs.engine_history.specs.Witnessed.{AreWitnessed, DcRan}
use Rattle.engine_shared.proofs.Results.{alone, ran_in}
use Rattle.engine_shared.proofs.shared.Shared.session.Goals as goal

pub returns-clause-ran : goal.returns-clause-ran
returns-clause-ran g c =
    let J = g.J.Naming in let r = c.session.result in let given = c.args.operator.now in
    subst (λ (o : Option ℕ). IfSome o (DcRan g.J.Naming.start g.J.Naming.entries given)) (sym c.ok.ensures.value)
    (alone (DcRan J.start J.entries given) r (ran_in J.start J.entries given c.look.new.self r c.look.ensures.all
    (subst (λ (d : DcFound). GivesDc g.J.Naming.start d.steps d.state) c.deref.ensures c.kept.ensures.gives)
    (subst (λ (d : DcFound). AreWitnessed g.J.Naming.entries d.steps) c.deref.ensures c.kept.ensures.shown)
    (subst (λ (d : DcFound). IfOk c.session.result (λ s. s ≡ d.state.side.dc.session)) c.deref-2.ensures
    c.session.ensures.session)
    (subst (λ (d : DcFound). OnOk c.session.result (d.state.side.up ≡ true)) c.deref-2.ensures c.session.ensures.up)))
