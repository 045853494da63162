use Rattle.std.proofs.Common.{◌≡◌, ◌∙◌, ◌++◌, ◌∷◌, [], ℕ, Some, ap, false, subst, sym}
use Rattle.engine_history.specs.Commands.{commands}
use Rattle.engine_history.specs.Kept.{calls_of}
use Rattle.engine_history.specs.Views.{Sees}
use Rattle.engine_history.specs.node_laws.specs.Stepping.{IsStep}
use Rattle.engine_guarded.specs.Callers.{CallerView}
use Rattle.engine_guarded.specs.Found.{Found}
use Rattle.engine_guarded.specs.Running.{made}
use Rattle.engine_guarded.proofs.Commanding.{commands_made}
use Rattle.engine_guarded.proofs.guarded.Guarded.command.Goals as goal

pub call-requires : goal.call-requires
call-requires g c =
    record { owned = λ is. ap (λ (v : CallerView). v.number) c.see.ensures.caller ∙ c.requires.own }

pub returns : goal.returns
returns g c =
    let n = g.J.Naming.sessions in
    let old = c.args.self.now in
    let own = c.args.own.now in
    let e = c.args.event.now in
    let o = c.call.new.out in
    let new = c.finish.new.self in
    let same = c.finish.ensures.same in
    let number : c.see.new.caller.number ≡ n =
    ap (λ (v : CallerView). v.number) c.see.ensures.caller ∙ c.requires.own in
    let steps : new.steps ≡ old.steps ++ made (Some n) e o ∷ [] =
    ap (λ (f : Found). f.steps) same ∙ c.call.ensures.steps
    ∙ (λ i. (c.see.ensures.same i).steps ++ made (Some (number i)) e o ∷ []) in
    let own_is : c.finish.new.caller ≡ record { number = n; steps = new.steps; busy = false } =
    c.finish.ensures.caller
    ∙ (λ i. record {
      number = (ap (λ (v : CallerView). v.number) c.call.ensures.caller ∙ number) i;
      steps = (sym same i).steps;
      busy = false;
    }) in
    let sees : Sees (calls_of n) own.steps old.steps =
    subst (λ (k : ℕ). Sees (calls_of k) own.steps old.steps) c.requires.own c.see.ensures.sees in
    record {
      steps = steps;
      node =
          subst (λ (w : Found × Found). IsStep w.0.node e o w.1.node) (λ i. (c.see.ensures.same i, sym same i))
          c.call.ensures.node;
      own_is = own_is;
      given =
          ap (λ (v : CallerView). commands v.steps) own_is
          ∙ commands_made n own.steps old.steps new.steps e o c.kept.ensures.owned sees c.requires.command steps;
    }
