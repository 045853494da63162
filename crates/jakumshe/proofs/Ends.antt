-- A call in steps: the node settles, the event happens, the node settles again.
use Rattle.std.proofs.Common.{◌≡◌, Bool, true, List, [], None, Result, Ok, Err, refl, ap, ◌∙◌, subst, inr}
use Rattle.std.specs.Prelude.{IfOk, IfErr}
use Rattle.record_key.specs.declared.refusal.Refusal.{Refusal}
use Rattle.node_laws.specs.declared.event.Event.{Event}
use Rattle.node_laws.specs.declared.event.Out.{Out}
use Rattle.node_laws.specs.declared.event.Out.TheVariants as out
use Rattle.node_laws.specs.Forgetting.{without_messages}
use Rattle.node_laws.specs.Node.{NodeView}
use Rattle.node_laws.specs.Rounds.{Settles, IsDone}
use Rattle.node_laws.specs.Stepping.{IsStep}
use Rattle.jakumshe.specs.Calls.{ComesToRest, StopsSettling, IsStepped, IsTold, Fails}

pub rests : (old settled new : NodeView) (before told : List Out) (r : Result Bool Refusal) (b : Bool)
    → Settles old None before told r settled → before ≡ [] → r ≡ Ok b → b ≡ true → new ≡ without_messages settled
    → ComesToRest old told new
rests old settled new before told r b settles none is true_too left = record {
  settled = settled;
  settles = subst (λ (q : Result Bool Refusal). Settles old None [] told q settled) (is ∙ ap Ok true_too)
      (subst (λ (os : List Out). Settles old None os told r settled) none settles);
  left = left;
}

pub stops : (old new : NodeView) (before told : List Out) (r : Result Bool Refusal) (why : Refusal)
    → Settles old None before told r new → before ≡ [] → r ≡ Err why → StopsSettling old why new
stops old new before told r why settles none is = record {
  told = told;
  settles = subst (λ (q : Result Bool Refusal). Settles old None [] told q new) is
      (subst (λ (os : List Out). Settles old None os told r new) none settles);
}

pub stepped : (old mid new : NodeView) (told : List Out) (e : Event) (o p : Out) → ComesToRest old told mid
    → IsStep mid e o new → o ≡ p → IsStepped old e p new
stepped old mid new told e o p settles steps same = record {
  before = told;
  settled = mid;
  settles = settles;
  steps = subst (λ (q : Out). IsStep mid e q new) same steps;
}

pub done : (o : Out) → ((r : Refusal) → o ≡ out.Refused r → ⊥) → IsDone o
done (out.Refused r) other = other r refl
done o other = tt

pub told_if : {V : Type 0} (old mid new : NodeView) (e : Event) (o : Out) (items : V → List Out) (r : Result V Refusal)
    → IsStepped old e o mid → IsDone o → IfOk r (λ told. ComesToRest mid (items told) new)
    → IfOk r (λ told. IsTold old e (items told) new)
told_if old mid new e o items (Ok told) steps done settles =
    record { out = o; stepped = mid; steps = steps; done = done; settles = settles }
told_if old mid new e o items (Err r) steps done settles = tt

pub left_if : {V : Type 0} (old mid new : NodeView) (e : Event) (o : Out) (r : Result V Refusal)
    → IsStepped old e o mid → IsDone o → IfErr r (λ why. StopsSettling mid why new) → IfErr r (λ why. Fails old e why new)
left_if old mid new e o (Ok told) steps done stops = tt
left_if old mid new e o (Err r) steps done stops =
    inr (record { out = o; stepped = mid; steps = steps; done = done; stops = stops })
