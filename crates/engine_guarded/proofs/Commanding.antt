-- What the engine has seen of its commands.
use Rattle.std.proofs.Common.{◌≡◌, ◌∙◌, ◌++◌, ◌∷◌, [], ℕ, Bool, true, false, List, Option, Some, ap, refl, sym, subst}
use Rattle.std.specs.List.{AllByRecursion}
use Rattle.engine_history.specs.Commands.{commands, commands_it, is_command}
use Rattle.engine_history.specs.Kept.{calls_of}
use Rattle.engine_history.specs.Sessions.{calls_as}
use Rattle.engine_history.specs.Views.{Sees}
use Rattle.engine_history.specs.declared.step.Step.{Step}
use Rattle.engine_history.specs.node_laws.specs.declared.event.Event.{Event}
use Rattle.engine_history.specs.node_laws.specs.declared.event.Out.{Out}
use Rattle.engine_guarded.specs.Found.{IsOwned}
use Rattle.engine_guarded.specs.Running.{made}
use Rattle.engine_history.proofs.Commanding.{commands_on, commands_snoc}
use Rattle.engine_history.proofs.Entering.{calls_same}

all_after : {A : Type 0} (P : A → Type 0) (xs ys : List A) → AllByRecursion P (xs ++ ys) → AllByRecursion P ys
all_after P [] ys all = all
all_after P (x ∷ xs) ys all = all_after P xs ys all.1

-- a step that the engine didn't call commands nothing
uncommanded : (n : ℕ) (e : Step) → IsOwned n e → calls_of n e ≡ false → commands_it e ≡ false
uncommanded n e owned other = at (is_command e.event) refl
  where
    at : (b : Bool) → is_command e.event ≡ b → b ≡ false
    at true is =
        sym (calls_same (Some n) n refl) ∙ sym (ap (λ (o : Option ℕ). calls_as o n) (owned is)) ∙ other
    at false is = refl

all_uncommanded : (n : ℕ) (es : List Step) → AllByRecursion (IsOwned n) es
    → AllByRecursion (λ e. calls_of n e ≡ false) es → AllByRecursion (λ e. commands_it e ≡ false) es
all_uncommanded n [] owned none = tt
all_uncommanded n (e ∷ es) owned none =
    (uncommanded n e owned.0 none.0, all_uncommanded n es owned.1 none.1)

-- since the engine saw these steps none was its own, so that it has seen all commands
pub commands_seen : (n : ℕ) (before now : List Step) → AllByRecursion (IsOwned n) now → Sees (calls_of n) before now
    → commands now ≡ commands before
commands_seen n before now owned sees =
    commands_on before now (record {
      since = sees.since;
      all = sees.all;
      none =
          all_uncommanded n sees.since
          (all_after (IsOwned n) before sees.since (subst (AllByRecursion (IsOwned n)) sees.all owned)) sees.none;
    })

-- one command more
pub commands_made : (n : ℕ) (before es now : List Step) (e : Event) (o : Out) → AllByRecursion (IsOwned n) es
    → Sees (calls_of n) before es → is_command e ≡ true → now ≡ es ++ made (Some n) e o ∷ []
    → commands now ≡ commands before ++ e ∷ []
commands_made n before es now e o owned sees is all =
    ap commands all ∙ commands_snoc es (made (Some n) e o) is
    ∙ ap (λ (cs : List Event). cs ++ e ∷ []) (commands_seen n before es owned sees)
