-- The commands of the engine, one entry on.
use Rattle.std.proofs.Common.{◌≡◌, ℕ, Bool, true, false, cond, List, [], ◌∷◌, ◌++◌, refl, ap, sym, ◌∙◌}
use Rattle.std.specs.Prelude.{filter}
use Rattle.std.specs.List.{AllByRecursion}
use Rattle.std.proofs.lemmas.List.{append-nil, map-append}
use Rattle.std.proofs.lemmas.List.Elements.{filter-append}
use Rattle.node_sides.specs.node_laws.specs.declared.event.Event.{Event}
use Rattle.node_sides.specs.node_laws.specs.declared.event.Event.TheVariants as event
use Rattle.engine_history.specs.declared.step.Step.{Step}
use Rattle.engine_history.specs.Commands.{is_command, commands_it, commands, OwnKept}
use Rattle.engine_history.specs.Latched.{delivers}
use Rattle.engine_history.specs.Steps.{events}
use Rattle.engine_history.specs.Views.{View, Sees}
use Rattle.engine_history.proofs.Entering.{sees_all, sees_snoc}
use Rattle.engine_history.proofs.Lists.{filter_snoc}

none_left : (f : Step → Bool) (es : List Step) → AllByRecursion (λ e. f e ≡ false) es → filter f es ≡ []
none_left f [] all = refl
none_left f (e ∷ es) all = ap (λ (b : Bool). cond b (e ∷ filter f es) (filter f es)) all.0 ∙ none_left f es all.1

-- of what came since none is a command
pub commands_on : (before now : List Step) → Sees commands_it before now → commands now ≡ commands before
commands_on before now sees =
    ap commands sees.all ∙ ap events (filter-append commands_it before sees.since
    ∙ ap (λ (es : List Step). filter commands_it before ++ es) (none_left commands_it sees.since sees.none)
    ∙ append-nil (filter commands_it before))

pub commands_snoc : (es : List Step) (e : Step) → is_command e.event ≡ true
    → commands (es ++ e ∷ []) ≡ commands es ++ e.event ∷ []
commands_snoc es e is =
    ap events (filter_snoc commands_it es e ∙ ap (λ (b : Bool). filter commands_it es ++ cond b (e ∷ []) []) is)
    ∙ map-append (λ (x : Step). x.event) (filter commands_it es) (e ∷ [])

-- a command, which the engine itself has seen
pub commanded : (before es now : List Step) (e : Step) (c : Event) → Sees commands_it before es → e.event ≡ c
    → is_command c ≡ true → now ≡ es ++ e ∷ [] → commands now ≡ commands before ++ c ∷ []
commanded before es now e c sees is command all =
    ap commands all ∙ commands_snoc es e (ap is_command is ∙ command)
    ∙ (λ i. commands_on before es sees i ++ is i ∷ [])

-- no command delivers a message
pub command_alone : (e : Event) → is_command e ≡ true → delivers e ≡ false
command_alone (event.Request i) is = sym is
command_alone (event.Reply i) is = sym is
command_alone _ is = refl

-- an entry that is none
pub own_mild : (names : ℕ → ℕ) (es : List Step) (own : View) (e : Step) → is_command e.event ≡ false
    → OwnKept names es own → OwnKept names (es ++ e ∷ []) own
own_mild names es own e mild k = record {
  name = k.name;
  sees = sees_snoc commands_it own.steps es e mild k.sees;
}

-- all is seen
pub own_all : (names : ℕ → ℕ) (es : List Step) (own : View) → own.name ≡ names 2 → own.steps ≡ es → OwnKept names es own
own_all names es own name all = record { name = name; sees = sees_all commands_it own.steps es (sym all) }
