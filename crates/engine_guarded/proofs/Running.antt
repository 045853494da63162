-- A run goes on.
use Rattle.std.proofs.Common.{◌≡◌, ℕ, true, false, List, [], ◌∷◌, ◌++◌, Option, Some, None, refl, ap, sym, ◌∙◌, subst, inl, inr, append_assoc}
use Rattle.std.proofs.lemmas.List.{append-nil}
use Rattle.std.specs.List.{AllByRecursion}
use Rattle.record_key.proofs.Lists.{all_appended}
use Rattle.engine_history.specs.Commands.{is_command}
use Rattle.engine_history.specs.declared.step.Step.{Step}
use Rattle.engine_history.specs.node_laws.specs.declared.event.Event.{Event}
use Rattle.engine_history.specs.node_laws.specs.declared.event.Out.{Out}
use Rattle.engine_history.specs.node_laws.specs.Forgetting.{without_messages}
use Rattle.engine_history.specs.node_laws.specs.Node.{NodeView}
use Rattle.engine_history.specs.node_laws.specs.Stepping.{IsStep}
use Rattle.engine_history.specs.Kept.{calls_of}
use Rattle.engine_history.specs.Sessions.{calls_as}
use Rattle.engine_history.specs.Views.{Sees}
use Rattle.engine_guarded.specs.Found.{IsOwned}
use Rattle.engine_guarded.specs.Running.{GoesOn, LetsGo, Passes, has_caller, made}
use Rattle.engine_history.proofs.Lists.{all_snoc}

-- one step more
pub passes_snoc : (w : NodeView) (es : List Step) (old : NodeView) (caller : Option ℕ) (e : Event) (o : Out) (new : NodeView)
    → Passes w es old → IsStep old e o new → Passes w (es ++ made caller e o ∷ []) new
passes_snoc w [] old caller e o new lets step = (old, new, lets, step, inl refl)
passes_snoc w (x ∷ es) old caller e o new (from, mid, lets, first, rest) step =
    (from, mid, lets, first, passes_snoc mid es old caller e o new rest step)

-- messages are let go
lets_go : (w old : NodeView) → LetsGo w old → LetsGo w (without_messages old)
lets_go w old (inl same) = inr (ap without_messages same)
lets_go w old (inr gone) = inr (ap without_messages gone)

pub passes_forgotten : (w : NodeView) (es : List Step) (old : NodeView) → Passes w es old
    → Passes w es (without_messages old)
passes_forgotten w [] old lets = lets_go w old lets
passes_forgotten w (x ∷ es) old (from, mid, lets, first, rest) =
    (from, mid, lets, first, passes_forgotten mid es old rest)

-- ---- steps that are no calls

pub goes_nowhere : (es : List Step) → GoesOn es es
goes_nowhere es = record { since = []; all = sym (append-nil es); none = tt }

pub goes_same : (es now : List Step) → now ≡ es → GoesOn es now
goes_same es now same = subst (GoesOn es) (sym same) (goes_nowhere es)

pub goes_step : (es now : List Step) (e : Event) (o : Out) → now ≡ es ++ made None e o ∷ [] → GoesOn es now
goes_step es now e o all = record { since = made None e o ∷ []; all = all; none = (refl, tt) }

pub goes_on : (a b c : List Step) → GoesOn a b → GoesOn b c → GoesOn a c
goes_on a b c x y = record {
  since = x.since ++ y.since;
  all = y.all ∙ ap (λ (zs : List Step). zs ++ y.since) x.all ∙ append_assoc a x.since y.since;
  none = all_appended (λ e. has_caller e ≡ false) x.since y.since x.none y.none;
}

-- they are none of this session either
no_call : (s : ℕ) (o : Option ℕ) → Rattle.std.specs.Option.is_some o ≡ false → calls_as o s ≡ false
no_call s None is = refl
no_call s (Some t) is = absurd (cc (is))

all_others : (s : ℕ) (es : List Step) → AllByRecursion (λ e. has_caller e ≡ false) es
    → AllByRecursion (λ e. calls_of s e ≡ false) es
all_others s [] n = tt
all_others s (e ∷ es) n = (no_call s e.caller n.0, all_others s es n.1)

pub sees_on : (s : ℕ) (a b : List Step) → GoesOn a b → Sees (calls_of s) a b
sees_on s a b x = record { since = x.since; all = x.all; none = all_others s x.since x.none }

pub sees_then : (s : ℕ) (a b c : List Step) → Sees (calls_of s) a b → Sees (calls_of s) b c → Sees (calls_of s) a c
sees_then s a b c x y = record {
  since = x.since ++ y.since;
  all = y.all ∙ ap (λ (zs : List Step). zs ++ y.since) x.all ∙ append_assoc a x.since y.since;
  none = all_appended (λ e. calls_of s e ≡ false) x.since y.since x.none y.none;
}

-- ---- who crashes a component

pub owned_step : (n : ℕ) (es : List Step) (e : Event) (o : Out) → AllByRecursion (IsOwned n) es → is_command e ≡ false
    → AllByRecursion (IsOwned n) (es ++ made None e o ∷ [])
owned_step n es e o all plain =
    all_snoc (IsOwned n) es (made None e o) all (λ is. absurd (cc (sym plain ∙ is)))

pub owned_call : (n : ℕ) (es : List Step) (s : ℕ) (e : Event) (o : Out) → AllByRecursion (IsOwned n) es
    → (is_command e ≡ true → s ≡ n) → AllByRecursion (IsOwned n) (es ++ made (Some s) e o ∷ [])
owned_call n es s e o all may =
    all_snoc (IsOwned n) es (made (Some s) e o) all (λ is. ap (λ (m : ℕ). Some m) (may is))
