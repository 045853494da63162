-- Steps as a run of the node.
use Rattle.std.specs.Prelude.{◌≡◌, ◌⊎◌, ℕ, Bool, List, [], ◌∷◌, Option, None}
use Rattle.std.specs.Option.{is_some}
use Rattle.engine_history.specs.declared.step.Step.{Step}
use Rattle.engine_history.specs.node_laws.specs.declared.event.Event.{Event}
use Rattle.engine_history.specs.node_laws.specs.declared.event.Out.{Out}
use Rattle.engine_history.specs.node_laws.specs.Forgetting.{without_messages}
use Rattle.engine_history.specs.node_laws.specs.Node.{NodeView}
use Rattle.engine_history.specs.node_laws.specs.Stepping.{IsStep}
use Rattle.engine_history.specs.Steps.{Start, node_at}
use Rattle.engine_history.specs.Views.{Sees}

-- a step with whose call it is. Messages stay in the node
abbrev pub made : Option ℕ → Event → Out → Step
made caller e o = record { caller = caller; event = e; out = o; sent = None; given = None }

-- nothing happens, or every message is let go, as if the network had lost it
abbrev pub LetsGo : NodeView → NodeView → Type 0
LetsGo old new = (new ≡ old) ⊎ (new ≡ without_messages old)

-- the steps lead from one node to another; before each and at the end messages may be let go
abbrev pub Passes : NodeView → List Step → NodeView → Type 0
Passes w [] new = LetsGo w new
Passes w (e ∷ es) new =
    (from : NodeView) × (mid : NodeView) × LetsGo w from × IsStep from e.event e.out mid × Passes mid es new

-- so they do from a start on
abbrev pub PassesFrom : Start → List Step → NodeView → Type 0
PassesFrom start es w = Passes (node_at start) es w

abbrev pub has_caller : Step → Bool
has_caller e = is_some e.caller

-- steps were added, none of them a call
abbrev pub GoesOn : List Step → List Step → Type 0
GoesOn old new = Sees has_caller old new
