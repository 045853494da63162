-- What an event does, and events one after another.
use Rattle.std.specs.Prelude.{◌≡◌, List, [], ◌∷◌, ◌++◌}
use Rattle.history.specs.ListMachine.{Machine, Line, TellsAnswer, TellsRow, TellsRows, TellsBack, TellsRolledBack, TellsLost, Steps}
use Rattle.node_laws.specs.declared.event.Event.{Event}
use Rattle.node_laws.specs.declared.event.Out.{Out}
use Rattle.node_laws.specs.declared.event.Out.TheVariants as out
use Rattle.node_laws.specs.Node.{NodeView, StepsTo}
use Rattle.node_laws.specs.Kept.{IsKept}
use Rattle.node_laws.specs.Simulation.{Leads, NodeStandsFor, told_committed}

-- what an event does, with its output: what the components' contracts say; it leads each list machine that the node
-- stood for to one that it stands for then; and what holds of a node at every moment holds after it. No state between
-- two events is any other than that
pub record IsStep (old : NodeView) (e : Event) (o : Out) (new : NodeView) : Type 0 where
  pub step : StepsTo old e o new
  pub leads : Leads old e o new
  pub kept : IsKept new

-- events with their outputs, one after another
abbrev pub Chain : NodeView → List Event → List Out → NodeView → Type 0
Chain w [] [] new = new ≡ w
Chain w (e ∷ es) (o ∷ os) new = (mid : NodeView) × IsStep w e o mid × Chain mid es os new
Chain w _ _ new = ⊥

-- what an output tells clients
abbrev pub told_by : Out → List Line
told_by (out.Answered t a) = TellsAnswer t a ∷ []
told_by (out.Row t v) = TellsRow t v ∷ []
told_by (out.Rows t rows) = TellsRows t rows ∷ []
told_by (out.Back t s) = TellsBack t s ∷ []
told_by (out.RolledBack t) = TellsRolledBack t ∷ []
told_by (out.Stable n committed) = told_committed committed
told_by (out.Connects i committed) = told_committed committed
told_by (out.Lost t) = TellsLost t ∷ []
told_by _ = []

abbrev pub told_by_all : List Out → List Line
told_by_all [] = []
told_by_all (o ∷ os) = told_by o ++ told_by_all os

-- whatever machine the node stood for, what clients were told by these outputs leads from it to one that it stands for
-- then
abbrev pub TellsOn : NodeView → List Out → NodeView → Type 0
TellsOn old os new = (m : Machine) → NodeStandsFor old m → (n : Machine) × Steps m (told_by_all os) n × NodeStandsFor new n
