-- A node is brought to rest by the rounds of settling, after each of which a leaf may be split and every message is let
-- go.
use Rattle.std.specs.Prelude.{◌≡◌, ◌<◌, ◌≤◌, Bool, List, [], ◌∷◌, ◌++◌, Result, Ok, Err, length, filter, nat_lt}
use Rattle.record_key.specs.declared.refusal.Refusal.{Refusal}
use Rattle.node_sides.specs.node_laws.specs.declared.event.Event.TheVariants as event
use Rattle.node_sides.specs.node_laws.specs.declared.event.Out.{Out}
use Rattle.node_sides.specs.node_laws.specs.declared.round.Round.{Round}
use Rattle.node_sides.specs.node_laws.specs.Bound.{most_rounds}
use Rattle.node_sides.specs.node_laws.specs.Forgetting.{without_messages}
use Rattle.node_sides.specs.node_laws.specs.Node.{NodeView}
use Rattle.node_sides.specs.node_laws.specs.Rounds.{IsNextRound, IsAtRest, IsWant, Plays, StopsAt, events_of}
use Rattle.node_sides.specs.node_laws.specs.Stepping.{IsStep, TellsOn, told_by}

-- the output tells a client something
abbrev pub tells : Out → Bool
tells o = nat_lt 0 (length (told_by o))

-- a leaf may be split, then every message is let go
pub record Eases (old new : NodeView) : Type 0 where
  pub out : Out
  pub mid : NodeView
  pub tended : IsStep old event.Tend out mid
  pub left : new ≡ without_messages mid

-- rounds that may follow one another so, each eased
abbrev pub EasedRounds : NodeView → List Round → List Out → NodeView → Type 0
EasedRounds w [] outs new = (outs ≡ []) × (new ≡ w)
EasedRounds w (r ∷ rs) outs new =
    (mid : NodeView) × (after : NodeView) × (first : List Out) × (rest : List Out) × (outs ≡ first ++ rest)
    × IsNextRound w r × Plays w (events_of w r) first mid × Eases mid after × EasedRounds after rs rest new

-- these were played; what of their outputs tells something stands after what stood before
pub record Eased (old : NodeView) (before after : List Out) (last : NodeView) : Type 0 where
  pub rounds : List Round
  pub outs : List Out
  pub appended : after ≡ before ++ filter tells outs
  pub played : EasedRounds old rounds outs last

-- a round after them stopped amid its events
pub record EasedUntil (old : NodeView) (before after : List Out) (r : Refusal) (new : NodeView) : Type 0 where
  pub last : NodeView
  pub between : List Out
  pub eased : Eased old before between last
  pub round : Round
  pub next : IsNextRound last round
  pub outs : List Out
  pub appended : after ≡ between ++ filter tells outs
  pub stops : StopsAt last (events_of last round) outs r new
  pub want : IsWant r

-- rounds are played until none is left, within the bound of settling, or one stopped. However it ends, what clients were
-- told by then is what some list machine goes on by
abbrev pub BringsUp : NodeView → List Out → List Out → Result (Unit {0}) Refusal → NodeView → Type 0
BringsUp old before after (Ok u) new =
    (e : Eased old before after new) × (length e.rounds ≤ most_rounds old.tc.log) × IsAtRest new
    × TellsOn old (filter tells e.outs) new
BringsUp old before after (Err r) new =
    (u : EasedUntil old before after r new) × (length u.eased.rounds < most_rounds old.tc.log)
    × TellsOn old (filter tells u.eased.outs ++ filter tells u.outs) new
