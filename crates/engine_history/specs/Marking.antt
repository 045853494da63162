-- What the marks show of the entries.
use Rattle.std.specs.Prelude.{◌≡◌, ◌⊎◌, ℕ, ◌≤◌, Bool, true, false, List, [], ◌∷◌, max}
use Rattle.node_sides.specs.node_laws.specs.declared.event.Event.{Event}
use Rattle.node_sides.specs.node_laws.specs.declared.event.Event.TheVariants as event
use Rattle.node_sides.specs.node_laws.specs.declared.event.Out.{Out}
use Rattle.node_sides.specs.node_laws.specs.declared.event.Out.TheVariants as out
use Rattle.node_sides.specs.node_laws.specs.Component.{TcSide}
use Rattle.engine_history.specs.declared.step.Step.{Step}

-- the number that was sent, 0 where none was
abbrev pub if_sent : ℕ → Out → ℕ
if_sent l (out.Sent i) = l
if_sent l _ = 0

-- the number that was announced, 0 where none was
abbrev pub low_of : Event → Out → ℕ
low_of (event.LowWater l) o = if_sent l o
low_of _ o = 0

-- the greatest number that was announced, 0 before any
abbrev pub announced_after : ℕ → List Step → ℕ
announced_after low [] = low
announced_after low (e ∷ es) = announced_after (max low (low_of e.event e.out)) es

abbrev pub announced : List Step → ℕ
announced es = announced_after 0 es

-- it tells a transaction that it has committed
abbrev pub is_some_of : List ℕ → Bool
is_some_of [] = false
is_some_of (t ∷ ts) = true

abbrev pub tells_commit : Out → Bool
tells_commit (out.Stable end committed) = is_some_of committed
tells_commit (out.Connects i committed) = is_some_of committed
tells_commit _ = false

-- a number that was announced is stable, in a component that runs
abbrev pub IsLowOf : Event → Out → TcSide → Type 0
IsLowOf e o tc = (low_of e o ≡ 0) ⊎ ((tc.up ≡ true) × (low_of e o ≤ tc.tc.stable))
