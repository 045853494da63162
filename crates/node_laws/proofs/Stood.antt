-- A node that stands for some list machine does so after each event, and once its messages are let go.
use Rattle.std.proofs.Common.{List, [], ◌∷◌, sym, subst}
use Rattle.node_laws.specs.declared.event.Event.{Event}
use Rattle.node_laws.specs.declared.event.Out.{Out}
use Rattle.node_laws.specs.Node.{NodeView}
use Rattle.node_laws.specs.Kept.{IsKept}
use Rattle.node_laws.specs.Forgetting.{without_messages}
use Rattle.node_laws.specs.Standing.{StandsForSome, IsNode}
use Rattle.node_laws.specs.Stepping.{IsStep, Chain}

pub stepped : (old : NodeView) (e : Event) (o : Out) (new : NodeView) → IsStep old e o new → StandsForSome old
    → StandsForSome new
stepped old e o new is s = let led = is.leads s.machine s.stands in record { machine = led.0; stands = led.2 }

pub chained : (old : NodeView) (es : List Event) (os : List Out) (new : NodeView) → Chain old es os new
    → StandsForSome old → StandsForSome new
chained old [] [] new is s = subst StandsForSome (sym is) s
chained old (e ∷ es) (o ∷ os) new is s = chained is.0 es os new is.2 (stepped old e o is.0 is.1 s)
chained old [] (o ∷ os) new is s = absurd is
chained old (e ∷ es) [] new is s = absurd is

pub emptied : (w : NodeView) → IsKept w → IsKept (without_messages w)
emptied w k = record {
  tc = k.tc;
  right = k.right;
  dc = k.dc;
  recoverable = k.recoverable;
  source = k.source;
  from = k.from;
  true_to = k.true_to;
  performed = k.performed;
  answered = k.answered;
  sent = tt;
  given = tt;
  sessions = k.sessions;
  checked = k.checked;
  known = k.known;
  opened = k.opened;
  quiet = k.quiet;
}

pub silent : (w : NodeView) → IsNode w → IsNode (without_messages w)
silent w n = record {
  kept = emptied w n.kept;
  stood = record { machine = n.stood.machine; stands = n.stood.stands };
}
