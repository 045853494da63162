-- What was announced is stable, and stays so.
use Rattle.std.proofs.Common.{◌≡◌, ◌∙◌, ◌≤◌, ℕ, Bool, true, false, List, [], ◌∷◌, ◌++◌, max, refl, ap, sym, inl, inr, le_trans, arith}
use Rattle.std.proofs.Math.Nat.{max-le}
use Rattle.record_key.specs.Table.{Bytes}
use Rattle.record_key.specs.declared.refusal.Refusal.{Refusal}
use Rattle.engine_history.specs.Marking.{announced, announced_after, low_of}
use Rattle.engine_history.specs.declared.step.Step.{Step}
use Rattle.engine_history.specs.node_laws.specs.Halves.{of_tc}
use Rattle.engine_history.specs.node_laws.specs.Kept.{IsKept}
use Rattle.engine_history.specs.node_laws.specs.Node.{CrashesDcTo, FailsDcTo, IfDcUp, IfUp, JoinsTo, KeepsUpTo, NodeView, PartsTo, RestartsDcTo, ServesTo, StepsTo, WritesTo}
use Rattle.engine_history.specs.node_laws.specs.Stepping.{IsStep}
use Rattle.engine_history.specs.node_laws.specs.declared.event.Event.{Event}
use Rattle.engine_history.specs.node_laws.specs.declared.event.Event.TheVariants as event
use Rattle.engine_history.specs.node_laws.specs.declared.event.Out.{Out}
use Rattle.engine_history.specs.node_laws.specs.declared.event.Out.TheVariants as out
use Rattle.engine_history.proofs.Stable.{Rises, announces, rises}

-- one step more
announced_snoc : (low : ℕ) (es : List Step) (e : Step)
    → announced_after low (es ++ e ∷ []) ≡ max (announced_after low es) (low_of e.event e.out)
announced_snoc low [] e = refl
announced_snoc low (x ∷ es) e = announced_snoc (max low (low_of x.event x.out)) es e

pub announced_next : {low : ℕ} {now : List Step} (es : List Step) (e : Step) → low ≡ announced es → es ++ e ∷ [] ≡ now
    → max low (low_of e.event e.out) ≡ announced now
announced_next es e is all =
    ap (λ (n : ℕ). max n (low_of e.event e.out)) is ∙ sym (announced_snoc 0 es e) ∙ ap announced all

-- ---- the data component's events leave as much stable as was

same_tc : (old new : NodeView) → new.tc ≡ old.tc → Rises old new
same_tc old new is = let now : new.tc.stable ≡ old.tc.stable = λ i. (is i).stable in omega (arith, now)

left : (old new w : NodeView) → new ≡ w → w.tc ≡ old.tc → Rises old new
left old new w is same = same_tc old new (ap (λ (x : NodeView). x.tc) is ∙ same)

parts : (old new : NodeView) (k : Bytes) (o : Out) → PartsTo old k o new → Rises old new
parts old new k (out.Split pair) h = left old new _ h.1 refl
parts old new k (out.Refused r) h = left old new _ h.1 refl
parts old new k _ h = absurd h

joins : (old new : NodeView) (k : Bytes) (o : Out) → JoinsTo old k o new → Rises old new
joins old new k (out.Merged pair) h = left old new _ h.1 refl
joins old new k (out.Refused r) h = left old new _ h.1 refl
joins old new k _ h = absurd h

keeps_up : (old new : NodeView) (o : Out) → KeepsUpTo old o new → Rises old new
keeps_up old new (out.Split pair) h = left old new _ h.1 refl
keeps_up old new (out.Merged pair) h = left old new _ h.1 refl
keeps_up old new out.Nothing h = left old new _ h.1 refl
keeps_up old new (out.Refused r) h = left old new _ h.1 refl
keeps_up old new _ h = absurd h

writes : (old new : NodeView) (k : Bytes) (o : Out) → WritesTo old k o new → Rises old new
writes old new k (out.Flushed id) h = left old new _ h.1 refl
writes old new k (out.Refused r) h = left old new _ h.1 refl
writes old new k _ h = absurd h

serves : (old new : NodeView) (i : ℕ) (o : Out) → ServesTo old i o new → Rises old new
serves old new i (out.Replied j) h = left old new _ h.3 refl
serves old new i out.Noted h = left old new _ h.1 refl
serves old new i (out.Refused r) (inl h) = left old new _ h.1 refl
serves old new i (out.Refused r) (inr h) = left old new _ h.1 refl
serves old new i _ h = absurd h

crashes : (old new : NodeView) (more bytes : ℕ) (o : Out) → CrashesDcTo old more bytes o new → Rises old new
crashes old new more bytes out.Down h = left old new _ h.1 refl
crashes old new more bytes out.Nothing h = left old new _ h.1 refl
crashes old new more bytes _ h = absurd h

restarts : (old new : NodeView) (o : Out) → RestartsDcTo old o new → Rises old new
restarts old new (out.Up count) h = left old new _ h.1 refl
restarts old new out.Nothing h = left old new _ h.1 refl
restarts old new (out.Refused r) h = left old new _ h.1 refl
restarts old new _ h = absurd h

fails : (old new : NodeView) (device : _) (call : ℕ) (o : Out) → FailsDcTo old device call o new → Rises old new
fails old new device call out.Set h = left old new _ h.1 refl
fails old new device call out.Nothing h = left old new _ h.1 refl
fails old new device call _ h = absurd h

if_up : (old new : NodeView) (up : Bool) (r : Refusal) (o : Out) (Does : Type 0) → (Does → Rises old new)
    → IfUp up r old o new Does → Rises old new
if_up old new true r o Does does h = does h
if_up old new false r o Does does h = left old new old h.1 refl

if_dc_up : (old new : NodeView) (o : Out) (Does : Type 0) → (Does → Rises old new) → IfDcUp old o new Does
    → Rises old new
if_dc_up old new o Does does h = if_up old new old.dc_up _ o Does does h

dc_rises : (old new : NodeView) (e : Event) (o : Out) → of_tc e ≡ false → StepsTo old e o new → Rises old new
dc_rises old new (event.Split k) o is h = if_dc_up old new o _ (parts old new k o) h
dc_rises old new (event.Merge k) o is h = if_dc_up old new o _ (joins old new k o) h
dc_rises old new event.Tend o is h = if_dc_up old new o _ (keeps_up old new o) h
dc_rises old new (event.Flush k) o is h = if_dc_up old new o _ (writes old new k o) h
dc_rises old new (event.Request i) o is h = if_dc_up old new o _ (serves old new i o) h
dc_rises old new (event.CrashDc frames bytes) o is h = crashes old new frames bytes o h
dc_rises old new event.RestartDc o is h = restarts old new o h
dc_rises old new (event.FailDc device call) o is h = fails old new device call o h
dc_rises old new _ o is h = absurd (cc (is))

-- ---- any event

step_rises : (old new : NodeView) (e : Event) (o : Out) → IsKept old → StepsTo old e o new → Rises old new
step_rises old new e o k h = at (of_tc e) refl
  where
    at : (b : Bool) → of_tc e ≡ b → Rises old new
    at true is = rises old new e o k.tc is h
    at false is = dc_rises old new e o is h

low_within : (old new : NodeView) (e : Event) (o : Out) → StepsTo old e o new → low_of e o ≤ new.tc.stable
low_within old new (event.LowWater l) (out.Sent i) h = (announces old new l i h).1
low_within old new (event.LowWater l) _ h = omega arith
low_within old new _ o h = omega arith

-- what was announced before, or is now, is stable after it
pub low_stays : (old new : NodeView) (low : ℕ) (e : Event) (o : Out) → IsKept old → low ≤ old.tc.stable
    → IsStep old e o new → max low (low_of e o) ≤ new.tc.stable
low_stays old new low e o k within step =
    max-le (le_trans within (step_rises old new e o k step.step)) (low_within old new e o step.step)
