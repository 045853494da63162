-- Tending that finds nothing to do leaves the data component as it was, and needs no entry; what it does is entered as a
-- step that takes nothing and sends nothing.
use Rattle.std.proofs.Common.{◌≡◌, ℕ, ◌+◌, Bool, true, false, List, [], Some, None, Ok, refl, ap, ◌∙◌, subst, arith}
use Rattle.std.specs.Bool.{MatchBool}
use Rattle.node_sides.specs.dc_core.specs.DcView.{DcView}
use Rattle.node_sides.specs.dc_core.specs.Serves.{with_system}
use Rattle.node_sides.specs.dc_core.specs.Tends as dc
use Rattle.record_key.specs.declared.refusal.Refusal.TheVariants.{NotConnected}
use Rattle.node_sides.specs.dc_store.specs.Gives.{Tending, SplitsAt, MergesAt, Rests, TendsTo}
use Rattle.node_sides.specs.dc_store.specs.SystemView.{SystemView}
use Rattle.node_sides.specs.dc_store.specs.declared.tended.Tended.TheVariants as tended
use Rattle.node_sides.specs.node_laws.specs.declared.event.Event.TheVariants as event
use Rattle.node_sides.specs.node_laws.specs.declared.event.Out.{Out}
use Rattle.node_sides.specs.node_laws.specs.declared.event.Out.TheVariants as out
use Rattle.node_sides.specs.node_laws.specs.Component.{DcSide}
use Rattle.node_sides.specs.node_laws.specs.Halves.{DcLeads, node_of}
use Rattle.node_sides.specs.node_laws.specs.Node.{NodeView, CallsDc, dc_side}
use Rattle.engine_history.specs.declared.step.Step.{Step}
use Rattle.engine_history.specs.Kept.{EntersDc}
use Rattle.engine_history.specs.Steps.{Start, GivesDc, fresh_start}
use Rattle.engine_history.proofs.Sitting.{dc_goes_alone}

rested : (known : ℕ) (old new : SystemView) (t : Tending) → TendsTo known old t tended.Nothing new → new ≡ old
rested known old new (SplitsAt p) never = absurd never
rested known old new (MergesAt p) never = absurd never
rested known old new Rests same = same

same_system : (old new : DcView) → dc.TendsTo old (Ok tended.Nothing) new → new ≡ old
same_system old new t =
    t.1 ∙ ap (with_system old) (rested old.known old.system new.system _ t.0)

same_node : (up : Bool) (old new : NodeView)
    → MatchBool up (CallsDc (dc.TendsTo old.dc (Ok tended.Nothing)) old new)
    ((out.Nothing ≡ out.Refused NotConnected) × (new ≡ old))
    → new ≡ old
same_node true old new c = c.1 ∙ ap (λ (w : DcView). record old { dc = w }) (same_system old.dc new.dc c.0)
same_node false old new c = c.1

pub nothing_tended : (old new : DcSide) (o : Out) → DcLeads old None event.Tend None o None new → o ≡ out.Nothing
    → new ≡ old
nothing_tended old new o leads is =
    let l = subst (λ (x : Out). DcLeads old None event.Tend None x None new) is leads in
    ap dc_side (same_node old.up (node_of fresh_start.tc old [] []) (node_of fresh_start.tc new [] [])
    (l.gives fresh_start.tc [] [] tt refl))

-- an event that sends nothing, where there would have been room for it
roomy : (old new : DcSide) (n : ℕ) (o : Out) → DcLeads old None event.Tend None o None new
    → DcLeads old (Some n) event.Tend None o None new
roomy old new n o l = record {
  gives = λ tc requests replies next brings. l.gives tc requests replies tt brings;
  kept = l.kept;
  spelled = l.spelled;
  room = tt;
}

pub tending_enters : (start : Start) (steps : List Step) (old new : DcSide) (given : ℕ) (o : Out)
    → GivesDc start steps (record { side = old; given = given }) → DcLeads old None event.Tend None o None new
    → EntersDc start steps (record { caller = None; event = event.Tend; out = o; sent = None; given = None })
    (record { side = new; given = given })
tending_enters start steps old new given o gives leads =
    dc_goes_alone start steps old new given given
    (record { caller = None; event = event.Tend; out = o; sent = None; given = None }) event.Tend gives refl refl
    (roomy old new (given + 1) o leads) (omega (arith)) refl
