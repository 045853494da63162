-- Every step follows the list machine.
use Rattle.std.proofs.Common.{◌≡◌, ℕ, ◌+◌, ◌<◌, List, [], ◌∷◌, ◌++◌, length, Bool, true, false, Option, Some, None, refl, sym, ap, ◌∙◌, subst, take, get_or, inl, inr, true≢false}
use Rattle.std.specs.Prelude.{Result, Ok, Err, if◌then◌else◌}
use Rattle.record_key.specs.declared.refusal.Refusal.{Refusal}
use Rattle.record_key.specs.Order.{ends_above}
use Rattle.record_key.specs.Table.{Bytes}
use Rattle.dc_core.specs.dc_store.specs.declared.devices.Device.{Device}
use Rattle.dc_core.specs.dc_store.specs.declared.devices.Device.TheVariants as device
use Rattle.dc_core.specs.dc_store.specs.SystemView.{failing_at}
use Rattle.dc_core.specs.dc_store.specs.Crashed.{crashed}
use Rattle.dc_core.specs.Serves.{with_system}
use Rattle.dc_core.specs.Restarting.{restarted}
use Rattle.dc_core.proofs.Recoverable.{recoverable_served}
use Rattle.dc_core.proofs.Checked.{checked_served}
use Rattle.tc_core.specs.Kept.{IsTc}
use Rattle.stable.specs.Usage.{unused}
use Rattle.tc_core.specs.TcView.{fresh_tc}
use Rattle.record_key.specs.declared.refusal.Refusal.TheVariants.{NotConnected, BadRange}
use Rattle.node_laws.specs.Component.{DcSide, dc_used}
use Rattle.node_laws.proofs.Restarts.Crashes.{crash_keeps, keeps_up, used_keeps}
use Rattle.dc_core.specs.dc_store.specs.declared.tended.Tended.TheVariants as tended
use Rattle.dc_core.specs.Kept.{IsDc}
use Rattle.std.proofs.lemmas.List.{take_more}
use Rattle.history.specs.ListMachine as machine
use Rattle.history.specs.ListMachine.{Machine, OfKey, OfRange, Call, ToBegin, ToAct, ToRead, ToSave, ToGoBack, ToRollBack, ToCommit, IsRefused}
use Rattle.codec.specs.declared.reply.Reply.{Reply}
use Rattle.dc_core.specs.DcView.{DcView, fresh_dc}
use Rattle.node_laws.specs.declared.event.Event.{Event}
use Rattle.node_laws.specs.declared.event.Event.TheVariants as event
use Rattle.node_laws.specs.declared.event.Out.{Out}
use Rattle.node_laws.specs.declared.event.Out.TheVariants as out
use Rattle.node_laws.specs.Node.{NodeView, with_dc, StepsTo, IfUp, IfTcUp, IfDcUp, down_refusal, ServesTo, Served, PartsTo, JoinsTo, KeepsUpTo, WritesTo, CrashesDcTo, RestartsDcTo, FailsDcTo, fresh_node}
use Rattle.node_laws.specs.Stepping.{IsStep, Chain}
use Rattle.node_laws.specs.Kept.{IsKept, IsSent}
use Rattle.node_laws.specs.Simulation.{StepsIf, lines_of, Happens, Run, Leads, LeadsAll, NodeStandsFor}
use Rattle.node_laws.proofs.Invariant.FreshTc.{fresh_tc_kept}
use Rattle.simulation.proofs.Told.{fresh_stands}
use Rattle.node_laws.proofs.Invariant.ByNumber.{all_at}
use Rattle.node_laws.proofs.Invariant.Carries.{replied}
use Rattle.node_laws.proofs.Invariant.Serves.{serves, stops_serving}
use Rattle.node_laws.proofs.Invariant.Tends.{splits_keep, merges_keep, tends_keep, flushes_keep}
use Rattle.node_laws.proofs.Invariant.Keeps.{with_reply}
use Rattle.node_laws.proofs.Machine.Follows.{Follows, at_new, no_line, unchanged, follows_begin, follows_act, follows_get, follows_scan, follows_save, follows_go_back, follows_rollback, follows_commit, follows_undo, follows_force}
use Rattle.node_laws.proofs.Invariant.Sends.{follows_reconnect, follows_recover, follows_send, follows_low_water, follows_checkpoint, follows_tell}
use Rattle.node_laws.proofs.Machine.Replies.{follows_reply}
use Rattle.node_laws.proofs.Machine.Opened.{kept_joined}
use Rattle.node_laws.proofs.Restarts.TcCrashes.{follows_tc_crash, follows_tc_restart, follows_tc_fail}

-- a request reaches the data component
sent_there : (old : NodeView) (i : ℕ) (given : Result (Option Reply) Refusal) (dc : DcView) (k : IsKept old)
    → (h : Served old i given dc) → IsSent old.tc old.dc k.source h.request
sent_there old i given dc k h = all_at (IsSent old.tc old.dc k.source) old.requests i h.request k.sent h.found

served : (old : NodeView) (i : ℕ) (reply : Option Reply) (dc : DcView) → IsKept old → IsDc dc
    → Served old i (Ok reply) dc → IsKept (replied old dc reply)
served old i reply dc k is h =
    serves old h.request reply dc k is (recoverable_served old.dc h.request (Ok reply) dc k.dc k.recoverable h.gives)
    (checked_served old.dc h.request (Ok reply) dc k.dc k.recoverable h.gives) (sent_there old i (Ok reply) dc k h)
    h.gives.0 h.gives.1

-- the data component goes on, and no client is told anything
follows_dc : (old new : NodeView) (e : Event) (output : Out) → lines_of e output ≡ Some []
    → IsKept (with_dc old new.dc) → new ≡ with_dc old new.dc → Follows old e output new
follows_dc old new e output quiet kept same =
    at_new old new (with_dc old new.dc) e output same
    (record { leads = no_line old (with_dc old new.dc) e output quiet (λ m stands. stands); kept = kept })

follows_request : (old new : NodeView) (i : ℕ) (output : Out) → IsKept old → IsDc new.dc → ServesTo old i output new
    → Follows old (event.Request i) output new
follows_request old new i (out.Replied j) k is h =
    let next : NodeView = with_reply (with_dc old new.dc) h.0 in
    at_new old new next (event.Request i) (out.Replied j) h.3
    (record {
      leads = no_line old next (event.Request i) (out.Replied j) refl (λ m stands. stands);
      kept = served old i (Some h.0) new.dc k is h.1;
    })
follows_request old new i out.Noted k is h =
    follows_dc old new (event.Request i) out.Noted refl (served old i None new.dc k is h.0) h.1
follows_request old new i (out.Refused r) k is (inl h) = unchanged old new (event.Request i) (out.Refused r) k h.1 refl
follows_request old new i (out.Refused r) k is (inr h) =
    follows_dc old new (event.Request i) (out.Refused r) refl
    (stops_serving old h.0.request r new.dc k is (sent_there old i (Err r) new.dc k h.0) h.0.gives) h.1
follows_request old new i _ k is h = absurd h

follows_split : (old new : NodeView) (key : Bytes) (output : Out) → IsKept old → IsDc new.dc
    → PartsTo old key output new → Follows old (event.Split key) output new
follows_split old new key (out.Split pair) k is h =
    follows_dc old new (event.Split key) (out.Split pair) refl (splits_keep old key (Ok pair) new.dc k is h.0) h.1
follows_split old new key (out.Refused r) k is h =
    follows_dc old new (event.Split key) (out.Refused r) refl (splits_keep old key (Err r) new.dc k is h.0) h.1
follows_split old new key _ k is h = absurd h

follows_merge : (old new : NodeView) (key : Bytes) (output : Out) → IsKept old → IsDc new.dc
    → JoinsTo old key output new → Follows old (event.Merge key) output new
follows_merge old new key (out.Merged pair) k is h =
    follows_dc old new (event.Merge key) (out.Merged pair) refl (merges_keep old key (Ok pair) new.dc k is h.0) h.1
follows_merge old new key (out.Refused r) k is h =
    follows_dc old new (event.Merge key) (out.Refused r) refl (merges_keep old key (Err r) new.dc k is h.0) h.1
follows_merge old new key _ k is h = absurd h

follows_tend : (old new : NodeView) (output : Out) → IsKept old → IsDc new.dc → KeepsUpTo old output new
    → Follows old event.Tend output new
follows_tend old new (out.Split pair) k is h =
    follows_dc old new event.Tend (out.Split pair) refl (tends_keep old (Ok (tended.Split pair)) new.dc k is h.0) h.1
follows_tend old new (out.Merged pair) k is h =
    follows_dc old new event.Tend (out.Merged pair) refl (tends_keep old (Ok (tended.Merged pair)) new.dc k is h.0) h.1
follows_tend old new out.Nothing k is h =
    follows_dc old new event.Tend out.Nothing refl (tends_keep old (Ok tended.Nothing) new.dc k is h.0) h.1
follows_tend old new (out.Refused r) k is h =
    follows_dc old new event.Tend (out.Refused r) refl (tends_keep old (Err r) new.dc k is h.0) h.1
follows_tend old new _ k is h = absurd h

follows_flush : (old new : NodeView) (key : Bytes) (output : Out) → IsKept old → IsDc new.dc
    → WritesTo old key output new → Follows old (event.Flush key) output new
follows_flush old new key (out.Flushed id) k is h =
    follows_dc old new (event.Flush key) (out.Flushed id) refl (flushes_keep old key (Ok id) new.dc k is h.0) h.1
follows_flush old new key (out.Refused r) k is h =
    follows_dc old new (event.Flush key) (out.Refused r) refl (flushes_keep old key (Err r) new.dc k is h.0) h.1
follows_flush old new key _ k is h = absurd h

-- an event of a component that doesn't run is refused, and that is no step or a line of its own
if_up : (old new : NodeView) (up : Bool) (r : Refusal) (e : Event) (output : Out) (Does : Type 0) → IsKept old
    → ((m : Machine) → StepsIf m (lines_of e (out.Refused r)) m) → (Does → Follows old e output new)
    → IfUp up r old output new Does → Follows old e output new
if_up old new true r e output Does k line does h = does h
if_up old new false r e output Does k line does h =
    let P : Out → Type 0 = λ o. Follows old e o new in
    subst P (sym h.0) (at_new old new old e (out.Refused r) h.1
    (record { leads = λ m stands. (m, line m, stands); kept = k }))

if_tc_up : (old new : NodeView) (e : Event) (output : Out) (Does : Type 0) → IsKept old
    → ((m : Machine) → StepsIf m (lines_of e (out.Refused NotConnected)) m) → (Does → Follows old e output new)
    → IfTcUp old output new Does → Follows old e output new
if_tc_up old new e output Does k line does h = if_up old new old.tc_up NotConnected e output Does k line does h

if_dc_up : (old new : NodeView) (e : Event) (output : Out) (Does : Type 0) → IsKept old
    → ((m : Machine) → StepsIf m (lines_of e (out.Refused NotConnected)) m) → (Does → Follows old e output new)
    → IfDcUp old output new Does → Follows old e output new
if_dc_up old new e output Does k line does h = if_up old new old.dc_up NotConnected e output Does k line does h

-- a client's call is refused so
call_down : (call : Call) (m : Machine) → StepsIf m (Some (IsRefused call NotConnected ∷ [])) m
call_down call m = (m, (tt, refl), refl)

scan_down : (t : ℕ) (low : Bytes) (high : Option Bytes) (m : Machine)
    → StepsIf m (Some (IsRefused (ToRead t (OfRange low high)) (down_refusal low high) ∷ [])) m
scan_down t low high m = by (ends_above high low) refl
  where
    by : (b : Bool) → ends_above high low ≡ b
        → StepsIf m (Some (IsRefused (ToRead t (OfRange low high)) (if b then NotConnected else BadRange) ∷ [])) m
    by true ends = (m, (tt, refl), refl)
    by false none = (m, (λ is. true≢false (sym is ∙ none), refl), refl)

-- a crash of the data component, and its restart
follows_crash : (old new : NodeView) (frames bytes : ℕ) (output : Out) → IsKept old
    → CrashesDcTo old frames bytes output new → Follows old (event.CrashDc frames bytes) output new
follows_crash old new frames bytes out.Down k h =
    let n : ℕ = h.0.1.0 in
    let dc : DcView = restarted (crashed old.dc.system n) in
    let same : new ≡ record old { dc_up = false; dc = dc } =
    h.1 ∙ ap (λ (s : DcSide). record old { dc_up = s.up; dc = s.dc }) h.0.1.2 in
    at_new old new (record old { dc_up = false; dc = dc }) (event.CrashDc frames bytes) out.Down same (record {
      leads = no_line old (record old { dc_up = false; dc = dc }) (event.CrashDc frames bytes) out.Down refl
          (λ m stands. stands);
      kept = keeps_up (with_dc old dc) old.tc_up false (crash_keeps old n k h.0.1.1.stable);
    })
follows_crash old new frames bytes out.Nothing k h =
    unchanged old new (event.CrashDc frames bytes) out.Nothing k
    (h.1 ∙ ap (λ (s : DcSide). record old { dc_up = s.up; dc = s.dc }) h.0.1) refl
follows_crash old new frames bytes _ k h = absurd h

follows_restart : (old new : NodeView) (output : Out) → IsKept old → IsDc new.dc → RestartsDcTo old output new
    → Follows old event.RestartDc output new
follows_restart old new (out.Up count) k is h =
    let dc : DcView = dc_used old.dc new.dc.system.log_usage new.dc.system.page_usage in
    let same : new ≡ record old { dc_up = true; dc = dc } =
    h.1 ∙ ap (λ (s : DcSide). record old { dc_up = s.up; dc = s.dc })
    (h.0.2 ∙ ap (λ (x : DcView). record { up = true; dc = x }) h.0.3.is) in
    at_new old new (record old { dc_up = true; dc = dc }) event.RestartDc (out.Up count) same (record {
      leads = no_line old (record old { dc_up = true; dc = dc }) event.RestartDc (out.Up count) refl
          (λ m stands. stands);
      kept = keeps_up (with_dc old dc) old.tc_up true
          (used_keeps old new.dc.system.log_usage new.dc.system.page_usage k (subst IsDc h.0.3.is is));
    })
follows_restart old new out.Nothing k is h =
    unchanged old new event.RestartDc out.Nothing k
    (h.1 ∙ ap (λ (s : DcSide). record old { dc_up = s.up; dc = s.dc }) h.0.1) refl
follows_restart old new (out.Refused r) k is h =
    let dc : DcView = dc_used old.dc new.dc.system.log_usage new.dc.system.page_usage in
    let same : new ≡ record old { dc_up = false; dc = dc } =
    h.1 ∙ ap (λ (s : DcSide). record old { dc_up = s.up; dc = s.dc })
    (h.0.1 ∙ ap (λ (x : DcView). record { up = false; dc = x }) h.0.2.is) in
    at_new old new (record old { dc_up = false; dc = dc }) event.RestartDc (out.Refused r) same (record {
      leads = no_line old (record old { dc_up = false; dc = dc }) event.RestartDc (out.Refused r) refl
          (λ m stands. stands);
      kept = keeps_up (with_dc old dc) old.tc_up false
          (used_keeps old new.dc.system.log_usage new.dc.system.page_usage k (subst IsDc h.0.2.is is));
    })
follows_restart old new _ k is h = absurd h

-- a failure is set
sets : (old new : NodeView) (device : Device) (call : ℕ) (dc : DcView) → IsKept old → IsDc new.dc
    → dc ≡ dc_used old.dc dc.system.log_usage dc.system.page_usage → new ≡ with_dc old dc
    → Follows old (event.FailDc device call) out.Set new
sets old new device call dc k is used same =
    let is_dc : IsDc (dc_used old.dc dc.system.log_usage dc.system.page_usage) =
    subst IsDc (ap (λ (w : NodeView). w.dc) same ∙ used) is in
    at_new old new (with_dc old (dc_used old.dc dc.system.log_usage dc.system.page_usage)) (event.FailDc device call)
    out.Set (same ∙ ap (with_dc old) used) (record {
      leads = no_line old (with_dc old (dc_used old.dc dc.system.log_usage dc.system.page_usage))
          (event.FailDc device call) out.Set refl (λ m stands. stands);
      kept = used_keeps old dc.system.log_usage dc.system.page_usage k is_dc;
    })

follows_fail : (old new : NodeView) (device : Device) (call : ℕ) (output : Out) → IsKept old → IsDc new.dc
    → FailsDcTo old device call output new → Follows old (event.FailDc device call) output new
follows_fail old new device.Log call out.Set k is h =
    sets old new device.Log call (with_system old.dc (failing_at device.Log call old.dc.system)) k is refl
    (h.1 ∙ ap (λ (s : DcSide). record old { dc_up = s.up; dc = s.dc }) h.0.1)
follows_fail old new device.Pages call out.Set k is h =
    sets old new device.Pages call (with_system old.dc (failing_at device.Pages call old.dc.system)) k is refl
    (h.1 ∙ ap (λ (s : DcSide). record old { dc_up = s.up; dc = s.dc }) h.0.1)
follows_fail old new device call out.Nothing k is h =
    unchanged old new (event.FailDc device call) out.Nothing k
    (h.1 ∙ ap (λ (s : DcSide). record old { dc_up = s.up; dc = s.dc }) h.0.1) refl
follows_fail old new device call _ k is h = absurd h

pub follows : (old new : NodeView) (e : Event) (output : Out) → IsKept old → IsTc new.tc → IsDc new.dc
    → StepsTo old e output new → Follows old e output new
follows old new event.Reconnect output k tc is h =
    if_tc_up old new event.Reconnect output _ k (λ m. refl) (follows_reconnect old new output k) h
follows old new event.Recover output k tc is h =
    if_tc_up old new event.Recover output _ k (λ m. refl) (follows_recover old new output k tc) h
follows old new event.Begin output k tc is h =
    if_tc_up old new event.Begin output _ k (call_down ToBegin) (follows_begin old new output k) h
follows old new (event.Act t op) output k tc is h =
    if_tc_up old new (event.Act t op) output _ k (call_down (ToAct t op)) (follows_act old new t op output k) h
follows old new (event.Get t key) output k tc is h =
    if_tc_up old new (event.Get t key) output _ k (call_down (ToRead t (OfKey key)))
    (follows_get old new t key output k) h
follows old new (event.Scan t low high) output k tc is h =
    if_up old new old.tc_up (down_refusal low high) (event.Scan t low high) output _ k (scan_down t low high)
    (follows_scan old new t low high output k) h
follows old new (event.Save t) output k tc is h =
    if_tc_up old new (event.Save t) output _ k (call_down (ToSave t)) (follows_save old new t output k) h
follows old new (event.GoBack t s) output k tc is h =
    if_tc_up old new (event.GoBack t s) output _ k (call_down (ToGoBack t s)) (follows_go_back old new t s output k) h
follows old new (event.Rollback t) output k tc is h =
    if_tc_up old new (event.Rollback t) output _ k (call_down (ToRollBack t)) (follows_rollback old new t output k) h
follows old new (event.Commit t) output k tc is h =
    if_tc_up old new (event.Commit t) output _ k (call_down (ToCommit t)) (follows_commit old new t output k) h
follows old new (event.Undo t) output k tc is h =
    if_tc_up old new (event.Undo t) output _ k (λ m. refl) (follows_undo old new t output k) h
follows old new event.Force output k tc is h =
    if_tc_up old new event.Force output _ k (λ m. refl) (follows_force old new output k) h
follows old new (event.Send t) output k tc is h =
    if_tc_up old new (event.Send t) output _ k (λ m. refl) (follows_send old new t output k) h
follows old new (event.LowWater l) output k tc is h =
    if_tc_up old new (event.LowWater l) output _ k (λ m. refl) (follows_low_water old new l output k) h
follows old new event.Checkpoint output k tc is h =
    if_tc_up old new event.Checkpoint output _ k (λ m. refl) (follows_checkpoint old new output k) h
follows old new event.Tell output k tc is h =
    if_tc_up old new event.Tell output _ k (λ m. refl) (follows_tell old new output k) h
follows old new (event.Split key) output k tc is h =
    if_dc_up old new (event.Split key) output _ k (λ m. refl) (follows_split old new key output k is) h
follows old new (event.Merge key) output k tc is h =
    if_dc_up old new (event.Merge key) output _ k (λ m. refl) (follows_merge old new key output k is) h
follows old new event.Tend output k tc is h =
    if_dc_up old new event.Tend output _ k (λ m. refl) (follows_tend old new output k is) h
follows old new (event.Flush key) output k tc is h =
    if_dc_up old new (event.Flush key) output _ k (λ m. refl) (follows_flush old new key output k is) h
follows old new (event.Request i) output k tc is h =
    if_dc_up old new (event.Request i) output _ k (λ m. refl) (follows_request old new i output k is) h
follows old new (event.Reply i) output k tc is h =
    if_tc_up old new (event.Reply i) output _ k (λ m. refl) (follows_reply old new i output k) h
follows old new (event.CrashTc frames bytes) output k tc is h = follows_tc_crash old new frames bytes output k h
follows old new event.RestartTc output k tc is h = follows_tc_restart old new output k tc h
follows old new (event.CrashDc frames bytes) output k tc is h = follows_crash old new frames bytes output k h
follows old new event.RestartDc output k tc is h = follows_restart old new output k is h
follows old new (event.FailTc call) output k tc is h = follows_tc_fail old new call output k h
follows old new (event.FailDc device call) output k tc is h = follows_fail old new device call output k is h

-- a new node
pub kept_fresh : IsDc (fresh_dc unused unused) → IsKept fresh_node
kept_fresh is = kept_joined (fresh_tc unused) unused unused fresh_tc_kept tt refl refl refl refl is

-- and stands for the machine to which nothing was done
pub fresh_stands_for : NodeStandsFor fresh_node machine.fresh
fresh_stands_for = fresh_stands

-- a run goes on by one event
run_push : (m : Machine) (es : List Event) (os : List Out) (n : Machine) (e : Event) (o : Out) (k : Machine)
    → Run m es os n → Happens n e o k → Run m (es ++ e ∷ []) (os ++ o ∷ []) k
run_push m [] [] n e o k run happens = let P : Machine → Type 0 = λ x. Happens x e o k in (k, subst P run happens, refl)
run_push m [] (p ∷ os) n e o k run happens = absurd run
run_push m (d ∷ es) [] n e o k run happens = absurd run
run_push m (d ∷ es) (p ∷ os) n e o k run happens = (run.0, run.1, run_push run.0 es os n e o k run.2 happens)

leads_push : (old : NodeView) (es : List Event) (os : List Out) (mid : NodeView) (e : Event) (o : Out) (new : NodeView)
    → LeadsAll old es os mid → Leads mid e o new
    → LeadsAll old (es ++ e ∷ []) (os ++ o ∷ []) new
leads_push old es os mid e o new all one m stands =
    let first = all m stands in
    let last = one first.0 first.2 in
    (last.0, run_push m es os first.0 e o last.0 first.1 last.1, last.2)

pub leads_more : (old : NodeView) (es : List Event) (i : ℕ) (os : List Out) (mid : NodeView) (e : Event) (o : Out)
    (new : NodeView)
    → i < length es → e ≡ get_or es i e → LeadsAll old (take i es) os mid → Leads mid e o new
    → LeadsAll old (take (i + 1) es) (os ++ o ∷ []) new
leads_more old es i os mid e o new lt at all one =
    rw (take_more es i e lt, ← at) (leads_push old (take i es) os mid e o new all one)

-- a chain too
chain_push : (w : NodeView) (es : List Event) (os : List Out) (mid : NodeView) (e : Event) (o : Out) (new : NodeView)
    → Chain w es os mid → IsStep mid e o new
    → Chain w (es ++ e ∷ []) (os ++ o ∷ []) new
chain_push w [] [] mid e o new chain step = let P : NodeView → Type 0 = λ x. IsStep x e o new in
    (new, subst P chain step, refl)
chain_push w [] (p ∷ os) mid e o new chain step = absurd chain
chain_push w (d ∷ es) [] mid e o new chain step = absurd chain
chain_push w (d ∷ es) (p ∷ os) mid e o new chain step =
    (chain.0, chain.1, chain_push chain.0 es os mid e o new chain.2 step)

pub chain_more : (w : NodeView) (es : List Event) (i : ℕ) (os : List Out) (mid : NodeView) (e : Event) (o : Out)
    (new : NodeView)
    → i < length es → e ≡ get_or es i e → Chain w (take i es) os mid → IsStep mid e o new
    → Chain w (take (i + 1) es) (os ++ o ∷ []) new
chain_more w es i os mid e o new lt at chain step =
    rw (take_more es i e lt, ← at) (chain_push w (take i es) os mid e o new chain step)
