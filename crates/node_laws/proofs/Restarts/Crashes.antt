-- A crash of the data component, and its restart, keep what holds of a node.
use Rattle.std.proofs.Common.{◌≡◌, ℕ, ◌-◌, ◌<◌, ◌≤◌, Bool, true, List, [], ◌∷◌, length, None, refl, sym, subst, arith}
use Rattle.std.specs.List.{AllByRecursion}
use Rattle.std.proofs.lemmas.List.{length-drop}
use Rattle.record_key.specs.declared.entry.Entry.{Entry}
use Rattle.record_key.proofs.Lists.{all_from}
use Rattle.history.specs.Log.{Requests}
use Rattle.framed_log.specs.Beginning.{beginning}
use Rattle.tc_log.specs.LogView.{last_not_session}
use Rattle.dc_leaf.specs.Leaf.{LeafView}
use Rattle.dc_leaf.specs.Honest.{IsSavedRight, IsHonestLeaf}
use Rattle.dc_leaf.specs.Tops.{top}
use Rattle.dc_recovery.specs.Recovery.{stored_session}
use Rattle.dc_recovery.specs.Laws.{IsKeptByCuts}
use Rattle.dc_recovery.specs.Ready.{IsHonestTo}
use Rattle.framed_log.proofs.Beginning.{twice, of_beginning}
use Rattle.dc_recovery.proofs.Honesty.{captures_fewer, cuts_keep_honest}
use Rattle.dc_ab_lsn.specs.Parting.{is_under}
use Rattle.dc_core.specs.dc_store.specs.SystemView.{SystemView}
use Rattle.dc_core.specs.dc_store.specs.Devices.{pages_of}
use Rattle.dc_core.specs.dc_store.specs.Kept.{IsSystem}
use Rattle.dc_core.specs.dc_store.specs.Crashed.{crashed}
use Rattle.dc_core.specs.dc_store.proofs.AfterCrash.{all_recovered, have_beginning, crashed_kept, crashed_recoverable}
use Rattle.dc_core.specs.dc_store.proofs.Checked.{crashed_checked}
use Rattle.dc_core.specs.DcView.{DcView, leaves, top_of}
use Rattle.dc_core.specs.Kept.{IsDc}
use Rattle.dc_core.specs.Restarting.{restarted}
use Rattle.dc_core.proofs.KeepsDc.{keeps_opened, all_both}
use Rattle.dc_tree.specs.Leaves.{rows_of}
use Rattle.dc_core.proofs.Stored.{stored_within}
use Rattle.dc_core.specs.Serves.{runs}
use Rattle.tc_core.specs.declared.phase.Phase.{Phase}
use Rattle.tc_core.specs.declared.phase.Phase.TheVariants as phase
use Rattle.tc_core.specs.TcView.{TcView}
use Rattle.tc_core.specs.Kept.{IsPhase}
use Rattle.history.specs.declared.record.Record.{Record}
use Rattle.stable.specs.Usage.{Usage}
use Rattle.node_laws.specs.Component.{dc_used}
use Rattle.node_laws.specs.Node.{NodeView, with_dc}
use Rattle.node_laws.specs.Kept.{IsKept, IsBegun, IsServed, IsTrueTo, IsLowAnswered}
use Rattle.node_laws.specs.Source.{own}
use Rattle.node_laws.proofs.Invariant.Captured.{entries_to, top_to}
use Rattle.node_laws.proofs.Invariant.LastRecord.{last_within, request_last}
use Rattle.node_laws.proofs.Restarts.Beginnings.{request_less}
use Rattle.node_laws.proofs.Invariant.Carries.{keeps_anew}
use Rattle.node_laws.proofs.Invariant.Running.{run_is, some_session}
use Rattle.node_laws.proofs.Invariant.Systems.{same_leaves, keeps_system}
use Rattle.node_laws.proofs.Invariant.Written.{used_true}

-- ---- what was restarted keeps its own

pub restarted_kept : (v : SystemView) → IsSystem v → v.stable ≡ length v.log → IsDc (restarted v)
restarted_kept v is all = keeps_opened v (stored_session v.log) (top_of v.leaves) (top_of v.leaves)
    (rows_of v.leaves) []
    is all refl refl refl refl

-- ---- sessions

-- of a log's beginnings the longer accepted the later session
stored_longer : (v : SystemView) (n : ℕ) → v.stable ≤ n
    → stored_session (beginning v.log v.stable) ≤ stored_session (beginning v.log n)
stored_longer v n le = subst (λ log. stored_session log ≤ stored_session (beginning v.log n))
    (twice v.log n v.stable le) (stored_within (beginning v.log n) v.stable)

-- no session runs
no_run : (v : SystemView) (s : ℕ) → runs (restarted v) s ≡ true → ⊥
no_run v s r = let run = run_is (restarted v) s r in run.some (sym run.is)

crash_served : (at : Phase) (c session : ℕ) (log : List Record) (old : DcView) (v : SystemView) → IsPhase c session at
    → (0 < session → stored_session v.log ≤ session)
    → old.stored ≤ stored_session v.log → IsServed at session log old → IsServed at session log (restarted v)
crash_served phase.Unconnected c session log old v is most least h = tt
crash_served phase.Connecting c session log old v is most least h = h
crash_served (phase.Redoing next ending) c session log old v is most least h =
    (h.0, omega (arith, h.1, most (omega (arith, is.0, is.1)), least), λ runs. absurd (omega (arith, runs, is.0, is.1)))
crash_served (phase.Undoing waiting) c session log old v is most least h =
    (omega (arith, h.0, most is, least), λ runs. absurd (omega (arith, runs, is)))
crash_served phase.Running c session log old v is most least h =
    (omega (arith, h.0, most is, least), λ runs. absurd (omega (arith, runs, is)))

-- ---- a crash

cuts_honest : (w : TcView) → IsKeptByCuts (IsHonestTo w.log w.stable)
cuts_honest w leaf d cut less inside h = record {
  honest = cuts_keep_honest w.log leaf d cut less inside h.honest;
  within = λ n got. h.within n (captures_fewer leaf.ab (is_under cut) n got);
}

cuts_low : (w : TcView) → IsKeptByCuts (IsLowAnswered w.log w.stable)
cuts_low w leaf d cut less inside h = h

pub crash_honest : (w : NodeView) (n : ℕ) → IsKept w → w.dc.system.stable ≤ n
    → AllByRecursion (IsHonestTo w.tc.log w.tc.stable) (crashed w.dc.system n).leaves
crash_honest w n k le =
    all_recovered (IsHonestTo w.tc.log w.tc.stable) (pages_of w.dc.system.pages) w.dc.system.log w.dc.system.stable n
    (cuts_honest w.tc) k.recoverable.legal k.recoverable.fit le k.true_to.written

-- each of their entries is of a stable request
top_request : (w : TcView) → w.stable ≤ length w.log → (leaf : LeafView) → IsHonestTo w.log w.stable leaf
    → top leaf ≤ last_not_session (beginning w.log w.stable)
top_request w within leaf h =
    top_to (last_not_session (beginning w.log w.stable)) leaf.ab.entries
    (all_both (IsSavedRight w.log) (λ (e : Entry). e.number ≤ w.stable)
    (λ (e : Entry). e.number ≤ last_not_session (beginning w.log w.stable))
    (λ e right sure. request_last (beginning w.log w.stable) e.number right.op
    (of_beginning (λ log. Requests log e.number right.op) w.stable
    (λ r log le. request_less e.number right.op r log (omega (arith, sure, le))) w.log right.requests))
    leaf.ab.entries h.honest.saved (entries_to leaf w.stable h.within))

top_sure : (w : TcView) → w.stable ≤ length w.log → (ls : List LeafView)
    → AllByRecursion (IsHonestTo w.log w.stable) ls → top_of ls ≤ last_not_session (beginning w.log w.stable)
top_sure w within [] all = omega arith
top_sure w within (leaf ∷ ls) all = omega (arith, top_request w within leaf all.0, top_sure w within ls all.1)

pub crash_true : (w : NodeView) (n : ℕ) → IsKept w → w.dc.system.stable ≤ n
    → IsTrueTo w.tc (own w.tc) (crashed w.dc.system n)
crash_true w n k le =
    let v : SystemView = w.dc.system in record {
      leaves = all_from (IsHonestTo w.tc.log w.tc.stable) (IsHonestLeaf w.tc.log) (λ leaf h. h.honest)
          (crashed v n).leaves (crash_honest w n k le);
      low = all_recovered (IsLowAnswered w.tc.log w.tc.stable) (pages_of v.pages) v.log v.stable n (cuts_low w.tc)
          k.recoverable.legal k.recoverable.fit le k.true_to.written_low;
      written = have_beginning (IsHonestTo w.tc.log w.tc.stable) (pages_of v.pages) v.log n k.true_to.written;
      written_low = have_beginning (IsLowAnswered w.tc.log w.tc.stable) (pages_of v.pages) v.log n
          k.true_to.written_low;
    }

pub crash_kept : (w : NodeView) (n : ℕ) → IsKept w → w.dc.system.stable ≤ n → IsDc (restarted (crashed w.dc.system n))
crash_kept w n k le = restarted_kept (crashed w.dc.system n) (crashed_kept w.dc.system n k.dc.system k.recoverable le)
    refl

pub crash_keeps : (w : NodeView) (n : ℕ) → IsKept w → w.dc.system.stable ≤ n
    → IsKept (with_dc w (restarted (crashed w.dc.system n)))
crash_keeps w n k le =
    let v : SystemView = crashed w.dc.system n in
    let least : w.dc.stored ≤ stored_session v.log = omega (arith, k.dc.stored, stored_longer w.dc.system n le) in
    let begun : IsBegun w.tc.stable w.tc.session (stored_session v.log) =
    record {
      recorded = omega (arith, stored_within w.dc.system.log n, k.sessions.begun.recorded);
      most = λ some. omega (arith, stored_within w.dc.system.log n, k.sessions.begun.most some);
    } in
    let opened : top_of v.leaves ≤ last_not_session (beginning w.tc.log w.tc.stable) =
    top_sure w.tc k.tc.within v.leaves (crash_honest w n k le) in
    let short : length (beginning w.tc.log w.tc.stable) ≡ length w.tc.log - (length w.tc.log - w.tc.stable) =
    length-drop (length w.tc.log - w.tc.stable) w.tc.log in
    keeps_anew w (restarted v) k
    (record {
      stored = least;
      other = λ s before r. no_run v s r;
      unmerged = λ may. some_session (restarted v) may refl;
      checks = crashed_checked w.dc.system n k.recoverable le;
    })
    None tt (crash_kept w n k le) (crashed_recoverable w.dc.system n k.recoverable le) (crash_true w n k le) tt
    (omega (arith, opened, last_within (beginning w.tc.log w.tc.stable), short, k.tc.within)) opened
    (record {
      begun = begun;
      served = crash_served w.tc.phase w.tc.checkpointed w.tc.session w.tc.log w.dc v k.tc.phase begun.most least
          k.sessions.served;
    })

-- whether the components run is nothing that is kept
pub keeps_up : (w : NodeView) (tc_up dc_up : Bool) → IsKept w → IsKept (record w { tc_up = tc_up; dc_up = dc_up })
keeps_up w tc_up dc_up k = record {
  tc = k.tc;
  right = k.right;
  dc = k.dc;
  recoverable = k.recoverable;
  source = k.source;
  from = k.from;
  true_to = k.true_to;
  performed = k.performed;
  answered = k.answered;
  sent = k.sent;
  given = k.given;
  sessions = k.sessions;
  checked = k.checked;
  known = k.known;
  opened = k.opened;
  quiet = k.quiet;
}

-- a restart, also one that is refused, calls the devices
pub used_keeps : (w : NodeView) (log pages : Usage) → IsKept w → IsDc (dc_used w.dc log pages)
    → IsKept (with_dc w (dc_used w.dc log pages))
used_keeps w log pages k is =
    keeps_system w (record w.dc.system { log_usage = log; page_usage = pages }) k None tt is
    (record { legal = k.recoverable.legal; current = k.recoverable.current; fit = k.recoverable.fit })
    (λ l c. record { leaves = c.leaves; ready = c.ready }) (same_leaves k.source.log (leaves w.dc))
    (used_true w.tc k.source w.dc.system log pages k.true_to)
    k.sessions.begun
