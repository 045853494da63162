-- The source of the cached leaves, and what follows for the transactions' log from what holds of it.
use Rattle.std.proofs.Common.{◌≡◌, ℕ, ◌+◌, ◌≤◌, true, List, [], ◌∷◌, ◌++◌, length, refl, sym, ap, subst, arith, inl, inr, ◌⊎◌, true≢false}
use Rattle.std.specs.List.{AllByRecursion}
use Rattle.std.proofs.lemmas.List.{length-append}
use Rattle.record_key.specs.declared.op.Op.{Op}
use Rattle.history.specs.declared.record.Record.{Record}
use Rattle.history.specs.declared.record.Record.TheVariants as is
use Rattle.history.specs.Legal.{FitsCheckpoint}
use Rattle.history.specs.Log.{Requests}
use Rattle.log_laws.proofs.Records.{ARequest, kept_at}
use Rattle.log_laws.proofs.LegalLogs.{request_number}
use Rattle.framed_log.proofs.Beginning.{shorter}
use Rattle.dc_leaf.specs.Leaf.{LeafView}
use Rattle.dc_leaf.proofs.Honest.{honest_uncaptured}
use Rattle.dc_recovery.specs.Ready.{IsHonestTo}
use Rattle.dc_core.specs.Serves.{runs}
use Rattle.tc_core.specs.declared.phase.Phase.{Phase}
use Rattle.tc_core.specs.declared.phase.Phase.TheVariants as phase
use Rattle.tc_core.specs.TcView.{TcView, is_serving}
use Rattle.tc_core.proofs.Low.{may_longer}
use Rattle.node_laws.specs.Kept.{IsKept, IsAnsweredBy, IsLowAnswered}
use Rattle.node_laws.specs.Node.{NodeView}
use Rattle.node_laws.specs.Source.{Source, IsWaiting, IsSource, own}
use Rattle.node_laws.proofs.Invariant.Announced.{part_grows}
use Rattle.node_laws.proofs.Invariant.Running.{run_is, run_stored}
use Rattle.node_laws.proofs.Invariant.Captured.{uncaptured_above}
use Rattle.node_laws.proofs.Restarts.Beginnings.{StaysTo, request_less}
use Rattle.node_laws.proofs.Restarts.HonestShorter.{honest_less}

-- ---- where the source is the log

pub waiting_or : (p : Phase) → IsWaiting p ⊎ (IsWaiting p → ⊥)
waiting_or phase.Unconnected = inl tt
waiting_or phase.Connecting = inl tt
waiting_or (phase.Redoing next ending) = inr (λ waits. waits)
waiting_or (phase.Undoing waiting) = inr (λ waits. waits)
waiting_or phase.Running = inr (λ waits. waits)

-- who serves clients doesn't wait
pub unwaited : (p : Phase) → is_serving p ≡ true → IsWaiting p → ⊥
unwaited phase.Unconnected serves waits = true≢false (sym serves)
unwaited phase.Connecting serves waits = true≢false (sym serves)
unwaited (phase.Redoing next ending) serves waits = waits
unwaited (phase.Undoing waiting) serves waits = waits
unwaited phase.Running serves waits = waits

pub live : (w : NodeView) (k : IsKept w) → (IsWaiting w.tc.phase → ⊥) → k.source ≡ own w.tc
live w k unwaiting = elim k.from [
  | inl same ↦ same
  | inr asks ↦ absurd (unwaiting asks.untaken.waits)
]

-- where the data component runs the session of the transaction component
pub run_live : (w : NodeView) (s : ℕ) (k : IsKept w) → runs w.dc s ≡ true → s ≡ w.tc.session → k.source ≡ own w.tc
run_live w s k running same = elim k.from [
  | inl live ↦ live
  | inr asks ↦
      let some = (run_is w.dc s running).some in
      let last : s ≡ w.dc.stored = run_stored w.dc s k.dc running in
      absurd (omega (arith, asks.untaken.later (omega (arith, some, same)), same, last))
]

-- so what holds of the source holds of the log
pub of_log : (w : TcView) (x : Source) (P : Source → Type 0) → x ≡ own w → P x → P (own w)
of_log w x P same h = subst P same h

pub of_source : (w : TcView) (x : Source) (P : Source → Type 0) → x ≡ own w → P (own w) → P x
of_source w x P same h = subst P (sym same) h

-- ---- what is said of sure records holds of the log in either case

-- with a record more it stays, as long as so many were there
abbrev GrowsFrom : ℕ → (List Record → Type 0) → Type 0
GrowsFrom end P = (r : Record) (log : List Record) → end ≤ length log → P log → P (r ∷ log)

without : (P : List Record → Type 0) (end : ℕ) → StaysTo end P → (lost common : List Record) → end ≤ length common
    → P (lost ++ common) → P common
without P end less [] common le h = h
without P end less (r ∷ lost) common le h =
    without P end less lost common le (less r (lost ++ common) (omega (arith, le, length-append lost common)) h)

with_more : (P : List Record → Type 0) (end : ℕ) → GrowsFrom end P → (since common : List Record) → end ≤ length common
    → P common → P (since ++ common)
with_more P end more [] common le h = h
with_more P end more (r ∷ since) common le h =
    more r (since ++ common) (omega (arith, le, length-append since common)) (with_more P end more since common le h)

-- the records that the source and the log have in common, and what each has above them: the log nothing but sessions
pub record AreShared (w : TcView) (x : Source) : Type 0 where
  pub common : List Record
  pub lost : List Record
  pub since : List Record
  pub source_is : x.log ≡ lost ++ common
  pub log_is : w.log ≡ since ++ common
  pub sessions : AllByRecursion (λ r. r ≡ is.Session) since
  pub sure : x.sure ≤ length common

pub shared : (w : TcView) (stored : ℕ) (x : Source) → w.stable ≤ length w.log → IsSource w stored x → AreShared w x
shared w stored x within (inl same) = record {
  common = w.log;
  lost = [];
  since = [];
  source_is = ap (λ (y : Source). y.log) same;
  log_is = refl;
  sessions = tt;
  sure = subst (λ (y : Source). y.sure ≤ length w.log) (sym same) within;
}
shared w stored x within (inr asks) = record {
  common = asks.common;
  lost = asks.lost;
  since = asks.since;
  source_is = asks.source_is;
  log_is = asks.log_is;
  sessions = asks.sessions;
  sure = omega (arith, asks.count);
}

-- what is said of records that they have in common
pub at_shared : (P : List Record → Type 0) (end : ℕ) (w : TcView) (x : Source) (s : AreShared w x)
    → end ≤ length s.common
    → StaysTo end P → GrowsFrom end P → P x.log → P w.log
at_shared P end w x s le less more h =
    subst P (sym s.log_is)
    (with_more P end more s.since s.common le (without P end less s.lost s.common le (subst P s.source_is h)))

at_log : (P : List Record → Type 0) (w : TcView) (stored : ℕ) (x : Source) → w.stable ≤ length w.log
    → IsSource w stored x → StaysTo x.sure P → GrowsFrom x.sure P → P x.log → P w.log
at_log P w stored x within from =
    let s = shared w stored x within from in at_shared P x.sure w x s s.sure

pub sure_stable : (w : TcView) (stored : ℕ) (x : Source) → IsSource w stored x → x.sure ≤ w.stable
sure_stable w stored x (inl same) = let e : x.sure ≡ w.stable = ap (λ (y : Source). y.sure) same in omega (arith, e)
sure_stable w stored x (inr asks) = asks.stable

pub sure_within : (w : TcView) (stored : ℕ) (x : Source) → w.stable ≤ length w.log → IsSource w stored x
    → x.sure ≤ length x.log
sure_within w stored x within (inl same) = subst (λ (y : Source). y.sure ≤ length y.log) (sym same) within
sure_within w stored x within (inr asks) =
    omega (arith, asks.count, ap length asks.source_is, length-append asks.lost asks.common)

pub request_longer : (r : Record) (log : List Record) (n : ℕ) (o : Op) → Requests log n o → Requests (r ∷ log) n o
request_longer r log n o h = kept_at (ARequest o) r log n (request_number log n o h) h

-- a request that both have, a leaf that has captured sure numbers only, and what is answered among sure records
pub request_now : (w : TcView) (x : Source) (s : AreShared w x) (n : ℕ) (o : Op) → n ≤ length s.common
    → Requests x.log n o → Requests w.log n o
request_now w x s n o within =
    at_shared (λ log. Requests log n o) n w x s within (request_less n o) (λ r log le. request_longer r log n o)

pub honest_now : (w : TcView) (stored : ℕ) (x : Source) → w.stable ≤ length w.log → IsSource w stored x
    → (leaf : LeafView) → IsHonestTo x.log x.sure leaf → IsHonestTo w.log w.stable leaf
honest_now w stored x within from leaf h =
    let there : IsHonestTo w.log x.sure leaf =
    at_log (λ log. IsHonestTo log x.sure leaf) w stored x within from (honest_less x.sure leaf)
    (λ r log within old. record {
      honest = honest_uncaptured r log leaf
          (uncaptured_above leaf x.sure (length log + 1) old.within (omega (arith, within))) old.honest;
      within = old.within;
    }) h in
    let le = sure_stable w stored x from in
    record { honest = there.honest; within = λ n captured. omega (arith, there.within n captured, le) }

pub answered_now : (w : TcView) (stored : ℕ) (x : Source) → w.stable ≤ length w.log → IsSource w stored x → (l : ℕ)
    → IsAnsweredBy x.log x.sure l → IsAnsweredBy w.log w.stable l
answered_now w stored x within from l h =
    let there : IsAnsweredBy w.log x.sure l =
    at_log (λ log. IsAnsweredBy log x.sure l) w stored x within from
    (λ r log le old. let P : List Record → Type 0 = λ part. FitsCheckpoint part l in
    subst P (shorter r log x.sure le) old)
    (λ r log le. may_longer r log x.sure l le) h in
    part_grows w.log x.sure w.stable l (sure_stable w stored x from) within there

pub low_now : (w : TcView) (stored : ℕ) (x : Source) → w.stable ≤ length w.log → IsSource w stored x
    → (leaf : LeafView) → IsLowAnswered x.log x.sure leaf → IsLowAnswered w.log w.stable leaf
low_now w stored x within from leaf = answered_now w stored x within from leaf.ab.low
