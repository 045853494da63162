-- What a Connect that is taken takes back at the data component, and what is left.
use Rattle.std.proofs.Common.{◌≡◌, ℕ, ◌<◌, ◌≤◌, Bool, true, false, List, [], ◌∷◌, ◌++◌, length, refl, sym, ap, ◌∙◌, subst, arith, inl, inr}
use Rattle.std.specs.Prelude.{not, nat_lt, if◌then◌else◌}
use Rattle.std.specs.List.{AllByRecursion}
use Rattle.std.proofs.lemmas.Bool.{cases_lt}
use Rattle.std.proofs.lemmas.Bool.Decides.{nat_tests}
use Rattle.std.proofs.lemmas.List.{append_assoc}
use Rattle.record_key.specs.declared.op.Op.{Op}
use Rattle.record_key.specs.Entries.{RiseAbove}
use Rattle.record_key.specs.Table.{key_of}
use Rattle.record_key.proofs.Lists.{all_from}
use Rattle.history.specs.declared.record.Record.{Record}
use Rattle.history.specs.Log.{record_at, Requests}
use Rattle.dc_leaf.specs.Leaf.{LeafView, IsLeaf}
use Rattle.dc_leaf.specs.Honest.{IsHonestLeaf, AreSessions}
use Rattle.dc_leaf.specs.TakingBack.{taken_back}
use Rattle.dc_leaf.proofs.Honest.{honest_longer}
use Rattle.dc_leaf.proofs.TakingBack.{honest_back}
use Rattle.dc_tree.specs.Leaves.{leaf_at}
use Rattle.dc_core.specs.declared.performance.Performance.{Performance}
use Rattle.dc_core.specs.DcView.{leaves}
use Rattle.dc_core.specs.Serves.{MayTakeBack, kept_to}
use Rattle.dc_core.proofs.KeepsDc.{all_both}
use Rattle.tc_log.specs.LogView.{last_not_session}
use Rattle.tc_core.specs.TcView.{TcView}
use Rattle.node_laws.specs.Kept.{IsKept, IsLowAnswered}
use Rattle.node_laws.specs.Node.{NodeView}
use Rattle.node_laws.specs.Source.{Source}
use Rattle.node_laws.proofs.Invariant.Announced.{most_sure}
use Rattle.node_laws.proofs.Invariant.AtKeys.{own_low}
use Rattle.node_laws.proofs.Invariant.LastRecord.{AreAllSessions, session_asks, ArePartsOf, parts, last_within, last_above, last_part, request_last, session_at, record_below}
use Rattle.node_laws.proofs.Invariant.Sources.{AreShared, shared, request_now, sure_within}

-- more sessions leave a leaf honest
longer_by : (above older : List Record) (leaf : LeafView) → AreAllSessions above → IsHonestLeaf older leaf
    → IsHonestLeaf (above ++ older) leaf
longer_by [] older leaf all h = h
longer_by (r ∷ above) older leaf all h =
    honest_longer r (above ++ older) leaf (λ o asks. absurd (session_asks r o all.0 asks))
    (longer_by above older leaf all.1 h)

-- a leaf that is honest for the source, and no less low than what that has in common with the log, is honest for the log
-- once what stands above the log's last record that isn't a Session is taken back
module _ (w : TcView) (x : Source) (s : AreShared w x) (leaf : LeafView)
    (rising : RiseAbove leaf.ab.low leaf.ab.entries)
    (honest : IsHonestLeaf x.log leaf) (low : leaf.ab.low ≤ length s.common) where
  p : ArePartsOf s.common
  p = parts s.common

  abbrev end : ℕ
  end = length p.older

  end_is : end ≡ last_not_session w.log
  end_is = p.end ∙ sym (last_above s.since s.common s.sessions) ∙ ap last_not_session (sym s.log_is)

  log_is : x.log ≡ (s.lost ++ p.above) ++ p.older
  log_is = s.source_is ∙ ap (λ (l : List Record). s.lost ++ l) p.is ∙ sym (append_assoc s.lost p.above p.older)

  sessions : AreSessions ((s.lost ++ p.above) ++ p.older) end leaf.ab.low
  sessions n over under =
      let within : n ≤ length s.common = omega (arith, under, low) in
      ap (λ (l : List Record). record_at l n) (append_assoc s.lost p.above p.older)
      ∙ ap (λ (l : List Record). record_at (s.lost ++ l) n) (sym p.is)
      ∙ record_below s.lost s.common n within
      ∙ ap (λ (l : List Record). record_at l n) p.is
      ∙ session_at p.above p.older p.sessions n over
      (subst (λ (l : List Record). n ≤ length l) p.is within)

  back : IsHonestLeaf p.older (taken_back leaf end)
  back = honest_back (s.lost ++ p.above) p.older leaf rising (subst (λ
      (l : List Record). IsHonestLeaf l leaf) log_is honest)
      sessions

  shared_back : IsHonestLeaf s.common (taken_back leaf end)
  shared_back = subst (λ (l : List Record). IsHonestLeaf l (taken_back leaf end)) (sym p.is)
      (longer_by p.above p.older (taken_back leaf end) p.sessions back)

  pub honest_taken : IsHonestLeaf w.log (taken_back leaf (last_not_session w.log))
  honest_taken =
      subst (λ (l : List Record). IsHonestLeaf l (taken_back leaf (last_not_session w.log))) (sym s.log_is)
      (longer_by s.since s.common (taken_back leaf (last_not_session w.log)) s.sessions
      (subst (λ n. IsHonestLeaf s.common (taken_back leaf n)) end_is shared_back))

-- ---- a node's leaves

common : (w : NodeView) (k : IsKept w) → AreShared w.tc k.source
common w k = shared w.tc w.dc.stored k.source k.tc.within k.from

low_common : (w : NodeView) (k : IsKept w) (leaf : LeafView) → IsLowAnswered k.source.log k.source.sure leaf
    → leaf.ab.low ≤ length (common w k).common
low_common w k leaf low =
    let within = sure_within w.tc w.dc.stored k.source k.tc.within k.from in
    omega (arith, most_sure k.source.log k.source.sure leaf.ab.low within low, (common w k).sure)

-- in order, and no less low than is sure
abbrev IsPlainLeaf : Source → LeafView → Type 0
IsPlainLeaf x leaf = IsLeaf leaf × IsLowAnswered x.log x.sure leaf

abbrev pub IsBack : List Record → ℕ → LeafView → Type 0
IsBack log end leaf = IsHonestLeaf log (taken_back leaf end)

pub all_back : (w : NodeView) (k : IsKept w)
    → AllByRecursion (IsBack w.tc.log (last_not_session w.tc.log)) (leaves w.dc)
all_back w k =
    let x : Source = k.source in
    all_both (IsPlainLeaf x) (IsHonestLeaf x.log) (IsBack w.tc.log (last_not_session w.tc.log))
    (λ leaf plain honest. honest_taken w.tc x (common w k) leaf plain.0.rising honest (low_common w k leaf plain.1))
    (leaves w.dc)
    (all_both IsLeaf (IsLowAnswered x.log x.sure) (IsPlainLeaf x) (λ leaf is low. (is, low)) (leaves w.dc)
    k.dc.system.leaves.each k.true_to.low) k.true_to.leaves

-- ---- what was performed

-- above the log's last record that isn't a Session nothing was that source and log have in common
later_lost : (w : NodeView) (k : IsKept w) (n : ℕ) (o : Op) → Requests k.source.log n o
    → last_not_session w.tc.log < n → length (common w k).common < n
later_lost w k n o asks over =
    elim (cases_lt (length (common w k).common) n) [
      | inl lost ↦ lost
      | inr within ↦
          let here : Requests w.tc.log n o = request_now w.tc k.source (common w k) n o (omega (arith, within)) asks in
          absurd (omega (arith, request_last w.tc.log n o here, over))
    ]

-- so what the next Connect takes back can be taken back
pub may_take_back : (w : NodeView) (k : IsKept w) → MayTakeBack w.dc (last_not_session w.tc.log)
may_take_back w k = record {
  opened = omega (arith, k.opened, last_part w.tc.log w.tc.stable);
  shown = all_from (λ (p : Performance). Requests k.source.log p.number p.op)
      (λ (p : Performance). last_not_session w.tc.log < p.number
      → (leaf_at (leaves w.dc) (key_of p.op)).ab.low < p.number)
      (λ p asks over. omega (
        arith,
        later_lost w k p.number p.op asks over,
        low_common w k (leaf_at (leaves w.dc) (key_of p.op)) (own_low w (key_of p.op) k),
      )) w.dc.performed k.performed;
}

-- and what is left of the performances is the log's
pub kept_performed : (w : NodeView) (k : IsKept w) (ps : List Performance)
    → AllByRecursion (λ (p : Performance). Requests k.source.log p.number p.op) ps
    → AllByRecursion (λ (p : Performance). Requests w.tc.log p.number p.op) (kept_to (last_not_session w.tc.log) ps)
kept_performed w k [] all = tt
kept_performed w k (p ∷ ps) all =
    pick (nat_lt (last_not_session w.tc.log) p.number) refl (kept_performed w k ps all.1)
  where
    s : AreShared w.tc k.source
    s = common w k

    pick : (b : Bool) → nat_lt (last_not_session w.tc.log) p.number ≡ b
        → AllByRecursion (λ (q : Performance). Requests w.tc.log q.number q.op)
        (kept_to (last_not_session w.tc.log) ps)
        → AllByRecursion (λ (q : Performance). Requests w.tc.log q.number q.op)
        (if not b then p ∷ kept_to (last_not_session w.tc.log) ps else kept_to (last_not_session w.tc.log) ps)
    pick true over rest = rest
    pick false under rest =
        let le : p.number ≤ last_not_session w.tc.log = grind (arith, nat_tests, under) in
        let end : last_not_session w.tc.log ≡ last_not_session s.common =
        ap last_not_session s.log_is ∙ last_above s.since s.common s.sessions in
        (request_now w.tc k.source s p.number p.op (omega (arith, le, end, last_within s.common)) all.0, rest)
