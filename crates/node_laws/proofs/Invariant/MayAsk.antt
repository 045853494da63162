-- What was sent is on the key that its number has at the data component.
use Rattle.std.proofs.Common.{◌≡◌, ◌⊎◌, ℕ, ◌+◌, ◌<◌, Bool, true, false, length, sym, ap, ◌∙◌, subst, refl, arith, inl, inr, true≢false}
use Rattle.std.proofs.lemmas.Bool.{cases_eq, cases_lt}
use Rattle.std.specs.List.{AllByRecursion}
use Rattle.record_key.specs.declared.op.Op.{Op}
use Rattle.record_key.specs.declared.entry.Entry.{Entry}
use Rattle.record_key.specs.Table.{Bytes, key_of, AreAdds}
use Rattle.record_key.proofs.Lists.{all_from}
use Rattle.history.specs.Log.{Requests}
use Rattle.codec.specs.declared.request.Request.{Request}
use Rattle.codec.specs.declared.request.Request.TheVariants as asks
use Rattle.dc_leaf.specs.Leaf.{LeafView}
use Rattle.dc_leaf.specs.Honest.{IsSavedRight, IsHonestLeaf}
use Rattle.dc_leaf.proofs.Captured.{falls, stands_on, earlier_captured}
use Rattle.history.specs.Honest.{numbered_on}
use Rattle.dc_leaf.proofs.Performing.{one_request}
use Rattle.dc_tree.proofs.AtKey.{within_at}
use Rattle.dc_core.specs.declared.performance.Performance.{Performance}
use Rattle.dc_core.specs.DcView.{leaves, captures_at}
use Rattle.dc_core.specs.Serves.{MayAsk, MayTakeBack, ComesNext}
use Rattle.dc_core.proofs.KeepsDc.{all_both}
use Rattle.node_laws.specs.Node.{NodeView}
use Rattle.node_laws.specs.Kept.{IsKept, IsSent}
use Rattle.node_laws.proofs.Invariant.AtKeys.{own_leaf}
use Rattle.node_laws.proofs.Invariant.Running.{let_runs, connect_later}
use Rattle.node_laws.proofs.Invariant.TakenBack.{may_take_back}

module _ (w : NodeView) (k : IsKept w) (n : ℕ) (o : Op) (requests : Requests k.source.log n o) where
  one : (m : ℕ) (p : Op) → Requests k.source.log m p → m ≡ n → p ≡ o
  one m p asks same = one_request k.source.log n o p requests (subst (λ (z : ℕ). Requests k.source.log z p) same asks)

  listed : AllByRecursion (λ (p : Performance). p.number ≡ n → key_of p.op ≡ key_of o) w.dc.performed
  listed = all_from (λ (p : Performance). Requests k.source.log p.number p.op)
      (λ (p : Performance). p.number ≡ n → key_of p.op ≡ key_of o)
      (λ p asks same. ap key_of (one p.number p.op asks same)) w.dc.performed k.performed

  saved : AllByRecursion (λ (leaf : LeafView). AllByRecursion (λ (e : Entry). e.number ≡ n → e.key ≡ key_of o)
      leaf.ab.entries) (leaves w.dc)
  saved = all_from (IsHonestLeaf k.source.log)
      (λ (leaf : LeafView). AllByRecursion (λ (e : Entry). e.number ≡ n → e.key ≡ key_of o) leaf.ab.entries)
      (λ leaf h. all_from (IsSavedRight k.source.log) (λ (e : Entry). e.number ≡ n → e.key ≡ key_of o)
      (λ e right same. sym right.on_key ∙ ap key_of (one e.number right.op right.requests same)) leaf.ab.entries
      h.saved) (leaves w.dc) k.true_to.leaves

-- what was performed on its key before it has a lower number, or both are Adds: what is captured leaves out Adds alone
module _ (w : NodeView) (k : IsKept w) (n : ℕ) (o : Op) (requests : Requests k.source.log n o)
    (new : captures_at w.dc (key_of o) n ≡ false) where
  before : (m : ℕ) (q : Op) → Requests k.source.log m q → captures_at w.dc (key_of q) m ≡ true → key_of q ≡ key_of o
      → (m < n) ⊎ AreAdds o q
  before m q asks there on =
      let key : Bytes = key_of o in
      let cap : ℕ → Bool = captures_at w.dc key in
      let got : cap m ≡ true = subst (λ (z : Bytes). captures_at w.dc z m ≡ true) on there in
      elim (cases_lt m n) [
        | inl less ↦ inl less
        | inr ge ↦ elim (cases_eq m n) [
          | inl same ↦ absurd (true≢false (sym got ∙ ap cap same ∙ new))
          | inr apart ↦
              elim (earlier_captured cap (length k.source.log + 1) m n q o (numbered_on key k.source.log)
              (falls key k.source.log)
              ((own_leaf w key k).at key (within_at (leaves w.dc) key k.dc.system.leaves)).left_out
              (stands_on key k.source.log m q asks on) (stands_on key k.source.log n o requests refl)
              (omega (arith, ge, apart)) got) [
                | inl captured ↦ absurd (true≢false (sym captured ∙ new))
                | inr both ↦ inr (both.1, both.0)
              ]
        ]
      ]

  comes_next : ComesNext w.dc n o
  comes_next =
      all_both (λ (p : Performance). Requests k.source.log p.number p.op)
      (λ (p : Performance). captures_at w.dc (key_of p.op) p.number ≡ true)
      (λ (p : Performance). key_of p.op ≡ key_of o → (p.number < n) ⊎ AreAdds o p.op)
      (λ p asks there on. before p.number p.op asks there on) w.dc.performed k.performed k.dc.captured

pub may_ask : (w : NodeView) (q : Request) (k : IsKept w) → IsSent w.tc w.dc k.source q → MayAsk w.dc q
may_ask w (asks.Connect s end) k sent =
    λ allowed isnt.
    subst (MayTakeBack w.dc) (sym (sent.next (connect_later w.dc s allowed isnt)).1) (may_take_back w k)
may_ask w (asks.Perform s n stable o) k sent =
    λ allowed out.
    let next = sent.1.holds (let_runs w.dc s allowed) in (
      record { listed = listed w k n o next.requests; saved = saved w k n o next.requests },
      comes_next w k n o next.requests out,
    )
may_ask w (asks.Get s n key) k sent = tt
may_ask w (asks.Scan s n low high) k sent = tt
may_ask w (asks.LowWater s l) k sent = tt
may_ask w (asks.Checkpoint s l) k sent = tt
may_ask w (asks.RedoEnd s) k sent = tt
may_ask w (asks.StableEnd s stable) k sent = tt
