-- Reads.
use Rattle.std.proofs.Common.{rules, arith, ◌≡◌, ℕ, false, List, ◌∷◌, Option, Some, refl, sym, ap, ◌∙◌, subst, inl, inr}
use Rattle.std.proofs.lemmas.Bool.{cases_eq}
use Rattle.record_key.specs.declared.op.Op.{Op}
use Rattle.record_key.specs.Order.{HasKeys}
use Rattle.history.specs.Spans.{Span}
use Rattle.history.specs.Log.{is_crossed, IsOpBy}
use Rattle.history.specs.ListMachine.{Query, OfKey, OfRange, asked_range, asked_span, Machine, Txn, Open, Reading, Reads, IsFree, with_txn, with_status}
use Rattle.simulation.specs.View.{View, Doing, Ready, Looks, counts, is_to_undo, HasStatusOf, HasSavesOf, HoldsAs, AreSpans, IsUntold, IsTxnOf, StandsFor}
use Rattle.simulation.specs.Running.{put, does, LeadsOn, after_read, ReadIsAStep, RowIsTold, RowsAreTold}
use Rattle.simulation.proofs.Entries.{Agrees, Both, alike}
use Rattle.simulation.proofs.Carrying.{same_entries, txn_kept, one_changed}
use Rattle.simulation.proofs.Doings.{put_same, put_other, open_as, status_for, carries_view}
use Rattle.simulation.proofs.Calling.{counts_same}
use Rattle.simulation.proofs.Undoing.{both_below}

-- one transaction does something else, and the log and the entries stay
module _ (v : View) (m : Machine) (t : ℕ) (stands : StandsFor v m) (d : Option Doing) (saves : ℕ → List ℕ)
    (spans : ℕ → List Span)
    (was : (n : ℕ) → is_to_undo (v.doing t) n ≡ false) (now : (n : ℕ) → is_to_undo d n ≡ false)
    (same_saves : (u : ℕ) → (u ≡ t → ⊥) → saves u ≡ v.saves u)
    (same_spans : (u : ℕ) → (u ≡ t → ⊥) → spans u ≡ v.spans u) (x : Txn)
  where
    abbrev pub moved : View
    moved = record v { doing = put v.doing t d; saves = saves; spans = spans }

    moved_agrees : (n u : ℕ) (q : Op) → IsOpBy v.log n u q → Agrees v.log v.log (counts v) (counts moved) n u q
    moved_agrees n u q by = Both refl refl (λ a. elim (cases_eq u t) [
      | inr apart ↦ counts_same v n u (is_crossed v.log n) (moved.doing u) (put_other v.doing t d u apart)
      | inl e ↦
          both_below v n u (is_crossed v.log n) (v.doing u) (moved.doing u)
          (ap (λ y. is_to_undo (v.doing y) n) e ∙ was n)
          (ap (λ y. is_to_undo (moved.doing y) n) e ∙ ap (λ y. is_to_undo y n) (put_same v.doing t d) ∙ now n)
    ])

    pub moves : IsTxnOf moved m.h t x → StandsFor moved (with_txn m t x)
    moves here = record {
      entries = stands.entries ∙ alike v.log v.log (counts v) (counts moved) v.log moved_agrees;
      falling = stands.falling;
      recorded = stands.recorded;
      each = one_changed m moved m.h t x here (λ u apart.
          txn_kept v moved u (carries_view v moved.doing saves spans u (put_other v.doing t d u apart)
          (same_saves u apart) (same_spans u apart))
          m.h m.h (same_entries v.log m.h u) (m.txns u) (stands.each u));
    }

-- reads
module _ (v : View) (m : Machine) (t : ℕ) (stands : StandsFor v m) where
  below : (d : Doing) → v.doing t ≡ Some d → ((n : ℕ) → is_to_undo (Some d) n ≡ false) → (n : ℕ)
      → is_to_undo (v.doing t) n ≡ false
  below d e out n = ap (λ y. is_to_undo y n) e ∙ out n

  pub reads_so : (q : Query) → v.doing t ≡ Some Ready → HasKeys (asked_range q) → IsFree m t (asked_span q)
      → LeadsOn v m (Reads t q) (after_read v t q)
  reads_so q idle range is_free =
      let at = open_as v m t stands idle in
      let x = stands.each t in
      let s : Span = asked_span q in
      let w : View = after_read v t q in
      let new : Txn = record (m.txns t) { status = Reading q; spans = s ∷ (m.txns t).spans } in
      let own : HoldsAs v t Open (m.txns t).spans = subst (λ z. HoldsAs v t z (m.txns t).spans) at.is_so x.spans in (
        with_txn m t new,
        (at.is_so, range, is_free, refl),
        moves v m t stands (Some (Looks q)) v.saves (put v.spans t (s ∷ v.spans t)) (below Ready idle (λ n. refl))
            (λ n. refl) (λ u apart. refl)
            (λ u apart. put_other v.spans t (s ∷ v.spans t) u apart) new
            (record {
              begun = x.begun;
              status = record {
                open_txn = at.so.open_txn;
                does = put_same v.doing t (Some (Looks q));
                stays = at.so.stays;
              };
              saves = subst (λ z. HasSavesOf v m.h t z (m.txns t).saves) at.is_so x.saves;
              spans = subst (AreSpans (s ∷ (m.txns t).spans)) (sym (put_same v.spans t (s ∷ v.spans t)))
                  (λ r. (
                    λ a. elim a [ inl e ↦ inl e | inr b ↦ inr ((own r).0 b) ],
                    λ a. elim a [ inl e ↦ inl e | inr b ↦ inr ((own r).1 b) ],
                  ));
              unentered = tt;
              logged = x.logged;
              entered = λ n o by. elim (x.entered n o by)
                  [ inl a ↦ inl a | inr a ↦ absurd (subst IsUntold at.is_so a.1) ];
            }),
      )

  -- a read is told
  told_read : (q : Query) → v.doing t ≡ Some (Looks q) → StandsFor (does v t (Some Ready)) (with_status m t Open)
  told_read q looks =
      let x = stands.each t in
      let is_so : (m.txns t).status ≡ Reading q = status_for v m t (Looks q) stands looks in
      let so : HasStatusOf v t (Reading q) = subst (HasStatusOf v t) is_so x.status in
      moves v m t stands (Some Ready) v.saves v.spans (below (Looks q) looks (λ n. refl)) (λ n. refl) (λ u apart. refl)
      (λ u apart. refl) (record (m.txns t) { status = Open })
      (search (rules, arith))

pub read_is_a_step : ReadIsAStep
read_is_a_step v m t q stands idle range is_free = reads_so v m t stands q idle range is_free

pub row_is_told : RowIsTold
row_is_told v m t k value stands looks is = (
  with_status m t Open,
  (k, status_for v m t (Looks (OfKey k)) stands looks, is, refl),
  told_read v m t stands (OfKey k) looks,
)

pub rows_are_told : RowsAreTold
rows_are_told v m t lo hi rows stands looks is =
    let q : Query = OfRange lo hi in
    (with_status m t Open, (lo, hi, status_for v m t (Looks q) stands looks, is, refl), told_read v m t stands q looks)
