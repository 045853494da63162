-- A transaction that a change leaves alone.
use Rattle.std.proofs.Common.{◌≡◌, ℕ, ◌+◌, ◌<◌, ◌≤◌, Bool, true, List, [], ◌∷◌, length, Some, None, sym, ◌∙◌, subst, arith, inl, inr, eq-eqb, ne_eqb}
use Rattle.std.specs.Prelude.{◌↔◌, if◌then◌else◌}
use Rattle.std.proofs.lemmas.Bool.{cases_eq}
use Rattle.record_key.specs.declared.op.Op.{Op}
use Rattle.history.specs.declared.record.Record.{Record}
use Rattle.history.specs.declared.record.Record.TheVariants as is
use Rattle.history.specs.History.{Entry}
use Rattle.history.specs.Spans.{Span}
use Rattle.history.specs.Log.{record_at, answer_of, has_ended, op_of, IsOpen, IsOpBy}
use Rattle.history.specs.ListMachine.{Machine, Txn, Status, with_txn}
use Rattle.log_laws.proofs.Records.{AnOp, within, older_at, newest_at, kept_at, had_at, which}
use Rattle.log_laws.proofs.LegalLogs.{kept_begun, op_number}
use Rattle.simulation.specs.View.{View, Doing, Awaits, IsActive, IsQuiet, IsCommitAt, HasStatusOf, HasSaves, HasSavesOf, Remembers, HoldsAs, HasEntry, IsFreeOf, IsUnentered, IsTxnOf}

-- what a change of the component must leave of a transaction
pub record Carries (v w : View) (u : ℕ) : Type 0 where
  pub loses : w.loses u ≡ v.loses u
  pub doing : w.doing u ≡ v.doing u
  pub saves : w.saves u ≡ v.saves u
  pub spans : w.spans u ≡ v.spans u
  pub longer : length v.log ≤ length w.log
  pub goes_on : IsOpen v.log u → IsOpen w.log u
  pub op_kept : (n : ℕ) (o : Op) → IsOpBy v.log n u o → IsOpBy w.log n u o
  pub op_had : (n : ℕ) (o : Op) → IsOpBy w.log n u o → IsOpBy v.log n u o
  pub waits : (n : ℕ) (o : Op) → IsOpBy v.log n u o → v.doing u ≡ Some (Awaits n) → answer_of v.log n ≡ None
      → answer_of w.log n ≡ None
  pub commit : (n : ℕ) → IsCommitAt v.log u n → IsCommitAt w.log u n
  pub stable : v.stable ≤ w.stable
  pub unstable : (n : ℕ) → IsCommitAt v.log u n → v.stable < n → w.stable < n
  pub end : (n : ℕ) → record_at v.log n ≡ Some (is.End u) → record_at w.log n ≡ Some (is.End u)
  pub begun : (record_at v.log u ≡ Some is.Begin) ↔ (record_at w.log u ≡ Some is.Begin)

-- and of its entries
pub record CarriesEntries (log : List Record) (h g : List Entry) (u : ℕ) : Type 0 where
  pub entry : (n : ℕ) (o : Op) → HasEntry h n u o → HasEntry g n u o
  pub remembers : (kept : List ℕ) (end : ℕ) → Remembers h u kept end → Remembers g u kept end
  pub unentered : (n : ℕ) (o : Op) → IsOpBy log n u o → IsFreeOf n h → IsFreeOf n g

pub same_entries : (log : List Record) (h : List Entry) (u : ℕ) → CarriesEntries log h h u
same_entries log h u = record { entry = λ n o e. e; remembers = λ kept end r. r; unentered = λ n o by all. all }

module _ (v w : View) (u : ℕ) (c : Carries v w u) where
  active : (d : Doing) → IsActive v u d → IsActive w u d
  active d a = record { open_txn = c.goes_on a.open_txn; does = c.doing ∙ a.does; stays = c.loses ∙ a.stays }

  quiet : (b : Bool) → IsQuiet v u b → IsQuiet w u b
  quiet b q = record { does_none = c.doing ∙ q.does_none; loses_so = c.loses ∙ q.loses_so }

  status_kept : (s : Status) → HasStatusOf v u s → HasStatusOf w u s
  status_kept s so = grind arith

  spans_kept : (s : Status) (xs : List Span) → HoldsAs v u s xs → HoldsAs w u s xs
  spans_kept s xs h = grind arith

  module _ (h g : List Entry) (e : CarriesEntries v.log h g u) where
    each_save : (low high : ℕ) (saves : List (List ℕ)) (ends : List ℕ) → low ≤ high → HasSaves h u low saves ends
        → HasSaves g u high saves ends
    each_save low high [] [] le has = tt
    each_save low high (kept ∷ saves) (end ∷ ends) le has = grind (arith, each_save low high saves ends le has.2)
    each_save low high [] (end ∷ ends) le has = absurd has
    each_save low high (kept ∷ saves) [] le has = absurd has

    open_saves : (low high : ℕ) (saves : List (List ℕ)) → low ≤ high → HasSaves h u low saves (v.saves u)
        → HasSaves g u high saves (w.saves u)
    open_saves low high saves le has = grind (arith, each_save)

    saves_kept : (s : Status) (saves : List (List ℕ)) → HasSavesOf v h u s saves → HasSavesOf w g u s saves
    saves_kept s saves has = grind (arith, open_saves)

    unentered_kept : (s : Status) → HasStatusOf v u s → IsUnentered h s → IsUnentered g s
    unentered_kept s so all = grind arith

    pub txn_kept : (x : Txn) → IsTxnOf v h u x → IsTxnOf w g u x
    txn_kept x so = record {
      begun = (λ e. c.begun.0 (so.begun.0 e), λ at. so.begun.1 (c.begun.1 at));
      status = status_kept x.status so.status;
      saves = saves_kept x.status x.saves so.saves;
      spans = spans_kept x.status x.spans so.spans;
      unentered = unentered_kept x.status so.status so.unentered;
      logged = λ n o last. c.op_kept n o (so.logged n o last);
      entered = λ n o by. elim (so.entered n o (c.op_had n o by)) [ inl a ↦ inl (e.entry n o a) | inr a ↦ inr a ];
    }

-- one transaction is changed
pub one_changed : (m : Machine) (w : View) (h : List Entry) (t : ℕ) (x : Txn) → IsTxnOf w h t x
    → ((u : ℕ) → (u ≡ t → ⊥) → IsTxnOf w h u (m.txns u))
    → (u : ℕ) → IsTxnOf w h u ((with_txn m t x).txns u)
one_changed m w h t x here elsewhere u =
    elim (cases_eq u t) [
      | inl e ↦
          subst (λ (b : Bool). IsTxnOf w h u (if b then x else m.txns u)) (sym (eq-eqb u t e))
          (subst (λ (k : ℕ). IsTxnOf w h k x) (sym e) here)
      | inr apart ↦ subst (λ (b : Bool). IsTxnOf w h u (if b then x else m.txns u)) (sym (ne_eqb u t apart))
          (elsewhere u apart)
    ]

-- a record that isn't its operation leaves it those that it had
pub op_before : (r : Record) (log : List Record) (u n : ℕ) (o : Op) → ((q : Op) → op_of r ≡ Some (u, q) → ⊥)
    → IsOpBy (r ∷ log) n u o → IsOpBy log n u o
op_before r log u n o none by =
    elim (which r log n (op_number (r ∷ log) n u o by)) [
      | inl e ↦ absurd (none o (newest_at (AnOp u o) r log n e by))
      | inr was ↦ had_at (AnOp u o) r log n was by
    ]

-- any record leaves it those
pub op_after : (r : Record) (log : List Record) (u n : ℕ) (o : Op) → IsOpBy log n u o → IsOpBy (r ∷ log) n u o
op_after r log u n o by = kept_at (AnOp u o) r log n (op_number log n u o by) by

-- a record that isn't its Begin leaves it begun or not
pub begin_kept : (r : Record) (log : List Record) (u : ℕ) → (u ≡ length log + 1 → r ≡ is.Begin → ⊥)
    → (record_at log u ≡ Some is.Begin) ↔ (record_at (r ∷ log) u ≡ Some is.Begin)
begin_kept r log u none = grind (arith, kept_begun, cases_eq, newest_at, older_at)

pub begun_so : (r : Record) (log : List Record) (u : ℕ) (b : Bool) → (r ≡ is.Begin → ⊥)
    → (b ≡ true) ↔ (record_at log u ≡ Some is.Begin)
    → (b ≡ true) ↔ (record_at (r ∷ log) u ≡ Some is.Begin)
begun_so r log u b other was =
    let kept = begin_kept r log u (λ at. other) in
    (λ e. kept.0 (was.0 e), λ at. was.1 (kept.1 at))

-- a record more, that is no operation or end of the transaction, and doesn't answer what it waits for
pub record Passes (v w : View) (r : Record) (u : ℕ) : Type 0 where
  pub log : w.log ≡ r ∷ v.log
  pub stable : w.stable ≡ v.stable
  pub loses : w.loses u ≡ v.loses u
  pub doing : w.doing u ≡ v.doing u
  pub saves : w.saves u ≡ v.saves u
  pub spans : w.spans u ≡ v.spans u
  pub no_op : (o : Op) → op_of r ≡ Some (u, o) → ⊥
  pub no_end : has_ended (r ∷ v.log) u ≡ has_ended v.log u
  pub no_begin : u ≡ length v.log + 1 → r ≡ is.Begin → ⊥
  pub waits : (n : ℕ) (o : Op) → IsOpBy v.log n u o → v.doing u ≡ Some (Awaits n) → answer_of v.log n ≡ None
      → answer_of (r ∷ v.log) n ≡ None

pub passes : (v w : View) (r : Record) (u : ℕ) → Passes v w r u → Carries v w u
passes v w r u p = record {
  loses = p.loses;
  doing = p.doing;
  saves = p.saves;
  spans = p.spans;
  longer = subst (λ l. length v.log ≤ length l) (sym p.log) (omega arith);
  goes_on = λ h. subst (λ l. IsOpen l u) (sym p.log)
      (record { begun = kept_begun r v.log u h.begun; goes_on = p.no_end ∙ h.goes_on });
  op_kept = λ n o by. subst (λ l. IsOpBy l n u o) (sym p.log) (op_after r v.log u n o by);
  op_had = λ n o by. op_before r v.log u n o p.no_op (subst (λ l. IsOpBy l n u o) p.log by);
  waits = λ n o by d none. subst (λ l. answer_of l n ≡ None) (sym p.log) (p.waits n o by d none);
  commit = λ n at. kept n (is.Commit u) at;
  stable = omega (arith, p.stable);
  unstable = λ n at lt. omega (arith, p.stable, lt);
  end = λ n at. kept n (is.End u) at;
  begun = subst (λ l. (record_at v.log u ≡ Some is.Begin) ↔ (record_at l u ≡ Some is.Begin)) (sym p.log)
      (begin_kept r v.log u p.no_begin);
}
  where
    kept : (n : ℕ) (q : Record) → record_at v.log n ≡ Some q → record_at w.log n ≡ Some q
    kept n q at = subst (λ l. record_at l n ≡ Some q) (sym p.log)
        (kept_at (λ x. x ≡ Some q) r v.log n (within (λ x. x ≡ Some q) (λ e. cc) v.log n at) at)
