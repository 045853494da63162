-- Whoever reads holds its span, so at each key there the leaf has what the machine's plain map has.
use Rattle.std.proofs.Common.{◌≡◌, ◌≢◌, ℕ, true, false, List, Option, Some, None, IsSome, refl, sym, ap, ◌∙◌, subst, arith, inl, inr, true≢false}
use Rattle.std.proofs.lemmas.Bool.{cases_Bool}
use Rattle.std.specs.FinMap.{get}
use Rattle.tc_locks.specs.Meant.{range_of}
use Rattle.record_key.specs.declared.op.Op.{Op}
use Rattle.record_key.specs.declared.op.Answer.{Answer}
use Rattle.record_key.specs.Table.{Bytes, key_of}
use Rattle.history.specs.declared.record.Record.{Record}
use Rattle.history.specs.History.{plain}
use Rattle.record_key.specs.Order.{has_key}
use Rattle.history.specs.Values.{value_on}
use Rattle.history.specs.Log.{record_at, answer_of, IsOpBy, IsOpen, Requests}
use Rattle.history.specs.ListMachine.{Machine}
use Rattle.log_laws.proofs.Records.{op_request}
use Rattle.log_laws.proofs.Plain.{value_of-captured}
use Rattle.simulation.specs.View.{is_to_undo}
use Rattle.simulation.proofs.Viewing.{plain_is_the_logs}
use Rattle.dc_core.specs.DcView.{captures_at, value_at}
use Rattle.dc_core.specs.Tends.{may_merge}
use Rattle.dc_leaf.proofs.OnKey.{all_done}
use Rattle.tc_core.specs.declared.open_txn.OpenTxn.{OpenTxn}
use Rattle.tc_core.specs.declared.open_txn.Read.{Read}
use Rattle.tc_core.specs.declared.open_txn.Rollback.{Rollback}
use Rattle.tc_core.specs.OpenTxns.{find}
use Rattle.tc_core.specs.Kept.{IsReading}
use Rattle.tc_core.proofs.Finding.{found_number}
use Rattle.tc_core.proofs.KeepsReads.{held_apart}
use Rattle.tc_core.proofs.Losers.{listed_loser, late_at}
use Rattle.tc_core.proofs.KeepsTc.{reading_at}
use Rattle.node_laws.specs.Node.{NodeView}
use Rattle.node_laws.specs.Kept.{IsKept}
use Rattle.node_laws.specs.Simulation.{NodeStandsFor, clients, rolling_as, reading_as, waiting_as, doing_of, doing_in}
use Rattle.node_laws.specs.Source.{own}
use Rattle.node_laws.proofs.Invariant.AtKeys.{honest_at, answered_captured}
use Rattle.node_laws.proofs.Invariant.Unread.{unread}

-- who isn't rolling back has nothing to undo
nothing_to_undo : (x : Option Read) (y : Option ℕ) (n : ℕ) → is_to_undo (Some (reading_as x (waiting_as y))) n ≡ false
nothing_to_undo None None n = refl
nothing_to_undo None (Some m) n = refl
nothing_to_undo (Some r) y n = refl

pub flat_undoes_none : (o : OpenTxn) (n : ℕ) → o.rolling ≡ None → is_to_undo (Some (doing_of o)) n ≡ false
flat_undoes_none o n flat =
    ap (λ r. is_to_undo (Some (rolling_as r (reading_as o.reading (waiting_as o.waiting)))) n) flat
    ∙ nothing_to_undo o.reading o.waiting n

-- a read that is waited for
module _ (w : NodeView) (o : OpenTxn) (r : Read) (k : IsKept w) (at : find o.txn w.tc.open_txns ≡ Some o)
    (reads : o.reading ≡ Some r) where
  abbrev log : List Record
  log = w.tc.log

  is_reading : IsReading w.tc.reads w.tc.locks o r
  is_reading = reading_at w.tc o r k.tc at reads

  -- no operation of another open transaction is on a key of its span
  unshared : (key : Bytes) (n u : ℕ) (q : Op) → has_key (range_of r.span) key ≡ true → IsOpBy log n u q → IsOpen log u
      → u ≢ o.txn → key_of q ≡ key → ⊥
  unshared key n u q within by is_open other on =
      true≢false (sym within ∙ ap (has_key (range_of r.span)) (sym on)
      ∙ held_apart w.tc o r n u q k.tc at reads by is_open other)

  -- all requests on the key are answered
  answered_there : (key : Bytes) → has_key (range_of r.span) key ≡ true → (n : ℕ) (q : Op) → Requests log n q
      → key_of q ≡ key → IsSome (answer_of log n)
  answered_there key within n q asks on = by (answer_of log n) refl
    where
      by : (a : Option Answer) → answer_of log n ≡ a → IsSome a
      by (Some a) is = refl
      by None is = absurd (true≢false
          (sym within ∙ ap (has_key (range_of r.span)) (sym on) ∙ unread w.tc o r n q k.tc at reads asks is))

  -- of no loser is an operation there
  not_lost : (key : Bytes) (n t : ℕ) (q : Op) → has_key (range_of r.span) key ≡ true → IsOpBy log n t q
      → key_of q ≡ key → (clients w.tc).loses t ≡ false
  not_lost key n t q within by on = elim (cases_Bool ((clients w.tc).loses t)) [
    | inl listed ↦
        let loser = listed_loser log w.tc.losers k.tc.lost.losers t listed in
        absurd (unshared key n t q within by loser.open_txn (λ e. omega (arith, e, loser.early, late_at w.tc o k.tc at))
        on)
    | inr stays ↦ stays
  ]

  -- and nobody has to undo an operation there
  not_undone : (key : Bytes) (n t : ℕ) (q : Op) → has_key (range_of r.span) key ≡ true → IsOpBy log n t q
      → key_of q ≡ key → is_to_undo ((clients w.tc).doing t) n ≡ false
  not_undone key n t q within by on = by_txn (find t w.tc.open_txns) refl
    where
      differs : (p : OpenTxn) (b : Rollback) → find t w.tc.open_txns ≡ Some p → p.rolling ≡ Some b → t ≢ o.txn
      differs p b found rolling e =
          let same : Some p ≡ Some o = sym found ∙ ap (λ (u : ℕ). find u w.tc.open_txns) e ∙ at in
          let none : Some b ≡ None =
          sym rolling ∙ ap (λ (x : OpenTxn). x.rolling) (let f : p ≡ o = cc in f) ∙ is_reading.flat in
          cc

      by_rolling : (p : OpenTxn) → find t w.tc.open_txns ≡ Some p → (x : Option Rollback) → p.rolling ≡ x
          → is_to_undo (Some (doing_of p)) n ≡ false
      by_rolling p found None flat = flat_undoes_none p n flat
      by_rolling p found (Some b) rolling =
          let is_open : IsOpen log t =
          subst (λ (u : ℕ). IsOpen log u) (found_number t w.tc.open_txns p found)
          (k.tc.open_txns.each t p found).is in
          absurd (unshared key n t q within by is_open (differs p b found rolling) on)

      by_txn : (x : Option OpenTxn) → find t w.tc.open_txns ≡ x
          → is_to_undo (doing_in (find t w.tc.open_txns)) n ≡ false
      by_txn None none = ap (λ y. is_to_undo (doing_in y) n) none
      by_txn (Some p) some = ap (λ y. is_to_undo (doing_in y) n) some ∙ by_rolling p some p.rolling refl

  -- what the leaf has there is what the log gives
  pub read_logged : k.source ≡ own w.tc → may_merge w.dc ≡ true → (key : Bytes) → has_key (range_of r.span) key ≡ true
      → value_at w.dc key ≡ value_on key log
  read_logged live past key within =
      (honest_at w key k live).right
      ∙ value_of-captured log key (captures_at w.dc key)
      (all_done (λ n. captures_at w.dc key n ≡ true) key log (λ n q asks on.
      subst (λ (z : Bytes). captures_at w.dc z n ≡ true) on
      (answered_captured w k live past n q asks (answered_there key within n q asks on))))

  -- and that is what the plain map has
  pub logged_plain : (m : Machine) → NodeStandsFor w m → (key : Bytes) → has_key (range_of r.span) key ≡ true
      → value_on key log ≡ get (plain m.h) key
  logged_plain m stands key within =
      sym (plain_is_the_logs (clients w.tc) m key k.tc.legal k.right stands (λ n t q by on uncrossed. (
        answered_there key within n q (op_request t q (record_at log n) by) (sym on),
        not_lost key n t q within by (sym on),
        not_undone key n t q within by (sym on),
      )))
