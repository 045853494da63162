-- What undoing an entry leaves at a key, and the rows that undoing entries leaves, one after another.
use Rattle.std.proofs.Common.{◌≡◌, ◌≢◌, ℕ, ◌+◌, ◌-◌, ◌<◌, ◌≤◌, length, List, [], ◌∷◌, drop, get_or, Result, Option, Some, None, refl, sym, ap, ◌∙◌, subst, arith, lt-ltb}
use Rattle.std.proofs.lemmas.List.{drop_more}
use Rattle.std.specs.Prelude.{IsTrue}
use Rattle.std.specs.FinMap.{get}
use Rattle.record_key.specs.declared.op.Op.{Op}
use Rattle.record_key.specs.declared.op.Op.TheVariants.{Delete}
use Rattle.record_key.specs.declared.entry.Entry.{Entry}
use Rattle.record_key.specs.Order.{is_between}
use Rattle.record_key.specs.Rows.{Row, AreInOrder, IsPlaceOf, table_of}
use Rattle.record_key.specs.Table.{Bytes, Table, key_of, answer_at, value_after, after}
use Rattle.record_key.proofs.Tables.{get-with_record_same, get-with_record_other}
use Rattle.inverse.specs.Inverse.{undo_of, inverse_of}
use Rattle.inverse.proofs.Undo.{Outcome, outcome, inverse_key}
use Rattle.dc_leaf.specs.Places.{rows_after}
use Rattle.dc_leaf.specs.TakingBack.{undone_with, undone_by, rows_back, AreRowsOf}
use Rattle.dc_leaf.proofs.Writes.{writes, all_written}

undo_key : (e : Entry) (o : Op) → undo_of e.key e.answer ≡ Some o → key_of o ≡ e.key
undo_key e o is = inverse_key (Delete e.key) o e.answer is

-- what undoing leaves of the value at its key, and of others
abbrev pub undone_value : Option Op → Option Bytes → Option Bytes
undone_value None v = v
undone_value (Some i) v = value_after i v

here_with : (m : Table) (k : Bytes) (i : Option Op) → ((j : Op) → i ≡ Some j → key_of j ≡ k)
    → get (undone_with m i) k ≡ undone_value i (get m k)
here_with m k None on = refl
here_with m k (Some j) on =
    let key : key_of j ≡ k = on j refl in
    ap (get (after m j)) (sym key) ∙ get-with_record_same m (key_of j) (value_after j (get m (key_of j)))
    ∙ ap (λ q. value_after j (get m q)) key

elsewhere_with : (m : Table) (k q : Bytes) (i : Option Op) → ((j : Op) → i ≡ Some j → key_of j ≡ k) → q ≢ k
    → get (undone_with m i) q ≡ get m q
elsewhere_with m k q None on apart = refl
elsewhere_with m k q (Some j) on apart =
    get-with_record_other m (key_of j) q (value_after j (get m (key_of j))) (λ e. apart (e ∙ on j refl))

pub undone_here : (m : Table) (e : Entry)
    → get (undone_by m e) e.key ≡ undone_value (undo_of e.key e.answer) (get m e.key)
undone_here m e = here_with m e.key (undo_of e.key e.answer) (undo_key e)

pub undone_elsewhere : (m : Table) (e : Entry) (q : Bytes) → q ≢ e.key → get (undone_by m e) q ≡ get m q
undone_elsewhere m e q apart = elsewhere_with m e.key q (undo_of e.key e.answer) (undo_key e) apart

-- it puts back the value that its operation found
back_with : (o : Op) (r : Option Bytes) (i : Option Op) → Outcome o r i → undone_value i (value_after o r) ≡ r
back_with o r None idle = idle
back_with o r (Some i) back = back.value

pub value_back : (o : Op) (r : Option Bytes) → undone_value (undo_of (key_of o) (answer_at o r)) (value_after o r) ≡ r
value_back o r = back_with o r (inverse_of o (answer_at o r)) (outcome o r)

-- one entry above the end
pub undone_rows : (end : ℕ) (rows new : List Row) (e : Entry) (o : Op) (place : Result ℕ ℕ) → AreInOrder rows
    → end < e.number → undo_of e.key e.answer ≡ Some o → IsPlaceOf (key_of o) rows place → new ≡ rows_after o place rows
    → AreRowsOf (rows_back end (e ∷ []) (table_of rows)) (e ∷ []) rows new
undone_rows end rows new e o place ordered over is at done =
    let written = writes rows o place ordered at in
    rw done (record {
      table = rw (lt-ltb end e.number over) (written.table ∙ ap (undone_with (table_of rows)) (sym is));
      ordered = written.ordered;
      between = λ low high inside keys.
          all_written (λ (k : Bytes). IsTrue (is_between low high k)) rows o place inside
          (subst (λ (k : Bytes). IsTrue (is_between low high k)) (sym (undo_key e o is)) keys.0);
    })

-- and those before it, one after another
before_rest : (es : List Entry) (at : ℕ) (e : Entry) → 0 < at → at ≤ length es → e ≡ get_or es (at - 1) e
    → drop (at - 1) es ≡ e ∷ drop at es
before_rest es at e some within is =
    drop_more es (at - 1) e (omega (arith, some, within))
    ∙ (λ i. sym is i ∷ drop ((let one : at - 1 + 1 ≡ at = omega (arith, some) in one) i) es)

pub back_one : (end : ℕ) (es : List Entry) (at : ℕ) (e : Entry) (old now new : List Row) → 0 < at → at ≤ length es
    → e ≡ get_or es (at - 1) e
    → AreRowsOf (rows_back end (drop at es) (table_of old)) (drop at es) old now
    → AreRowsOf (rows_back end (e ∷ []) (table_of now)) (e ∷ []) now new
    → AreRowsOf (rows_back end (drop (at - 1) es) (table_of old)) (drop (at - 1) es) old new
back_one end es at e old now new some within is so_far more =
    rw (before_rest es at e some within is) (record {
      table = more.table ∙ ap (rows_back end (e ∷ [])) so_far.table;
      ordered = more.ordered;
      between = λ low high inside keys. more.between low high (so_far.between low high inside keys.1) (keys.0, tt);
    })
