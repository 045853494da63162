-- What transactions hold by the log, and what a record more makes of it.
use Rattle.std.proofs.Common.{◌≡◌, ◌≢◌, ℕ, ◌+◌, Bool, true, false, List, [], ◌∷◌, ◌++◌, length, Some, None, IsSome, is_some, refl, sym, ap, ◌∙◌, subst, inl, inr, eq-eqb, ne_eqb, cond, filter}
use Rattle.std.specs.Prelude.{◌==◌, not, ◌&&◌, ◌||◌, if◌then◌else◌}
use Rattle.std.specs.Ordering.{is_lt}
use Rattle.std.specs.declared.cmp.Ordering.TheVariants.{Equal}
use Rattle.std.proofs.lemmas.Bool.{cases_eq}
use Rattle.std.proofs.lemmas.Cmp.{nat_list_cmp_total, tied_itself}
use Rattle.record_key.specs.declared.op.Op.{Op}
use Rattle.record_key.specs.Table.{Bytes, key_of, is_add}
use Rattle.record_key.specs.Laws.{key_cmp}
use Rattle.record_key.proofs.KeyOrder.{key_cmp-beginning}
use Rattle.history.specs.declared.record.Record.{Record}
use Rattle.history.specs.declared.record.Record.TheVariants as is
use Rattle.history.specs.Log.{record_at, op_of, IsOpBy}
use Rattle.history.specs.Legal.{IsLegal}
use Rattle.record_key.specs.Order.{has_key, one_key}
use Rattle.history.specs.Spans.{Span, Exclusive, Conflict, AnyConflict, changed_span, do_conflict, mode_of, Shared, Increment}
use Rattle.log_laws.proofs.Records.{AnOp, op_step, both_same, newest_at, older_at, at_newest, at_older, not_newest}
use Rattle.log_laws.proofs.LegalLogs.{begun, begun_number, op_number}
use Rattle.tc_core.specs.declared.open_txn.OpenTxn.{OpenTxn}
use Rattle.tc_core.specs.OpenTxns.{find, replace, without}
use Rattle.tc_core.specs.Locking.{op_spans, held_spans, is_holder, is_listed, is_for_change, is_changing}
use Rattle.tc_core.proofs.Finding.{find_here, find_there, replaced_same, replaced_other, without_same, without_other}

-- a key stands in its own range
pub within_itself : (k : Bytes) → has_key (one_key k) k ≡ true
within_itself k =
    let same : key_cmp k k ≡ Equal = tied_itself nat_list_cmp_total k in
    let below = key_cmp-beginning k (0 ∷ []) (λ e. cc) in
    ap (λ o. not (is_lt o) && is_lt (key_cmp k (k ++ 0 ∷ []))) same ∙ ap is_lt below

-- what two operations of one key are held for, where that conflicts
pub conflict_at : (o q : Op) → key_of o ≡ key_of q → do_conflict (mode_of o) (mode_of q) ≡ true
    → Conflict (changed_span o) (changed_span q)
conflict_at o q same clash =
    let P : Bytes → Type 0 = λ k. has_key (one_key k) (key_of o) ≡ true in
    (key_of o, within_itself (key_of o), subst P same (within_itself (key_of o)), clash)

-- what an operation holds is held against readers, and counts as changed
pub changed_is_for_change : (o : Op) → is_changing (changed_span o) ≡ true
changed_is_for_change o = pick (is_add o)
  where
    pick : (b : Bool) → is_for_change (if b then Increment else Exclusive) ≡ true
    pick true = refl
    pick false = refl

pub reader_conflicts : (o : Op) → do_conflict Shared (mode_of o) ≡ true
reader_conflicts o = pick (is_add o)
  where
    pick : (b : Bool) → do_conflict Shared (if b then Increment else Exclusive) ≡ true
    pick true = refl
    pick false = refl

pub kept_changed : (o : Op) (spans : List Span)
    → filter is_changing (changed_span o ∷ spans) ≡ changed_span o ∷ filter is_changing spans
kept_changed o spans =
    ap (λ b. cond b (changed_span o ∷ filter is_changing spans) (filter is_changing spans)) (changed_is_for_change o)

-- the keys of the records before are held on
any_if : (b : Bool) (s x : Span) (xs : List Span) → AnyConflict s xs → AnyConflict s (if b then x ∷ xs else xs)
any_if true s x xs any = inr any
any_if false s x xs any = any

any_longer : (s : Span) (r : Record) (log : List Record) (t : ℕ) → AnyConflict s (op_spans log t)
    → AnyConflict s (op_spans (r ∷ log) t)
any_longer s (is.Op u p op) log t any = any_if (t == u) s (changed_span op) (op_spans log t) any
any_longer s _ log t any = any

-- and the key of the newest operation
any_newest : (s : Span) (r : Record) (log : List Record) (t : ℕ) (o : Op) → op_of r ≡ Some (t, o)
    → Conflict s (changed_span o) → AnyConflict s (op_spans (r ∷ log) t)
any_newest s (is.Op u p op) log t o by clash = pick (t == u) (eq-eqb t u (sym same.0))
  where
    same : (u ≡ t) × (op ≡ o)
    same = both_same u t op o by

    pick : (b : Bool) → b ≡ true
        → AnyConflict s (if b then changed_span op ∷ op_spans log t else op_spans log t)
    pick true h = let P : Op → Type 0 = λ x. Conflict s (changed_span x) in
        inl (subst P (sym same.1) clash)
    pick false h = absurd (cc)
any_newest s _ log t o by clash = absurd (cc)

-- each operation of a transaction holds its key
pub op_spans_has : (s : Span) (log : List Record) (n t : ℕ) (o : Op) → IsOpBy log n t o
    → Conflict s (changed_span o) → AnyConflict s (op_spans log t)
op_spans_has s [] n t o by clash = absurd (cc)
op_spans_has s (r ∷ log) n t o by clash =
    elim (cases_eq n (length log + 1)) [
      | inl e ↦ any_newest s r log t o (newest_at (AnOp t o) r log n e by) clash
      | inr e ↦ any_longer s r log t (op_spans_has s log n t o (older_at (AnOp t o) r log n e by) clash)
    ]

-- an open transaction holds the keys of its operations, so does one that is committing, any other nothing
pub held_is : (log : List Record) (os : List OpenTxn) (cs : List ℕ) (t : ℕ) → is_holder os cs t ≡ true
    → held_spans log os cs t ≡ op_spans log t
held_is log os cs t holds = ap (λ b. if b then op_spans log t else []) holds

pub open_holds : (os : List OpenTxn) (cs : List ℕ) (t : ℕ) → IsSome (find t os) → is_holder os cs t ≡ true
open_holds os cs t some = ap (λ b. b || is_listed cs t) some

pub held_open : (log : List Record) (os : List OpenTxn) (cs : List ℕ) (t : ℕ) (o : OpenTxn) → find t os ≡ Some o
    → held_spans log os cs t ≡ op_spans log t
held_open log os cs t o is = held_is log os cs t (open_holds os cs t (ap is_some is))

pub held_none : (log : List Record) (os : List OpenTxn) (cs : List ℕ) (t : ℕ) → is_holder os cs t ≡ false
    → held_spans log os cs t ≡ []
held_none log os cs t none = ap (λ b. if b then op_spans log t else []) none

pub op_spans_longer : (r : Record) (log : List Record) (t : ℕ) → op_of r ≡ None → op_spans (r ∷ log) t ≡ op_spans log t
op_spans_longer (is.Op u p op) log t none = absurd (cc)
op_spans_longer _ log t none = refl

-- an operation takes its key for its transaction, and nothing for another
op_spans_own : (t p : ℕ) (op : Op) (log : List Record)
    → op_spans (is.Op t p op ∷ log) t ≡ changed_span op ∷ op_spans log t
op_spans_own t p op log =
    ap (λ b. if b then changed_span op ∷ op_spans log t else op_spans log t) (eq-eqb t t refl)

op_spans_other : (t p : ℕ) (op : Op) (log : List Record) (u : ℕ) → u ≢ t
    → op_spans (is.Op t p op ∷ log) u ≡ op_spans log u
op_spans_other t p op log u apart =
    ap (λ b. if b then changed_span op ∷ op_spans log u else op_spans log u) (ne_eqb u t apart)

-- who has no operation holds nothing
pub op_spans_none : (log : List Record) (t : ℕ) → ((n : ℕ) (o : Op) → IsOpBy log n t o → ⊥) → op_spans log t ≡ []
op_spans_none [] t none = refl
op_spans_none (r ∷ log) t none =
    newest r (λ o by. none (length log + 1) o (at_newest (AnOp t o) r log (length log + 1) refl by))
    ∙ op_spans_none log t (λ n o by. none n o
    (at_older (AnOp t o) r log n (not_newest log n (op_number log n t o by)) by))
  where
    newest : (r : Record) → ((o : Op) → op_of r ≡ Some (t, o) → ⊥) → op_spans (r ∷ log) t ≡ op_spans log t
    newest (is.Op u p op) no_op = op_spans_other u p op log t (λ e. no_op op (ap (λ x. Some (x, op)) (sym e)))
    newest _ no_op = refl

held_alike : (log log2 : List Record) (os os2 : List OpenTxn) (cs cs2 : List ℕ) (t : ℕ)
    → is_holder os2 cs2 t ≡ is_holder os cs t → op_spans log2 t ≡ op_spans log t
    → held_spans log2 os2 cs2 t ≡ held_spans log os cs t
held_alike log log2 os os2 cs cs2 t same_holder same_spans =
    ap (λ b. if b then op_spans log2 t else []) same_holder
    ∙ ap (λ (x : List Span). if is_holder os cs t then x else []) same_spans

-- held is the same where the same hold and have the same operations
pub held_same : (log log2 : List Record) (os os2 : List OpenTxn) (cs cs2 : List ℕ)
    → ((t : ℕ) → is_holder os2 cs2 t ≡ is_holder os cs t)
    → ((t : ℕ) → op_spans log2 t ≡ op_spans log t) → (t : ℕ) → held_spans log2 os2 cs2 t ≡ held_spans log os cs t
held_same log log2 os os2 cs cs2 same_holders same_spans t =
    held_alike log log2 os os2 cs cs2 t (same_holders t) (same_spans t)

-- the same hold where the same are open
pub same_holder : (os os2 : List OpenTxn) (cs : List ℕ) (t : ℕ) → find t os2 ≡ find t os
    → is_holder os2 cs t ≡ is_holder os cs t
same_holder os os2 cs t same = ap (λ o. is_some o || is_listed cs t) same

-- who is open stays so when one is put in another's place
pub is_some_replaced : (new o : OpenTxn) (os : List OpenTxn) → find new.txn os ≡ Some o → (t : ℕ)
    → is_some (find t (replace new os)) ≡ is_some (find t os)
is_some_replaced new o os is t =
    elim (cases_eq t new.txn) [
      | inl same ↦ let P : ℕ → Type 0 = λ u. is_some (find u (replace new os)) ≡ is_some (find u os) in
          subst P (sym same) (ap is_some (replaced_same new o os is) ∙ sym (ap is_some is))
      | inr apart ↦ ap is_some (replaced_other new os t apart)
    ]

pub holder_replaced : (new o : OpenTxn) (os : List OpenTxn) (cs : List ℕ) → find new.txn os ≡ Some o → (t : ℕ)
    → is_holder (replace new os) cs t ≡ is_holder os cs t
holder_replaced new o os cs is t = ap (λ b. b || is_listed cs t) (is_some_replaced new o os is t)

-- what one transaction holds now, and each other what it held
abbrev pub Holds : List Record → List OpenTxn → List ℕ → ℕ → List Span → List Record → List OpenTxn → Type 0
Holds log os cs t spans log2 os2 =
    (held_spans log2 os2 cs t ≡ spans) × ((u : ℕ) → u ≢ t → held_spans log2 os2 cs u ≡ held_spans log os cs u)

-- an operation takes its key
pub held_acted : (log : List Record) (os : List OpenTxn) (cs : List ℕ) (new o : OpenTxn) (p : ℕ) (op : Op)
    → find new.txn os ≡ Some o
    → Holds log os cs new.txn (changed_span op ∷ held_spans log os cs new.txn) (is.Op new.txn p op ∷ log)
    (replace new os)
held_acted log os cs new o p op at =
    let r : Record = is.Op new.txn p op in (
      held_open (r ∷ log) (replace new os) cs new.txn new (replaced_same new o os at) ∙ op_spans_own new.txn p op log
          ∙ ap (λ (x : List Span). changed_span op ∷ x) (sym (held_open log os cs new.txn o at)),
      λ u apart. held_alike log (r ∷ log) os (replace new os) cs cs u (holder_replaced new o os cs at u)
          (op_spans_other new.txn p op log u apart),
    )

-- one that begins holds nothing
pub held_begun : (log : List Record) (os : List OpenTxn) (cs : List ℕ) (new : OpenTxn) → IsLegal log
    → new.txn ≡ length log + 1 → Holds log os cs new.txn [] (is.Begin ∷ log) (new ∷ os)
held_begun log os cs new legal number = (
  held_open (is.Begin ∷ log) (new ∷ os) cs new.txn new (find_here new os new.txn refl)
      ∙ op_spans_none log new.txn no_op,
  λ u apart. held_alike log (is.Begin ∷ log) os (new ∷ os) cs cs u
      (same_holder os (new ∷ os) cs u (find_there new os u (λ e. apart (sym e)))) refl,
)
  where
    no_op : (n : ℕ) (o : Op) → IsOpBy log n new.txn o → ⊥
    no_op n o by = not_newest log new.txn
        (begun_number log new.txn (begun log new.txn n legal (op_step new.txn o (record_at log n) by))) number

-- one that ends holds nothing any more
pub held_ended : (log : List Record) (os : List OpenTxn) (cs : List ℕ) (t : ℕ) → is_listed cs t ≡ false
    → Holds log os cs t [] (is.End t ∷ log) (without t os)
held_ended log os cs t unlisted = (
  held_none (is.End t ∷ log) (without t os) cs t (rw (without_same t os, unlisted) refl),
  λ u apart. held_alike log (is.End t ∷ log) os (without t os) cs cs u
      (same_holder os (without t os) cs u (without_other t os u apart)) refl,
)
