-- What a crash left is a transaction component, when its losers hold their keys.
use Rattle.std.proofs.Common.{◌≡◌, ◌≢◌, ℕ, ◌+◌, ◌-◌, ◌≤◌, zero, suc, Bool, true, false, List, [], ◌∷◌, ◌++◌, length, Some, refl, sym, ap, ◌∙◌, subst, arith, inl, inr, eqb-true, true≢false}
use Rattle.std.specs.Prelude.{◌&&◌, ◌==◌, not, filter, if◌then◌else◌}
use Rattle.std.specs.Ordering.{is_lt, nat_cmp, ordering_then}
use Rattle.std.specs.Cmp.{nat_cmp_is}
use Rattle.std.specs.declared.cmp.Ordering.{Ordering}
use Rattle.std.specs.declared.cmp.Ordering.TheVariants.{Less, Equal, Greater}
use Rattle.std.proofs.lemmas.Bool.{cases_Bool}
use Rattle.std.proofs.lemmas.Map.Lookups.{exact_unsigned}
use Rattle.record_key.specs.declared.op.Op.{Op}
use Rattle.record_key.specs.Table.{Bytes, key_of}
use Rattle.record_key.specs.Laws.{key_cmp}
use Rattle.history.specs.declared.record.Record.{Record}
use Rattle.history.specs.declared.record.Record.TheVariants as is
use Rattle.history.specs.Log.{IsOpen, IsOpBy}
use Rattle.history.specs.Legal.{IsLatestOrNone, IsLegal, FitsCheckpoint}
use Rattle.record_key.specs.Order.{has_key, one_key}
use Rattle.history.specs.Spans.{at_key, AnyConflict, changed_span, do_conflict, mode_of, Mode}
use Rattle.log_laws.proofs.Sharing.{share_adds, modes_agree}
use Rattle.log_laws.proofs.Records.{AnOp, at_newest, at_older, not_newest, since}
use Rattle.log_laws.proofs.LegalLogs.{begun_number, fits_at, op_number}
use Rattle.tc_log.proofs.Answered.{answered_longer}
use Rattle.framed_log.proofs.Beginning.{everything}
use Rattle.stable.specs.Usage.{Usage}
use Rattle.framed_log.specs.Beginning.{beginning}
use Rattle.tc_locks.specs.Locks.{LocksView, spans_of}
use Rattle.tc_restart.specs.Losers.{LosersView, txns, AreLosers}
use Rattle.tc_log.specs.Checkpointed.{IsCheckpointed}
use Rattle.tc_restart.specs.Plan.{IsRedoStart}
use Rattle.tc_core.specs.Locking.{op_spans, is_listed, is_changing, ConflictNowhere, AreHeld, HoldOperations}
use Rattle.tc_core.specs.Opening.{HoldsOpen, opened}
use Rattle.tc_core.specs.Kept.{IsTc}
use Rattle.tc_core.proofs.HeldSpans.{kept_changed}
use Rattle.tc_core.proofs.Committing.{none_committing}
use Rattle.tc_core.proofs.Losers.{listed_loser, loser_listed}
use Rattle.tc_core.proofs.LettingGo.{apart_none}
use Rattle.tc_core.proofs.Low.{may_none}

-- one key is the only one in its range
pub only_key : (k x : Bytes) → has_key (one_key k) x ≡ true → x ≡ k
only_key [] [] h = refl
only_key [] (zero ∷ []) h = absurd (cc)
only_key [] (zero ∷ y ∷ ys) h = absurd (cc)
only_key [] (suc a ∷ ys) h =
    let above : nat_cmp (suc a) 0 ≡ Greater = sym (nat_cmp_is (suc a) 0 Greater (omega arith)) in
    absurd (true≢false (sym h ∙ ap (λ o. is_lt (ordering_then o (key_cmp ys []))) above))
only_key (b ∷ bs) [] h = absurd (cc)
only_key (b ∷ bs) (a ∷ xs) h = pick (only_key bs xs) (nat_cmp a b) refl h
  where
    pick : (has_key (one_key bs) xs ≡ true → xs ≡ bs) → (o : Ordering) → nat_cmp a b ≡ o
        → (not (is_lt (ordering_then o (key_cmp xs bs))) && is_lt (ordering_then o (key_cmp xs (bs ++ 0 ∷ [])))) ≡ true
        → (a ∷ xs) ≡ (b ∷ bs)
    pick rest Less is test = absurd (cc)
    pick rest Greater is test = absurd (cc)
    pick rest Equal is test =
        let same : xs ≡ bs = rest test in
        let first : a ≡ b = exact_unsigned a b is in cc

-- an operation of the transaction on the key
abbrev HasOp : List Record → ℕ → Bytes → Mode → Type 0
HasOp log t k m =
    (n : ℕ) × (o : Op) × IsOpBy log n t o × (key_of o ≡ k) × (do_conflict m (mode_of o) ≡ true)

op_longer : (r : Record) (log : List Record) (n t : ℕ) (o : Op) → IsOpBy log n t o → IsOpBy (r ∷ log) n t o
op_longer r log n t o by = at_older (AnOp t o) r log n (not_newest log n (op_number log n t o by)) by

has_longer : (r : Record) (log : List Record) (t : ℕ) (k : Bytes) (m : Mode) → HasOp log t k m → HasOp (r ∷ log) t k m
has_longer r log t k m h = (h.0, h.1, op_longer r log h.0 t h.1 h.2, h.3, h.4)

-- what conflicts with a span of one key is an operation on it, held for what conflicts
any_op : (log : List Record) (t : ℕ) (k : Bytes) (m : Mode) → AnyConflict (at_key m k) (op_spans log t)
    → HasOp log t k m
any_op [] t k m any = absurd (any)
any_op (is.Op v p q ∷ log) t k m any = pick (any_op log t k m) (t == v) refl any
  where
    pick : (AnyConflict (at_key m k) (op_spans log t) → HasOp log t k m) → (b : Bool) → (t == v) ≡ b
        → AnyConflict (at_key m k) (if b then changed_span q ∷ op_spans log t else op_spans log t)
        → HasOp (is.Op v p q ∷ log) t k m
    pick before true same any = elim any [
      | inl clash ↦ (
        length log + 1,
        q,
        at_newest (AnOp t q) (is.Op v p q) log (length log + 1) refl (ap (λ x. Some (x, q)) (sym (eqb-true t v same))),
        sym (only_key (key_of q) clash.0 clash.2) ∙ only_key k clash.0 clash.1,
        clash.3,
      )
      | inr rest ↦ has_longer (is.Op v p q) log t k m (before rest)
    ]
    pick before false other any = has_longer (is.Op v p q) log t k m (before any)
any_op (r ∷ log) t k m any = has_longer r log t k m (any_op log t k m any)

-- so what two open transactions hold by the log is apart
module _ (log : List Record) (t u : ℕ) (legal : IsLegal log) (open_t : IsOpen log t) (open_u : IsOpen log u)
    (differ : t ≢ u) where
  apart_in : (part : List Record) → ((n : ℕ) (o : Op) → IsOpBy part n t o → IsOpBy log n t o)
      → ConflictNowhere (op_spans part t) (op_spans log u)
  apart_in [] up = tt
  apart_in (is.Op v p o ∷ part) up =
      pick (t == v) refl (apart_in part (λ n q by. up n q (op_longer (is.Op v p o) part n t q by)))
    where
      pick : (b : Bool) → (t == v) ≡ b → ConflictNowhere (op_spans part t) (op_spans log u)
          → ConflictNowhere (if b then changed_span o ∷ op_spans part t else op_spans part t) (op_spans log u)
      pick true same rest = (
        λ any. let other = any_op log u (key_of o) (mode_of o) any in
            let mine : IsOpBy log (length part + 1) t o = up (length part + 1) o
            (at_newest (AnOp t o) (is.Op v p o) part (length part + 1) refl
            (ap (λ x. Some (x, o)) (sym (eqb-true t v same)))) in
            true≢false (sym other.4 ∙ modes_agree o other.1
            (share_adds log (length part + 1) t other.0 u o other.1 legal mine open_t other.2 open_u
            (λ e. differ (sym e)) (sym other.3))),
        rest,
      )
      pick false other rest = rest
  apart_in (r ∷ part) up = apart_in part (λ n q by. up n q (op_longer r part n t q by))

  apart_ops : ConflictNowhere (op_spans log t) (op_spans log u)
  apart_ops = apart_in log (λ n o by. by)

all_changing : (log : List Record) (t : ℕ) → filter is_changing (op_spans log t) ≡ op_spans log t
all_changing [] t = refl
all_changing (is.Op v p o ∷ log) t = pick (t == v) (all_changing log t)
  where
    pick : (b : Bool) → filter is_changing (op_spans log t) ≡ op_spans log t
        → filter is_changing (if b then changed_span o ∷ op_spans log t else op_spans log t)
        ≡ (if b then changed_span o ∷ op_spans log t else op_spans log t)
    pick true rest = kept_changed o (op_spans log t) ∙ ap (λ spans. changed_span o ∷ spans) rest
    pick false rest = rest
all_changing (r ∷ log) t = all_changing log t

-- each loser holds the keys of its operations, and nobody else anything
module _ (log : List Record) (l : LosersView) (locks : LocksView) (legal : IsLegal log) (losers : AreLosers log l)
    (all : l.below ≡ length log + 1) (holds : HoldsOpen log locks) where
  open_listed : (t : ℕ) → IsOpen log t → is_listed (txns l) t ≡ true
  open_listed t open_t =
      loser_listed log l losers t
      (record { open_txn = open_t; early = omega (arith, (begun_number log t open_t.begun).bounded, all) })

  nothing : (t : ℕ) → is_listed (txns l) t ≡ false → spans_of locks t ≡ []
  nothing t unlisted = holds.none t (λ open_t. true≢false (sym (open_listed t open_t) ∙ unlisted))

  its : (t : ℕ) → is_listed (txns l) t ≡ true → spans_of locks t ≡ op_spans log t
  its t listed = holds.own t (listed_loser log l losers t listed).open_txn

  held_opened : AreHeld log [] (txns l) locks
  held_opened = record {
    table = holds.table;
    changing = λ t. elim (cases_Bool (is_listed (txns l) t)) [
      | inl listed ↦ ap (filter is_changing) (its t listed) ∙ all_changing log t
          ∙ sym (ap (λ b. if b then op_spans log t else []) listed)
      | inr unlisted ↦ ap (filter is_changing) (nothing t unlisted)
          ∙ sym (ap (λ b. if b then op_spans log t else []) unlisted)
    ];
    others = λ t none. nothing t none;
    apart = λ t u differ. elim (cases_Bool (is_listed (txns l) t)) [
      | inl listed ↦ elim (cases_Bool (is_listed (txns l) u)) [
        | inl listed_u ↦
            rw (its t listed, its u listed_u)
            (apart_ops log t u legal (listed_loser log l losers t listed).open_txn
            (listed_loser log l losers u listed_u).open_txn differ)
        | inr unlisted ↦ rw (nothing u unlisted) (apart_none (spans_of locks t))
      ]
      | inr unlisted ↦ rw (nothing t unlisted) tt
    ];
  }

  holds_operations : HoldOperations l.below locks
  holds_operations t below = elim (cases_Bool (is_listed (txns l) t)) [
    | inl listed ↦ ap (filter is_changing) (its t listed) ∙ all_changing log t ∙ sym (its t listed)
    | inr unlisted ↦ ap (filter is_changing) (nothing t unlisted) ∙ sym (nothing t unlisted)
  ]

-- what was checkpointed is answered
checked_in : (log : List Record) (c : ℕ) → IsLegal log → IsLatestOrNone (IsCheckpointed log) c → FitsCheckpoint log c
checked_in log c legal (inl h) =
    since (λ p. FitsCheckpoint p c) (λ r p fits. answered_longer r p c fits) log h.is.0
    (fits_at log h.is.0 (is.Checkpoint c) legal h.is.1)
checked_in log c legal (inr none) = let P : ℕ → Type 0 = FitsCheckpoint log in subst P (sym none.0) (may_none log)

pub opened_tc : (log : List Record) (usage : Usage) (start : ℕ) (l : LosersView) (locks : LocksView) → IsLegal log
    → length log ≤ 281474976710655
    → AreLosers log l → l.below ≡ length log + 1 → IsRedoStart log start → HoldsOpen log locks
    → IsTc (opened log usage (start - 1) l locks)
opened_tc log usage start l locks legal few losers all redo holds =
    let c : ℕ = start - 1 in
    let is_low : redo.low ≡ start - 1 = omega (arith, redo.start_is) in
    let P : ℕ → Type 0 = IsLatestOrNone (IsCheckpointed log) in
    let checkpointed : IsLatestOrNone (IsCheckpointed log) (start - 1) = subst P is_low redo.greatest in
    let Q : List Record → Type 0 = λ p. FitsCheckpoint p (start - 1) in
    record {
      legal = legal;
      within = omega arith;
      few = record { records = few; reads = omega arith };
      session = omega arith;
      asking = λ n is. absurd (cc);
      phase = refl;
      low = record {
        announced = may_none (beginning log (length log));
        asked = λ n is. absurd (cc);
        checkpointed = checkpointed;
        checked = subst Q (sym (everything log)) (checked_in log (start - 1) legal checkpointed);
      };
      open_txns = record {
        each = λ t o at. absurd (cc);
        late = λ t o at. absurd (cc);
        all = λ t open_t late. absurd (omega (arith, (begun_number log t open_t.begun).bounded, all, late));
        order = tt;
        few = omega arith;
      };
      committing = sym (none_committing log (length log) (omega arith));
      lost = record { losers = losers; phase_of = tt; lacking = λ n due. tt; due = λ n e. absurd (cc) };
      locks = held_opened log l locks legal losers all holds;
      early = holds_operations log l locks legal losers all holds;
      reading = record { each = λ t o r at. absurd (cc); apart = λ t u o p r q at. absurd (cc) };
    }
