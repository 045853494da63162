-- A refused call of a client has its cause on the list machine, and leaves what the component stands for.
use Rattle.std.proofs.Common.{◌≡◌, ◌≢◌, ℕ, ◌<◌, ◌≤◌, Bool, true, false, List, [], ◌∷◌, length, Option, Some, None, IsSome, is_some, refl, sym, ap, ◌∙◌, subst, arith, inl, inr, ◌⊎◌, true≢false}
use Rattle.std.specs.Prelude.{◌||◌, ◌&&◌, ◌==◌, not, map, nat_le, if◌then◌else◌}
use Rattle.std.proofs.lemmas.List.{length-map}
use Rattle.std.specs.List.{AllByRecursion}
use Rattle.std.proofs.lemmas.Bool.Decides.{nat_tests}
use Rattle.record_key.specs.declared.op.Op.{Op}
use Rattle.record_key.specs.declared.refusal.Refusal.{Refusal}
use Rattle.record_key.specs.declared.refusal.Refusal.TheVariants as no
use Rattle.record_key.specs.FirstCause.{first_of, or_else}
use Rattle.tc_locks.specs.Meant.{range_of}
use Rattle.history.specs.Spans.{Span, changed_span}
use Rattle.record_key.specs.Order.{ends_above, HasKeys}
use Rattle.history.specs.ListMachine.{Machine, Call, ToBegin, ToAct, ToRead, ToSave, ToGoBack, ToRollBack, ToCommit, AreDifferent, asked_range, asked_span}
use Rattle.simulation.specs.View.{Ready, StandsFor}
use Rattle.simulation.specs.Refusals.{IsRefusal, caller, wanted}
use Rattle.simulation.proofs.Refusing.{busy_is_a_line, not_open_is_a_line, unanswered_is_a_line, rolling_back_is_a_line, bad_range_is_a_line, full_is_a_line, full_of_savepoints_is_a_line, bad_savepoint_is_a_line, node_refusal_is_a_line}
use Rattle.tc_locks.specs.declared.span.Span.{Span as Keys}
use Rattle.tc_locks.specs.declared.span.Span.TheVariants.{Key, Range}
use Rattle.tc_locks.specs.Locks.{IsLeastHolder}
use Rattle.tc_core.specs.declared.open_txn.OpenTxn.{OpenTxn}
use Rattle.tc_core.specs.declared.open_txn.Read.{Read}
use Rattle.tc_core.specs.declared.open_txn.Rollback.{Rollback}
use Rattle.tc_log.specs.LogView.{is_spent, spent_refusal}
use Rattle.tc_core.specs.OpenTxns.{find, AreBelow, AreFalling}
use Rattle.tc_core.specs.TcView.{TcView, is_unconnected, is_serving, is_rolling, is_waiting}
use Rattle.tc_core.specs.Refusing.{Refuses}
use Rattle.tc_core.specs.Causes.{serving_refusal, open_refusal, idle_refusal, is_full, begin_refusal, commit_refusal, saves_of, save_refusal, has_savepoint, back_refusal, reads_spent, RefusesTaking}
use Rattle.tc_core.specs.Calls.{BeginGives, ActGives, ReadGives, SaveGives, BackGives, RollbackGives, CommitGives}
use Rattle.tc_core.specs.Changes.{shared}
use Rattle.tc_core.specs.Kept.{IsTc}
use Rattle.tc_core.proofs.Finding.{find_here}
use Rattle.std.specs.Prelude.{Err}
use Rattle.node_laws.specs.Simulation.{query_of, doing_in, clients}
use Rattle.node_laws.proofs.Machine.Clients.{rolls, looks, awaits, rests}
use Rattle.node_laws.proofs.Machine.Standing.{true_spans}
use Rattle.node_laws.proofs.Machine.Idle.{both_none, one_false, two_false, none_rolls, none_waits}

-- the machine refuses the call so, and the component stands for it still
pub record RefusesSo (m : Machine) (call : Call) (r : Refusal) (new : TcView) : Type 0 where
  pub line : IsRefusal m call r
  pub stands : StandsFor (clients new) m

-- which of two causes it was
either : (a b : Option Refusal) (r : Refusal) → or_else a b ≡ Some r → (a ≡ Some r) ⊎ ((a ≡ None) × (b ≡ Some r))
either (Some x) b r h = inl h
either None b r h = inr (refl, h)

one_cause : (b : Bool) (c r : Refusal) → first_of ((b, c) ∷ []) ≡ Some r → (b ≡ true) × (c ≡ r)
one_cause true c r h = (refl, (cc))
one_cause false c r h = absurd (cc)

two_causes : (a b : Bool) (c d r : Refusal) → first_of ((a, c) ∷ (b, d) ∷ []) ≡ Some r
    → ((a ≡ true) × (c ≡ r)) ⊎ ((a ≡ false) × (b ≡ true) × (d ≡ r))
two_causes true b c d r h = inl (refl, (cc))
two_causes false true c d r h = inr (refl, refl, (cc))
two_causes false false c d r h = absurd (cc)

-- the same refusal by another name
as_that : (m : Machine) (call : Call) (c r : Refusal) → c ≡ r → IsRefusal m call c → IsRefusal m call r
as_that m call c r same h = subst (λ x. IsRefusal m call x) same h

-- the component doesn't serve: nothing of transactions is seen in that
not_serving : (w : TcView) (m : Machine) (call : Call) (r : Refusal) → serving_refusal w ≡ Some r → IsRefusal m call r
not_serving w m call r h =
    elim (two_causes (is_unconnected w.phase) (not (is_serving w.phase)) no.NotConnected no.Redoing r h) [
      | inl first ↦ as_that m call no.NotConnected r first.1 (node_refusal_is_a_line m call no.NotConnected tt)
      | inr second ↦ as_that m call no.Redoing r second.2 (node_refusal_is_a_line m call no.Redoing tt)
    ]

-- no number is left
spent_there : (b : Bool) (m : Machine) (call : Call) (r : Refusal) → first_of ((b, no.NumbersSpent) ∷ []) ≡ Some r
    → IsRefusal m call r
spent_there b m call r h = let c = one_cause b no.NumbersSpent r h in
    as_that m call no.NumbersSpent r c.1 (node_refusal_is_a_line m call no.NumbersSpent tt)

module _ (w : TcView) (m : Machine) (call : Call) (t : ℕ) (k : IsTc w) (stands : StandsFor (clients w) m)
    (names : caller call ≡ Some t) where
  -- nobody open has the number
  unopened : (x : Option OpenTxn) → find t w.open_txns ≡ x → not (is_some x) ≡ true → IsRefusal m call no.NotOpen
  unopened None at h = not_open_is_a_line (clients w) m call t stands names (ap doing_in at)
  unopened (Some o) at h = absurd (true≢false (sym h))

  -- it rolls back
  rolling_back : (x : Option OpenTxn) → find t w.open_txns ≡ x → is_rolling x ≡ true → IsRefusal m call no.RollingBack
  rolling_back None at h = absurd (true≢false (sym h))
  rolling_back (Some o) at h = by o.rolling refl h
    where
      by : (y : Option Rollback) → o.rolling ≡ y → is_some y ≡ true → IsRefusal m call no.RollingBack
      by None none h = absurd (true≢false (sym h))
      by (Some r) some h = rolling_back_is_a_line (clients w) m call t r.savepoint r.above stands names
          (ap doing_in at ∙ ap Some (rolls o r some))

  -- it waits, and doesn't roll back
  unanswered : (x : Option OpenTxn) → find t w.open_txns ≡ x → is_rolling x ≡ false → is_waiting x ≡ true
      → IsRefusal m call no.Unanswered
  unanswered None at flat h = absurd (true≢false (sym h))
  unanswered (Some o) at flat h = by o.reading o.waiting refl refl h
    where
      by : (y : Option Read) (z : Option ℕ) → o.reading ≡ y → o.waiting ≡ z → (is_some z || is_some y) ≡ true
          → IsRefusal m call no.Unanswered
      by (Some r) z some waits h =
          unanswered_is_a_line (clients w) m call t stands names
          (inr (query_of r.span, ap doing_in at ∙ ap Some (looks o r (none_rolls o.rolling flat) some)))
      by None (Some n) none waits h =
          unanswered_is_a_line (clients w) m call t stands names
          (inl (n, ap doing_in at ∙ ap Some (awaits o n (none_rolls o.rolling flat) none waits)))
      by None None none waits h = absurd (true≢false (sym h))

  -- any of the causes of a call that wants its transaction idle
  pub not_idle : (r : Refusal) → idle_refusal w t ≡ Some r → IsRefusal m call r
  not_idle r h = elim (either (open_refusal w t)
      (first_of ((is_rolling (find t w.open_txns), no.RollingBack) ∷ (is_waiting (find t w.open_txns), no.Unanswered)
      ∷ [])) r h) [
        | inl first ↦ elim (either (serving_refusal w)
            (first_of ((not (is_some (find t w.open_txns)), no.NotOpen) ∷ [])) r
            first) [
              | inl serving ↦ not_serving w m call r serving
              | inr found ↦
                  let c = one_cause (not (is_some (find t w.open_txns))) no.NotOpen r found.1 in
                  as_that m call no.NotOpen r c.1 (unopened (find t w.open_txns) refl c.0)
            ]
        | inr second ↦ elim (two_causes (is_rolling (find t w.open_txns)) (is_waiting (find t w.open_txns))
            no.RollingBack
            no.Unanswered r second.1) [
              | inl rolling ↦ as_that m call no.RollingBack r rolling.1
                  (rolling_back (find t w.open_txns) refl rolling.0)
              | inr waits ↦ as_that m call no.Unanswered r waits.2
                  (unanswered (find t w.open_txns) refl waits.0 waits.1)
            ]
      ]

-- where there is none of these, it rests
rests_found : (w : TcView) (t : ℕ) → (x : Option OpenTxn) → find t w.open_txns ≡ x
    → (is_some x ≡ true) × (is_rolling x ≡ false) × (is_waiting x ≡ false)
    → (clients w).doing t ≡ Some Ready
rests_found w t None at h = absurd (true≢false (sym h.0))
rests_found w t (Some o) at h =
    let none = none_waits o.waiting o.reading h.2 in
    ap doing_in at ∙ ap Some (rests o (none_rolls o.rolling h.1) none.1 none.0)

pub rests_there : (w : TcView) (t : ℕ) → idle_refusal w t ≡ None → (clients w).doing t ≡ Some Ready
rests_there w t h =
    let both = both_none (open_refusal w t)
    (first_of ((is_rolling (find t w.open_txns), no.RollingBack) ∷ (is_waiting (find t w.open_txns), no.Unanswered)
    ∷ [])) h in
    let found = one_false (not (is_some (find t w.open_txns))) no.NotOpen
    (both_none (serving_refusal w) (first_of ((not (is_some (find t w.open_txns)), no.NotOpen) ∷ [])) both.0).1 in
    let two = two_false (is_rolling (find t w.open_txns)) (is_waiting (find t w.open_txns)) no.RollingBack no.Unanswered
    both.1 in
    rests_found w t (find t w.open_txns) refl (not_not (is_some (find t w.open_txns)) found, two.0, two.1)
  where
    not_not : (b : Bool) → not b ≡ false → b ≡ true
    not_not true h = refl
    not_not false h = absurd (true≢false h)

-- a call that is refused as its causes say
refused_as : (w new : TcView) (m : Machine) (call : Call) (cause : Option Refusal) (memory device : Bool) (r : Refusal)
    → StandsFor (clients w) m
    → ((c : Refusal) → cause ≡ Some c → IsRefusal m call c) → Refuses cause memory device w r new
    → RefusesSo m call r new
refused_as w new m call (Some c) memory device r stands line h =
    record {
      line = as_that m call c r (sym h.0) (line c refl);
      stands = subst (λ x. StandsFor (clients x) m) (sym h.1) stands;
    }
refused_as w new m call None memory device r stands line (inl h) =
    record {
      line = as_that m call no.NoMemory r (sym h.1) (node_refusal_is_a_line m call no.NoMemory tt);
      stands = subst (λ x. StandsFor (clients x) m) (sym h.2) stands;
    }
refused_as w new m call None memory device r stands line (inr h) =
    record {
      line = as_that m call no.Device r (sym h.1) (node_refusal_is_a_line m call no.Device tt);
      stands = subst (λ x. StandsFor (clients x) m) (sym h.2) stands;
    }

-- the numbers of open transactions: all different, and each of one that is open
numbers_differ : (os : List OpenTxn) → AreFalling os → AreDifferent (map (λ (o : OpenTxn). o.txn) os)
numbers_differ [] falls = tt
numbers_differ (o ∷ os) falls = (all_below os falls.0, numbers_differ os falls.1)
  where
    all_below : (ps : List OpenTxn) → AreBelow o.txn ps
        → AllByRecursion (λ u. u ≢ o.txn) (map (λ (p : OpenTxn). p.txn) ps)
    all_below [] below = tt
    all_below (p ∷ ps) below = (λ e. omega (arith, e, below.0), all_below ps below.1)

found_more : (o : OpenTxn) (os : List OpenTxn) (ts : List ℕ) → AllByRecursion (λ t. IsSome (doing_in (find t os))) ts
    → AllByRecursion (λ t. IsSome (doing_in (find t (o ∷ os)))) ts
found_more o os [] all = tt
found_more o os (t ∷ ts) all = (by (o.txn == t), found_more o os ts all.1)
  where
    by : (b : Bool) → IsSome (doing_in (if b then Some o else find t os))
    by true = refl
    by false = all.0

numbers_found : (os : List OpenTxn)
    → AllByRecursion (λ t. IsSome (doing_in (find t os))) (map (λ (o : OpenTxn). o.txn) os)
numbers_found [] = tt
numbers_found (o ∷ os) = (
  ap (λ (x : Option OpenTxn). is_some (doing_in x)) (find_here o os o.txn refl),
  found_more o os (map (λ (p : OpenTxn). p.txn) os) (numbers_found os),
)

-- begin
begin_cause : (w : TcView) (m : Machine) (r : Refusal) → IsTc w → StandsFor (clients w) m → begin_refusal w ≡ Some r
    → IsRefusal m ToBegin r
begin_cause w m r k stands h =
    elim (either (serving_refusal w)
    (first_of ((is_full w.open_txns, no.Full) ∷ (is_spent w.log, no.NumbersSpent) ∷ [])) r h) [
      | inl serving ↦ not_serving w m ToBegin r serving
      | inr rest ↦ elim (two_causes (is_full w.open_txns) (is_spent w.log) no.Full no.NumbersSpent r rest.1) [
        | inl full ↦
            let most : 64 ≤ length w.open_txns = grind (arith, nat_tests, full.0) in
            let count : length (map (λ (o : OpenTxn). o.txn) w.open_txns) ≡ 64 =
            length-map w.open_txns (λ (o : OpenTxn). o.txn) ∙ omega (arith, most, k.open_txns.few) in
            as_that m ToBegin no.Full r full.1
            (full_is_a_line (clients w) m (map (λ (o : OpenTxn). o.txn) w.open_txns) stands count
            (numbers_differ w.open_txns k.open_txns.order) (numbers_found w.open_txns))
        | inr spent ↦ as_that m ToBegin no.NumbersSpent r spent.2 (node_refusal_is_a_line m ToBegin no.NumbersSpent tt)
      ]
    ]

pub begin_refused : (w new : TcView) (m : Machine) (r : Refusal) → IsTc w → StandsFor (clients w) m
    → BeginGives w (Err r) new → RefusesSo m ToBegin r new
begin_refused w new m r k stands h =
    refused_as w new m ToBegin (begin_refusal w) true true r stands (λ c. begin_cause w m c k stands) h

-- a call that takes a span
taking_refused : (w new : TcView) (m : Machine) (call : Call) (t : ℕ) (s : Span) (spent : Bool) (device : Bool)
    (r : Refusal)
    → IsTc w → StandsFor (clients w) m
    → caller call ≡ Some t → wanted call ≡ Some (t, s)
    → RefusesTaking (idle_refusal w t) (first_of ((spent, no.NumbersSpent) ∷ [])) device w t s r new
    → RefusesSo m call r new
taking_refused w new m call t s spent device r k stands names wants h = by (idle_refusal w t) refl h
  where
    by : (x : Option Refusal) → idle_refusal w t ≡ x
        → RefusesTaking x (first_of ((spent, no.NumbersSpent) ∷ [])) device w t s r new → RefusesSo m call r new
    by (Some c) is g =
        record {
          line = as_that m call c r (sym g.0) (not_idle w m call t k stands names c is);
          stands = subst (λ x. StandsFor (clients x) m) (sym g.1) stands;
        }
    by None is (inl busy) =
        let b : IsLeastHolder w.locks t s busy.0 = busy.2 in
        record {
          line = as_that m call (no.Busy busy.0) r (sym busy.1)
              (busy_is_a_line (clients w) m call t busy.0 s k.legal stands (true_spans w k) (rests_there w t is) wants
              (record { other = b.other; conflicts = b.conflict; least = b.least }));
          stands = subst (λ x. StandsFor (clients x) m) (sym busy.3) stands;
        }
    by None is (inr free) =
        refused_as w new m call (first_of ((spent, no.NumbersSpent) ∷ [])) true device r stands
        (λ c. spent_there spent m call c) free.1

pub act_refused : (w new : TcView) (m : Machine) (t : ℕ) (op : Op) (r : Refusal) → IsTc w → StandsFor (clients w) m
    → ActGives w t op (Err r) new → RefusesSo m (ToAct t op) r new
act_refused w new m t op r k stands h =
    taking_refused w new m (ToAct t op) t (changed_span op) (is_spent w.log) true r k stands refl refl h

-- a read looks at the keys of its query
pub same_span : (s : Keys) → asked_span (query_of s) ≡ shared s
same_span (Key k) = refl
same_span (Range low high) = refl

pub read_refused : (w new : TcView) (m : Machine) (t : ℕ) (s : Keys) (r : Refusal) → IsTc w → StandsFor (clients w) m
    → ReadGives w t s (Err r) new
    → RefusesSo m (ToRead t (query_of s)) r new
read_refused w new m t s r k stands h = by (ends_above (range_of s).hi (range_of s).lo) refl h
  where
    by : (b : Bool) → ends_above (range_of s).hi (range_of s).lo ≡ b
        → RefusesTaking (or_else (first_of ((not b, no.BadRange) ∷ [])) (idle_refusal w t)) (reads_spent w.reads) false
        w t (shared s) r new
        → RefusesSo m (ToRead t (query_of s)) r new
    by true range g =
        taking_refused w new m (ToRead t (query_of s)) t (shared s) (nat_le 281474976710655 w.reads) false r k stands
        refl (ap (λ x. Some (t, x)) (same_span s)) g
    by false none g =
        let empty : HasKeys (asked_range (query_of s)) → ⊥ =
        λ range. true≢false (sym range ∙ ap (λ (x : Span). ends_above x.range.hi x.range.lo) (same_span s) ∙ none) in
        record {
          line = as_that m (ToRead t (query_of s)) no.BadRange r (sym g.0) (bad_range_is_a_line m t (query_of s) empty);
          stands = subst (λ x. StandsFor (clients x) m) (sym g.1) stands;
        }

-- save, back, rollback, commit: an idle transaction, and one cause more
pub save_refused : (w new : TcView) (m : Machine) (t : ℕ) (r : Refusal) → IsTc w → StandsFor (clients w) m
    → SaveGives w t (Err r) new → RefusesSo m (ToSave t) r new
save_refused w new m t r k stands h = refused_as w new m (ToSave t) (save_refusal w t) true false r stands cause h
  where
    cause : (c : Refusal) → save_refusal w t ≡ Some c → IsRefusal m (ToSave t) c
    cause c is = elim (either (idle_refusal w t)
        (first_of ((nat_le 16 (length (saves_of (find t w.open_txns))), no.Full) ∷ [])) c is) [
          | inl first ↦ not_idle w m (ToSave t) t k stands refl c first
          | inr full ↦
              let why = one_cause (nat_le 16 (length (saves_of (find t w.open_txns)))) no.Full c full.1 in
              let most : 16 ≤ length (saves_of (find t w.open_txns)) = grind (arith, nat_tests, why.0) in
              as_that m (ToSave t) no.Full c why.1
              (full_of_savepoints_is_a_line (clients w) m t stands (rests_there w t full.0) most)
        ]

no_savepoint : (n s : ℕ) → not (nat_le 1 s && nat_le s n) ≡ true → (s ≡ 0) ⊎ (n < s)
no_savepoint n s h = by (nat_le 1 s) (nat_le s n) refl refl h
  where
    by : (a b : Bool) → nat_le 1 s ≡ a → nat_le s n ≡ b → not (a && b) ≡ true → (s ≡ 0) ⊎ (n < s)
    by true true x y g = absurd (true≢false (sym g))
    by true false x y g = inr (grind (arith, nat_tests, y))
    by false b x y g = inl (grind (arith, nat_tests, x))

pub back_refused : (w new : TcView) (m : Machine) (t s : ℕ) (r : Refusal) → IsTc w → StandsFor (clients w) m
    → BackGives w t s (Err r) new → RefusesSo m (ToGoBack t s) r new
back_refused w new m t s r k stands h =
    refused_as w new m (ToGoBack t s) (back_refusal w t s) false false r stands cause h
  where
    cause : (c : Refusal) → back_refusal w t s ≡ Some c → IsRefusal m (ToGoBack t s) c
    cause c is = elim (either (idle_refusal w t)
        (first_of ((not (has_savepoint (saves_of (find t w.open_txns)) s), no.BadSavepoint) ∷ [])) c is) [
          | inl first ↦ not_idle w m (ToGoBack t s) t k stands refl c first
          | inr bad ↦
              let why = one_cause (not (has_savepoint (saves_of (find t w.open_txns)) s)) no.BadSavepoint c bad.1 in
              as_that m (ToGoBack t s) no.BadSavepoint c why.1
              (bad_savepoint_is_a_line (clients w) m t s stands (rests_there w t bad.0)
              (no_savepoint (length (saves_of (find t w.open_txns))) s why.0))
        ]

pub rollback_refused : (w new : TcView) (m : Machine) (t : ℕ) (r : Refusal) → IsTc w → StandsFor (clients w) m
    → RollbackGives w t (Err r) new → RefusesSo m (ToRollBack t) r new
rollback_refused w new m t r k stands h =
    refused_as w new m (ToRollBack t) (idle_refusal w t) false false r stands
    (λ c is. not_idle w m (ToRollBack t) t k stands refl c is) h

pub commit_refused : (w new : TcView) (m : Machine) (t : ℕ) (r : Refusal) → IsTc w → StandsFor (clients w) m
    → CommitGives w t (Err r) new → RefusesSo m (ToCommit t) r new
commit_refused w new m t r k stands h = refused_as w new m (ToCommit t) (commit_refusal w t) true true r stands cause h
  where
    cause : (c : Refusal) → commit_refusal w t ≡ Some c → IsRefusal m (ToCommit t) c
    cause c is = elim (either (idle_refusal w t) (spent_refusal w.log) c is) [
      | inl first ↦ not_idle w m (ToCommit t) t k stands refl c first
      | inr spent ↦ spent_there (is_spent w.log) m (ToCommit t) c spent.1
    ]
