-- The lock table holds what it must after each call too.
use Rattle.std.proofs.Common.{◌≡◌, ◌≢◌, ℕ, ◌+◌, Bool, true, false, List, [], ◌∷◌, length, Some, None, is_some, refl, sym, ap, ◌∙◌, subst, inl, inr, true≢false}
use Rattle.std.specs.Prelude.{filter, if◌then◌else◌}
use Rattle.std.proofs.lemmas.Bool.{cases_eq}
use Rattle.record_key.specs.declared.op.Op.{Op}
use Rattle.history.specs.declared.record.Record.{Record}
use Rattle.history.specs.declared.record.Record.TheVariants as is
use Rattle.history.specs.Legal.{IsLegal}
use Rattle.history.specs.Log.{op_of}
use Rattle.history.specs.Spans.{Mode, Increment, Exclusive, Shared, do_conflict, Span, Conflict, AnyConflict, changed_span}
use Rattle.tc_locks.specs.Locks.{LocksView, spans_of, set_spans, IsGrantable}
use Rattle.tc_locks.proofs.Tables.{set_table, set_own, set_other}
use Rattle.tc_core.specs.declared.open_txn.OpenTxn.{OpenTxn}
use Rattle.tc_core.specs.OpenTxns.{find, replace, without, AreBelow}
use Rattle.tc_core.specs.Locking.{op_spans, held_spans, is_holder, is_listed, is_changing, ConflictNowhere, AreHeld}
use Rattle.tc_core.proofs.Finding.{find_above, find_there, without_other}
use Rattle.tc_core.proofs.HeldSpans.{Holds, open_holds, same_holder, holder_replaced, held_none, held_same, held_acted, held_begun, held_ended, op_spans_longer, kept_changed}

-- conflicts are mutual
modes_flip : (m n : Mode) → do_conflict m n ≡ true → do_conflict n m ≡ true
modes_flip Shared Shared h = h
modes_flip Shared Increment h = h
modes_flip Shared Exclusive h = h
modes_flip Increment Shared h = h
modes_flip Increment Increment h = h
modes_flip Increment Exclusive h = h
modes_flip Exclusive Shared h = h
modes_flip Exclusive Increment h = h
modes_flip Exclusive Exclusive h = h

flip : (s r : Span) → Conflict s r → Conflict r s
flip s r c = (c.0, c.2, c.1, modes_flip s.mode r.mode c.3)

head_apart : (xs : List Span) (y : Span) (ys : List Span) → ConflictNowhere xs (y ∷ ys) → AnyConflict y xs → ⊥
head_apart [] y ys h any = any
head_apart (x ∷ xs) y ys h any =
    elim any [ inl here ↦ h.0 (inl (flip y x here)) | inr there ↦ head_apart xs y ys h.1 there ]

tail_apart : (xs : List Span) (y : Span) (ys : List Span) → ConflictNowhere xs (y ∷ ys) → ConflictNowhere xs ys
tail_apart [] y ys h = tt
tail_apart (x ∷ xs) y ys h = (λ any. h.0 (inr any), tail_apart xs y ys h.1)

apart_flip : (xs ys : List Span) → ConflictNowhere xs ys → ConflictNowhere ys xs
apart_flip xs [] h = tt
apart_flip xs (y ∷ ys) h = (head_apart xs y ys h, apart_flip xs ys (tail_apart xs y ys h))

-- what conflicts with some of them conflicts with one of all
any_of : (test : Span → Bool) (s : Span) (xs : List Span) → AnyConflict s (filter test xs) → AnyConflict s xs
any_of test s [] any = any
any_of test s (x ∷ xs) any = pick (test x) (any_of test s xs) any
  where
    pick : (b : Bool) → (AnyConflict s (filter test xs) → AnyConflict s xs)
        → AnyConflict s (if b then x ∷ filter test xs else filter test xs) → AnyConflict s (x ∷ xs)
    pick true rest any = elim any [ inl here ↦ inl here | inr there ↦ inr (rest there) ]
    pick false rest any = inr (rest any)

module _ (log : List Record) (os : List OpenTxn) (cs : List ℕ) (locks : LocksView)
    (held : AreHeld log os cs locks) where
  -- what the operations of a transaction hold stands in the table
  pub any_held : (t : ℕ) (s : Span) → AnyConflict s (held_spans log os cs t) → AnyConflict s (spans_of locks t)
  any_held t s any =
      let P : List Span → Type 0 = AnyConflict s in
      any_of is_changing s (spans_of locks t) (subst P (sym (held.changing t)) any)

  -- the same is held where the same hold and have the same operations
  stays : (log2 : List Record) (os2 : List OpenTxn) (cs2 : List ℕ)
      → ((t : ℕ) → held_spans log2 os2 cs2 t ≡ held_spans log os cs t)
      → ((t : ℕ) → is_holder os2 cs2 t ≡ false → spans_of locks t ≡ []) → AreHeld log2 os2 cs2 locks
  stays log2 os2 cs2 same none = record {
    table = held.table;
    changing = λ t. held.changing t ∙ sym (same t);
    others = none;
    apart = held.apart;
  }

  -- one transaction's spans change, in the table as by the log
  change : (t : ℕ) (spans : List Span) (log2 : List Record) (os2 : List OpenTxn) (cs2 : List ℕ)
      → (held_spans log2 os2 cs2 t ≡ filter is_changing spans)
      × ((u : ℕ) → u ≢ t → held_spans log2 os2 cs2 u ≡ held_spans log os cs u)
      → (is_holder os2 cs2 t ≡ false → spans ≡ []) → ((u : ℕ) → u ≢ t → is_holder os2 cs2 u ≡ is_holder os cs u)
      → ((u : ℕ) → u ≢ t → ConflictNowhere spans (spans_of locks u))
      → AreHeld log2 os2 cs2 (set_spans t spans locks)
  change t spans log2 os2 cs2 holds own others apart =
      let new : LocksView = set_spans t spans locks in
      let mine : spans_of new t ≡ spans = set_own t spans locks held.table in
      let its : (u : ℕ) → u ≢ t → spans_of new u ≡ spans_of locks u =
      λ u other. set_other t spans locks u held.table other in
      record {
        table = set_table t spans locks held.table;
        changing = λ u. elim (cases_eq u t) [
          | inl same ↦ let P : ℕ → Type 0 = λ n. filter is_changing (spans_of new n) ≡ held_spans log2 os2 cs2 n in
              subst P (sym same) (ap (filter is_changing) mine ∙ sym holds.0)
          | inr other ↦ ap (filter is_changing) (its u other) ∙ held.changing u ∙ sym (holds.1 u other)
        ];
        others = λ u none. elim (cases_eq u t) [
          | inl same ↦ let P : ℕ → Type 0 = λ n. is_holder os2 cs2 n ≡ false → spans_of new n ≡ [] in
              subst P (sym same) (λ h. mine ∙ own h) none
          | inr other ↦ its u other ∙ held.others u (sym (others u other) ∙ none)
        ];
        apart = λ u v differ. elim (cases_eq u t) [
          | inl same ↦
              let other : v ≢ t = λ e. differ (same ∙ sym e) in
              rw (same, mine, its v other) (apart v other)
          | inr other ↦ elim (cases_eq v t) [
            | inl same ↦ rw (same, mine, its u other) (apart_flip spans (spans_of locks u) (apart u other))
            | inr third ↦ rw (its u other, its v third) (held.apart u v differ)
          ]
        ];
      }

  -- one that begins takes nothing
  pub begins : (new : OpenTxn) → IsLegal log → new.txn ≡ length log + 1 → AreBelow new.txn os
      → is_listed cs new.txn ≡ false → AreHeld (is.Begin ∷ log) (new ∷ os) cs locks
  begins new legal number below unlisted =
      let holds = held_begun log os cs new legal number in
      let nobody : is_holder os cs new.txn ≡ false = rw (find_above new.txn os below, unlisted) refl in
      stays (is.Begin ∷ log) (new ∷ os) cs
      (λ t. elim (cases_eq t new.txn) [
        | inl same ↦ let P : ℕ → Type 0 = λ n. held_spans (is.Begin ∷ log) (new ∷ os) cs n ≡ held_spans log os cs n in
            subst P (sym same) (holds.0 ∙ sym (held_none log os cs new.txn nobody))
        | inr other ↦ holds.1 t other
      ])
      (λ t none. elim (cases_eq t new.txn) [
        | inl same ↦ let P : ℕ → Type 0 = λ n. spans_of locks n ≡ [] in subst P (sym same) (held.others new.txn nobody)
        | inr other ↦ held.others t
            (sym (same_holder os (new ∷ os) cs t (find_there new os t (λ e. other (sym e)))) ∙ none)
      ])

  -- a free span is taken for an open transaction
  taken : (new o : OpenTxn) (s : Span) (log2 : List Record) → find new.txn os ≡ Some o → IsGrantable locks new.txn s
      → Holds log os cs new.txn (filter is_changing (s ∷ spans_of locks new.txn)) log2 (replace new os)
      → AreHeld log2 (replace new os) cs (set_spans new.txn (s ∷ spans_of locks new.txn) locks)
  taken new o s log2 at free holds =
      let same = holder_replaced new o os cs at in
      change new.txn (s ∷ spans_of locks new.txn) log2 (replace new os) cs holds
      (λ none. absurd (true≢false (sym (same new.txn ∙ open_holds os cs new.txn (ap is_some at)) ∙ none)))
      (λ u other. same u)
      (λ u other. (free u other, held.apart new.txn u (λ e. other (sym e))))

  -- an operation takes its key
  pub takes : (new o : OpenTxn) (p : ℕ) (op : Op) → find new.txn os ≡ Some o
      → IsGrantable locks new.txn (changed_span op)
      → AreHeld (is.Op new.txn p op ∷ log) (replace new os) cs
      (set_spans new.txn (changed_span op ∷ spans_of locks new.txn) locks)
  takes new o p op at free =
      let holds = held_acted log os cs new o p op at in
      taken new o (changed_span op) (is.Op new.txn p op ∷ log) at free (
        holds.0 ∙ ap (λ (x : List Span). changed_span op ∷ x) (sym (held.changing new.txn))
            ∙ sym (kept_changed op (spans_of locks new.txn)),
        holds.1,
      )

  -- a record that is no operation takes nothing, where the same hold
  pub alike : (r : Record) (os2 : List OpenTxn) (cs2 : List ℕ) → op_of r ≡ None
      → ((t : ℕ) → is_holder os2 cs2 t ≡ is_holder os cs t) → AreHeld (r ∷ log) os2 cs2 locks
  alike r os2 cs2 none same =
      stays (r ∷ log) os2 cs2 (held_same log (r ∷ log) os os2 cs cs2 same (λ u. op_spans_longer r log u none))
      (λ t nobody. held.others t (sym (same t) ∙ nobody))

  pub longer : (r : Record) → op_of r ≡ None → AreHeld (r ∷ log) os cs locks
  longer r none = alike r os cs none (λ t. refl)

  -- nor does one that is put in another's place
  pub replaced : (new o : OpenTxn) → find new.txn os ≡ Some o → AreHeld log (replace new os) cs locks
  replaced new o at =
      let same = holder_replaced new o os cs at in
      stays log (replace new os) cs (held_same log log os (replace new os) cs cs same (λ u. refl))
      (λ t none. held.others t (sym (same t) ∙ none))

  -- a read takes its span
  pub shares : (new o : OpenTxn) (s : Span) → find new.txn os ≡ Some o → is_changing s ≡ false → IsGrantable locks new.txn s
      → AreHeld log (replace new os) cs (set_spans new.txn (s ∷ spans_of locks new.txn) locks)
  shares new o s at flat free =
      let same = held_same log log os (replace new os) cs cs (holder_replaced new o os cs at) (λ u. refl) in
      taken new o s log at free (
        same new.txn ∙ sym (held.changing new.txn)
            ∙ sym (ap (λ b. if b then s ∷ filter is_changing (spans_of locks new.txn) else filter is_changing
            (spans_of locks new.txn)) flat),
        λ u other. same u,
      )

  -- an end gives back
  pub gives_back : (t : ℕ) → is_listed cs t ≡ false → AreHeld (is.End t ∷ log) (without t os) cs (set_spans t [] locks)
  gives_back t unlisted =
      change t [] (is.End t ∷ log) (without t os) cs (held_ended log os cs t unlisted) (λ none. refl)
      (λ u other. same_holder os (without t os) cs u (without_other t os u other)) (λ u other. tt)

  -- so does that of one that isn't open
  pub loses : (t : ℕ) (cs2 : List ℕ) → is_holder os cs2 t ≡ false
      → ((u : ℕ) → u ≢ t → is_holder os cs2 u ≡ is_holder os cs u)
      → AreHeld (is.End t ∷ log) os cs2 (set_spans t [] locks)
  loses t cs2 none same =
      change t [] (is.End t ∷ log) os cs2
      (held_none (is.End t ∷ log) os cs2 t none, λ u other. ap (λ b. if b then op_spans log u else []) (same u other))
      (λ h. refl) same (λ u other. tt)
