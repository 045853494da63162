-- A component that is opened on a legal log whose answers are right stands for a machine in which all this holds.
use Rattle.std.proofs.lemmas.Bool.Decides.{nat_tests}
use Rattle.std.proofs.Common.{◌≡◌, ℕ, ◌+◌, ◌<◌, ◌≤◌, Bool, true, false, cond, List, [], ◌∷◌, ◌++◌, length, length-append, Option, Some, None, IsSome, is_some, refl, sym, ap, ◌∙◌, subst, arith, inl, inr, ◌⊎◌, true≢false, eq-eqb, ne_eqb, append_assoc}
use Rattle.std.specs.Prelude.{◌&&◌, filter, not, if◌then◌else◌}
use Rattle.std.specs.List.{AllByRecursion}
use Rattle.std.specs.FinMap.{empty, get, get-empty}
use Rattle.std.proofs.lemmas.Bool.{cases_Bool, cases_eq}
use Rattle.record_key.specs.declared.op.Op.{Op}
use Rattle.record_key.specs.declared.op.Answer.{Answer}
use Rattle.record_key.specs.Table.{Bytes, key_of, AreAdds, value_after, answer_at}
use Rattle.record_key.specs.Laws.{key_cmp}
use Rattle.record_key.proofs.Tables.{is_same, is_same-true, is_same-refl}
use Rattle.history.specs.declared.record.Record.{Record}
use Rattle.history.specs.declared.record.Record.TheVariants as is
use Rattle.history.specs.History.{Entry, is_among}
use Rattle.history.specs.Log.{record_at, before, answer_of, is_crossed, op_of, op_in, IsOpBy, Requests, hist_in, hist, entry_with}
use Rattle.history.specs.Legal.{IsLegal}
use Rattle.history.specs.Chains.{BothAdd, IsEndOf}
use Rattle.history.specs.Values.{is_on, value_where, value_kept, HasRightAnswers}
use Rattle.history.specs.ListMachine.{Machine, Status, Open, Waiting, Reading, Rolling, Committing, Committed, Losing, Gone}
use Rattle.log_laws.proofs.Records.{AnOp, op_request, op_step, IsNumber, record_before, since}
use Rattle.log_laws.proofs.LegalLogs.{op_number, answered_push, crossed_push, legal_before, right_before}
use Rattle.log_laws.proofs.Adding.{op_adds}
use Rattle.log_laws.proofs.Strict.{strict, one_at_a_time, end_ends, end_number, ended_after}
use Rattle.log_laws.proofs.Undo.{stands_since, number_before}
use Rattle.log_laws.proofs.Values.{answers_alike, right_at}
use Rattle.log_laws.proofs.Compensations.{frozen, ended_before}
use Rattle.log_laws.proofs.Cancel.{cancel}
use Rattle.log_laws.proofs.Plain.{get-after}
use Rattle.simulation.specs.View.{counts, is_left_open, standing, opened, HasStatusOf, StandsFor}
use Rattle.simulation.proofs.Beginnings.{record_same, left_ended, one_end, undone_wholly}
use Rattle.simulation.proofs.Entries.{entry_of, hist_step}
use Rattle.simulation.specs.Lasting.{IsOwned as IsOwnedAt}
use Rattle.simulation.proofs.Entries.{all_filtered}
use Rattle.simulation.proofs.Placing.{all_hist, hist_below}
use Rattle.simulation.proofs.AtRest.{opened_is_at_rest}
use Rattle.serial_laws.specs.Replay.{replay, AreTrue}
use Rattle.serial_laws.specs.Serial.{MayCommit, committed_in, IsStart}
use Rattle.serial_laws.proofs.Passing.{Pairs}
use Rattle.serial_laws.proofs.Listing.{all_two, all_true, pairs_all, pairs_with, pairs_filtered, passed, among_here, among_none}
use Rattle.serial_laws.proofs.Keeping.{IsOwned, IsOlder, nothing_awaited}
use Rattle.serial_laws.proofs.Asking.{IsClosed, IsDone}
use Rattle.serial_laws.proofs.Turning.{After, Ordered, InOrder}

-- an operation's transaction is left open
abbrev pub left_by : List Record → Option (ℕ × Op) → Bool
left_by log None = false
left_by log (Some by) = is_left_open log by.0

abbrev pub stays_at : List Record → ℕ → Bool
stays_at log n = not (is_crossed log n) && (not (left_by log (op_in (record_at log n))) && not false)

counts_both : (x y : Bool) → (not x && (not y && not false)) ≡ true → (x ≡ false) × (y ≡ false)
counts_both x y h = grind arith

module _ (log : List Record) (legal : IsLegal log) (right : HasRightAnswers log) where
  abbrev c : Entry → Bool
  c e = counts (opened log) e

  abbrev p : ℕ → Bool
  p n = is_some (answer_of log n) && stays_at log n

  -- a record of the log
  op_at : (newer rest : List Record) (r : Record) (t : ℕ) (o : Op) → log ≡ newer ++ r ∷ rest → op_of r ≡ Some (t, o)
      → IsOpBy log (length rest + 1) t o
  op_at newer rest r t o e h = grind (arith, record_same, eq-eqb)

  before_at : (newer rest : List Record) (r : Record) → before (newer ++ r ∷ rest) (length rest + 1) ≡ rest
  before_at [] rest r = grind (arith, eq-eqb)
  before_at (x ∷ newer) rest r = grind (arith, before_at newer rest r, ne_eqb, length-append)

  stays_is : (n t : ℕ) (o : Op) → IsOpBy log n t o
      → stays_at log n ≡ (not (is_crossed log n) && (not (is_left_open log t) && not false))
  stays_is n t o by = ap (λ x. not (is_crossed log n) && (not (left_by log x) && not false)) by

  -- what the entries that count leave at a key
  value_answered : (k : Bytes) (n t : ℕ) (o : Op) (y : Option Answer) (h : List Entry) (v : Option Bytes)
      → answer_of log n ≡ y → stays_at log n ≡ (not (is_crossed log n) && (not (is_left_open log t) && not false))
      → get (replay empty (filter (counts (opened log)) h)) k ≡ v
      → get (replay empty (filter (counts (opened log)) (entry_with log n t o y h))) k
      ≡ (if (is_some (answer_of log n) && stays_at log n) && is_on k o then value_after o v else v)
  value_answered k n t o y h v none stays same = grind (arith, get-after)

  value_step : (k : Bytes) (n : ℕ) (x : Option (ℕ × Op)) (h : List Entry) (v : Option Bytes)
      → ((t : ℕ) (o : Op) → x ≡ Some (t, o) → IsOpBy log n t o)
      → get (replay empty (filter (counts (opened log)) h)) k ≡ v
      → get (replay empty (filter (counts (opened log)) (entry_of log n x h))) k
      ≡ value_kept k n (λ j. is_some (answer_of log j) && stays_at log j) x v
  value_step k n None h v by same = same
  value_step k n (Some y) h v by same =
      value_answered k n y.0 y.1 (answer_of log n) h v refl (stays_is n y.0 y.1 (by y.0 y.1 refl)) same

  value_in : (k : Bytes) (newer rest : List Record) → log ≡ newer ++ rest
      → get (replay empty (filter (counts (opened log)) (hist_in log rest))) k
      ≡ value_where k (λ j. is_some (answer_of log j) && stays_at log j) rest
  value_in k newer [] e = get-empty key_cmp k
  value_in k newer (r ∷ rest) e =
      ap (λ h. get (replay empty (filter (counts (opened log)) h)) k) (hist_step log r rest)
      ∙ value_step k (length rest + 1) (op_of r) (hist_in log rest)
      (value_where k (λ j. is_some (answer_of log j) && stays_at log j) rest)
      (λ t o is. op_at newer rest r t o e is)
      (value_in k (newer ++ r ∷ []) rest (e ∙ sym (append_assoc newer (r ∷ []) rest)))

  -- an operation that stands, of who isn't left open
  module _ (n t : ℕ) (o : Op) (by : IsOpBy log n t o) (stands : is_crossed log n ≡ false)
      (over : is_left_open log t ≡ false)
    where
      number : IsNumber log n
      number = op_number log n t o by

      requests : Requests log n o
      requests = op_request t o (record_at log n) by

      -- what was done to the key before it is kept as it stood then, or both are Adds
      kept_below : (m v : ℕ) (q : Op) → IsOpBy (before log n) m v q → is_on (key_of o) q ≡ true
          → ((is_some (answer_of log m) && stays_at log m) ≡ not (is_crossed (before log n) m)) ⊎ AreAdds o q
      kept_below m v q was_op on =
          let below : m < n = number_before log n m number (op_number (before log n) m v q was_op) in
          let is_op : IsOpBy log m v q = subst (AnOp v q) (record_before log m n number below) was_op in
          let same : key_of o ≡ key_of q = is_same-true (key_of o) (key_of q) on in
          let adds : BothAdd log m n → AreAdds o q =
          λ both. (sym (op_adds log n t o by) ∙ both.1, sym (op_adds log m v q is_op) ∙ both.0) in
          let settled : ((is_crossed log m ≡ is_crossed (before log n) m) × (is_left_open log v ≡ false))
          ⊎ AreAdds o q =
          elim (cases_eq v t) [
            | inl e ↦
                inl (
                  elim (cases_Bool (is_crossed (before log n) m)) [
                    | inl c ↦ since (λ y. is_crossed y m ≡ true) (crossed_push m) log n c ∙ sym c
                    | inr c ↦
                        (stands_since log t n m legal (record { op = o; is = by; uncrossed = stands }) below
                        (record {
                          op = q;
                          is = subst (λ (z : ℕ). IsOpBy (before log n) m z q) e was_op;
                          uncrossed = c;
                        })).uncrossed ∙ sym c
                  ],
                  ap (is_left_open log) e ∙ over,
                )
            | inr other ↦
                elim (strict log legal m n v t q o is_op below (op_step t o (record_at log n) by) requests same
                (λ e. other (sym e))) [
                  | inl both ↦ inr (adds both)
                  | inr end ↦ inl (
                    frozen log n m v q legal number below was_op (ended_before log v m n number end),
                    left_ended log v (end_ends log v end.end end.is),
                  )
                ]
          ] in
          elim (one_at_a_time log legal m n q o (op_request v q (record_at log m) is_op) below requests same) [
            | inl both ↦ inr (adds both)
            | inr answered ↦
                let still : IsSome (answer_of log m) =
                since (λ x. IsSome (answer_of x m)) (answered_push m) log n answered in
                elim settled [
                  | inl both ↦ inl (ap (λ b. b && stays_at log m) still ∙ stays_is m v q is_op
                      ∙ ap (λ b. not (is_crossed log m) && (not b && not false)) both.1
                      ∙ alone (is_crossed log m) ∙ ap not both.0)
                  | inr both ↦ inr both
                ]
          ]
        where
          alone : (b : Bool) → (not b && true) ≡ not b
          alone true = refl
          alone false = refl

      told_at : (a : Answer) → answer_of log n ≡ Some a
          → a ≡ answer_at o (value_where (key_of o) (λ j. is_some (answer_of log j) && stays_at log j) (before log n))
      told_at a answered =
          right_at log n a legal right answered o requests
          ∙ ap (answer_at o) (cancel (before log n) (legal_before log n legal) (right_before log n right) (key_of o))
          ∙ sym (answers_alike (key_of o) (λ j. is_some (answer_of log j) && stays_at log j)
          (λ j. not (is_crossed (before log n) j)) (before log n) o kept_below)

  -- so each of them is told what those before it leave
  told_answered : (newer rest : List Record) (n t : ℕ) (o : Op) (y : Option Answer) → log ≡ newer ++ rest
      → before log n ≡ rest → IsOpBy log n t o → answer_of log n ≡ y
      → AreTrue empty (filter (counts (opened log)) (hist_in log rest))
      → AreTrue empty (filter (counts (opened log)) (entry_with log n t o y (hist_in log rest)))
  told_answered newer rest n t o None e was by answered all = all
  told_answered newer rest n t o (Some a) e was by answered all =
      pick (not (is_crossed log n) && (not (is_left_open log t) && not false)) refl
    where
      pick : (b : Bool) → (not (is_crossed log n) && (not (is_left_open log t) && not false)) ≡ b
          → AreTrue empty (cond b
          (record { number = n; txn = t; op = o; answer = a; crossed = is_crossed log n }
          ∷ filter (counts (opened log)) (hist_in log rest))
          (filter (counts (opened log)) (hist_in log rest)))
      pick true is =
          let both = counts_both (is_crossed log n) (is_left_open log t) is in (
            told_at n t o by both.0 both.1 a answered
                ∙ ap (λ l. answer_at o
                (value_where (key_of o) (λ j. is_some (answer_of log j) && stays_at log j) l)) was
                ∙ ap (answer_at o) (sym (value_in (key_of o) newer rest e)),
            all,
          )
      pick false is = all

  told_step : (newer rest : List Record) (n : ℕ) (x : Option (ℕ × Op)) → log ≡ newer ++ rest → before log n ≡ rest
      → ((t : ℕ) (o : Op) → x ≡ Some (t, o) → IsOpBy log n t o)
      → AreTrue empty (filter (counts (opened log)) (hist_in log rest))
      → AreTrue empty (filter (counts (opened log)) (entry_of log n x (hist_in log rest)))
  told_step newer rest n x e was by all = grind (arith, told_answered)

  told_in : (newer rest : List Record) → log ≡ newer ++ rest
      → AreTrue empty (filter (counts (opened log)) (hist_in log rest))
  told_in newer [] e = tt
  told_in newer (r ∷ rest) e =
      let next : log ≡ (newer ++ r ∷ []) ++ rest = e ∙ sym (append_assoc newer (r ∷ []) rest) in
      subst (λ h. AreTrue empty (filter (counts (opened log)) h)) (sym (hist_step log r rest))
      (told_step (newer ++ r ∷ []) rest (length rest + 1) (op_of r) next
      (ap (λ l. before l (length rest + 1)) e ∙ before_at newer rest r)
      (λ t o is. op_at newer rest r t o e is) (told_in (newer ++ r ∷ []) rest next))

  pub told_opened : (m : Machine) → StandsFor (opened log) m → AreTrue empty (standing m.h)
  told_opened m stands = subst (AreTrue empty) (sym stands.entries) (told_in [] log refl)

-- an entry that counts, by the log
record IsCounted (log : List Record) (e : Entry) : Type 0 where
  is : IsOpBy log e.number e.txn e.op
  uncrossed : is_crossed log e.number ≡ false
  over : is_left_open log e.txn ≡ false

all_counted : (log : List Record) → AllByRecursion (IsCounted log) (filter (counts (opened log)) (hist log))
all_counted log =
    all_two (λ e. counts (opened log) e ≡ true → IsCounted log e) (λ e. counts (opened log) e ≡ true) (IsCounted log)
    (filter (counts (opened log)) (hist log)) (λ e counted is. counted is)
    (all_filtered (λ e. counts (opened log) e ≡ true → IsCounted log e) (counts (opened log)) (hist log)
    (all_hist (λ e. counts (opened log) e ≡ true → IsCounted log e) log log
    (λ n t o by a is.
    let both = counts_both (is_crossed log n) (is_left_open log t) is in
    record { is = by; uncrossed = both.0; over = both.1 })))
    (passed (counts (opened log)) (hist log))

-- numbers fall
abbrev IsLess : Entry → Entry → Type 0
IsLess g e = e.number < g.number

less_step : (log : List Record) (n : ℕ) (x : Option (ℕ × Op)) (h : List Entry) → AllByRecursion (λ e. e.number < n) h
    → Pairs IsLess h → Pairs IsLess (entry_of log n x h)
less_step log n x h below all = grind arith

less_in : (log rest : List Record) → Pairs IsLess (hist_in log rest)
less_in log [] = tt
less_in log (r ∷ rest) = grind (arith, less_in log rest, hist_step, less_step, hist_below)

-- who has its Commit is among those
among_later : (r : Record) (log : List Record) (v : ℕ) → is_among v (committed_in log) ≡ true
    → is_among v (committed_in (r ∷ log)) ≡ true
among_later r log v h = grind arith

commit_among : (log : List Record) (v n : ℕ) → record_at log n ≡ Some (is.Commit v)
    → is_among v (committed_in log) ≡ true
commit_among [] v n h = absurd (cc)
commit_among (r ∷ log) v n h =
    elim (cases_eq n (length log + 1)) [
      | inl e ↦
          let newest : Some r ≡ Some (is.Commit v) =
          sym (ap (λ (b : Bool). if b then Some r else record_at log n) (eq-eqb n (length log + 1) e)) ∙ h in
          let same : r ≡ is.Commit v = cc in
          subst (λ x. is_among v (committed_in (x ∷ log)) ≡ true) (sym same) (among_here v v (committed_in log) refl)
      | inr apart ↦
          among_later r log v (commit_among log v n
          (sym (ap (λ (b : Bool). if b then Some r else record_at log n) (ne_eqb n (length log + 1) apart)) ∙ h))
    ]

-- and whoever is among those has its Commit
record HasCommit (log : List Record) (v : ℕ) : Type 0 where
  at : ℕ
  bounded : at ≤ length log
  is : record_at log at ≡ Some (is.Commit v)

commit_older : (r : Record) (log : List Record) (v : ℕ) → HasCommit log v → HasCommit (r ∷ log) v
commit_older r log v has = grind arith

among_commit : (log : List Record) (v : ℕ) → is_among v (committed_in log) ≡ true → HasCommit log v
among_commit [] v h = absurd (true≢false (sym h))
among_commit (is.Commit t ∷ log) v h =
    elim (cases_eq t v) [
      | inl e ↦ record {
        at = length log + 1;
        bounded = omega arith;
        is = ap (λ (b : Bool). if b then Some (is.Commit t) else record_at log (length log + 1))
            (eq-eqb (length log + 1) (length log + 1) refl)
            ∙ ap (λ (k : ℕ). Some (is.Commit k)) e;
      }
      | inr apart ↦ commit_older (is.Commit t) log v
          (among_commit log v (sym (among_none v t (committed_in log) apart) ∙ h))
    ]
among_commit (is.Session ∷ log) v h = commit_older is.Session log v (among_commit log v h)
among_commit (is.Begin ∷ log) v h = commit_older is.Begin log v (among_commit log v h)
among_commit (is.Op t p o ∷ log) v h = commit_older (is.Op t p o) log v (among_commit log v h)
among_commit (is.Answer n a ∷ log) v h = commit_older (is.Answer n a) log v (among_commit log v h)
among_commit (is.Comp t u x i ∷ log) v h = commit_older (is.Comp t u x i) log v (among_commit log v h)
among_commit (is.End t ∷ log) v h = commit_older (is.End t) log v (among_commit log v h)
among_commit (is.Checkpoint l ∷ log) v h = commit_older (is.Checkpoint l) log v (among_commit log v h)

module _ (log : List Record) (legal : IsLegal log) where
  -- a Commit at its place
  commit_at : (newer older : List Record) (t : ℕ) → log ≡ newer ++ is.Commit t ∷ older
      → record_at log (length older + 1) ≡ Some (is.Commit t)
  commit_at newer older t e = grind (arith, record_same, eq-eqb)

  older_at : (newer older : List Record) (r : Record) (n : ℕ) → log ≡ newer ++ r ∷ older → n ≤ length older
      → record_at older n ≡ record_at log n
  older_at newer older r n e le = grind (arith, nat_tests, append_assoc, record_same)

  once : (newer older : List Record) (t : ℕ) → log ≡ newer ++ is.Commit t ∷ older
      → is_among t (committed_in older) ≡ false
  once newer older t e =
      elim (cases_Bool (is_among t (committed_in older))) [
        | inr out ↦ out
        | inl among ↦
            let has : HasCommit older t = among_commit older t among in
            let same : has.at ≡ length older + 1 =
            one_end log t has.at (length older + 1) legal
            (inl (sym (older_at newer older (is.Commit t) has.at e has.bounded) ∙ has.is))
            (inl (commit_at newer older t e)) in
            absurd (omega (arith, same, has.bounded))
      ]

  -- what it did passes by what others did before it that commit later
  passes_later : (newer older : List Record) (t : ℕ) → log ≡ newer ++ is.Commit t ∷ older → (g e : Entry)
      → IsCounted log g → IsCounted log e → IsLess g e → After t (committed_in older) g e
  passes_later newer older t place g e g_is e_is less own other out =
      elim (cases_Bool (is_same (key_of e.op) (key_of g.op))) [
        | inr apart ↦ inl (λ same.
            true≢false (sym (ap (λ x. is_same x (key_of g.op)) same ∙ is_same-refl (key_of g.op)) ∙ apart))
        | inl same ↦
            elim (strict log legal e.number g.number e.txn g.txn e.op g.op e_is.is less
            (op_step g.txn g.op (record_at log g.number) g_is.is)
            (op_request g.txn g.op (record_at log g.number) g_is.is)
            (sym (is_same-true (key_of e.op) (key_of g.op) same)) (λ one. other (sym one ∙ own))) [
              | inl both ↦ inr (
                sym (op_adds log g.number g.txn g.op g_is.is) ∙ both.1,
                sym (op_adds log e.number e.txn e.op e_is.is) ∙ both.0,
              )
              | inr end ↦ elim (end.is) [
                | inr undone ↦ absurd (true≢false
                    (sym (undone_wholly log e.txn end.end e.number e.op legal undone e_is.is) ∙ e_is.uncrossed))
                | inl commit ↦
                    let mine : IsEndOf log t (length older + 1) = inl (commit_at newer older t place) in
                    let step = op_step t g.op (record_at log g.number)
                    (subst (λ (k : ℕ). IsOpBy log g.number k g.op) own g_is.is) in
                    let after = ended_after log t g.number legal step (end_ends log t (length older + 1) mine) in
                    let same_end : after.end ≡ length older + 1 =
                    one_end log t after.end (length older + 1) legal after.is_end mine in
                    let within : end.end ≤ length older = omega (arith, same_end, after.after, end.before) in
                    absurd (true≢false (sym (commit_among older e.txn end.end
                    (older_at newer older (is.Commit t) end.end place within ∙ commit)) ∙ out))
              ]
            ]
      ]

  ordered_in : (s : List Entry) (newer older : List Record) → log ≡ newer ++ older → AllByRecursion (IsCounted log) s
      → Pairs IsLess s → Ordered (committed_in older) s
  ordered_in s newer [] e all less = tt
  ordered_in s newer (is.Commit t ∷ older) e all less = (
    once newer older t e,
    pairs_with (IsCounted log) IsLess (After t (committed_in older)) s (passes_later newer older t e) all less,
    ordered_in s (newer ++ is.Commit t ∷ []) older (e ∙ sym (append_assoc newer (is.Commit t ∷ []) older)) all less,
  )
  ordered_in s newer (is.Session ∷ older) e all less =
      ordered_in s (newer ++ is.Session ∷ []) older (e ∙ sym (append_assoc newer (is.Session ∷ []) older)) all less
  ordered_in s newer (is.Begin ∷ older) e all less =
      ordered_in s (newer ++ is.Begin ∷ []) older (e ∙ sym (append_assoc newer (is.Begin ∷ []) older)) all less
  ordered_in s newer (is.Op t p o ∷ older) e all less =
      ordered_in s (newer ++ is.Op t p o ∷ []) older (e ∙ sym (append_assoc newer (is.Op t p o ∷ []) older)) all less
  ordered_in s newer (is.Answer n a ∷ older) e all less =
      ordered_in s (newer ++ is.Answer n a ∷ []) older
      (e ∙ sym (append_assoc newer (is.Answer n a ∷ []) older)) all less
  ordered_in s newer (is.Comp t u x i ∷ older) e all less =
      ordered_in s (newer ++ is.Comp t u x i ∷ []) older
      (e ∙ sym (append_assoc newer (is.Comp t u x i ∷ []) older)) all less
  ordered_in s newer (is.End t ∷ older) e all less =
      ordered_in s (newer ++ is.End t ∷ []) older (e ∙ sym (append_assoc newer (is.End t ∷ []) older)) all less
  ordered_in s newer (is.Checkpoint l ∷ older) e all less =
      ordered_in s (newer ++ is.Checkpoint l ∷ []) older
      (e ∙ sym (append_assoc newer (is.Checkpoint l ∷ []) older)) all less

  -- nobody there is open or commits
  status_there : (t : ℕ) (s : Status) → HasStatusOf (opened log) t s
      → IsClosed s × (MayCommit s → ⊥) × (IsDone s → is_among t (committed_in log) ≡ true)
  status_there t Open is = absurd (let wrong = is.does in cc)
  status_there t (Waiting n o) is = absurd (let wrong = is.0.does in cc)
  status_there t (Reading q) is = absurd (let wrong = is.does in cc)
  status_there t (Rolling s) is = absurd (let wrong = is.1.does in cc)
  status_there t Committing is =
      absurd (omega (arith, is.3, (end_number log t is.1 (inl is.2)).bounded))
  status_there t Committed is = (tt, (λ x. x), λ done. commit_among log t is.1 is.2)
  status_there t Losing is = (tt, (λ x. x), λ done. absurd done)
  status_there t Gone is = (tt, (λ x. x), λ done. absurd done)

-- what holds at each entry's key
by_keys : (m : Machine) (h : List Entry) → ((k : Bytes) → AllByRecursion (IsOwnedAt m k) h)
    → AllByRecursion (λ e. e.crossed ≡ false → IsOwned m e) h
by_keys m [] each = tt
by_keys m (e ∷ h) each = (
  (λ stands. let own = (each (key_of e.op)).0 stands refl in (own.0, inl own.1)),
  by_keys m h (λ k. (each k).1),
)

all_standing : (P : Entry → Type 0) (h : List Entry) → AllByRecursion (λ e. e.crossed ≡ false → P e) h
    → AllByRecursion P (standing h)
all_standing P [] all = tt
all_standing P (e ∷ h) all = grind (arith, all_standing P h all.1)

pub start_order : (log : List Record) (start : Machine) → IsStart log start → InOrder start (committed_in log)
start_order log start is =
    let none : (t : ℕ) → MayCommit (start.txns t).status → ⊥ =
    λ t. (status_there log is.legal t (start.txns t).status (is.stands.each t).status).1 in
    let counted : AllByRecursion (IsCounted log) (standing start.h) =
    subst (AllByRecursion (IsCounted log)) (sym is.stands.entries) (all_counted log) in
    let less : Pairs IsLess (standing start.h) =
    subst (Pairs IsLess) (sym is.stands.entries)
    (pairs_filtered IsLess (counts (opened log)) (hist log) (less_in log log)) in
    record {
      kept = record {
        told = told_opened log is.legal is.right start is.stands;
        owned = all_standing (IsOwned start) start.h
            (by_keys start start.h (λ k. (opened_is_at_rest log start k is.legal is.stands).owners));
        older = pairs_all (λ _. Unit {0}) (IsOlder start) (standing start.h) (λ g e x y may. absurd (none e.txn may))
            (all_true (λ _. Unit {0}) (standing start.h) (λ _. tt));
        apart = λ t u other may. absurd (none t may);
        each = λ t. record {
          begun = λ may. absurd (none t may);
          waits = nothing_awaited (standing start.h) t (start.txns t).spans (start.txns t).saves (start.txns t).status
              (none t);
          saved = λ may. absurd (none t may);
        };
      };
      asked = record {
        closed = λ t among. (status_there log is.legal t (start.txns t).status (is.stands.each t).status).0;
        all = λ t done. (status_there log is.legal t (start.txns t).status (is.stands.each t).status).2 done;
      };
      ordered = ordered_in log is.legal (standing start.h) [] log refl counted less;
    }
