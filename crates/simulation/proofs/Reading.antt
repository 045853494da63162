-- What is opened on a legal log stands for the machine that the log tells of.
use Rattle.std.proofs.Common.{◌≡◌, ℕ, ◌+◌, ◌≤◌, ◌==◌, Bool, true, false, List, [], ◌∷◌, length, Option, Some, None, IsSome, is_some, refl, sym, ap, ◌∙◌, subst, arith, inl, inr, true≢false, ◌⊎◌, ◌↔◌}
use Rattle.std.specs.Prelude.{map, filter, not, ◌&&◌, if◌then◌else◌}
use Rattle.std.specs.List.{AllByRecursion}
use Rattle.std.proofs.lemmas.Bool.{cases_Bool, cases_eq, cases_lt, or_left, eq-eqb}
use Rattle.record_key.specs.declared.op.Op.{Op}
use Rattle.record_key.specs.declared.op.Answer.{Answer}
use Rattle.history.specs.declared.record.Record.{Record}
use Rattle.history.specs.declared.record.Record.TheVariants as is
use Rattle.history.specs.History.{Entry}
use Rattle.history.specs.Log.{record_at, before, answer_of, has_ended, op_of, op_in, IsOpen, IsOpBy, hist, hist_in}
use Rattle.history.specs.Legal.{IsLegal, FitsOp}
use Rattle.history.specs.Spans.{Span, changed_span}
use Rattle.log_laws.proofs.Records.{AnOp, op_step, op_request, op_same, newest_at, older_at, at_newest, at_older, had_at, kept_at, which, not_newest, record_before, since}
use Rattle.log_laws.proofs.LegalLogs.{answered_push, begun, begun_number, fits_at, op_number}
use Rattle.log_laws.proofs.Strict.{end_number, ended_answered}
use Rattle.log_laws.proofs.Undo.{op_record}
use Rattle.simulation.specs.View.{counts, standing, is_begin, is_left_open, opened, HasStatusOf, HasSavesOf, IsUnentered, HoldsAs, HasEntry, IsAmong, IsUntold, IsRecorded, IsTxnOf, StandsFor}
use Rattle.simulation.specs.Reading.{also_by, operations_of, last_of, has_committed, status_read, spans_read, machine_read, OpenedIsRead}
use Rattle.simulation.proofs.Beginnings.{begin_is, left_open, left_ended, left_unbegun, begins, end_at}
use Rattle.simulation.proofs.Entries.{marked, marked_all, marked_falling, marked_entry, uncross_marked, filter_twice, entry_of, hist_step}
use Rattle.simulation.proofs.Placing.{all_hist, hist_falling}

-- crossing losers out leaves what counts
swapped : (l c : Bool) → (not l && not c) ≡ (not c && (not l && true))
swapped true true = refl
swapped true false = refl
swapped false true = refl
swapped false false = refl

-- whoever is left open has begun and goes on
open_left : (log : List Record) (t : ℕ) → is_left_open log t ≡ true → IsOpen log t
open_left log t left =
    elim (begins log t) [
      | inl begun ↦
          record {
            begun = begun;
            goes_on = elim (cases_Bool (has_ended log t)) [
              | inl e ↦ absurd (true≢false (sym left ∙ left_ended log t e))
              | inr e ↦ e
            ];
          }
      | inr unbegun ↦ absurd (true≢false (sym left ∙ left_unbegun log t unbegun))
    ]

-- where a Commit stands
record CommitAt (log : List Record) (t : ℕ) : Type 0 where
  pub number : ℕ
  pub is_commit : record_at log number ≡ Some (is.Commit t)

commit_cases : (t : ℕ) (r : Record) (log : List Record) → has_committed (r ∷ log) t ≡ true
    → (has_committed log t ≡ true) ⊎ (r ≡ is.Commit t)
commit_cases t r log h = grind arith

commit_at : (log : List Record) (t : ℕ) → has_committed log t ≡ true → CommitAt log t
commit_at [] t h = absurd (true≢false (sym h))
commit_at (r ∷ log) t h =
    elim (commit_cases t r log h) [
      | inl ago ↦
          let was = commit_at log t ago in
          record {
            number = was.number;
            is_commit = at_older (λ x. x ≡ Some (is.Commit t)) r log was.number
                (not_newest log was.number (end_number log t was.number (inl was.is_commit))) was.is_commit;
          }
      | inr now ↦
          record {
            number = length log + 1;
            is_commit = at_newest (λ x. x ≡ Some (is.Commit t)) r log (length log + 1) refl (ap Some now);
          }
    ]

-- where it has one it has committed
committed_push : (t : ℕ) (r : Record) (log : List Record) → has_committed log t ≡ true
    → has_committed (r ∷ log) t ≡ true
committed_push t r log h = grind arith

commit_commits : (log : List Record) (t n : ℕ) → record_at log n ≡ Some (is.Commit t) → has_committed log t ≡ true
commit_commits [] t n h = absurd (cc)
commit_commits (r ∷ log) t n h =
    elim (cases_eq n (length log + 1)) [
      | inl e ↦
          let newest : Some r ≡ Some (is.Commit t) = newest_at (λ x. x ≡ Some (is.Commit t)) r log n e h in
          let same : r ≡ is.Commit t = cc in
          rw (same, eq-eqb t t refl) refl
      | inr e ↦ committed_push t r log
          (commit_commits log t n (older_at (λ x. x ≡ Some (is.Commit t)) r log n e h))
    ]

-- whoever has begun, is left open by nobody and has no Commit has its End
end_stands : (log : List Record) (t : ℕ) → record_at log t ≡ Some is.Begin → is_left_open log t ≡ false
    → has_committed log t ≡ false → (n : ℕ) × (record_at log n ≡ Some (is.End t))
end_stands log t begun shut uncommitted =
    elim (cases_Bool (has_ended log t)) [
      | inl ended ↦
          let at = end_at log t ended in
          elim at.is_end [
            | inl commit ↦ absurd (true≢false (sym (commit_commits log t at.end commit) ∙ uncommitted))
            | inr end ↦ (at.end, end)
          ]
      | inr goes_on ↦
          absurd (true≢false (sym (left_open log t (record { begun = begun; goes_on = goes_on })) ∙ shut))
    ]

-- an operation is among its transaction's
abbrev IsIn : ℕ → Op → List (ℕ × Op) → Type 0
IsIn n o [] = ⊥
IsIn n o (x ∷ xs) = (x ≡ (n, o)) ⊎ IsIn n o xs

in_if : (n t u m : ℕ) (o q : Op) (b : Bool) (xs : List (ℕ × Op)) → IsIn n o xs
    → IsIn n o (if b then (m, q) ∷ xs else xs)
in_if n t u m o q b xs h = grind arith

in_more : (n t m : ℕ) (o : Op) (by : Option (ℕ × Op)) (xs : List (ℕ × Op)) → IsIn n o xs
    → IsIn n o (also_by t m by xs)
in_more n t m o by xs h = grind arith

in_newest : (n t m : ℕ) (o : Op) (by : Option (ℕ × Op)) (xs : List (ℕ × Op)) → n ≡ m → by ≡ Some (t, o)
    → IsIn n o (also_by t m by xs)
in_newest n t m o by xs e is = rw (is, eq-eqb t t refl, e) (inl refl)

op_in_ops : (log : List Record) (t n : ℕ) (o : Op) → IsOpBy log n t o → IsIn n o (operations_of log t)
op_in_ops [] t n o by = absurd (cc)
op_in_ops (r ∷ log) t n o by =
    elim (which r log n (op_number (r ∷ log) n t o by)) [
      | inl e ↦ in_newest n t (length log + 1) o (op_of r) (operations_of log t) e (newest_at (AnOp t o) r log n e by)
      | inr was ↦ in_more n t (length log + 1) o (op_of r) (operations_of log t)
          (op_in_ops log t n o (had_at (AnOp t o) r log n was by))
    ]

-- and each of these is one
from_newest : (n t m : ℕ) (o : Op) (by : Option (ℕ × Op)) (xs : List (ℕ × Op)) → IsIn n o (also_by t m by xs)
    → ((n ≡ m) × (by ≡ Some (t, o))) ⊎ IsIn n o xs
from_newest n t m o by xs h = grind arith

ops_are_ops : (log : List Record) (t n : ℕ) (o : Op) → IsIn n o (operations_of log t) → IsOpBy log n t o
ops_are_ops [] t n o h = absurd h
ops_are_ops (r ∷ log) t n o h =
    elim (from_newest n t (length log + 1) o (op_of r) (operations_of log t) h) [
      | inl now ↦ at_newest (AnOp t o) r log n now.0 now.1
      | inr ago ↦
          let was = ops_are_ops log t n o ago in
          kept_at (AnOp t o) r log n (op_number log n t o was) was
    ]

last_in : (xs : List (ℕ × Op)) (n : ℕ) (o : Op) → last_of xs ≡ Some (n, o) → IsIn n o xs
last_in [] n o h = absurd (cc)
last_in (x ∷ xs) n o h = inl (cc)

-- the last of them is the greatest
record LastAbove (xs : List (ℕ × Op)) (n : ℕ) : Type 0 where
  pub number : ℕ
  pub op : Op
  pub last : last_of xs ≡ Some (number, op)
  pub above : n ≤ number

last_newest : (n t m : ℕ) (by : Option (ℕ × Op)) (xs : List (ℕ × Op)) → n ≤ m → LastAbove xs n
    → LastAbove (also_by t m by xs) n
last_newest n t m None xs le was = was
last_newest n t m (Some (u, q)) xs le was = by (u == t)
  where
    by : (b : Bool) → LastAbove (if b then (m, q) ∷ xs else xs) n
    by true = record { number = m; op = q; last = refl; above = le }
    by false = was

last_above : (log : List Record) (t n : ℕ) (o : Op) → IsOpBy log n t o → LastAbove (operations_of log t) n
last_above [] t n o by = absurd (cc)
last_above (r ∷ log) t n o by =
    elim (which r log n (op_number (r ∷ log) n t o by)) [
      | inl e ↦
          rw (newest_at (AnOp t o) r log n e by, eq-eqb t t refl)
          (record { number = length log + 1; op = o; last = refl; above = omega (arith, e) })
      | inr was ↦ last_newest n t (length log + 1) (op_of r) (operations_of log t) (omega (arith, was.bounded))
          (last_above log t n o (had_at (AnOp t o) r log n was by))
    ]

-- an operation that isn't answered is its transaction's last
unanswered_is_last : (log : List Record) (t n : ℕ) (o : Op) → IsLegal log → IsOpBy log n t o
    → answer_of log n ≡ None → last_of (operations_of log t) ≡ Some (n, o)
unanswered_is_last log t n o legal by none =
    let found = last_above log t n o by in
    let m = found.number in
    let q = found.op in
    let latest : IsOpBy log m t q = ops_are_ops log t m q (last_in (operations_of log t) m q found.last) in
    elim (cases_lt n m) [
      | inl lt ↦
          let at = op_record t q (record_at log m) latest in
          let fits : FitsOp (before log m) t at.0 q = fits_at log m (is.Op t at.0 q) legal at.1 in
          let same = record_before log n m (op_number log m t q latest) lt in
          let earlier : IsOpBy (before log m) n t o = ap op_in same ∙ by in
          let answered : IsSome (answer_of (before log m) n) =
          fits.idle n o (op_step t o (record_at (before log m) n) earlier)
          (op_request t o (record_at (before log m) n) earlier) in
          let still : IsSome (answer_of log n) =
          since (λ l. IsSome (answer_of l n)) (λ r l h. answered_push n r l h) log m answered in
          absurd (true≢false (sym still ∙ ap is_some none))
      | inr ge ↦
          let equal : m ≡ n = omega (arith, ge, found.above) in
          let both = op_same t t q o (record_at log n) (subst (λ (x : ℕ). IsOpBy log x t q) equal latest) by in
          found.last ∙ (λ i. Some (equal i, both.1 i))
    ]

-- one that is answered has its entry
entry_or_older : (log : List Record) (m n t : ℕ) (o : Op) (by : Option (ℕ × Op)) (h : List Entry) → HasEntry h n t o
    → HasEntry (entry_of log m by h) n t o
entry_or_older log m n t o by h has = grind arith

answered_entry : (log rest : List Record) (n t : ℕ) (o : Op) (a : Answer) → IsOpBy rest n t o
    → answer_of log n ≡ Some a → HasEntry (hist_in log rest) n t o
answered_entry log [] n t o a by answered = absurd (cc)
answered_entry log (r ∷ rest) n t o a by answered =
    rw (hist_step log r rest)
    (elim (which r rest n (op_number (r ∷ rest) n t o by)) [
      | inl e ↦ rw (newest_at (AnOp t o) r rest n e by, sym e, answered) (inl (refl, refl, refl))
      | inr was ↦ entry_or_older log (length rest + 1) n t o (op_of r) (hist_in log rest)
          (answered_entry log rest n t o a (had_at (AnOp t o) r rest n was by) answered)
    ])

-- the keys of operations
among_keys : (xs : List (ℕ × Op)) (n : ℕ) (o : Op) → IsIn n o xs
    → IsAmong (changed_span o) (map (λ x. changed_span x.1) xs)
among_keys [] n o h = absurd h
among_keys (x ∷ xs) n o (inl e) = inl (sym (ap (λ (y : ℕ × Op). changed_span y.1) e))
among_keys (x ∷ xs) n o (inr h) = inr (among_keys xs n o h)

keys_among : (xs : List (ℕ × Op)) (s : Span) → IsAmong s (map (λ x. changed_span x.1) xs)
    → (n : ℕ) × (o : Op) × IsIn n o xs × (s ≡ changed_span o)
keys_among [] s h = absurd h
keys_among (x ∷ xs) s (inl e) = (x.0, x.1, inl refl, e)
keys_among (x ∷ xs) s (inr h) = let k = keys_among xs s h in (k.0, k.1, inr k.2, k.3)

module _ (log : List Record) (legal : IsLegal log)
  where
    abbrev loses : ℕ → ℕ → Bool
    loses t n = is_left_open log t

    abbrev h : List Entry
    h = map (marked loses) (hist log)

    entries_read : standing h ≡ filter (counts (opened log)) (hist log)
    entries_read =
        uncross_marked loses (hist log)
        ∙ filter_twice (λ e. not (is_left_open log e.txn)) (λ e. not e.crossed) (hist log)
        ∙ ap (λ (p : Entry → Bool). filter p (hist log)) (λ i e. swapped (is_left_open log e.txn) e.crossed i)

    recorded_read : AllByRecursion (IsRecorded log) h
    recorded_read =
        marked_all (IsRecorded log) (IsRecorded log) loses (hist log)
        (λ e r. record { is = r.is; lost = λ none. or_left e.crossed (is_left_open log e.txn) (r.lost none) })
        (all_hist (IsRecorded log) log log (λ n t o by a. record {
          is = λ some. by;
          lost = λ none. absurd (omega (arith, none, (op_number log n t o by).positive));
        }))

    -- whoever has an operation without an answer is left open
    left_unanswered : (t n : ℕ) (o : Op) → IsOpBy log n t o → answer_of log n ≡ None → is_left_open log t ≡ true
    left_unanswered t n o by none =
        left_open log t (record {
          begun = begun log t n legal (op_step t o (record_at log n) by);
          goes_on = elim (cases_Bool (has_ended log t)) [
            | inl ended ↦
                let answered : IsSome (answer_of log n) =
                ended_answered log t n o legal ended (op_step t o (record_at log n) by)
                (op_request t o (record_at log n) by) in
                absurd (true≢false (sym answered ∙ ap is_some none))
            | inr e ↦ e
          ];
        })

    entered_read : (t n : ℕ) (o : Op) (b c : Bool) → is_left_open log t ≡ b → IsOpBy log n t o
        → HasEntry h n t o ⊎ ((last_of (operations_of log t) ≡ Some (n, o)) × IsUntold (status_read b c))
    entered_read t n o b c left by = of (answer_of log n) refl
      where
        untold : (b : Bool) → b ≡ true → IsUntold (status_read b c)
        untold true e = tt
        untold false e = absurd (true≢false (sym e))

        of : (a : Option Answer) → answer_of log n ≡ a
            → HasEntry h n t o ⊎ ((last_of (operations_of log t) ≡ Some (n, o)) × IsUntold (status_read b c))
        of (Some a) is = inl (marked_entry loses (hist log) n t o (answered_entry log log n t o a by is))
        of None is = inr (
          unanswered_is_last log t n o legal by is,
          untold b (sym left ∙ left_unanswered t n o by is),
        )

    status_is : (t : ℕ) (b c : Bool) → is_left_open log t ≡ b → has_committed log t ≡ c
        → HasStatusOf (opened log) t (status_read b c)
    status_is t true c left committed = record {
      quiet = record { does_none = refl; loses_so = left };
      open_txn = open_left log t left;
      stable = (begun_number log t (open_left log t left).begun).bounded;
      found = λ n o by. (op_number log n t o by).bounded;
    }
    status_is t false true left committed =
        let at = commit_at log t committed in (
          record { does_none = refl; loses_so = left },
          at.number,
          at.is_commit,
          (end_number log t at.number (inl at.is_commit)).bounded,
        )
    status_is t false false left committed = (
      record { does_none = refl; loses_so = left },
      elim (begins log t) [ inl begun ↦ inl (end_stands log t begun left committed) | inr none ↦ inr none ],
    )

    spans_are : (t : ℕ) (b c : Bool)
        → HoldsAs (opened log) t (status_read b c) (spans_read b (operations_of log t))
    spans_are t true c = record {
      each = λ s among. let k = keys_among (operations_of log t) s among in
          (k.0, k.1, ops_are_ops log t k.0 k.1 k.2, k.3);
      all = λ n o by. among_keys (operations_of log t) n o (op_in_ops log t n o by);
    }
    spans_are t false true = refl
    spans_are t false false = refl

    begun_is : (r : Option Record) → (is_begin r ≡ true) ↔ (r ≡ Some is.Begin)
    begun_is r = (begin_is r, λ e. ap is_begin e)

    txn_is : (t : ℕ) (b c : Bool) → is_left_open log t ≡ b → has_committed log t ≡ c
        → IsTxnOf (opened log) h t (record {
          begun = is_begin (record_at log t);
          status = status_read b c;
          saves = [];
          last = last_of (operations_of log t);
          spans = spans_read b (operations_of log t);
        })
    txn_is t b c left committed = record {
      begun = begun_is (record_at log t);
      status = status_is t b c left committed;
      saves = saves b c;
      spans = spans_are t b c;
      unentered = unentered b c;
      logged = λ n o is. ops_are_ops log t n o (last_in (operations_of log t) n o is);
      entered = λ n o by. entered_read t n o b c left by;
    }
      where
        saves : (b c : Bool) → HasSavesOf (opened log) h t (status_read b c) []
        saves true c = tt
        saves false true = tt
        saves false false = tt

        unentered : (b c : Bool) → IsUnentered h (status_read b c)
        unentered true c = tt
        unentered false true = tt
        unentered false false = tt

    stands_read : StandsFor (opened log) (machine_read log)
    stands_read = record {
      entries = entries_read;
      falling = marked_falling loses (hist log) (hist_falling log log);
      recorded = recorded_read;
      each = λ t. txn_is t (is_left_open log t) (has_committed log t) refl refl;
    }

pub opened_is_read : OpenedIsRead
opened_is_read log legal = stands_read log legal
