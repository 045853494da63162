-- A transaction that is alone in a log in which all others have ended: it begins, inserts rows, and commits.
use Rattle.std.proofs.Common.{◌≡◌, ◌≢◌, ℕ, ◌+◌, ◌<◌, ◌≤◌, Bool, true, false, cond, List, [], ◌∷◌, length, Option, Some, None, IsSome, is_some, refl, sym, ap, ◌∙◌, subst, arith, inl, inr, true≢false, eq-eqb}
use Rattle.std.specs.Prelude.{◌==◌}
use Rattle.std.proofs.lemmas.Bool.{cases_eq, or_left}
use Rattle.record_key.specs.declared.op.Op.{Op}
use Rattle.record_key.specs.declared.op.Op.TheVariants.{Insert}
use Rattle.record_key.specs.declared.op.Answer.{Answer}
use Rattle.record_key.specs.declared.op.Answer.TheVariants.{Inserted}
use Rattle.record_key.specs.Rows.{Row}
use Rattle.record_key.specs.Table.{key_of, answer_at}
use Rattle.history.specs.declared.record.Record.{Record}
use Rattle.history.specs.declared.record.Record.TheVariants as is
use Rattle.history.specs.Legal.{IsLegal, IsLatestOrNone}
use Rattle.history.specs.Log.{before, answer_of, has_ended, request_of, step_of, IsOpen, IsStepOf, Requests}
use Rattle.history.specs.Values.{value_on, IsRight}
use Rattle.log_laws.proofs.Records.{ARequest, AStep, IsNumber, at_newest, newest_at, at_older, older_at, which, before_new}
use Rattle.log_laws.proofs.LegalLogs.{answered_push, begun_number, kept_begun, request_number, step_number, unanswered_next}
use Rattle.log_laws.proofs.Named.{txn_below, open_begun, open_had}
use Rattle.tc_rewriting.specs.Written.{with_row, AllAreAnswered, AllHaveEnded, IsWriting}

-- a record that requests nothing leaves all answered that was
answered_on : (r : Record) (log : List Record) → request_of r ≡ None → AllAreAnswered log → AllAreAnswered (r ∷ log)
answered_on r log none all n o asks =
    elim (cases_eq n (length log + 1)) [
      | inl e ↦ let same : request_of r ≡ Some o = newest_at (ARequest o) r log n e asks in absurd (cc)
      | inr e ↦ answered_push n r log (all n o (older_at (ARequest o) r log n e asks))
    ]

-- a record that is no Begin opens nobody
opens_none : (r : Record) (log : List Record) (u : ℕ) → r ≢ is.Begin → IsOpen (r ∷ log) u → IsOpen log u
opens_none r log u other h =
    elim (which r log u (begun_number (r ∷ log) u h.begun)) [
      | inl e ↦ let same : Some r ≡ Some is.Begin = newest_at (λ x. x ≡ Some is.Begin) r log u e h.begun in
          absurd (other (cc))
      | inr was ↦ open_had r log u was h
    ]

pub empty_ended : AllHaveEnded []
empty_ended = record {
  legal = tt;
  right = tt;
  answered = λ n o asks. cc;
  ended = λ t o. let none : None ≡ Some is.Begin = o.begun in cc;
}

-- a transaction begins: it is alone
begins_alone : (log : List Record) (u : ℕ) → AllHaveEnded log → IsOpen (is.Begin ∷ log) u → u ≡ length log + 1
begins_alone log u h o =
    elim (which is.Begin log u (begun_number (is.Begin ∷ log) u o.begun)) [
      | inl e ↦ e
      | inr was ↦ absurd (h.ended u (open_had is.Begin log u was o))
    ]

pub begin_writes : (log : List Record) → AllHaveEnded log → IsWriting (is.Begin ∷ log) (length log + 1) 0
begin_writes log h =
    let legal : IsLegal (is.Begin ∷ log) = (tt, h.legal) in
    record {
      legal = legal;
      right = h.right;
      answered = answered_on is.Begin log refl h.answered;
      is_open = open_begun log h.legal;
      alone = λ u o. begins_alone log u h o;
      latest = inr (
        refl,
        λ m step.
            let below : length log + 1 < m = txn_below (is.Begin ∷ log) (length log + 1) m legal step in
            let most : m ≤ length (is.Begin ∷ log) = (step_number (is.Begin ∷ log) m (length log + 1) step).bounded in
            omega (arith, below, most),
      );
    }

-- it inserts a row
module _ (log : List Record) (t prev : ℕ) (row : Row) (h : IsWriting log t prev) (lacks : value_on row.0 log ≡ None)
  where
    abbrev o : Op
    o = Insert row.0 row.1

    abbrev op : Record
    op = is.Op t prev o

    abbrev mid : List Record
    mid = op ∷ log

    abbrev n : ℕ
    n = length log + 1

    pub legal_mid : IsLegal mid
    legal_mid = (
      record {
        open_txn = h.is_open;
        idle = λ m q step asks. h.answered m q asks;
        prev = h.latest;
        free = λ m u q by same goes. inl (h.alone u goes);
      },
      h.legal,
    )

    asks_mid : Requests mid n o
    asks_mid = at_newest (ARequest o) op log n refl refl

    none_of : (a : Option Answer) → is_some a ≡ false → a ≡ None
    none_of None e = refl
    none_of (Some a) e = absurd (true≢false e)

    pub legal_row : IsLegal (with_row t prev row log)
    legal_row = (
      record {
        op = o;
        requested = asks_mid;
        unanswered = none_of (answer_of log n) (unanswered_next log h.legal);
      },
      legal_mid,
    )

    right_row : IsRight mid n Inserted
    right_row q asks =
        let same : Some o ≡ Some q = newest_at (ARequest q) op log n refl asks in
        let is : o ≡ q = cc in
        subst (λ (x : Op). Inserted ≡ answer_at x (value_on (key_of x) (before mid n))) is
        (sym (ap (λ l. answer_at o (value_on row.0 l)) (before_new op log n refl) ∙ ap (answer_at o) lacks))

    answered_row : AllAreAnswered (with_row t prev row log)
    answered_row m q asks =
        elim (which (is.Answer n Inserted) mid m (step_of_request m q asks)) [
          | inl e ↦
              let same : request_of (is.Answer n Inserted) ≡ Some q =
              newest_at (ARequest q) (is.Answer n Inserted) mid m e asks in absurd (cc)
          | inr was ↦ by m q (older_at (ARequest q) (is.Answer n Inserted) mid m
              (λ e. omega (arith, e, was.bounded)) asks)
        ]
      where
        step_of_request : (m : ℕ) (q : Op) → Requests (with_row t prev row log) m q
            → IsNumber (with_row t prev row log) m
        step_of_request m q asks = request_number (with_row t prev row log) m q asks

        by : (m : ℕ) (q : Op) → Requests mid m q → IsSome (answer_of (with_row t prev row log) m)
        by m q asks =
            elim (cases_eq m n) [
              | inl e ↦ subst (λ (b : Bool). IsSome (cond b (Some Inserted) (answer_of log m))) (sym (eq-eqb m n e)) refl
              | inr e ↦ answered_push m (is.Answer n Inserted) mid
                  (answered_push m op log (h.answered m q (older_at (ARequest q) op log m e asks)))
            ]

    latest_row : IsLatestOrNone (IsStepOf (with_row t prev row log) t) n
    latest_row = inl (record {
      is = at_older (AStep t) (is.Answer n Inserted) mid n (λ e. omega (arith, e)) (at_newest (AStep t) op log n refl refl);
      greatest = λ m step.
          let number = step_number (with_row t prev row log) m t step in
          elim (which (is.Answer n Inserted) mid m number) [
            | inl e ↦
                let same : step_of (is.Answer n Inserted) ≡ Some t =
                newest_at (AStep t) (is.Answer n Inserted) mid m e step in absurd (cc)
            | inr was ↦ omega (arith, was.bounded)
          ];
    })

    pub row_writes : IsWriting (with_row t prev row log) t n
    row_writes = record {
      legal = legal_row;
      right = (right_row, h.right);
      answered = answered_row;
      is_open = record {
        begun = kept_begun (is.Answer n Inserted) mid t (kept_begun op log t h.is_open.begun);
        goes_on = h.is_open.goes_on;
      };
      alone = λ u goes. h.alone u (opens_none op log u (λ e. cc) (opens_none (is.Answer n Inserted) mid u (λ e. cc) goes));
      latest = latest_row;
    }

-- it commits, and nobody is left
pub commit_ends : (log : List Record) (t prev : ℕ) → IsWriting log t prev → AllHaveEnded (is.Commit t ∷ log)
commit_ends log t prev h = record {
  legal = (record { open_txn = h.is_open; idle = λ m q step asks. h.answered m q asks }, h.legal);
  right = h.right;
  answered = answered_on (is.Commit t) log refl h.answered;
  ended = λ u goes.
      let was : IsOpen log u = opens_none (is.Commit t) log u (λ e. cc) goes in
      let same : u ≡ t = h.alone u was in
      let ended : has_ended (is.Commit t ∷ log) u ≡ true = or_left (u == t) (has_ended log u) (eq-eqb u t same) in
      absurd (true≢false (sym ended ∙ goes.goes_on));
}
