-- Up to where every request of a log is answered.
use Rattle.std.proofs.Common.{◌≡◌, ℕ, Bool, true, false, List, [], ◌∷◌, Option, Some, None, IsSome, is_some, zero, suc, refl, arith}
use Rattle.std.specs.Prelude.{drop, not, ◌||◌, ◌&&◌}
use Rattle.record_key.specs.declared.op.Op.{Op}
use Rattle.history.specs.declared.record.Record.{Record}
use Rattle.history.specs.Log.{record_at, answer_of, request_in, Requests}
use Rattle.history.specs.Legal.{FitsCheckpoint}
use Rattle.log_laws.proofs.Records.{ARequest, older_at}
use Rattle.log_laws.proofs.LegalLogs.{answered_push}
use Rattle.tc_log.specs.Index.{is_answered, lacks_answer}

-- a request of the next number is answered, where the test says so
answered_if : (asked : Option Op) (o : Op) (b : Bool) → asked ≡ Some o → (not (is_some asked) || b) ≡ true → b ≡ true
answered_if None o b is test = absurd (cc)
answered_if (Some q) o b is test = test

pub answered_at : (log : List Record) (n : ℕ) (o : Op) → is_answered log n ≡ true → Requests log n o
    → IsSome (answer_of log n)
answered_at log n o test asks = answered_if (request_in (record_at log n)) o (is_some (answer_of log n)) asks test

-- the test passes where a request of the number is answered
pub test_of : (log : List Record) (n : ℕ) → ((o : Op) → Requests log n o → IsSome (answer_of log n))
    → is_answered log n ≡ true
test_of log n each = pick (request_in (record_at log n)) refl
  where
    pick : (q : Option Op) → request_in (record_at log n) ≡ q → (not (is_some q) || is_some (answer_of log n)) ≡ true
    pick None is = refl
    pick (Some o) is = each o is

-- it fails just where an answer is lacking
pub lacks_tells : (log : List Record) (n : ℕ) → not (is_answered log n) ≡ lacks_answer log n
lacks_tells log n = by (is_some (request_in (record_at log n))) (is_some (answer_of log n))
  where
    by : (a b : Bool) → not (not a || b) ≡ (a && not b)
    by true b = refl
    by false b = refl

-- what holds up to a number holds in a longer log
pub answered_longer : (r : Record) (log : List Record) (l : ℕ) → FitsCheckpoint log l → FitsCheckpoint (r ∷ log) l
answered_longer r log l h = record {
  within = omega (arith, h.within);
  answered = λ n o below asks. answered_push n r log
      (h.answered n o below (older_at (ARequest o) r log n (λ e. omega (arith, e, h.within)) asks));
}

-- so it holds of a log where it holds of a beginning
pub answered_whole : (k : ℕ) (log : List Record) (l : ℕ) → FitsCheckpoint (drop k log) l → FitsCheckpoint log l
answered_whole zero log l h = h
answered_whole (suc k) [] l h = h
answered_whole (suc k) (r ∷ log) l h = answered_longer r log l (answered_whole k log l h)
