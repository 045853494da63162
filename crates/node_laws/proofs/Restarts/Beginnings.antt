-- What stays of a log with each record less, as long as enough are left.
use Rattle.std.proofs.Common.{ℕ, ◌≤◌, List, ◌∷◌, length, ap, ◌∙◌, arith}
use Rattle.record_key.specs.declared.op.Op.{Op}
use Rattle.record_key.specs.declared.op.Answer.{Answer}
use Rattle.record_key.specs.Table.{key_of, answer_at}
use Rattle.history.specs.declared.record.Record.{Record}
use Rattle.history.specs.Log.{Requests}
use Rattle.history.specs.Values.{value_on, IsRight}
use Rattle.log_laws.proofs.Records.{ARequest, older_at, kept_at, before_old, not_newest}
use Rattle.log_laws.proofs.LegalLogs.{request_number}

-- with a record less it stays, as long as so many are left
abbrev pub StaysTo : ℕ → (List Record → Type 0) → Type 0
StaysTo end P = (r : Record) (log : List Record) → end ≤ length log → P (r ∷ log) → P log

-- a request of a number that is left
pub request_less : (n : ℕ) (o : Op) → StaysTo n (λ log. Requests log n o)
request_less n o r log within h = older_at (ARequest o) r log n (λ e. omega (arith, e, within)) h

-- a right answer, of any number
pub right_less : (end n : ℕ) (a : Answer) → StaysTo end (λ log. IsRight log n a)
right_less end n a r log within h o asks =
    let number = request_number log n o asks in
    h o (kept_at (ARequest o) r log n number asks)
    ∙ ap (λ x. answer_at o (value_on (key_of o) x)) (before_old r log n (not_newest log n number))
