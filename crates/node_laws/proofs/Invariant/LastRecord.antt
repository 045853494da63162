-- The last record of a log that isn't a Session.
use Rattle.std.proofs.Common.{◌≡◌, ◌⊎◌, ℕ, ◌+◌, ◌-◌, ◌<◌, ◌≤◌, zero, suc, List, [], ◌∷◌, ◌++◌, length, Some, refl, sym, ap, ◌∙◌, subst, arith, inl, inr}
use Rattle.std.specs.Prelude.{drop}
use Rattle.std.specs.List.{AllByRecursion}
use Rattle.std.proofs.lemmas.Bool.{cases_eq}
use Rattle.std.proofs.lemmas.List.{length-append, drop-drop}
use Rattle.record_key.specs.declared.op.Op.{Op}
use Rattle.history.specs.declared.record.Record.{Record}
use Rattle.history.specs.declared.record.Record.TheVariants as is
use Rattle.history.specs.Log.{record_at, request_in, Requests}
use Rattle.log_laws.proofs.Records.{ARequest, no_request, newest_at, older_at, record_new, record_old}
use Rattle.framed_log.specs.Beginning.{beginning}
use Rattle.tc_log.specs.LogView.{last_not_session}
use Rattle.framed_log.proofs.Beginning.{of_beginning}

abbrev pub AreAllSessions : List Record → Type 0
AreAllSessions log = AllByRecursion (λ r. r ≡ is.Session) log

-- a record is a session, or the last that isn't
pub session_or : (r : Record) → (r ≡ is.Session) ⊎ ((log : List Record) → last_not_session (r ∷ log) ≡ length log + 1)
session_or is.Session = inl refl
session_or is.Begin = inr (λ log. refl)
session_or (is.Op t p o) = inr (λ log. refl)
session_or (is.Answer n a) = inr (λ log. refl)
session_or (is.Comp t u x i) = inr (λ log. refl)
session_or (is.Commit t) = inr (λ log. refl)
session_or (is.End t) = inr (λ log. refl)
session_or (is.Checkpoint l) = inr (λ log. refl)

-- a session asks for nothing
pub session_asks : (r : Record) (o : Op) → r ≡ is.Session → ARequest o (Some r) → ⊥
session_asks r o same asks =
    let none : request_in (Some is.Session) ≡ Some o = subst (λ (q : Record). ARequest o (Some q)) same asks in
    absurd (cc)

-- the sessions at a log's end, and the rest, whose last record it is
pub record ArePartsOf (log : List Record) : Type 0 where
  pub above : List Record
  pub older : List Record
  pub is : log ≡ above ++ older
  pub sessions : AreAllSessions above
  pub end : length older ≡ last_not_session log

pub parts : (log : List Record) → ArePartsOf log
parts [] = record { above = []; older = []; is = refl; sessions = tt; end = refl }
parts (r ∷ log) = elim (session_or r) [
  | inl session ↦
      let rest = parts log in
      let last : last_not_session (r ∷ log) ≡ last_not_session log =
      subst (λ (q : Record). last_not_session (q ∷ log) ≡ last_not_session log) (sym session) refl in
      record {
        above = r ∷ rest.above;
        older = rest.older;
        is = ap (λ (l : List Record). r ∷ l) rest.is;
        sessions = (session, rest.sessions);
        end = rest.end ∙ sym last;
      }
  | inr last ↦
      record { above = []; older = r ∷ log; is = refl; sessions = tt; end = omega (arith, last log) }
]

pub last_within : (log : List Record) → last_not_session log ≤ length log
last_within log =
    let p = parts log in omega (arith, p.end, ap length p.is, length-append p.above p.older)

-- sessions above leave it
pub last_above : (since common : List Record) → AreAllSessions since
    → last_not_session (since ++ common) ≡ last_not_session common
last_above [] common all = refl
last_above (r ∷ since) common all =
    subst (λ (q : Record). last_not_session (q ∷ (since ++ common)) ≡ last_not_session common) (sym all.0)
    (last_above since common all.1)

-- it grows with the log
last_grows : (r : Record) (log : List Record) → last_not_session log ≤ last_not_session (r ∷ log)
last_grows r log = elim (session_or r) [
  | inl session ↦
      subst (λ (q : Record). last_not_session log ≤ last_not_session (q ∷ log)) (sym session) (omega arith)
  | inr last ↦ omega (arith, last log, last_within log)
]

last_dropped : (k : ℕ) (log : List Record) → last_not_session (drop k log) ≤ last_not_session log
last_dropped zero log = omega arith
last_dropped (suc k) [] = omega arith
last_dropped (suc k) (r ∷ log) = omega (arith, last_dropped k log, last_grows r log)

pub last_part : (log : List Record) (end : ℕ) → last_not_session (beginning log end) ≤ last_not_session log
last_part log end = last_dropped (length log - end) log

-- so does that of the first records, so many
pub last_parts : (log : List Record) (s t : ℕ) → s ≤ t → t ≤ length log
    → last_not_session (beginning log s) ≤ last_not_session (beginning log t)
last_parts log s t le within =
    let e : length log - s ≡ (length log - t) + (t - s) = omega (arith, le, within) in
    let same : beginning log s ≡ drop (t - s) (beginning log t) =
    ap (λ k. drop k log) e ∙ sym (drop-drop (t - s) (length log - t) log) in
    subst (λ (l : List Record). last_not_session l ≤ last_not_session (beginning log t)) (sym same)
    (last_dropped (t - s) (beginning log t))

-- a beginning that has it has the same
pub last_left : (log : List Record) (n : ℕ) → last_not_session log ≤ n → n ≤ length log
    → last_not_session (beginning log n) ≡ last_not_session log
last_left log n has within =
    of_beginning (λ (l : List Record). last_not_session l ≡ last_not_session log) n
    (λ r rest le same. elim (session_or r) [
      | inl session ↦ subst (λ (q : Record). last_not_session (q ∷ rest) ≡ last_not_session log) session same
      | inr last ↦ absurd (omega (arith, last rest, same, has, le))
    ]) log refl

-- no request is later
pub request_last : (log : List Record) (n : ℕ) (o : Op) → Requests log n o → n ≤ last_not_session log
request_last [] n o asks = absurd (no_request o asks)
request_last (r ∷ log) n o asks =
    elim (cases_eq n (length log + 1)) [
      | inl e ↦ elim (session_or r) [
        | inl session ↦ absurd (session_asks r o session (newest_at (ARequest o) r log n e asks))
        | inr last ↦ omega (arith, e, last log)
      ]
      | inr apart ↦
          omega (arith, request_last log n o (older_at (ARequest o) r log n apart asks), last_grows r log)
    ]

-- above it stand sessions
pub session_at : (above older : List Record) → AreAllSessions above → (n : ℕ) → length older < n
    → n ≤ length (above ++ older) → record_at (above ++ older) n ≡ Some is.Session
session_at [] older all n over within = absurd (omega (arith, over, within))
session_at (r ∷ above) older all n over within =
    elim (cases_eq n (length (above ++ older) + 1)) [
      | inl e ↦
          ap (record_at (r ∷ (above ++ older))) e ∙ record_new r (above ++ older) ∙ ap Some all.0
      | inr apart ↦
          record_old r (above ++ older) n apart
          ∙ session_at above older all.1 n over (omega (arith, within, apart))
    ]

-- the records that more stand above are as they were
pub record_below : (lost common : List Record) (n : ℕ) → n ≤ length common
    → record_at (lost ++ common) n ≡ record_at common n
record_below [] common n within = refl
record_below (r ∷ lost) common n within =
    record_old r (lost ++ common) n (λ e. omega (arith, e, within, length-append lost common))
    ∙ record_below lost common n within
