-- What a line that was told answers.
use Rattle.std.proofs.Common.{◌≡◌, ℕ, Bool, true, false, Option, Some, None, refl, subst}
use Rattle.history.specs.ListMachine.{TellsAnswer, TellsRow, TellsRows, TellsBack, TellsRolledBack, TellsCommitted}
use Rattle.engine_guarded.specs.Hearing.{as_line}
use Rattle.engine_guarded.specs.declared.heard.Heard.{Heard}
use Rattle.engine_guarded.specs.declared.heard.Heard.TheVariants as heard
use Rattle.engine_guarded.specs.engine_history.specs.node_laws.specs.declared.event.Event.{Event}
use Rattle.engine_guarded.specs.engine_history.specs.node_laws.specs.declared.event.Event.TheVariants as event
use Rattle.engine_guarded.specs.engine_history.specs.node_laws.specs.declared.event.Out.{Out}
use Rattle.engine_guarded.specs.engine_history.specs.node_laws.specs.declared.event.Out.TheVariants as out
use Rattle.engine_guarded.specs.engine_answers.specs.Again.{IsAnswerTo}
use Rattle.engine_guarded.specs.engine_answers.specs.Asking.{both, event_of, is_answer, is_asked, is_back, is_committed, is_logged, is_rolled_back, is_rolling, is_row, is_rows, is_told_by}
use Rattle.engine_guarded.specs.engine_answers.specs.declared.ask.Ask.{Ask}
use Rattle.engine_guarded.specs.engine_answers.specs.declared.ask.Ask.TheVariants as ask
use Rattle.engine_guarded.specs.engine_answers.specs.declared.told.Told.{Told}
use Rattle.engine_guarded.specs.engine_answers.specs.declared.told.Told.TheVariants as told
use Rattle.engine_monitor.specs.Answering.{answer_in, back_in, committed_in, if_so, rolled_back_in, row_in, rows_in, sort_in, sort_of, told_as}

-- what is asked for is what its event is for
pub sort_is : (t : ℕ) (a : Ask) → sort_in (event_of t a) ≡ sort_of a
sort_is t (ask.Act op) = refl
sort_is t (ask.Get key) = refl
sort_is t (ask.Scan low high) = refl
sort_is t ask.Save = refl
sort_is t (ask.GoBack s) = refl
sort_is t ask.Rollback = refl
sort_is t ask.Commit = refl

-- ---- where it answers

answered : (P : Told → Type 0) (x a : Told) → Some x ≡ Some a → P x → P a
answered P x a is p = let same : x ≡ a = cc (is) in subst P same p

pub telling : (e : Event) (o : Out) (u : ℕ) (h : Heard) (a : Told) → told_as (sort_in e) o h ≡ Some a
    → IsAnswerTo e o (as_line u h) a
telling (event.Act t op) (out.Logged n) u (heard.Answer x) a is =
    answered (IsAnswerTo (event.Act t op) (out.Logged n) (TellsAnswer u x)) (told.Answer x) a is ((n, refl), (u, refl))
telling (event.Get t key) (out.Asked n) u (heard.Row x) a is =
    answered (IsAnswerTo (event.Get t key) (out.Asked n) (TellsRow u x)) (told.Row x) a is ((n, refl), (u, refl))
telling (event.Scan t low high) (out.Asked n) u (heard.Rows x) a is =
    answered (IsAnswerTo (event.Scan t low high) (out.Asked n) (TellsRows u x)) (told.Rows x) a is ((n, refl), (u, refl))
telling (event.GoBack t s) out.RollingBack u (heard.Back x) a is =
    answered (IsAnswerTo (event.GoBack t s) out.RollingBack (TellsBack u x)) told.Back a is (refl, (u, x, refl))
telling (event.Rollback t) out.RollingBack u heard.RolledBack a is =
    answered (IsAnswerTo (event.Rollback t) out.RollingBack (TellsRolledBack u)) told.RolledBack a is (refl, (u, refl))
telling (event.Commit t) (out.CommitLogged n) u heard.Committed a is =
    answered (IsAnswerTo (event.Commit t) (out.CommitLogged n) (TellsCommitted u)) (told.Committed n) a is
    (refl, (u, refl))
telling _ o u h a is = absurd (cc (is))

-- ---- where it doesn't

unless : (b x : Bool) (t : Option Told) → if_so b t ≡ None → (t ≡ None → x ≡ false) → both b x ≡ false
unless true x t is f = f is
unless false x t is f = refl

no_answer : (u : ℕ) (h : Heard) → answer_in h ≡ None → is_answer (as_line u h) ≡ false
no_answer u (heard.Answer a) is = absurd (cc (is))
no_answer u _ is = refl

no_row : (u : ℕ) (h : Heard) → row_in h ≡ None → is_row (as_line u h) ≡ false
no_row u (heard.Row a) is = absurd (cc (is))
no_row u _ is = refl

no_rows : (u : ℕ) (h : Heard) → rows_in h ≡ None → is_rows (as_line u h) ≡ false
no_rows u (heard.Rows a) is = absurd (cc (is))
no_rows u _ is = refl

not_back : (u : ℕ) (h : Heard) → back_in h ≡ None → is_back (as_line u h) ≡ false
not_back u (heard.Back s) is = absurd (cc (is))
not_back u _ is = refl

not_rolled_back : (u : ℕ) (h : Heard) → rolled_back_in h ≡ None → is_rolled_back (as_line u h) ≡ false
not_rolled_back u heard.RolledBack is = absurd (cc (is))
not_rolled_back u _ is = refl

not_committed : (u n : ℕ) (h : Heard) → committed_in n h ≡ None → is_committed (as_line u h) ≡ false
not_committed u n heard.Committed is = absurd (cc (is))
not_committed u n _ is = refl

no_commit : (t u : ℕ) (o : Out) (h : Heard) → told_as (sort_in (event.Commit t)) o h ≡ None
    → is_told_by (event.Commit t) o (as_line u h) ≡ false
no_commit t u (out.CommitLogged n) h is = not_committed u n h is
no_commit t u _ h is = refl

pub not_told : (e : Event) (o : Out) (u : ℕ) (h : Heard) → told_as (sort_in e) o h ≡ None
    → is_told_by e o (as_line u h) ≡ false
not_told (event.Act t op) o u h is = unless (is_logged o) (is_answer (as_line u h)) (answer_in h) is (no_answer u h)
not_told (event.Get t key) o u h is = unless (is_asked o) (is_row (as_line u h)) (row_in h) is (no_row u h)
not_told (event.Scan t low high) o u h is = unless (is_asked o) (is_rows (as_line u h)) (rows_in h) is (no_rows u h)
not_told (event.GoBack t s) o u h is = unless (is_rolling o) (is_back (as_line u h)) (back_in h) is (not_back u h)
not_told (event.Rollback t) o u h is =
    unless (is_rolling o) (is_rolled_back (as_line u h)) (rolled_back_in h) is (not_rolled_back u h)
not_told (event.Commit t) o u h is = no_commit t u o h is
not_told _ o u h is = refl
