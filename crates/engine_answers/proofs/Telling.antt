-- What an output tells a transaction, and the line that it is.
use Rattle.std.proofs.Common.{◌≡◌, ℕ, ◌==◌, Bool, true, false, Some, refl, ap, sym, subst}
use Rattle.history.specs.History.{is_among}
use Rattle.history.specs.ListMachine.{Line, TellsAnswer, TellsRow, TellsRows, TellsBack, TellsRolledBack, TellsCommitted, TellsLost}
use Rattle.engine_history.specs.node_laws.specs.declared.event.Event.{Event}
use Rattle.engine_history.specs.node_laws.specs.declared.event.Event.TheVariants as event
use Rattle.engine_history.specs.node_laws.specs.declared.event.Out.{Out}
use Rattle.engine_history.specs.node_laws.specs.declared.event.Out.TheVariants as out
use Rattle.engine_history.specs.InFlightCalls.{is_commit_logged}
use Rattle.engine_history.specs.Sessions.{line_to, only_if}
use Rattle.engine_answers.specs.Again.{answers_with}
use Rattle.engine_answers.specs.Answers.{TellsCommit}
use Rattle.engine_answers.specs.Asking.{both, gives_answer, gives_back, gives_commit, gives_rolled_back, gives_row, gives_rows, is_answer, is_asked, is_back, is_committed, is_logged, is_rolled_back, is_rolling, is_row, is_rows, is_told_by}

pub one_line : (b : Bool) (told line : Line) → only_if b told ≡ Some line → line ≡ told
one_line true told line is = let same : told ≡ line = cc (is) in sym same
one_line false told line is = absurd (cc (is))

pub commits : (t : ℕ) (o : Out) (line : Line) → line_to t o ≡ Some line → TellsCommit o → line ≡ TellsCommitted t
commits t (out.Stable end committed) line is h = one_line (is_among t committed) (TellsCommitted t) line is
commits t (out.Connects i committed) line is h = one_line (is_among t committed) (TellsCommitted t) line is
commits t _ line is h = absurd h

-- an output and its line answer the same calls
record Same (o : Out) (line : Line) : Type 0 where
  answer : gives_answer o ≡ is_answer line
  row : gives_row o ≡ is_row line
  rows : gives_rows o ≡ is_rows line
  back : gives_back o ≡ is_back line
  rolled_back : gives_rolled_back o ≡ is_rolled_back line
  commit : gives_commit o ≡ is_committed line

same : (t : ℕ) (o : Out) (line : Line) → line_to t o ≡ Some line → Same o line
same t (out.Answered u a) line is =
    subst (Same (out.Answered u a)) (sym (one_line (u == t) (TellsAnswer u a) line is))
    (record { answer = refl; row = refl; rows = refl; back = refl; rolled_back = refl; commit = refl })
same t (out.Row u value) line is =
    subst (Same (out.Row u value)) (sym (one_line (u == t) (TellsRow u value) line is))
    (record { answer = refl; row = refl; rows = refl; back = refl; rolled_back = refl; commit = refl })
same t (out.Rows u rows) line is =
    subst (Same (out.Rows u rows)) (sym (one_line (u == t) (TellsRows u rows) line is))
    (record { answer = refl; row = refl; rows = refl; back = refl; rolled_back = refl; commit = refl })
same t (out.Back u s) line is =
    subst (Same (out.Back u s)) (sym (one_line (u == t) (TellsBack u s) line is))
    (record { answer = refl; row = refl; rows = refl; back = refl; rolled_back = refl; commit = refl })
same t (out.RolledBack u) line is =
    subst (Same (out.RolledBack u)) (sym (one_line (u == t) (TellsRolledBack u) line is))
    (record { answer = refl; row = refl; rows = refl; back = refl; rolled_back = refl; commit = refl })
same t (out.Lost u) line is =
    subst (Same (out.Lost u)) (sym (one_line (u == t) (TellsLost u) line is))
    (record { answer = refl; row = refl; rows = refl; back = refl; rolled_back = refl; commit = refl })
same t (out.Stable end committed) line is =
    subst (Same (out.Stable end committed)) (sym (one_line (is_among t committed) (TellsCommitted t) line is))
    (record { answer = refl; row = refl; rows = refl; back = refl; rolled_back = refl; commit = refl })
same t (out.Connects i committed) line is =
    subst (Same (out.Connects i committed)) (sym (one_line (is_among t committed) (TellsCommitted t) line is))
    (record { answer = refl; row = refl; rows = refl; back = refl; rolled_back = refl; commit = refl })
same t _ line is = absurd (cc (is))

-- so a call is answered by the one where it is by the other
pub given_as_told : (e : Event) (o : Out) (t : ℕ) (l : Out) (line : Line) → line_to t l ≡ Some line
    → answers_with e o l ≡ is_told_by e o line
given_as_told (event.Act u op) o t l line is = ap (both (is_logged o)) (same t l line is).answer
given_as_told (event.Get u key) o t l line is = ap (both (is_asked o)) (same t l line is).row
given_as_told (event.Scan u low high) o t l line is = ap (both (is_asked o)) (same t l line is).rows
given_as_told (event.GoBack u s) o t l line is = ap (both (is_rolling o)) (same t l line is).back
given_as_told (event.Rollback u) o t l line is = ap (both (is_rolling o)) (same t l line is).rolled_back
given_as_told (event.Commit u) o t l line is = ap (both (is_commit_logged o)) (same t l line is).commit
given_as_told _ o t l line is = refl
