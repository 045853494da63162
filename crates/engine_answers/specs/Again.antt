-- What a session is answered that carries an unfinished call on.
use Rattle.std.specs.Prelude.{◌≡◌, ◌⊎◌, ℕ, ◌≤◌, Bool, false, ◌++◌, ◌∷◌, [], Option, Some, None, ⊤}
use Rattle.boxcar.specs.Table.{Shelves}
use Rattle.history.specs.ListMachine.{Line, TellsAnswer, TellsRow, TellsRows, TellsBack, TellsRolledBack, TellsCommitted}
use Rattle.record_key.specs.declared.refusal.Refusal.{Refusal}
use Rattle.record_key.specs.declared.refusal.Refusal.TheVariants.{NotConnected, Unsent}
use Rattle.engine_history.specs.node_laws.specs.declared.event.Event.{Event}
use Rattle.engine_history.specs.node_laws.specs.declared.event.Event.TheVariants as event
use Rattle.engine_history.specs.node_laws.specs.declared.event.Out.{Out}
use Rattle.engine_history.specs.node_laws.specs.declared.event.Out.TheVariants as out
use Rattle.engine_history.specs.InFlightCalls.{EndsWithFailure, is_commit_logged}
use Rattle.engine_history.specs.Failing.{refusal_of}
use Rattle.engine_history.specs.Sessions.{SessionCall, SessionCalls, called_as, call_list, IsClosed}
use Rattle.engine_history.specs.Slots.{Slot, Shown}
use Rattle.engine_history.specs.Steps.{Start}
use Rattle.engine_history.specs.Witnessed.{WasStable}
use Rattle.engine_history.specs.declared.failure.Failure.{Failure}
use Rattle.engine_answers.specs.Answers.{Finishes, EndsLive, TellsCommit}
use Rattle.engine_answers.specs.Asking.{both, gives_answer, gives_back, gives_commit, gives_rolled_back, gives_row, gives_rows, is_answered, is_asked, is_logged, is_rolling}
use Rattle.engine_answers.specs.Unfinished.{IsUnfinished, call_in}
use Rattle.engine_answers.specs.declared.ended.Ended.{Ended}
use Rattle.engine_answers.specs.declared.ended.Ended.TheVariants as ended
use Rattle.engine_answers.specs.declared.told.Told.{Told}
use Rattle.engine_answers.specs.declared.told.Told.TheVariants as told

-- a call that came to this is answered so by this line
abbrev pub IsAnswerTo : Event → Out → Line → Told → Type 0
IsAnswerTo (event.Act t op) o line (told.Answer a) = ((n : ℕ) × (o ≡ out.Logged n)) × ((u : ℕ) × (line ≡ TellsAnswer u a))
IsAnswerTo (event.Get t key) o line (told.Row v) = ((n : ℕ) × (o ≡ out.Asked n)) × ((u : ℕ) × (line ≡ TellsRow u v))
IsAnswerTo (event.Scan t low high) o line (told.Rows rows) =
    ((n : ℕ) × (o ≡ out.Asked n)) × ((u : ℕ) × (line ≡ TellsRows u rows))
IsAnswerTo (event.GoBack t s) o line told.Back = (o ≡ out.RollingBack) × ((u : ℕ) × (n : ℕ) × (line ≡ TellsBack u n))
IsAnswerTo (event.Rollback t) o line told.RolledBack = (o ≡ out.RollingBack) × ((u : ℕ) × (line ≡ TellsRolledBack u))
IsAnswerTo (event.Commit t) o line (told.Committed n) = (o ≡ out.CommitLogged n) × ((u : ℕ) × (line ≡ TellsCommitted u))
IsAnswerTo _ o line _ = ⊥

-- the same of the output that tells the line
abbrev pub AnswersWith : Event → Out → Out → Told → Type 0
AnswersWith (event.Act t op) o l (told.Answer a) = ((n : ℕ) × (o ≡ out.Logged n)) × ((u : ℕ) × (l ≡ out.Answered u a))
AnswersWith (event.Get t key) o l (told.Row v) = ((n : ℕ) × (o ≡ out.Asked n)) × ((u : ℕ) × (l ≡ out.Row u v))
AnswersWith (event.Scan t low high) o l (told.Rows rows) =
    ((n : ℕ) × (o ≡ out.Asked n)) × ((u : ℕ) × (l ≡ out.Rows u rows))
AnswersWith (event.GoBack t s) o l told.Back = (o ≡ out.RollingBack) × ((u : ℕ) × (n : ℕ) × (l ≡ out.Back u n))
AnswersWith (event.Rollback t) o l told.RolledBack = (o ≡ out.RollingBack) × ((u : ℕ) × (l ≡ out.RolledBack u))
AnswersWith (event.Commit t) o l (told.Committed n) = (o ≡ out.CommitLogged n) × TellsCommit l
AnswersWith _ o l _ = ⊥

-- whether the output answers a call that came to this
abbrev pub answers_with : Event → Out → Out → Bool
answers_with (event.Act t op) o l = both (is_logged o) (gives_answer l)
answers_with (event.Get t key) o l = both (is_asked o) (gives_row l)
answers_with (event.Scan t low high) o l = both (is_asked o) (gives_rows l)
answers_with (event.GoBack t s) o l = both (is_rolling o) (gives_back l)
answers_with (event.Rollback t) o l = both (is_rolling o) (gives_rolled_back l)
answers_with (event.Commit t) o l = both (is_commit_logged o) (gives_commit l)
answers_with _ o l = false

-- how an unfinished call went on
abbrev pub Resumes : Shelves → SessionCalls → Ended → SessionCalls → Type 0
Resumes entries old how new =
    (p : Slot) × Shown entries p × (old.latest ≡ Some (call_in p)) × IsUnfinished old × Finishes entries p old how new

abbrev pub IsToldSo : Ended → Told → Type 0
IsToldSo (ended.Told p q) t =
    AnswersWith p.value.step.value.event p.value.step.value.out q.value.step.value.out t
IsToldSo _ t = ⊥

abbrev pub IsNotTold : Ended → Refusal → Type 0
IsNotTold (ended.AtOnce p) r = ⊤
IsNotTold (ended.Told p q) r = (r ≡ NotConnected)
    × (answers_with p.value.step.value.event p.value.step.value.out q.value.step.value.out ≡ false)
IsNotTold (ended.Unfinished u f) r = r ≡ refusal_of f
IsNotTold ended.CutOff r = r ≡ NotConnected

-- ---- what the session's list shows of it

-- the unfinished call has got its line, and that answers it so
pub record CarriesOn (old : SessionCalls) (t : Told) (new : SessionCalls) : Type 0 where
  pub unfinished : IsUnfinished old
  pub call : SessionCall
  pub was : old.latest ≡ Some call
  pub line : Line
  pub answers : IsAnswerTo call.event call.out line t
  pub list : call_list new ≡ old.before ++ called_as call.event call.out (Some line) ∷ []
  pub over : EndsLive line new

-- a commit that was told was seen to be stable
abbrev pub IsSeenBy : ℕ → Told → Type 0
IsSeenBy stable t = (n : ℕ) → t ≡ told.Committed n → n ≤ stable

-- the log was stable up to the record of a commit that was told
abbrev pub IsStableAt : Start → Shelves → Told → Type 0
IsStableAt start entries t = (n : ℕ) → t ≡ told.Committed n → WasStable start entries n

-- nothing more is told of the call: a line was told of it that doesn't answer it, or a crash has cut it off
pub record IsLost (old new : SessionCalls) : Type 0 where
  pub call : SessionCall
  pub was : old.latest ≡ Some call
  pub line : Option Line
  pub list : call_list new ≡ old.before ++ called_as call.event call.out line ∷ []
  pub unanswered : is_answered (called_as call.event call.out line) ≡ false
  pub cut : line ≡ None → new.live ≡ None

-- another step that was made for the call failed: it is unfinished still
pub record IsHeldUp (old : SessionCalls) (r : Refusal) (new : SessionCalls) : Type 0 where
  pub unfinished : IsUnfinished old
  pub failure : Failure
  pub failed : EndsWithFailure old.failures new.failures failure
  pub why : r ≡ refusal_of failure
  pub same : call_list new ≡ call_list old
  pub still : new.live ≡ old.live

abbrev pub RefusedAgain : SessionCalls → Refusal → SessionCalls → Type 0
RefusedAgain old r new =
    ((r ≡ Unsent) × IsClosed old × (new ≡ old)) ⊎ (IsHeldUp old r new
    ⊎ ((r ≡ NotConnected) × IsUnfinished old × IsLost old new))
