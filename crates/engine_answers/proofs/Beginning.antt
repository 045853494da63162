-- A session's Begin has its entry where no transaction of the session was alive.
use Rattle.std.proofs.Common.{◌≡◌, ◌∙◌, ℕ, Option, None, sym, subst, inl, inr}
use Rattle.boxcar.specs.Table.{Shelves}
use Rattle.engine_history.specs.node_laws.specs.declared.event.Out.TheVariants as out
use Rattle.engine_history.specs.Sessions.{IsLeft, SessionCalls}
use Rattle.engine_history.specs.Slots.{Slot}
use Rattle.engine_answers.specs.declared.ended.Ended.{Ended}
use Rattle.engine_answers.specs.declared.ended.Ended.TheVariants as ended
use Rattle.engine_answers.specs.Answers.{AreShown, BeganAlone, BeginsAlone, Finishes, IsAtOnce, ShowsBegun}

-- where none was alive none is
pub none_left : (old new : Option ℕ) → old ≡ None → IsLeft old new → new ≡ None
none_left old new none (inl same) = same ∙ none
none_left old new none (inr gone) = gone

-- the entry is that of the call that has ended
pub began_alone : (entries : Shelves) (token : Slot) (old : SessionCalls) (e : Ended) (new : SessionCalls) (session : ℕ) → BeginsAlone session token
    → Finishes entries token old e new → BeganAlone session e
began_alone entries token old (ended.AtOnce p) new session begins ends = subst (BeginsAlone session) (sym ends.1) begins
began_alone entries token old (ended.Told p q) new session begins ends = tt
began_alone entries token old (ended.Unfinished u f) new session begins ends = tt
began_alone entries token old ended.CutOff new session begins ends = tt

pub shows_begun : (entries : Shelves) (session txn : ℕ) (e : Ended) → AreShown entries e → BeganAlone session e
    → IsAtOnce (out.Begun txn) e → ShowsBegun entries session txn
shows_begun entries session txn (ended.AtOnce p) shown begins is = record { token = p; shown = shown; begins = begins; out = is }
shows_begun entries session txn (ended.Told p q) shown begins is = absurd is
shows_begun entries session txn (ended.Unfinished u f) shown begins is = absurd is
shows_begun entries session txn ended.CutOff shown begins is = absurd is
