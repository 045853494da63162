-- A number that a checkpoint was replied for stays checked by each call, and over each crash.
use Rattle.std.proofs.Common.{◌≡◌, ℕ, Option, Some, None, sym, subst, inl, inr}
use Rattle.std.specs.Prelude.{Result, Ok, Err}
use Rattle.std.proofs.lemmas.Bool.{cases_Bool, MatchBool-at_true, MatchBool-at_false}
use Rattle.record_key.specs.declared.refusal.Refusal.{Refusal}
use Rattle.record_key.specs.Table.{Bytes, key_of}
use Rattle.codec.specs.declared.request.Request.{Request}
use Rattle.codec.specs.declared.request.Request.TheVariants as asks
use Rattle.codec.specs.declared.reply.Reply.{Reply}
use Rattle.dc_store.specs.Checked.{IsChecked, Checks}
use Rattle.dc_store.specs.Kept.{IsRecoverable}
use Rattle.dc_store.specs.declared.tended.Neighbours.{Neighbours}
use Rattle.dc_store.specs.declared.tended.Tended.{Tended}
use Rattle.dc_store.proofs.Checked as systems
use Rattle.dc_store.proofs.Checkpointed.{checkpoint_reaches}
use Rattle.stable.specs.Usage.{Usage}
use Rattle.dc_core.specs.DcView.{DcView, fresh_dc, captures_at}
use Rattle.dc_core.specs.Kept.{IsDc}
use Rattle.dc_core.specs.Serves.{runs, serve_refusal, Serves, Stops, StopsUnless, ServeGives}
use Rattle.dc_core.specs.Tends.{may_merge, SplitsTo, MergesTo, TendsTo, FlushesTo}

-- whatever was checked before stays so
abbrev StaysChecked : DcView → DcView → Type 0
StaysChecked old new = Checks old.system new.system

same : (old new : DcView) → new ≡ old → StaysChecked old new
same old new is = subst (StaysChecked old) (sym is) (λ l c. c)

-- ---- a request

served : (old : DcView) (request : Request) (reply : Option Reply) (new : DcView) → IsRecoverable old.system
    → Serves old request reply new → StaysChecked old new
served old (asks.Connect s end) reply new h gives =
    elim (cases_Bool (runs old s)) [
      | inl again ↦ same old new (MatchBool-at_true _ _ again gives.1)
      | inr begun ↦
          subst (StaysChecked old) (sym (MatchBool-at_false _ _ begun gives.1))
          (systems.session_checked old.system s end h)
    ]
served old (asks.Perform s n stable o) reply new h gives =
    elim (cases_Bool (captures_at old (key_of o) n)) [
      | inl again ↦ subst (StaysChecked old) (sym (MatchBool-at_true _ _ again gives).1) (λ l c. c)
      | inr out ↦
          subst (StaysChecked old) (sym (MatchBool-at_false _ _ out gives).1) (systems.performed_checked old.system n o)
    ]
served old (asks.Get s r k) reply new h gives = same old new gives.1
served old (asks.Scan s r lo hi) reply new h gives = same old new gives.1
served old (asks.LowWater s l) reply new h gives =
    subst (StaysChecked old) (sym gives.1) (systems.lowered_checked old.system l)
served old (asks.Checkpoint s l) reply new h gives =
    systems.checked_checkpoint old.system l old.known (Ok tt) new.system h gives.1
served old (asks.RedoEnd s) reply new h gives = subst (StaysChecked old) (sym gives.1) (λ l c. c)
served old (asks.StableEnd s stable) reply new h gives = subst (StaysChecked old) (sym gives.1) (λ l c. c)

stopped : (old : DcView) (request : Request) (r : Refusal) (new : DcView) → IsRecoverable old.system
    → Stops old request r new → StaysChecked old new
stopped old (asks.Connect s end) r new h gives = systems.checked_accept old.system s end (Err r) new.system h gives.1
stopped old (asks.Perform s n stable o) r new h gives = same old new gives.1.1
stopped old (asks.Get s n k) r new h gives = absurd gives
stopped old (asks.Scan s n lo hi) r new h gives = same old new gives.1
stopped old (asks.LowWater s l) r new h gives = absurd gives
stopped old (asks.Checkpoint s l) r new h gives =
    systems.checked_checkpoint old.system l old.known (Err r) new.system h gives.0
stopped old (asks.RedoEnd s) r new h gives = absurd gives
stopped old (asks.StableEnd s stable) r new h gives = absurd gives

refused : (cause : Option Refusal) (old : DcView) (request : Request) (r : Refusal) (new : DcView)
    → IsRecoverable old.system → StopsUnless cause old request r new → StaysChecked old new
refused (Some cause) old request r new h gives = same old new gives.1
refused None old request r new h gives = stopped old request r new h gives

pub checked_served : (old : DcView) (request : Request) (given : Result (Option Reply) Refusal) (new : DcView)
    → IsDc old → IsRecoverable old.system → ServeGives old request given new → Checks old.system new.system
checked_served old request (Ok reply) new kept h gives = served old request reply new h gives.1
checked_served old request (Err r) new kept h gives = refused (serve_refusal old request) old request r new h gives

-- ---- leaves are split, merged and written

pub checked_split : (old : DcView) (k : Bytes) (given : Result Neighbours Refusal) (new : DcView) → IsDc old
    → IsRecoverable old.system → SplitsTo old k given new → Checks old.system new.system
checked_split old k given new kept h gives =
    systems.checked_split old.system k old.known given new.system kept.system h gives.0

pub checked_merge : (old : DcView) (k : Bytes) (given : Result Neighbours Refusal) (new : DcView) → IsDc old
    → IsRecoverable old.system → MergesTo old k given new → Checks old.system new.system
checked_merge old k given new kept h gives =
    elim (cases_Bool (may_merge old)) [
      | inl may ↦ systems.checked_merge old.system k old.known given new.system h (MatchBool-at_true _ _ may gives).0
      | inr not ↦ same old new (MatchBool-at_false _ _ not gives).1
    ]

pub checked_tend : (old : DcView) (given : Result Tended Refusal) (new : DcView) → IsDc old
    → IsRecoverable old.system → TendsTo old given new → Checks old.system new.system
checked_tend old given new kept h gives =
    systems.checked_tend old.system (may_merge old) old.known given new.system kept.system h gives.0

pub checked_flush : (old : DcView) (k : Bytes) (given : Result ℕ Refusal) (new : DcView) → IsDc old
    → IsRecoverable old.system → FlushesTo old k given new → Checks old.system new.system
checked_flush old k given new kept h gives =
    systems.checked_flush old.system k old.known given new.system kept.system h gives.0

-- ---- where a number is checked first

pub fresh_checked : (log_usage page_usage : Usage) → IsChecked 0 (fresh_dc log_usage page_usage).system
fresh_checked log_usage page_usage = systems.fresh_checked log_usage page_usage

-- from the reply on
pub checkpoint_checked : (old : DcView) (s l : ℕ) (reply : Option Reply) (new : DcView) → IsDc old
    → IsRecoverable old.system → Serves old (asks.Checkpoint s l) reply new → IsChecked l new.system
checkpoint_checked old s l reply new kept h gives = checkpoint_reaches old.system l old.known new.system h gives.1
