-- What each call leaves is good after any crash.
use Rattle.std.proofs.Common.{◌≡◌, ℕ, Option, Some, None, sym, subst, inl, inr}
use Rattle.std.specs.Prelude.{Result, Ok, Err}
use Rattle.std.proofs.lemmas.Bool.{cases_Bool, MatchBool-at_true, MatchBool-at_false}
use Rattle.record_key.specs.declared.refusal.Refusal.{Refusal}
use Rattle.record_key.specs.Table.{Bytes, key_of}
use Rattle.codec.specs.declared.request.Request.{Request}
use Rattle.codec.specs.declared.request.Request.TheVariants as asks
use Rattle.codec.specs.declared.reply.Reply.{Reply}
use Rattle.dc_store.specs.Kept.{IsRecoverable}
use Rattle.dc_store.specs.declared.tended.Neighbours.{Neighbours}
use Rattle.dc_store.specs.declared.tended.Tended.{Tended}
use Rattle.dc_store.proofs.Recoverable as systems
use Rattle.dc_core.specs.DcView.{DcView, captures_at}
use Rattle.dc_core.specs.Kept.{IsDc}
use Rattle.dc_core.specs.Serves.{runs, serve_refusal, Serves, Stops, StopsUnless, ServeGives}
use Rattle.dc_core.specs.Tends.{may_merge, SplitsTo, MergesTo, TendsTo, FlushesTo}

-- so are the leaves with their devices
abbrev pub IsGood : DcView → Type 0
IsGood w = IsRecoverable w.system

same_good : (old new : DcView) → IsGood old → new ≡ old → IsGood new
same_good old new h same = subst IsGood (sym same) h

-- ---- a request

served : (old : DcView) (request : Request) (reply : Option Reply) (new : DcView) → IsGood old
    → Serves old request reply new → IsGood new
served old (asks.Connect s end) reply new h gives =
    elim (cases_Bool (runs old s)) [
      | inl again ↦ same_good old new h (MatchBool-at_true _ _ again gives.1)
      | inr begun ↦
          subst IsGood (sym (MatchBool-at_false _ _ begun gives.1))
          (systems.recoverable_taken_back _ end
          (systems.recoverable_forced _ (systems.recoverable_accepted old.system s h)))
    ]
served old (asks.Perform s n stable o) reply new h gives =
    elim (cases_Bool (captures_at old (key_of o) n)) [
      | inl again ↦ subst IsGood (sym (MatchBool-at_true _ _ again gives).1) h
      | inr out ↦
          subst IsGood (sym (MatchBool-at_false _ _ out gives).1) (systems.recoverable_changed old.system n o h)
    ]
served old (asks.Get s r k) reply new h gives = same_good old new h gives.1
served old (asks.Scan s r lo hi) reply new h gives = same_good old new h gives.1
served old (asks.LowWater s l) reply new h gives =
    subst IsGood (sym gives.1) (systems.recoverable_lowered old.system l h)
served old (asks.Checkpoint s l) reply new h gives =
    systems.recoverable_checkpoint old.system l old.known (Ok tt) new.system h gives.1
served old (asks.RedoEnd s) reply new h gives = subst IsGood (sym gives.1) h
served old (asks.StableEnd s stable) reply new h gives = subst IsGood (sym gives.1) h

stopped : (old : DcView) (request : Request) (r : Refusal) (new : DcView) → IsGood old → Stops old request r new
    → IsGood new
stopped old (asks.Connect s end) r new h gives =
    systems.recoverable_accept old.system s end (Err r) new.system h gives.1
stopped old (asks.Perform s n stable o) r new h gives = same_good old new h gives.1.1
stopped old (asks.Get s n k) r new h gives = absurd gives
stopped old (asks.Scan s n lo hi) r new h gives = same_good old new h gives.1
stopped old (asks.LowWater s l) r new h gives = absurd gives
stopped old (asks.Checkpoint s l) r new h gives =
    systems.recoverable_checkpoint old.system l old.known (Err r) new.system h gives.0
stopped old (asks.RedoEnd s) r new h gives = absurd gives
stopped old (asks.StableEnd s stable) r new h gives = absurd gives

refused : (cause : Option Refusal) (old : DcView) (request : Request) (r : Refusal) (new : DcView) → IsGood old
    → StopsUnless cause old request r new → IsGood new
refused (Some cause) old request r new h gives = same_good old new h gives.1
refused None old request r new h gives = stopped old request r new h gives

pub recoverable_served : (old : DcView) (request : Request) (given : Result (Option Reply) Refusal) (new : DcView)
    → IsDc old → IsRecoverable old.system → ServeGives old request given new → IsRecoverable new.system
recoverable_served old request (Ok reply) new kept h gives = served old request reply new h gives.1
recoverable_served old request (Err r) new kept h gives = refused (serve_refusal old request) old request r new h gives

-- ---- leaves are split, merged and written

pub recoverable_split : (old : DcView) (k : Bytes) (given : Result Neighbours Refusal) (new : DcView) → IsDc old
    → IsRecoverable old.system → SplitsTo old k given new → IsRecoverable new.system
recoverable_split old k given new kept h gives =
    systems.recoverable_split old.system k old.known given new.system kept.system h gives.0

pub recoverable_merge : (old : DcView) (k : Bytes) (given : Result Neighbours Refusal) (new : DcView) → IsDc old
    → IsRecoverable old.system → MergesTo old k given new → IsRecoverable new.system
recoverable_merge old k given new kept h gives =
    elim (cases_Bool (may_merge old)) [
      | inl may ↦
          systems.recoverable_merge old.system k old.known given new.system h (MatchBool-at_true _ _ may gives).0
      | inr not ↦ same_good old new h (MatchBool-at_false _ _ not gives).1
    ]

pub recoverable_tend : (old : DcView) (given : Result Tended Refusal) (new : DcView) → IsDc old
    → IsRecoverable old.system → TendsTo old given new → IsRecoverable new.system
recoverable_tend old given new kept h gives =
    systems.recoverable_tend old.system (may_merge old) old.known given new.system kept.system h gives.0

pub recoverable_flush : (old : DcView) (k : Bytes) (given : Result ℕ Refusal) (new : DcView) → IsDc old
    → IsRecoverable old.system → FlushesTo old k given new → IsRecoverable new.system
recoverable_flush old k given new kept h gives =
    systems.recoverable_flush old.system k old.known given new.system kept.system h gives.0
