-- What a crash leaves of a transaction component is one, and opens in one way but for the order of losers and of locks.
use Rattle.std.proofs.Common.{◌≡◌, ℕ, ◌+◌, ◌-◌, ◌≤◌, zero, suc, Bool, true, false, List, [], ◌∷◌, length, refl, sym, ap, ◌∙◌, subst, arith, inl, inr}
use Rattle.std.specs.Prelude.{drop, nat_lt, if◌then◌else◌}
use Rattle.std.proofs.lemmas.Bool.{cases_lt, lt-ltb, le-ltb}
use Rattle.std.proofs.lemmas.List.{length-drop}
use Rattle.history.specs.declared.record.Record.{Record}
use Rattle.history.specs.declared.record.Record.TheVariants as is
use Rattle.log_laws.proofs.Checking.{latest_unique}
use Rattle.stable.specs.Usage.{Usage, called, called_often}
use Rattle.framed_log.specs.Beginning.{beginning}
use Rattle.tc_log.specs.Spelled.{spelled}
use Rattle.tc_log.proofs.Crashed.{opens_once}
use Rattle.tc_restart.specs.Losers.{IsLoser}
use Rattle.tc_log.specs.Checkpointed.{IsCheckpointed, raised_by}
use Rattle.tc_restart.proofs.Passing.{legal_part}
use Rattle.tc_core.specs.Kept.{IsTc}
use Rattle.tc_core.specs.Opening.{opened}
use Rattle.tc_core.specs.Opened.{checkpointed_in, UsedByOpening, CrashedIsKept, OpensAgain, SameAreLost}
use Rattle.tc_core.specs.TcView.{TcView}
use Rattle.tc_core.proofs.Losers.{same_listed}
use Rattle.tc_core.proofs.OpenedLog.{checkpoints_found, opened_kept, called_more}

-- what is checkpointed is what the log says
is_checkpointed : (w : TcView) → IsTc w → w.checkpointed ≡ checkpointed_in w.log
is_checkpointed w k =
    latest_unique (IsCheckpointed w.log) w.checkpointed (checkpointed_in w.log) k.low.checkpointed
    (checkpoints_found w.log)

-- ---- what is kept of a log

raised_up : (r : Record) (c : ℕ) → c ≤ raised_by r c
raised_up (is.Checkpoint low) c =
    elim (cases_lt c low) [
      | inl less ↦ rw (lt-ltb c low less) (omega (arith, less))
      | inr more ↦ rw (le-ltb c low more) (omega arith)
    ]
raised_up r c = omega arith

-- fewer records name no greater number
checkpointed_less : (k : ℕ) (log : List Record) → checkpointed_in (drop k log) ≤ checkpointed_in log
checkpointed_less zero log = omega arith
checkpointed_less (suc k) [] = omega arith
checkpointed_less (suc k) (r ∷ log) =
    omega (arith, checkpointed_less k log, raised_up r (checkpointed_in log))

pub crashed_kept : CrashedIsKept
crashed_kept w n k within = (
  opened_kept (beginning w.log n) w.usage (legal_part w.log n k.legal)
      (omega (arith, length-drop (length w.log - n) w.log, k.few.records)),
  omega (arith, checkpointed_less (length w.log - n) w.log, is_checkpointed w k),
)

-- ---- what bytes are opened as

used_to_open : (cut : Bool) (old new : Usage) → new ≡ called_often (if cut then 1 else 0) (called old) → UsedByOpening old new
used_to_open true old new h = inr (h ∙ called_more 1 old)
used_to_open false old new h = inl (h ∙ called_more 0 old)

pub opens_again : OpensAgain
opens_again bytes log usage w is o k =
    let same : w.log ≡ log = opens_once bytes w.log log o.log is in
    let checkpointed : w.checkpointed ≡ checkpointed_in log = is_checkpointed w k ∙ ap checkpointed_in same in
    record {
      was = refl;
      is = o.is
          ∙ ap (λ l. opened l w.usage w.checkpointed w.losers w.locks) same
          ∙ ap (λ c. opened log w.usage c w.losers w.locks) checkpointed;
      used = used_to_open (nat_lt (length (spelled w.log)) (length bytes)) usage w.usage o.used;
      below = o.losers ∙ ap (λ (l : List Record). length l + 1) same;
    }

pub same_are_lost : SameAreLost
same_are_lost old new k k2 again t =
    let log : new.log ≡ old.log = ap (λ (w : TcView). w.log) again.is in
    same_listed old.log new.log old.losers new.losers k.lost.losers k2.lost.losers t
    (λ h. subst (λ b. IsLoser new.log b t) (sym again.below) (subst (λ l. IsLoser l old.losers.below t) (sym log) h))
    (λ h. subst (λ b. IsLoser old.log b t) again.below (subst (λ l. IsLoser l new.losers.below t) log h))
