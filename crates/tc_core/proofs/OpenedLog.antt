-- What a log opens as is a transaction component, and one that may be opened on the log's bytes.
use Rattle.std.proofs.Common.{◌≡◌, ℕ, ◌+◌, ◌-◌, List, [], ◌∷◌, refl, sym, ap, subst, arith, inr}
use Rattle.history.specs.declared.record.Record.{Record}
use Rattle.history.specs.Legal.{IsLatestOrNone}
use Rattle.stable.specs.Usage.{Usage, called, called_often}
use Rattle.tc_log.specs.Checkpointed.{IsCheckpointed}
use Rattle.tc_log.specs.Opening.{cut_calls}
use Rattle.tc_log.proofs.Checkpointed.{raised_more}
use Rattle.tc_core.specs.Kept.{IsTc}
use Rattle.tc_core.specs.Opening.{opened}
use Rattle.tc_core.specs.Opened.{checkpointed_in, losers_of, locks_of, OpenedIsKept, OpenedIsOpened}
use Rattle.tc_core.proofs.Opened.{opened_tc}
use Rattle.tc_core.proofs.OpenedLosers.{are_losers}
use Rattle.tc_core.proofs.OpenedLocks.{locks_open}

pub checkpoints_found : (log : List Record) → IsLatestOrNone (IsCheckpointed log) (checkpointed_in log)
checkpoints_found [] = inr (refl, λ l h. let e = h.1 in cc)
checkpoints_found (r ∷ log) = raised_more r log (checkpointed_in log) (checkpoints_found log)

pub opened_kept : OpenedIsKept
opened_kept log usage legal few =
    let P : ℕ → Type 0 = λ c. IsTc (opened log usage c (losers_of log) (locks_of log)) in
    let same : (checkpointed_in log + 1) - 1 ≡ checkpointed_in log = omega arith in
    subst P same
    (opened_tc log usage (checkpointed_in log + 1) (losers_of log) (locks_of log) legal few (are_losers log legal)
    refl
    (record { low = checkpointed_in log; greatest = checkpoints_found log; start_is = refl }) (locks_open log))

-- one call, and then so many more
pub called_more : (n : ℕ) (u : Usage) → called_often n (called u) ≡ called_often (1 + n) u
called_more n u =
    let same : (u.calls + 1) + n ≡ u.calls + (1 + n) = omega arith in
    ap (λ (calls : ℕ). record u { calls = calls }) same

pub opened_opened : OpenedIsOpened
opened_opened bytes log usage is = record {
  log = is;
  losers = refl;
  used = sym (called_more (cut_calls bytes log) usage);
  is = refl;
}
