-- What a restart asks of a log stays known as its records are read.
use Rattle.std.proofs.Common.{◌≡◌, ℕ, [], ◌∷◌, Option, None, sym, subst, inr}
use Rattle.history.specs.declared.record.Record.{Record}
use Rattle.history.specs.Legal.{IsLatestOrNone}
use Rattle.tc_log.specs.declared.analysis.Analysis.{Analysis}
use Rattle.tc_log.specs.Checkpointed.{IsCheckpointed, raised_by}
use Rattle.tc_log.specs.Replay.{KeptOf, Follows, IsAnalysis, TakesIn, latest_of}
use Rattle.tc_log.proofs.Checkpointed.{raised_more}
use Rattle.tc_log.proofs.Following.{follows}

-- of no records
pub analysis_none : (a : Analysis) → ((t : ℕ) → latest_of a t ≡ None) → a.checkpointed ≡ 0 → IsAnalysis [] a
analysis_none a none zero = record {
  open_txns = λ t. let Of : Option ℕ → Type 0 = λ v. KeptOf [] t v in
      subst Of (sym (none t)) (λ opened. absurd (let begun = opened.begun in cc));
  checkpointed = inr (zero, λ low named. absurd (let stands = named.1 in cc));
}

-- a record more
pub analysis_more : (r : Record) (number : ℕ) (old new : Analysis) → Follows r number (latest_of old) (latest_of new)
    → new.checkpointed ≡ raised_by r old.checkpointed → TakesIn r number old new
analysis_more r number old new follow raised log h legal is =
    let P : ℕ → Type 0 = λ n. Follows r n (latest_of old) (latest_of new) in record {
      open_txns = follows r log (latest_of old) (latest_of new) legal.1 legal.0 (subst P is follow) h.open_txns;
      checkpointed = subst (IsLatestOrNone (IsCheckpointed (r ∷ log))) (sym raised)
          (raised_more r log old.checkpointed h.checkpointed);
    }
