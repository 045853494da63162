-- What one pass has found: nothing at first, and then with each record more.
use Rattle.std.proofs.Common.{◌≡◌, ℕ, ◌+◌, ◌-◌, List, [], ◌∷◌, ◌++◌, length, Some, sym, subst, arith}
use Rattle.std.proofs.lemmas.List.{nil_from_length}
use Rattle.std.proofs.lemmas.List.Elements.{All-nil}
use Rattle.history.specs.declared.record.Record.{Record}
use Rattle.history.specs.Log.{record_at}
use Rattle.history.specs.Legal.{IsLegal}
use Rattle.log_laws.specs.Reading.{LacksAnswer}
use Rattle.log_laws.proofs.Records.{within}
use Rattle.log_laws.proofs.Checking.{lacks_number}
use Rattle.framed_log.specs.Beginning.{beginning}
use Rattle.tc_log.specs.Replay.{IsAnalysis, TakesIn}
use Rattle.framed_log.proofs.Beginning.{everything, length_beginning}
use Rattle.tc_restart.specs.declared.findings.Findings.{Findings}
use Rattle.tc_restart.specs.Lists.{Lists}
use Rattle.tc_restart.specs.Plan.{HasCommit, AreMissing, IsFound, AreFindings, committed_by, lacking}
use Rattle.tc_restart.proofs.Passing.{part_more, legal_part, winners_more, missing_more}

-- of no records
pub found_none : (log : List Record) (f : Findings) → IsAnalysis [] f.analysis → f.winners.items ≡ []
    → f.missing.items ≡ [] → IsFound log 0 f
found_none log f analysis winners missing =
    let none : beginning log 0 ≡ [] = nil_from_length (beginning log 0) (length_beginning log 0 (omega arith)) in
    record {
      analysis = subst (λ part. IsAnalysis part f.analysis) (sym none) analysis;
      winners = subst (λ part. Lists (HasCommit part) f.winners.items) (sym none)
          (subst (Lists (HasCommit [])) (sym winners)
          (record { right = All-nil (HasCommit []); once = λ t h. let e = h.1 in absurd (cc) }));
      missing = subst (AreMissing log 0) (sym missing) (record {
        listed = record {
          right = All-nil (LacksAnswer log 0);
          once = λ n h. absurd
              (omega (arith, h.below, (lacks_number log 0 n h).positive));
        };
        rising = λ k less. absurd (omega (arith, less));
      });
    }

module _ (log : List Record) (r : Record) (old new : Findings) (legal : IsLegal log)
    (winners : new.winners.items ≡ old.winners.items ++ committed_by r) where
  next : (end : ℕ) → record_at log (end + 1) ≡ Some r → IsFound log end old
      → TakesIn r (end + 1) old.analysis new.analysis
      → new.missing.items ≡ old.missing.items ++ lacking log (end + 1) → IsFound log (end + 1) new
  next end stands h takes missing =
      let number = within (λ x. x ≡ Some r) (λ f. cc) log (end + 1) stands in
      let part : beginning log (end + 1) ≡ r ∷ beginning log end = part_more log end r stands in
      let legal_now : IsLegal (r ∷ beginning log end) = subst IsLegal part (legal_part log (end + 1) legal) in
      let count : length (beginning log end) ≡ end = length_beginning log end (omega (arith, number.bounded)) in
      record {
        analysis = subst (λ p. IsAnalysis p new.analysis) (sym part)
            (takes (beginning log end) h.analysis legal_now (omega (arith, count)));
        winners = subst (λ p. Lists (HasCommit p) new.winners.items) (sym part)
            (subst (Lists (HasCommit (r ∷ beginning log end))) (sym winners)
            (winners_more r (beginning log end) old.winners.items legal_now.0 h.winners));
        missing = subst (AreMissing log (end + 1)) (sym missing)
            (missing_more log end old.missing.items h.missing);
      }

  -- with the next record
  pub found_more : (number : ℕ) → record_at log number ≡ Some r → IsFound log (number - 1) old
      → TakesIn r number old.analysis new.analysis
      → new.missing.items ≡ old.missing.items ++ lacking log number → IsFound log number new
  found_more number stands h takes missing =
      let some = within (λ x. x ≡ Some r) (λ f. cc) log number stands in
      let e : (number - 1) + 1 ≡ number = omega (arith, some.positive) in
      subst (λ (n : ℕ). IsFound log n new) e
      (next (number - 1) (subst (λ (n : ℕ). record_at log n ≡ Some r) (sym e) stands) h
      (subst (λ (n : ℕ). TakesIn r n old.analysis new.analysis) (sym e) takes)
      (subst (λ (n : ℕ). new.missing.items ≡ old.missing.items ++ lacking log n) (sym e) missing))

-- in all records
pub found_all : (log : List Record) (f : Findings) → IsFound log (length log) f → AreFindings log f
found_all log f h =
    let P : List Record → Type 0 = λ p. IsAnalysis p f.analysis in
    let Q : List Record → Type 0 = λ p. Lists (HasCommit p) f.winners.items in
    record {
      analysis = subst P (everything log) h.analysis;
      winners = subst Q (everything log) h.winners;
      missing = h.missing;
    }
