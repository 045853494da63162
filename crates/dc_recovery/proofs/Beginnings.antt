-- A beginning of a legal log with all that was forced serves recovery as well.
use Rattle.std.proofs.Common.{◌≡◌, ℕ, ◌≤◌, List, [], ◌∷◌, ◌++◌, length, refl, sym, ap, ◌∙◌, arith}
use Rattle.codec.specs.declared.dc_record.DcRecord.{DcRecord}
use Rattle.dc_recovery.specs.Shape.{part_in, shape, IsLegal}
use Rattle.framed_log.specs.Beginning.{beginning}
use Rattle.framed_log.proofs.Beginning.{shorter, of_beginning}
use Rattle.dc_recovery.specs.Recovery.{IsPageOf}
use Rattle.dc_recovery.specs.Laws.{BeginningsAreSafe}

legal_older : (newer older : List DcRecord) → IsLegal (newer ++ older) → IsLegal older
legal_older [] older legal = legal
legal_older (r ∷ newer) older legal = legal_older newer older legal.1

longer : (newer older : List DcRecord) → length older ≤ length (newer ++ older)
longer [] older = omega arith
longer (r ∷ newer) older = let le : length older ≤ length (newer ++ older) = longer newer older in omega (arith, le)

same_beginning : (newer older : List DcRecord) (n : ℕ) → n ≤ length older
    → beginning (newer ++ older) n ≡ beginning older n
same_beginning [] older n le = refl
same_beginning (r ∷ newer) older n le =
    let more : n ≤ length (newer ++ older) = omega (arith, le, longer newer older) in
    shorter r (newer ++ older) n more ∙ same_beginning newer older n le

-- the law
pub safe_beginnings : BeginningsAreSafe
safe_beginnings pages newer older forced legal fit le = record {
  legal = legal_older newer older legal;
  fit = record {
    kept = le;
    each = λ id page is.
        let was : IsPageOf (newer ++ older) forced id page = fit.each id page is in
        record {
          own = was.own;
          last = was.last;
          fences =
              ap (λ (x : List DcRecord). part_in id (shape x))
              (sym (same_beginning newer older page.last (omega (arith, was.last, le))))
              ∙ was.fences;
        };
  };
}

pub legal_beginning : (log : List DcRecord) (n : ℕ) → IsLegal log → IsLegal (beginning log n)
legal_beginning log n legal = of_beginning IsLegal n (λ r l more h. h.1) log legal
