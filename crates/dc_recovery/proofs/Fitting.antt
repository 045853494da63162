-- Pages that fit the log go on to fit it.
use Rattle.std.proofs.Common.{◌≡◌, ◌≢◌, ℕ, ◌≤◌, List, length, Option, Some, sym, ap, ◌∙◌, subst, arith, inl, inr, eq-eqb, ne_eqb}
use Rattle.std.proofs.lemmas.Bool.{cases_eq}
use Rattle.codec.specs.declared.dc_record.DcRecord.{DcRecord}
use Rattle.dc_leaf.specs.Leaf.{LeafView}
use Rattle.dc_recovery.specs.Shape.{part_in, shape}
use Rattle.framed_log.specs.Beginning.{beginning}
use Rattle.dc_recovery.specs.Recovery.{Pages, IsPageOf, FitPages, written}
use Rattle.dc_recovery.specs.Ready.{PagesStayFit}
use Rattle.framed_log.proofs.Beginning.{shorter, twice, long_enough}

-- pages fit each beginning with all that was forced, and where more was forced
pub fit_beginning : (pages : Pages) (log : List DcRecord) (forced n : ℕ) → FitPages pages log forced → forced ≤ n
    → FitPages pages (beginning log n) forced
fit_beginning pages log forced n fit le = record {
  kept = long_enough log n forced le fit.kept;
  each = λ id page is.
      let was : IsPageOf log forced id page = fit.each id page is in
      record {
        own = was.own;
        last = was.last;
        fences =
            ap (λ (x : List DcRecord). part_in id (shape x)) (twice log n page.last (omega (arith, was.last, le)))
            ∙ was.fences;
      };
}

more_forced : (pages : Pages) (log : List DcRecord) (forced more : ℕ) → FitPages pages log forced → forced ≤ more
    → more ≤ length log → FitPages pages log more
more_forced pages log forced more fit le kept = record {
  kept = kept;
  each = λ id page is.
      let was : IsPageOf log forced id page = fit.each id page is in
      record { own = was.own; last = omega (arith, was.last, le); fences = was.fences };
}

-- what a written leaf is found by
at_written : (P : Option LeafView → Type 0) (pages : Pages) (id : ℕ) (leaf : LeafView) (other : ℕ)
    → (other ≡ id → P (Some leaf)) → (other ≢ id → P (pages other)) → P (written pages id leaf other)
at_written P pages id leaf other here elsewhere =
    elim (cases_eq other id) [
      | inl e ↦ rw (eq-eqb other id e) (here e)
      | inr apart ↦ rw (ne_eqb other id apart) (elsewhere apart)
    ]

pub fit_stays : PagesStayFit
fit_stays = record {
  grow = λ pages r log forced fit. record {
    kept = let le = fit.kept in omega (arith, le);
    each = λ id page is.
        let was : IsPageOf log forced id page = fit.each id page is in
        record {
          own = was.own;
          last = was.last;
          fences =
              ap (λ (x : List DcRecord). part_in id (shape x))
              (shorter r log page.last (omega (arith, was.last, fit.kept)))
              ∙ was.fences;
        };
  };
  force = more_forced;
  write = λ pages log forced id leaf fit current last. record {
    kept = fit.kept;
    each = λ other page.
        at_written (λ x. x ≡ Some page → IsPageOf log forced other page) pages id leaf other
        (λ e is.
        let same : leaf ≡ page = cc in
        subst (λ (x : LeafView). IsPageOf log forced other x) same
        (subst (λ (x : ℕ). IsPageOf log forced x leaf) (sym e)
        (record { own = current.own; last = last; fences = current.written })))
        (λ apart is. fit.each other page is);
  };
  crash = λ pages log forced n fit le.
      more_forced pages (beginning log n) forced (length (beginning log n)) (fit_beginning pages log forced n fit le)
      (long_enough log n forced le fit.kept) (omega arith);
}
