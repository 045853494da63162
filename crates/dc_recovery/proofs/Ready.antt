-- Pages and log that are ready for a crash, and stay so.
use Rattle.std.proofs.Common.{◌≡◌, ◌≢◌, ℕ, ◌<◌, ◌≤◌, List, [], ◌∷◌, length, Some, None, is_some, refl, sym, ap, ◌∙◌, subst, arith, inl, inr, true≢false, eq-eqb, ne_eqb}
use Rattle.std.proofs.lemmas.Bool.{cases_eq, cases_lt}
use Rattle.std.specs.List.{AllByRecursion}
use Rattle.codec.specs.declared.dc_record.DcRecord.{DcRecord}
use Rattle.codec.specs.declared.dc_record.DcRecord.TheVariants.{Accept, Split, Merge}
use Rattle.dc_leaf.specs.Leaf.{LeafView, first}
use Rattle.dc_leaf.specs.Tiles.{part_of}
use Rattle.dc_recovery.specs.Shape.{part_in, shape, named, FitsSplit, IsLegal}
use Rattle.framed_log.specs.Beginning.{beginning}
use Rattle.dc_recovery.specs.Recovery.{Pages, FitPages, written}
use Rattle.dc_recovery.specs.Laws.{leaf_in, IsCurrent, LoggedHave, SourcesHave, IsKeptByCuts}
use Rattle.dc_recovery.specs.Ready.{IsReady, Recovers, AreWritten, AllHave, ReadyStays}
use Rattle.dc_recovery.proofs.Splitting.{split_other}
use Rattle.dc_recovery.proofs.Merging.{merge_none}
use Rattle.dc_recovery.proofs.Shapes.{known_before}
use Rattle.dc_recovery.proofs.Presence.{is_there}
use Rattle.dc_recovery.proofs.Sources.{recovered_have}
use Rattle.dc_recovery.proofs.Beginnings.{legal_beginning}
use Rattle.framed_log.proofs.Beginning.{shorter, whole, of_beginning}
use Rattle.dc_recovery.proofs.Fitting.{fit_beginning}
use Rattle.dc_recovery.proofs.Logged.{unnamed, logged_alike, seen_beginning, page_alone, forced_shape}

module _ (P : LeafView → Type 0) where
  all_sources : (pages : Pages) (id : ℕ) (log : List DcRecord) → P first
      → AllByRecursion (λ (r : DcRecord). (leaf : LeafView) → leaf_in r ≡ Some leaf → P leaf) log
      → LoggedHave P pages id log
  all_sources pages id [] has all = λ e none. has
  all_sources pages id (r ∷ log) has all =
      (λ made is own unseen. all.0 made is, all_sources pages id log has all.1)

  some_sources : (pages : Pages) (id : ℕ) (log : List DcRecord) (n : ℕ) → LoggedHave P pages id log
      → LoggedHave P pages id (beginning log n)
  some_sources pages id log n h = of_beginning (LoggedHave P pages id) n (λ r l more has. has.1) log h

  none_ready : P first → IsReady P (λ id. None) [] 0
  none_ready has n id le at = record { page = λ page is. absurd (cc); logged = some_sources (λ id. None) id [] n (λ e none. has) }

  all_ready : (pages : Pages) (log : List DcRecord) (forced : ℕ) → AllHave P pages log → IsReady P pages log forced
  all_ready pages log forced all n id le at =
      record {
        page = all.page id;
        logged = some_sources pages id log n (all_sources pages id log all.first_leaf all.logged);
      }

  written_ready : (pages : Pages) (log : List DcRecord) (forced : ℕ) → IsLegal log → FitPages pages log forced
      → AreWritten P pages log → IsReady P pages log forced
  written_ready pages log forced legal fit all n id le at =
      let same : shape (beginning log n) ≡ shape log =
      forced_shape log forced legal
      (λ other there. let v = all other there in
      record { number = v.0.last; known = (fit.each other v.0 v.1).last; seen = v.2.seen }) n le in
      let w = all id (λ none. at (ap (part_in id) same ∙ none)) in
      page_alone P pages id w.0 (beginning log n) w.1 w.3 (seen_beginning id w.0.last log n w.2.seen)

  -- one record more
  module _ (pages : Pages) (log : List DcRecord) (forced : ℕ) (fit : FitPages pages log forced) where
    no_page : (id : ℕ) → IsLegal log → named log < id → (page : LeafView) → pages id ≢ Some page
    no_page id legal above page is =
        let no : None ≡ Some (part_of page) =
        sym (known_before log page.last id legal above) ∙ (fit.each id page is).fences in
        cc

    more_sources : (r : DcRecord) (id : ℕ) → ((made : LeafView) → leaf_in r ≡ Some made → P made)
        → SourcesHave P pages id log → SourcesHave P pages id (r ∷ log)
    more_sources r id has old = record { page = old.page; logged = (λ made is own unseen. has made is, old.logged) }

    grown_sources : (r : DcRecord) (id : ℕ) → IsLegal (r ∷ log) → ((made : LeafView) → leaf_in r ≡ Some made → P made)
        → (part_in id (shape log) ≢ None → SourcesHave P pages id log) → part_in id (shape (r ∷ log)) ≢ None
        → SourcesHave P pages id (r ∷ log)
    grown_sources (Accept session) id legal has old at = more_sources (Accept session) id has (old at)
    grown_sources (Split left cut right) id legal has old at =
        let fits : FitsSplit log left cut right = legal.0 in
        elim (cases_eq id right.id) [
          | inl e ↦
              let above : named log < id = omega (arith, e, fits.next) in
              more_sources (Split left cut right) id has
              (record {
                page = λ page is. absurd (no_page id legal.1 above page is);
                logged = unnamed P pages log id legal.1 above;
              })
          | inr fresh ↦
              more_sources (Split left cut right) id has (old (λ none. at (
              split_other left right.id id cut (shape log)
              (λ e. let no : Some fits.old ≡ None = sym fits.there ∙ ap (λ (x : ℕ). part_in x (shape log)) (sym e)
              ∙ none in absurd (cc)) fresh
              ∙ none)))
        ]
    grown_sources (Merge left right merged) id legal has old at =
        more_sources (Merge left right merged) id has (old (λ none. at (merge_none left id (shape log) none)))

  grow_ready : (pages : Pages) (r : DcRecord) (log : List DcRecord) (forced : ℕ) → IsLegal (r ∷ log)
      → FitPages pages log forced → ((leaf : LeafView) → leaf_in r ≡ Some leaf → P leaf)
      → IsReady P pages log forced → IsReady P pages (r ∷ log) forced
  grow_ready pages r log forced legal fit has ready n id le at =
      elim (cases_lt (length log) n) [
        | inl less ↦
            let old : part_in id (shape log) ≢ None → SourcesHave P pages id log =
            subst (λ (x : List DcRecord). part_in id (shape x) ≢ None → SourcesHave P pages id x)
            (whole log n (omega (arith, less))) (ready n id le) in
            let e : beginning (r ∷ log) n ≡ r ∷ log = whole (r ∷ log) n (omega (arith, less)) in
            subst (λ (x : List DcRecord). SourcesHave P pages id x) (sym e)
            (grown_sources pages log forced fit r id legal has old
            (λ none. at (ap (λ (x : List DcRecord). part_in id (shape x)) e ∙ none)))
        | inr ge ↦
            let e : beginning (r ∷ log) n ≡ beginning log n = shorter r log n ge in
            subst (λ (x : List DcRecord). SourcesHave P pages id x) (sym e)
            (ready n id le (λ none. at (ap (λ (x : List DcRecord). part_in id (shape x)) e ∙ none)))
      ]

  force_ready : (pages : Pages) (log : List DcRecord) (forced more : ℕ) → forced ≤ more → IsReady P pages log forced
      → IsReady P pages log more
  force_ready pages log forced more le ready n id most at = ready n id (omega (arith, le, most)) at

  write_ready : (pages : Pages) (log : List DcRecord) (forced id : ℕ) (leaf : LeafView) → IsCurrent log id leaf
      → P leaf → IsReady P pages log forced
      → IsReady P (written pages id leaf) log forced
  write_ready pages log forced id leaf current has ready n other le at =
      elim (cases_eq other id) [
        | inl e ↦
            subst (λ (x : ℕ). SourcesHave P (written pages id leaf) x (beginning log n)) (sym e)
            (page_alone P (written pages id leaf) id leaf (beginning log n) (rw (eq-eqb id id refl) refl) has
            (seen_beginning id leaf.last log n current.seen))
        | inr apart ↦
            let same : pages other ≡ written pages id leaf other = rw (ne_eqb other id apart) refl in
            let old : SourcesHave P pages other (beginning log n) = ready n other le at in
            record {
              page = λ page is. old.page page (same ∙ is);
              logged = logged_alike P pages (written pages id leaf) other (beginning log n) same old.logged;
            }
      ]

  crash_ready : (pages : Pages) (log : List DcRecord) (forced n : ℕ) → forced ≤ n → IsReady P pages log forced
      → IsReady P pages (beginning log n) (length (beginning log n))
  crash_ready pages log forced n le ready m id most at =
      let e : beginning (beginning log n) m ≡ beginning log n = whole (beginning log n) m most in
      subst (λ (x : List DcRecord). SourcesHave P pages id x) (sym e)
      (ready n id le (λ none. at (ap (λ (x : List DcRecord). part_in id (shape x)) e ∙ none)))

  pub ready_stays : ReadyStays P
  ready_stays = record {
    none = none_ready;
    all = all_ready;
    written_all = written_ready;
    grow = grow_ready;
    force = force_ready;
    write = write_ready;
    crash = crash_ready;
  }

  -- recovery from any beginning
  pub recovers : IsKeptByCuts P → Recovers P
  recovers keeps pages log forced n id leaf legal fit ready le h =
      let older : IsLegal (beginning log n) = legal_beginning log n legal in
      recovered_have P pages (beginning log n) forced id leaf keeps older (fit_beginning pages log forced n fit le)
      (ready n id le
      (λ none. true≢false (sym (ap is_some h) ∙ is_there pages (beginning log n) older id ∙ ap is_some none))) h

-- what leaves have that have something else
logged_too : (P Q : LeafView → Type 0) (pages : Pages) (id : ℕ) (log : List DcRecord)
    → ((leaf : LeafView) → P leaf → Q leaf) → LoggedHave P pages id log → LoggedHave Q pages id log
logged_too P Q pages id [] too h = λ e none. too first (h e none)
logged_too P Q pages id (r ∷ log) too h =
    (λ made is own unseen. too made (h.0 made is own unseen), logged_too P Q pages id log too h.1)

pub ready_too : (P Q : LeafView → Type 0) (pages : Pages) (log : List DcRecord) (forced : ℕ)
    → ((leaf : LeafView) → P leaf → Q leaf) → IsReady P pages log forced → IsReady Q pages log forced
ready_too P Q pages log forced too ready n id le at =
    let old : SourcesHave P pages id (beginning log n) = ready n id le at in
    record {
      page = λ page is. too page (old.page page is);
      logged = logged_too P Q pages id (beginning log n) too old.logged;
    }
