-- What is opened from devices that a crash left.
use Rattle.std.proofs.Common.{◌≡◌, ℕ, List, [], ◌∷◌, ◌++◌, length, Option, Some, sym, ap, ◌∙◌, subst, arith, inl, inr}
use Rattle.std.specs.FinMap as table
use Rattle.codec.specs.declared.dc_record.DcRecord.{DcRecord}
use Rattle.framed_log.proofs.Opened.{MayAllFollow, none_bad}
use Rattle.stable.specs.PagesState.{Pages}
use Rattle.dc_leaf.specs.Leaf.{LeafView}
use Rattle.dc_recovery.specs.Shape.{IsLegal}
use Rattle.dc_recovery.specs.Recovery.{recover, FitPages, IsPageOf}
use Rattle.dc_recovery.specs.Ready.{IsReadable, AreReadable}
use Rattle.dc_recovery.specs.Laws.{IsArranged}
use Rattle.dc_recovery.specs.Leaves.{AreCurrent}
use Rattle.dc_recovery.proofs.Arranged.{arranged_once}
use Rattle.dc_recovery.proofs.Beginnings.{legal_beginning}
use Rattle.dc_recovery.proofs.Fitting.{fit_stays}
use Rattle.dc_recovery.proofs.Leaves.{leaves_are_the_shapes}
use Rattle.dc_recovery.proofs.Readable.{readable}
use Rattle.dc_store.specs.Devices.{IsPage, pages_of}
use Rattle.dc_store.specs.Recovering.{HoldsFrames, AreOwnPages, AreBadPages}
use Rattle.dc_store.specs.Restarts.{RestartsGiveTheLog, RestartsAreNeverBad, BeginningsAreRecoverable}
use Rattle.dc_store.proofs.ReadOnce.{log_framing, frames_read_once}
use Rattle.dc_store.proofs.PageReading.{image_found}

-- ---- what is opened

pub restarts : RestartsGiveTheLog
restarts bytes pages log forced v legal fit holds h =
    let same : v.log ≡ log = frames_read_once.once bytes v.log log h.frames holds in
    let arranged : IsArranged (pages_of pages) log v.leaves =
    subst (λ (l : List DcRecord). IsArranged (pages_of pages) l v.leaves) same h.arranged in
    let leaves : v.leaves ≡ recover (pages_of pages) log =
    (arranged_once (pages_of pages) log forced legal fit).1 v.leaves arranged in
    let current : AreCurrent log v.leaves =
    subst (AreCurrent log) (sym leaves) (leaves_are_the_shapes.recovered (pages_of pages) log forced legal fit) in
    let stable : v.stable ≡ length log = h.stable ∙ ap length same in
    let all : FitPages (pages_of pages) log (length log) =
    fit_stays.force (pages_of pages) log forced (length log) fit fit.kept (omega arith) in
    record {
      log_is = same;
      leaves_are = leaves;
      recoverable = record {
        legal = subst IsLegal (sym same) legal;
        current = subst (λ (l : List DcRecord). AreCurrent l v.leaves) (sym same) current;
        fit =
            subst (λ (p : Pages). FitPages (pages_of p) v.log v.stable) (sym h.pages_are)
            (subst (λ (n : ℕ). FitPages (pages_of pages) v.log n) (sym stable)
            (subst (λ (l : List DcRecord). FitPages (pages_of pages) l (length log)) (sym same) all));
      };
    }

-- ---- why it is refused

older_readable : (pages : ℕ → Option LeafView) (newer older : List DcRecord) → AreReadable pages (newer ++ older)
    → AreReadable pages older
older_readable pages [] older all = all
older_readable pages (r ∷ newer) older all = older_readable pages newer older all.1

-- each record of a readable log may follow those before it
readable_each : (pages : ℕ → Option LeafView) → MayAllFollow (AreReadable pages) (IsReadable pages)
readable_each pages newer r older all = (older_readable pages newer (r ∷ older) all).0

-- images of leaves that fit the log are images of their own leaves
own_pages : (pages : Pages) (log : List DcRecord) (forced : ℕ) → FitPages (pages_of pages) log forced
    → ((id : ℕ) (page : List ℕ) → table.get pages id ≡ Some page → (leaf : LeafView) × IsPage page leaf)
    → AreOwnPages pages (length log)
own_pages pages log forced fit images = λ id bytes is.
    let page = images id bytes is in
    let own : IsPageOf log forced id page.0 = fit.each id page.0 (image_found pages id bytes page.0 is page.1) in
    (page.0, page.1, own.own, omega (arith, own.last, fit.kept))

-- and with these recovery has an arrangement
pages_good : (bytes : List ℕ) (pages : Pages) (log : List DcRecord) (forced : ℕ) → IsLegal log
    → FitPages (pages_of pages) log forced
    → ((id : ℕ) (page : List ℕ) → table.get pages id ≡ Some page → (leaf : LeafView) × IsPage page leaf)
    → HoldsFrames bytes log → AreBadPages bytes pages → ⊥
pages_good bytes pages log forced legal fit images h b =
    let same : b.log ≡ log = frames_read_once.once bytes b.log log b.frames h in
    elim b.bad [
      | inl wrong ↦
          wrong (subst (λ (l : List DcRecord). AreOwnPages pages (length l)) (sym same)
          (own_pages pages log forced fit images))
      | inr wrong ↦
          let leaves : List LeafView = recover (pages_of pages) log in
          wrong leaves (subst (λ (l : List DcRecord). IsArranged (pages_of pages) l leaves) (sym same)
          (arranged_once (pages_of pages) log forced legal fit).0)
    ]

pub never_bad : RestartsAreNeverBad
never_bad bytes pages log forced r legal fit images room h (inl device) = inr device
never_bad bytes pages log forced r legal fit images room h (inr (inl (inl memory))) = inl memory
never_bad bytes pages log forced r legal fit images room h (inr (inl (inr (place, is, bad)))) =
    absurd (none_bad log_framing (AreReadable (pages_of pages)) (IsReadable (pages_of pages)) bytes log place
    (readable_each (pages_of pages)) (readable (pages_of pages) log legal) room h bad)
never_bad bytes pages log forced r legal fit images room h (inr (inr (is, bad))) =
    absurd (pages_good bytes pages log forced legal fit images h bad)

-- ---- beginnings

pub beginnings : BeginningsAreRecoverable
beginnings v n h le = record {
  legal = legal_beginning v.log n h.legal;
  fit = fit_stays.crash (pages_of v.pages) v.log v.stable n h.fit le;
}
