-- The undo of losers keeps what holds of the transaction component.
use Rattle.std.proofs.Common.{◌≡◌, ◌≢◌, ℕ, ◌+◌, ◌<◌, true, false, List, [], ◌∷◌, ◌++◌, length, Option, Some, None, IsSome, is_some, refl, sym, ap, ◌∙◌, subst, arith, inl, inr, true≢false}
use Rattle.std.specs.List.{Contains}
use Rattle.std.proofs.lemmas.Bool.{cases_eq, cases_Bool}
use Rattle.std.proofs.lemmas.List.Elements.{Contains-append_left, Contains-push}
use Rattle.record_key.specs.declared.op.Op.{Op}
use Rattle.record_key.specs.declared.op.Answer.{Answer}
use Rattle.history.specs.declared.record.Record.{Record}
use Rattle.history.specs.declared.record.Record.TheVariants as is
use Rattle.history.specs.Log.{answer_of}
use Rattle.history.specs.Legal.{Fits, IsIdle, IsLegal}
use Rattle.log_laws.proofs.Records.{AStep, ARequest, at_newest, newest_at}
use Rattle.tc_locks.specs.Locks.{set_spans}
use Rattle.tc_locks.proofs.Tables.{set_other}
use Rattle.tc_log.specs.LogView.{is_spent}
use Rattle.tc_undo.specs.NextUndo.{Compensates}
use Rattle.tc_restart.specs.declared.loser.Loser.{Loser}
use Rattle.tc_restart.specs.Losers.{LosersView, txns, IsLoser, AreLosers, IsLeft, IsLeast, MayEnd, LosesNext, TakesComp, TakesEnd}
use Rattle.tc_restart.proofs.Losing.{loser_kept, loser_had}
use Rattle.tc_restart.proofs.Listed.{undoing_loser, undoing_at, done_ends}
use Rattle.tc_core.specs.declared.open_txn.OpenTxn.{OpenTxn}
use Rattle.tc_core.specs.declared.phase.Phase.{Phase}
use Rattle.tc_core.specs.declared.phase.Phase.TheVariants as phase
use Rattle.tc_core.specs.OpenTxns.{find}
use Rattle.tc_core.specs.TcView.{TcView, is_none_lost}
use Rattle.tc_core.specs.Locking.{is_listed, is_holder, HoldOperations}
use Rattle.tc_log.specs.Undoing.{inverse_at, next_at}
use Rattle.tc_core.specs.Changes.{waits_for, lost_comp, lost_compensated, lost_ended}
use Rattle.tc_core.specs.Kept.{AreOpen, IsPhase, IsPhaseOf, MayLack, IsOwedAnswer, closing, IsTc}
use Rattle.tc_core.proofs.Committing.{holder_more, holder_alike}
use Rattle.tc_core.proofs.Finding.{found_number}
use Rattle.tc_core.proofs.Low.{low_longer}
use Rattle.tc_core.proofs.LettingGo.{early_freed}
use Rattle.tc_core.proofs.Losers.{listed_loser, same_listed, some_lost, due_was}
use Rattle.tc_core.proofs.Keeps.{open_was}
use Rattle.tc_core.proofs.KeepsOpen.{same_open}
use Rattle.tc_core.proofs.KeepsSteps.{step_leaves, end_leaves, ends}
use Rattle.tc_core.proofs.KeepsTc.{one_more, none_next, not_committing}
use Rattle.tc_core.proofs.KeepsLost.{phase_ended, phase_of_ended, none_awaited}
use Rattle.tc_core.proofs.KeepsUndo.{comp_is}
use Rattle.tc_core.proofs.LocksHeld.{alike, loses}
use Rattle.tc_core.proofs.Readings.{reads_kept}

module _ (w : TcView) (k : IsTc w) (undoing : w.phase ≡ phase.Undoing None) where
  -- no request of a loser is awaited
  none_due : (n : ℕ) → IsOwedAnswer w.log w.losers.below n → ⊥
  none_due n due =
      let P : Phase → Type 0 = λ p. MayLack w.session p n in
      let lack : None ≡ Some n = subst P undoing (k.lost.lacking n due) in cc

  pub lost_idle : (t : ℕ) → IsLoser w.log w.losers.below t → IsIdle w.log t
  lost_idle t loser n o step requests = pick (answer_of w.log n) refl
    where
      pick : (a : Option Answer) → answer_of w.log n ≡ a → IsSome (answer_of w.log n)
      pick (Some a) is = ap is_some is
      pick None is = absurd (none_due n
          (record { txn = t; loser = loser; op = o; step = step; requests = requests; unanswered = is }))

  positive : 0 < w.session
  positive = let P : Phase → Type 0 = IsPhase w.checkpointed w.session in subst P undoing k.phase

  not_running : (l : ℕ) → w.checkpointing ≡ Some l → ⊥
  not_running l is = let clash : phase.Undoing None ≡ phase.Running = sym undoing ∙ k.asking l is in cc

  -- a loser isn't open, nor committing
  other_txn : (t : ℕ) → IsLoser w.log w.losers.below t → (o : OpenTxn) → find o.txn w.open_txns ≡ Some o → o.txn ≢ t
  other_txn t loser o at same = omega (arith, k.open_txns.late o.txn o at, loser.early, same)

  -- where losers are left one of them may end, or has an operation left
  pub something_left : ((t : ℕ) → MayEnd w.log w.losers.below t → ⊥) → ((n : ℕ) → IsLeft w.log w.losers.below n → ⊥) → ⊥
  something_left none_ends none_left =
      let P : Phase → Type 0 = IsPhaseOf w.losers in
      pick w.losers.undoing refl w.losers.done refl (subst P undoing k.lost.phase_of)
    where
      pick : (xs : List Loser) → w.losers.undoing ≡ xs → (ts : List ℕ) → w.losers.done ≡ ts
          → is_none_lost w.losers ≡ false → ⊥
      pick (x ∷ xs) is ts done some =
          let P : List Loser → Type 0 = λ ys. Contains ys x in
          let there : Contains w.losers.undoing x =
          subst P (sym is) (Contains-append_left (x ∷ []) xs x (Contains-push [] x)) in
          none_left x.left (record {
            txn = x.txn;
            loser = undoing_loser w.log w.losers k.lost.losers x there;
            stands = (undoing_at w.log w.losers k.lost.losers x there).left.is;
          })
      pick [] is (t ∷ ts) done some =
          let P : List ℕ → Type 0 = λ us. Contains us t in
          none_ends t (done_ends w.log w.losers k.lost.losers t
          (subst P (sym done) (Contains-append_left (t ∷ []) ts t (Contains-push [] t))))
      pick [] is [] done some =
          let none : is_none_lost w.losers ≡ true = rw (is, done) refl in true≢false (sym none ∙ some)

  -- its End
  pub fits_lost_end : (t : ℕ) → MayEnd w.log w.losers.below t → Fits w.log (is.End t)
  fits_lost_end t ends = record { open_txn = ends.loser.open_txn; idle = lost_idle t ends.loser; undone = ends.undone }

  module _ (t : ℕ) (l : LosersView) (least : IsLeast (MayEnd w.log w.losers.below) t) (taken : TakesEnd w.losers l)
      (same : l.below ≡ w.losers.below) where
    abbrev pub ended : Record
    ended = is.End t

    legal : IsLegal (ended ∷ w.log)
    legal = (fits_lost_end t least.is, k.legal)

    pub losers_ended : AreLosers (ended ∷ w.log) l
    losers_ended = taken w.log t k.lost.losers legal least

    -- it isn't listed any more, each other as before
    gone : is_listed (txns l) t ≡ false
    gone = elim (cases_Bool (is_listed (txns l) t)) [
      | inl listed ↦
          let clash : t ≢ t = (ends w.log t t (listed_loser (ended ∷ w.log) l losers_ended t listed).open_txn).0 in
          absurd (clash refl)
      | inr unlisted ↦ unlisted
    ]

    others : (u : ℕ) → u ≢ t → is_listed (txns l) u ≡ is_listed (txns w.losers) u
    others u apart = same_listed w.log (ended ∷ w.log) w.losers l k.lost.losers losers_ended u
        (λ loser. let P : ℕ → Type 0 = λ b. IsLoser (ended ∷ w.log) b u in
        subst P (sym same) (loser_kept ended w.log legal w.losers.below u (λ e. cc) (λ e. apart (cc)) loser))
        (λ loser. let P : ℕ → Type 0 = λ b. IsLoser (ended ∷ w.log) b u in
        loser_had ended w.log legal w.losers.below u k.lost.losers.bound (subst P same loser))

    not_open : find t w.open_txns ≡ None
    not_open = pick (find t w.open_txns) refl
      where
        pick : (x : Option OpenTxn) → find t w.open_txns ≡ x → find t w.open_txns ≡ None
        pick None is = is
        pick (Some o) is = absurd (omega (arith, k.open_txns.late t o is, least.is.loser.early))

    nobody : is_holder w.open_txns (w.committing ++ txns l) t ≡ false
    nobody =
        holder_more w.open_txns w.committing (txns l) t
        ∙ rw (not_open, not_committing w t k least.is.loser.open_txn.goes_on, gone) refl

    pub keeps_lost_end : is_spent w.log ≡ false → IsTc (lost_ended w t l)
    keeps_lost_end unspent = record {
      legal = legal;
      within = omega (arith, k.within);
      few = record { records = omega (arith, one_more w.log unspent); reads = k.few.reads };
      session = k.session;
      asking = λ n is. absurd (not_running n is);
      phase = phase_ended w.checkpointed w.session l positive;
      low = low_longer w k ended refl;
      open_txns =
          let P : ℕ → Type 0 = λ b. AreOpen (ended ∷ w.log) b w.open_txns in
          subst P (sym same) (same_open w.log (ended ∷ w.log) w.losers.below w.open_txns k.open_txns
          (λ o at h. end_leaves w.log t o (other_txn t least.is.loser o at) h) (λ u now. (ends w.log t u now).1));
      committing = k.committing;
      lost = record {
        losers = losers_ended;
        phase_of = phase_of_ended l;
        lacking = λ n due. absurd (
            let P : ℕ → Type 0 = λ b. IsOwedAnswer (ended ∷ w.log) b n in
            let due : IsOwedAnswer (ended ∷ w.log) w.losers.below n = subst P same due in
            elim (cases_eq n (length w.log + 1)) [
              | inl e ↦ let none : AStep due.txn (Some ended) = newest_at (AStep due.txn) ended w.log n e due.step in cc
              | inr e ↦ none_due n (due_was ended w.log w.losers.below legal n k.lost.losers.bound e due)
            ]
            );
        due = λ n e. absurd (none_awaited l n e);
      };
      locks = loses w.log w.open_txns (closing w) w.locks k.locks t (w.committing ++ txns l) nobody
          (λ u apart. holder_alike w.open_txns w.committing (txns w.losers) (txns l) u (others u apart));
      early = (let P : ℕ → Type 0 = λ b. HoldOperations b (set_spans t [] w.locks) in
          subst P (sym same) (early_freed w.losers.below t w.locks k.locks.table k.early));
      reading = reads_kept w.reads w.open_txns w.locks k.reading (set_spans t [] w.locks)
          (λ u o at. set_other t [] w.locks o.txn k.locks.table
          (λ e. omega (arith, e, found_number u w.open_txns o at, k.open_txns.late u o at, least.is.loser.early)));
    }

  -- the compensation that is due is that of the latest operation
  pub lost_is : (x : Loser) (r : Record) → LosesNext w.log w.losers.below x → Compensates w.log x.txn 0 r
      → r ≡ lost_comp w.log x
  lost_is x r next h = (comp_is w.log x.txn x.left 0 r k.legal (inl next.at.left) h).0

  module _ (x : Loser) (l : LosersView) (next : LosesNext w.log w.losers.below x)
      (fits : Fits w.log (lost_comp w.log x))
      (taken : TakesComp w.losers (length w.log + 1) (next_at w.log x.left) l) (same : l.below ≡ w.losers.below) where
    abbrev inverse : Option Op
    inverse = inverse_at w.log x.left

    abbrev comp : Record
    comp = lost_comp w.log x

    legal_comp : IsLegal (comp ∷ w.log)
    legal_comp = (fits, k.legal)

    losers_comp : AreLosers (comp ∷ w.log) l
    losers_comp = taken w.log x.txn x.left inverse k.lost.losers legal_comp next.latest refl

    still : (u : ℕ) → IsLoser w.log w.losers.below u → IsLoser (comp ∷ w.log) l.below u
    still u loser =
        let P : ℕ → Type 0 = λ b. IsLoser (comp ∷ w.log) b u in
        subst P (sym same) (loser_kept comp w.log legal_comp w.losers.below u (λ e. cc) (λ e. cc) loser)

    same_losers : (u : ℕ) → is_listed (txns l) u ≡ is_listed (txns w.losers) u
    same_losers u = same_listed w.log (comp ∷ w.log) w.losers l k.lost.losers losers_comp u (still u)
        (λ loser. let P : ℕ → Type 0 = λ b. IsLoser (comp ∷ w.log) b u in
        loser_had comp w.log legal_comp w.losers.below u k.lost.losers.bound (subst P same loser))

    asked : (i : Option Op) (o : Op) (n : ℕ) → i ≡ Some o → waits_for n i ≡ Some n
    asked None o n e = absurd (cc)
    asked (Some i) o n e = refl

    waited : (i : Option Op) (n m : ℕ) → waits_for n i ≡ Some m → (o : Op) × (i ≡ Some o) × (n ≡ m)
    waited None n m e = absurd (cc)
    waited (Some i) n m e = (i, refl, cc)

    lacking_comp : (n : ℕ) → IsOwedAnswer (comp ∷ w.log) l.below n → waits_for (length w.log + 1) inverse ≡ Some n
    lacking_comp n due =
        let P : ℕ → Type 0 = λ b. IsOwedAnswer (comp ∷ w.log) b n in
        let due : IsOwedAnswer (comp ∷ w.log) w.losers.below n = subst P same due in
        elim (cases_eq n (length w.log + 1)) [
          | inl e ↦ asked inverse due.op (length w.log + 1) (newest_at (ARequest due.op) comp w.log n e due.requests)
              ∙ ap Some (sym e)
          | inr e ↦ absurd (none_due n (due_was comp w.log w.losers.below legal_comp n k.lost.losers.bound e due))
        ]

    due_comp : (n : ℕ) → phase.Undoing (waits_for (length w.log + 1) inverse) ≡ phase.Undoing (Some n)
        → IsOwedAnswer (comp ∷ w.log) l.below n
    due_comp n e =
        let waits : waits_for (length w.log + 1) inverse ≡ Some n = cc in
        let is = waited inverse (length w.log + 1) n waits in
        let P : ℕ → Type 0 = IsOwedAnswer (comp ∷ w.log) l.below in
        subst P is.2 (record {
          txn = x.txn;
          loser = still x.txn next.loser;
          op = is.0;
          step = at_newest (AStep x.txn) comp w.log (length w.log + 1) refl refl;
          requests = at_newest (ARequest is.0) comp w.log (length w.log + 1) refl is.1;
          unanswered = none_next w.log k.legal;
        })

    pub keeps_lost_comp : is_spent w.log ≡ false → IsTc (lost_compensated w x l)
    keeps_lost_comp unspent = record {
      legal = legal_comp;
      within = omega (arith, k.within);
      few = record { records = omega (arith, one_more w.log unspent); reads = k.few.reads };
      session = k.session;
      asking = λ n is. absurd (not_running n is);
      phase = positive;
      low = low_longer w k comp refl;
      open_txns =
          let P : ℕ → Type 0 = λ b. AreOpen (comp ∷ w.log) b w.open_txns in
          subst P (sym same) (same_open w.log (comp ∷ w.log) w.losers.below w.open_txns k.open_txns
          (λ o at h. step_leaves comp w.log x.txn refl (λ n. refl) o (other_txn x.txn next.loser o at) h)
          (open_was comp w.log (λ e. cc)));
      committing = k.committing;
      lost = record {
        losers = losers_comp;
        phase_of = some_lost (comp ∷ w.log) l x.txn losers_comp (still x.txn next.loser);
        lacking = lacking_comp;
        due = due_comp;
      };
      locks = alike w.log w.open_txns (closing w) w.locks k.locks comp w.open_txns (w.committing ++ txns l) refl
          (λ u. holder_alike w.open_txns w.committing (txns w.losers) (txns l) u (same_losers u));
      early = (let P : ℕ → Type 0 = λ b. HoldOperations b w.locks in subst P (sym same) k.early);
      reading = k.reading;
    }
