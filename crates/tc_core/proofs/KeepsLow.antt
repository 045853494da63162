-- What is announced, asked for and checkpointed keeps what holds of the transaction component.
use Rattle.std.proofs.Common.{◌≡◌, ℕ, ◌<◌, false, ◌∷◌, Some, refl, sym, subst, arith}
use Rattle.history.specs.declared.record.Record.{Record}
use Rattle.history.specs.declared.record.Record.TheVariants as is
use Rattle.tc_log.specs.LogView.{is_spent}
use Rattle.tc_core.specs.declared.phase.Phase.{Phase}
use Rattle.tc_core.specs.declared.phase.Phase.TheVariants as phase
use Rattle.tc_core.specs.TcView.{TcView}
use Rattle.tc_core.specs.LowWater.{MayAnnounce}
use Rattle.tc_core.specs.Changes.{greater, announced, asked_checkpoint, checkpointed}
use Rattle.tc_core.specs.Kept.{IsTc, closing, IsPhase}
use Rattle.history.specs.Legal.{Fits}
use Rattle.tc_core.proofs.Keeps.{open_was}
use Rattle.tc_core.proofs.KeepsOpen.{same_open}
use Rattle.tc_core.proofs.KeepsSteps.{checkpoint_leaves}
use Rattle.tc_core.proofs.KeepsTc.{one_more}
use Rattle.tc_core.proofs.LocksHeld.{longer}
use Rattle.tc_core.proofs.Losers.{lost_more}
use Rattle.tc_core.proofs.Low.{may_all, low_announced, low_asked, low_checkpointed}

module _ (w : TcView) (k : IsTc w) where
  pub keeps_announced : (l : ℕ) → MayAnnounce w l → IsTc (announced w l)
  keeps_announced l may = record {
    legal = k.legal;
    within = k.within;
    few = record { records = k.few.records; reads = k.few.reads };
    session = k.session;
    phase = k.phase;
    asking = k.asking;
    low = low_announced w k l may;
    open_txns = k.open_txns;
    committing = k.committing;
    lost = k.lost;
    locks = k.locks;
    early = k.early;
    reading = k.reading;
  }

  pub keeps_asked : w.phase ≡ phase.Running → IsTc (asked_checkpoint w)
  keeps_asked running = record {
    legal = k.legal;
    within = k.within;
    few = record { records = k.few.records; reads = k.few.reads };
    session = k.session;
    phase = k.phase;
    asking = λ l is. running;
    low = low_asked w k;
    open_txns = k.open_txns;
    committing = k.committing;
    lost = k.lost;
    locks = k.locks;
    early = k.early;
    reading = k.reading;
  }

  -- the number that was asked for may be checkpointed
  pub fits_checkpoint : (l : ℕ) → w.checkpointing ≡ Some l → Fits w.log (is.Checkpoint l)
  fits_checkpoint l asked = may_all w.log w.stable l (k.low.asked l asked)

  pub keeps_checkpointed : (l : ℕ) → w.checkpointing ≡ Some l → is_spent w.log ≡ false → IsTc (checkpointed w l)
  keeps_checkpointed l asked unspent =
      let r : Record = is.Checkpoint l in
      let running : w.phase ≡ phase.Running = k.asking l asked in
      let positive : 0 < w.session = let P : Phase → Type 0 = IsPhase w.checkpointed w.session in
      subst P running k.phase in
      record {
        legal = (fits_checkpoint l asked, k.legal);
        within = omega (arith, k.within);
        few = record { records = omega (arith, one_more w.log unspent); reads = k.few.reads };
        session = k.session;
        phase = let P : Phase → Type 0 = IsPhase (greater w.checkpointed l) w.session in subst P (sym running) positive;
        asking = λ m none. absurd (cc);
        low = low_checkpointed w k l (k.low.asked l asked);
        open_txns = same_open w.log (r ∷ w.log) w.losers.below w.open_txns k.open_txns
            (λ o at h. checkpoint_leaves w.log l o h) (open_was r w.log (λ e. cc));
        committing = k.committing;
        lost = lost_more w k r (fits_checkpoint l asked) tt (λ n. refl);
        locks = longer w.log w.open_txns (closing w) w.locks k.locks r refl;
        early = k.early;
        reading = k.reading;
      }
