use Rattle.std.proofs.Common.{reverse}
use Rattle.history.specs.Legal.{FitsCommit}
use Rattle.log_laws.proofs.legal.fits_end.Goals as goal

pub returns-then-fits_commit : goal.returns-then-fits_commit
returns-then-fits_commit c =
    let ready : FitsCommit (reverse c.args.log.now) c.args.txn = c.fits_commit.ensures.0 c.if-fits_commit.true in (
      λ e. record { open_txn = ready.open_txn; idle = ready.idle; undone = c.is_undone_wholly.ensures.0 e },
      λ h. c.is_undone_wholly.ensures.1 h.undone,
    )
