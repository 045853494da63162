-- A new transaction component has what holds of it.
use Rattle.std.proofs.Common.{[], refl, arith, inr}
use Rattle.std.proofs.lemmas.List.Elements.{All-nil}
use Rattle.tc_locks.proofs.Tables.{empty_table}
use Rattle.tc_core.specs.tc_restart.specs.Losers.{IsLoser, IsAt, IsUndone}
use Rattle.stable.specs.Usage.{unused}
use Rattle.tc_core.specs.TcView.{fresh_tc}
use Rattle.tc_core.specs.Kept.{IsTc}
use Rattle.tc_core.proofs.Low.{may_none}

-- nothing is open at first
pub fresh_tc_kept : IsTc (fresh_tc unused)
fresh_tc_kept = record {
  legal = tt;
  within = omega arith;
  few = record { records = omega arith; reads = omega arith };
  session = omega arith;
  phase = refl;
  asking = λ l is. absurd (cc);
  low = record {
    announced = may_none [];
    asked = λ l is. absurd (cc);
    checkpointed = inr (refl, λ l named. absurd (let none = named.1 in cc));
    checked = may_none [];
  };
  open_txns = record {
    each = λ t o at. absurd (cc);
    late = λ t o at. absurd (cc);
    all = λ t h late. absurd (let none = h.begun in cc);
    order = tt;
    few = omega arith;
  };
  committing = refl;
  lost = record {
    losers = record {
      bound = omega arith;
      listed = record { right = All-nil (IsLoser [] 0); once = λ t is. absurd (omega (arith, is.early)) };
      undoing = All-nil (IsAt []);
      done = All-nil (IsUndone []);
    };
    phase_of = tt;
    lacking = λ n due. tt;
    due = λ n e. absurd (cc);
  };
  locks = record { table = empty_table; changing = λ t. refl; others = λ t none. refl; apart = λ t u differ. tt };
  early = λ t below. refl;
  reading = record { each = λ t o r at. absurd (cc); apart = λ t u o p r q at. absurd (cc) };
}
