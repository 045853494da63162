-- How far the data component may forget, when a record is appended, the log is forced, or a number is announced.
use Rattle.std.proofs.Common.{◌≡◌, ℕ, ◌-◌, ◌≤◌, Bool, true, false, List, ◌∷◌, length, Some, None, sym, ap, ◌∙◌, subst, arith}
use Rattle.std.specs.Prelude.{nat_lt, if◌then◌else◌}
use Rattle.history.specs.declared.record.Record.{Record}
use Rattle.history.specs.declared.record.Record.TheVariants as is
use Rattle.history.specs.Log.{record_at, request_in}
use Rattle.history.specs.Legal.{FitsCheckpoint}
use Rattle.framed_log.specs.Beginning.{beginning}
use Rattle.tc_log.proofs.Answered.{answered_whole}
use Rattle.framed_log.proofs.Beginning.{everything, shorter}
use Rattle.tc_log.proofs.Index.{record_at-zero}
use Rattle.tc_log.specs.Checkpointed.{raised_by}
use Rattle.tc_log.proofs.Checkpointed.{raised_more}
use Rattle.tc_core.specs.Changes.{greater}
use Rattle.tc_core.specs.TcView.{TcView}
use Rattle.tc_core.specs.LowWater.{MayAnnounce}
use Rattle.tc_core.specs.Kept.{AreLow, IsTc}

-- what holds of two numbers holds of the greater
pub of_greater : (P : ℕ → Type 0) (c l : ℕ) → P c → P l → P (greater c l)
of_greater P c l at_c at_l = pick (nat_lt c l)
  where
    pick : (b : Bool) → P (if b then l else c)
    pick true = at_l
    pick false = at_c

-- what may be announced may be announced later too
pub may_longer : (r : Record) (log : List Record) (stable l : ℕ) → stable ≤ length log
    → FitsCheckpoint (beginning log stable) l
    → FitsCheckpoint (beginning (r ∷ log) stable) l
may_longer r log stable l within h =
    let P : List Record → Type 0 = λ x. FitsCheckpoint x l in subst P (sym (shorter r log stable within)) h

-- of all records
pub may_all : (log : List Record) (stable l : ℕ) → FitsCheckpoint (beginning log stable) l → FitsCheckpoint log l
may_all log stable l h = answered_whole (length log - stable) log l h

may_forced : (log : List Record) (stable l : ℕ) → FitsCheckpoint (beginning log stable) l
    → FitsCheckpoint (beginning log (length log)) l
may_forced log stable l h =
    let P : List Record → Type 0 = λ x. FitsCheckpoint x l in subst P (sym (everything log)) (may_all log stable l h)

-- nothing asks for anything at 0
pub may_none : (log : List Record) → FitsCheckpoint log 0
may_none log = record {
  within = omega arith;
  answered = λ n o below asks.
      let e : n ≡ 0 = omega (arith, below) in
      let none : request_in (record_at log n) ≡ None = ap request_in (ap (record_at log) e ∙ record_at-zero log) in
      absurd (let never : None ≡ Some o = sym none ∙ asks in cc);
}

module _ (w : TcView) (k : IsTc w) where
  -- what was checkpointed is a number of the log
  pub low_within : w.checkpointed ≤ length w.log
  low_within = (may_all w.log w.stable w.checkpointed k.low.checked).within

  pub low_longer : (r : Record) → raised_by r w.checkpointed ≡ w.checkpointed
      → AreLow (r ∷ w.log) w.stable w.announced w.checkpointing w.checkpointed
  low_longer r same = record {
    announced = may_longer r w.log w.stable w.announced k.within k.low.announced;
    asked = λ l is. may_longer r w.log w.stable l k.within (k.low.asked l is);
    checkpointed = rw (← same) (raised_more r w.log w.checkpointed k.low.checkpointed);
    checked = may_longer r w.log w.stable w.checkpointed k.within k.low.checked;
  }

  pub low_forced : AreLow w.log (length w.log) w.announced w.checkpointing w.checkpointed
  low_forced = record {
    announced = may_forced w.log w.stable w.announced k.low.announced;
    asked = λ l is. may_forced w.log w.stable l (k.low.asked l is);
    checkpointed = k.low.checkpointed;
    checked = may_forced w.log w.stable w.checkpointed k.low.checked;
  }

  -- a session begins
  pub low_started : AreLow w.log w.stable 0 None w.checkpointed
  low_started = record {
    announced = may_none (beginning w.log w.stable);
    asked = λ l is. absurd (cc);
    checkpointed = k.low.checkpointed;
    checked = k.low.checked;
  }

  pub low_announced : (l : ℕ) → MayAnnounce w l
      → AreLow w.log w.stable (greater w.announced l) w.checkpointing w.checkpointed
  low_announced l may = record {
    announced = of_greater (MayAnnounce w) w.announced l k.low.announced may;
    asked = k.low.asked;
    checkpointed = k.low.checkpointed;
    checked = k.low.checked;
  }

  pub low_asked : AreLow w.log w.stable w.announced (Some w.announced) w.checkpointed
  low_asked = record {
    announced = k.low.announced;
    asked = λ l is. let same : w.announced ≡ l = cc in subst (MayAnnounce w) same k.low.announced;
    checkpointed = k.low.checkpointed;
    checked = k.low.checked;
  }

  pub low_checkpointed : (l : ℕ) → MayAnnounce w l
      → AreLow (is.Checkpoint l ∷ w.log) w.stable w.announced None (greater w.checkpointed l)
  low_checkpointed l may =
      let r : Record = is.Checkpoint l in
      record {
        announced = may_longer r w.log w.stable w.announced k.within k.low.announced;
        asked = λ m none. absurd (cc);
        checkpointed = raised_more r w.log w.checkpointed k.low.checkpointed;
        checked = of_greater (FitsCheckpoint (beginning (r ∷ w.log) w.stable)) w.checkpointed l
            (may_longer r w.log w.stable w.checkpointed k.within k.low.checked)
            (may_longer r w.log w.stable l k.within may);
      }
