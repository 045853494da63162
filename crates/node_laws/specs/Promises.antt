-- What a node promises at every moment, whatever crashes and restarts of either component came.
use Rattle.std.specs.Prelude.{◌≡◌, ℕ, ◌≤◌, List, Some}
use Rattle.std.specs.List.{AllByRecursion}
use Rattle.record_key.specs.declared.op.Op.{Op}
use Rattle.record_key.specs.declared.op.Answer.{Answer}
use Rattle.inverse.specs.Inverse.{IsEffective}
use Rattle.history.specs.declared.record.Record.{Record}
use Rattle.history.specs.declared.record.Record.TheVariants as is
use Rattle.history.specs.History.{plain, entries_of}
use Rattle.history.specs.ListMachine.{Machine}
use Rattle.history.specs.Log.{record_at, answer_of, hist}
use Rattle.log_laws.specs.Laws.{Names}
use Rattle.tc_log.specs.LogView.{last_not_session}
use Rattle.codec.specs.declared.reply.Reply.{Reply}
use Rattle.codec.specs.declared.reply.Reply.TheVariants as says
use Rattle.dc_leaf.specs.Leaf.{LeafView}
use Rattle.dc_leaf.specs.Honest.{IsHonestLeaf}
use Rattle.dc_leaf.specs.TakingBack.{taken_back}
use Rattle.dc_tree.specs.Leaves.{rows_of}
use Rattle.dc_recovery.specs.Ready.{IsHonestTo, AllHave}
use Rattle.dc_core.specs.dc_store.specs.Crashed.{crashed}
use Rattle.dc_core.specs.dc_store.specs.Devices.{pages_of}
use Rattle.dc_core.specs.DcView.{leaves}
use Rattle.tc_core.specs.TcView.{TcView}
use Rattle.simulation.specs.Lasting.{HasCommitted}
use Rattle.simulation.specs.View.{IsCommitAt, standing}
use Rattle.node_laws.specs.Node.{NodeView}
use Rattle.node_laws.specs.Source.{IsWaiting}
use Rattle.node_laws.specs.Simulation.{NodeStandsFor, IsSettled}
use Rattle.node_laws.specs.Kept.{IsKept}

-- the leaf is honest for the log once what stands above the end that the next Connect would carry is taken back
abbrev pub IsHonestBack : List Record → LeafView → Type 0
IsHonestBack log leaf = IsHonestLeaf log (taken_back leaf (last_not_session log))

-- every leaf is honest for the transactions' log: each that is cached once what that has lost is taken back, and at once
-- where the transaction component doesn't wait for a session; at once, with stable numbers captured only, each page and
-- each leaf in the data component's log, and each that recovery would give, however much of that log a crash keeps
pub record AreHonest (w : NodeView) : Type 0 where
  pub cached : AllByRecursion (IsHonestBack w.tc.log) (leaves w.dc)
  pub served : (IsWaiting w.tc.phase → ⊥) → AllByRecursion (IsHonestLeaf w.tc.log) (leaves w.dc)
  pub written : AllHave (IsHonestTo w.tc.log w.tc.stable) (pages_of w.dc.system.pages) w.dc.system.log
  pub recovered : (n : ℕ) → w.dc.system.stable ≤ n
      → AllByRecursion (IsHonestTo w.tc.log w.tc.stable) (crashed w.dc.system n).leaves

-- no operation is compensated twice
abbrev pub IsCompensatedOnce : List Record → Type 0
IsCompensatedOnce log = (n m undoes : ℕ) → Names log n undoes → Names log m undoes → n ≡ m

-- no compensation is answered Exists, NoRecord or NotNumber
abbrev pub IsNoneRefused : List Record → Type 0
IsNoneRefused log =
    (n t u x : ℕ) (i : Op) (a : Answer) → record_at log n ≡ Some (is.Comp t u x (Some i)) → answer_of log n ≡ Some a
    → IsEffective a

-- nor is any reply to a compensation, while clients are served in the reply's session
abbrev pub IsUnrefused : TcView → Reply → Type 0
IsUnrefused w (says.Answered s n (Some a)) =
    (IsWaiting w.phase → ⊥) → s ≡ w.session → (t u x : ℕ) (i : Op) → record_at w.log n ≡ Some (is.Comp t u x (Some i))
    → IsEffective a
IsUnrefused w _ = Unit {0}

-- whose Commit record is stable has committed, and of its entries those stand that do in the log; and all records are
-- stable that a component found when it was opened
pub record IsCommitted (log : List Record) (m : Machine) (t : ℕ) : Type 0 where
  pub committed : HasCommitted m t (entries_of t m.h)
  pub entries : standing (entries_of t m.h) ≡ standing (entries_of t (hist log))

abbrev pub CommitsStand : NodeView → Machine → Type 0
CommitsStand w m = (t k : ℕ) → IsCommitAt w.tc.log t k → k ≤ w.tc.stable → IsCommitted w.tc.log m t

-- a settled node holds what a plain map holds after the operations that stand, and these are the log's
pub record IsPlain (w : NodeView) (m : Machine) : Type 0 where
  pub rows : rows_of (leaves w.dc) ≡ plain m.h
  pub history : standing m.h ≡ standing (hist w.tc.log)

-- a settled node holds what a plain map holds after the operations that stand in its own log
abbrev pub IsPlainByLog : NodeView → Type 0
IsPlainByLog w = rows_of (leaves w.dc) ≡ plain (hist w.tc.log)

-- of the node alone, and for each list machine that it stands for
pub record Promises (w : NodeView) : Type 0 where
  pub honest : AreHonest w
  pub once : IsCompensatedOnce w.tc.log
  pub unrefused : IsNoneRefused w.tc.log
  pub replies : AllByRecursion (IsUnrefused w.tc) w.replies
  pub by_log : IsSettled w → IsPlainByLog w
  pub commits : (m : Machine) → NodeStandsFor w m → CommitsStand w m
  pub settled : (m : Machine) → NodeStandsFor w m → IsSettled w → IsPlain w m

-- whatever keeps its own at a moment promises this then
abbrev pub KeptPromises : Type 0
KeptPromises = (w : NodeView) → IsKept w → Promises w
