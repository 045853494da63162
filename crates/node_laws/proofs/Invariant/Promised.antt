-- What holds of a node at every moment is what it promises.
use Rattle.std.proofs.Common.{◌≡◌, ℕ, ◌+◌, List, [], ◌∷◌, length, Some, None, sym, ap, subst, inl, inr}
use Rattle.std.proofs.lemmas.Bool.{cases_eq}
use Rattle.record_key.specs.declared.op.Op.{Op}
use Rattle.record_key.specs.Table.{Bytes, key_of, answer_at}
use Rattle.inverse.specs.Inverse.{IsEffective}
use Rattle.history.specs.declared.record.Record.{Record}
use Rattle.history.specs.declared.record.Record.TheVariants as is
use Rattle.history.specs.Log.{record_at, before, request_in, Requests}
use Rattle.history.specs.Legal.{IsLegal}
use Rattle.history.specs.Values.{value_on, HasRightAnswers}
use Rattle.log_laws.proofs.Cancel.{bracket}
use Rattle.log_laws.proofs.Compensations.{undone_is}
use Rattle.log_laws.proofs.LegalLogs.{right_rest}
use Rattle.log_laws.proofs.Once.{compensated_once}
use Rattle.log_laws.proofs.Records.{newest_at, older_at, before_new, before_old}
use Rattle.log_laws.proofs.Values.{right_at}
use Rattle.simulation.proofs.Committing.{stable_is_committed}
use Rattle.simulation.proofs.Viewing.{calm_entries}
use Rattle.codec.specs.declared.reply.Reply.{Reply}
use Rattle.codec.specs.declared.reply.Reply.TheVariants as says
use Rattle.node_laws.specs.Kept.{IsKept, StaysTrue}
use Rattle.node_laws.specs.Node.{NodeView}
use Rattle.node_laws.specs.Promises.{IsNoneRefused, IsUnrefused, KeptPromises}
use Rattle.node_laws.specs.Simulation.{clients}
use Rattle.std.specs.List.{AllByRecursion}
use Rattle.dc_leaf.specs.Honest.{IsHonestLeaf}
use Rattle.dc_core.specs.DcView.{leaves}
use Rattle.node_laws.specs.Source.{Source}
use Rattle.node_laws.proofs.Invariant.Sources.{live}
use Rattle.node_laws.proofs.Invariant.TakenBack.{all_back}
use Rattle.node_laws.proofs.Restarts.Crashes.{crash_honest}
use Rattle.node_laws.proofs.Machine.Settled.{calm, settled_by_log, settled_rows}

-- whatever compensates does something when it is performed
effective_at : (log : List Record) → IsLegal log → HasRightAnswers log → (n t u x : ℕ) (i : Op)
    → record_at log n ≡ Some (is.Comp t u x (Some i)) → IsEffective (answer_at i (value_on (key_of i) (before log n)))
effective_at [] legal right n t u x i at = absurd (cc)
effective_at (r ∷ log) legal right n t u x i at =
    let Does : List Record → Type 0 = λ l. IsEffective (answer_at i (value_on (key_of i) l)) in
    elim (cases_eq n (length log + 1)) [
      | inl e ↦
          let some : Some r ≡ Some (is.Comp t u x (Some i)) =
          newest_at (λ q. q ≡ Some (is.Comp t u x (Some i))) r log n e at in
          let same : r ≡ is.Comp t u x (Some i) = cc in
          let whole : IsLegal (is.Comp t u x (Some i) ∷ log) = subst (λ q. IsLegal (q ∷ log)) same legal in
          let o : Op = whole.0.inverse.op in
          let brackets = bracket log t u x o i whole (right_rest r log right)
          (undone_is log t u x (Some i) whole.1 whole.0) in
          let P : Bytes → Type 0 = λ k. IsEffective (answer_at i (value_on k log)) in
          subst Does (sym (before_new r log n e))
          (subst P (sym brackets.same_key) brackets.effective)
      | inr apart ↦
          subst Does (sym (before_old r log n apart))
          (effective_at log legal.1 (right_rest r log right) n t u x i
          (older_at (λ q. q ≡ Some (is.Comp t u x (Some i))) r log n apart at))
    ]

-- so it isn't answered Exists, NoRecord or NotNumber
none_refused : (log : List Record) → IsLegal log → HasRightAnswers log → IsNoneRefused log
none_refused log legal right n t u x i a at answered =
    let asks : Requests log n i = ap request_in at in
    subst IsEffective (sym (right_at log n a legal right answered i asks)) (effective_at log legal right n t u x i at)

-- and what is replied to it is what it is answered
unrefused : (w : NodeView) (x : Source) → IsLegal w.tc.log → HasRightAnswers w.tc.log → (r : Reply)
    → StaysTrue w.tc w.dc x r → IsUnrefused w.tc r
unrefused w x legal right (says.Answered s n (Some a)) stays = λ unwaiting same t u m i at.
    let asks : Requests w.tc.log n i = ap request_in at in
    subst IsEffective (sym ((stays.own unwaiting same).answer i asks)) (effective_at w.tc.log legal right n t u m i at)
unrefused w x legal right (says.Answered s n None) stays = tt
unrefused w x legal right (says.Connected s) stays = tt
unrefused w x legal right (says.Row s n v) stays = tt
unrefused w x legal right (says.Rows s n rows) stays = tt
unrefused w x legal right (says.Checkpointed s l) stays = tt
unrefused w x legal right (says.RedoEnded s) stays = tt

all_unrefused : (w : NodeView) (x : Source) → IsLegal w.tc.log → HasRightAnswers w.tc.log → (rs : List Reply)
    → AllByRecursion (StaysTrue w.tc w.dc x) rs → AllByRecursion (IsUnrefused w.tc) rs
all_unrefused w x legal right [] all = tt
all_unrefused w x legal right (r ∷ rs) all =
    (unrefused w x legal right r all.0, all_unrefused w x legal right rs all.1)

pub promised : KeptPromises
promised w k = record {
  honest = record {
    cached = all_back w k;
    served = λ unwaiting. subst (λ (x : Source). AllByRecursion (IsHonestLeaf x.log) (leaves w.dc)) (live w k unwaiting)
        k.true_to.leaves;
    written = k.true_to.written;
    recovered = λ n le. crash_honest w n k le;
  };
  once = λ n m undoes one two. compensated_once w.tc.log n m undoes k.tc.legal one two;
  unrefused = none_refused w.tc.log k.tc.legal k.right;
  replies = all_unrefused w k.source k.tc.legal k.right w.replies k.given;
  by_log = settled_by_log w k;
  commits = λ m stands t n at stable.
      let both = stable_is_committed (clients w.tc) m t n k.tc.legal stands at stable in
      record { committed = both.0; entries = both.1 };
  settled = λ m stands settled. record {
    rows = settled_rows w m k stands settled;
    history = calm_entries (clients w.tc) m stands (calm w k.tc settled.running settled.unrolled);
  };
}
