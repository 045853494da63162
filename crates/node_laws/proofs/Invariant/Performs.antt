-- A new number is performed, which keeps what holds of a node.
use Rattle.std.proofs.Common.{◌≡◌, ℕ, ◌≤◌, true, false, List, Option, Some, IfSome, refl, sym, ◌∙◌, subst, arith, inl, inr}
use Rattle.std.proofs.lemmas.Bool.{cases_eq}
use Rattle.record_key.specs.declared.op.Op.{Op}
use Rattle.record_key.specs.Table.{key_of, answer_in}
use Rattle.history.specs.declared.record.Record.{Record}
use Rattle.history.specs.Log.{Requests}
use Rattle.codec.specs.declared.request.Request.TheVariants as asks
use Rattle.codec.specs.declared.reply.Reply.{Reply}
use Rattle.codec.specs.declared.reply.Reply.TheVariants as says
use Rattle.dc_leaf.specs.Leaf.{LeafView, performed}
use Rattle.dc_leaf.specs.Honest.{IsHonestLeaf, IsNextOn}
use Rattle.dc_leaf.proofs.Performing.{one_request, right_answer, honest_performed}
use Rattle.dc_tree.specs.Leaves.{leaf_at}
use Rattle.dc_tree.proofs.AtKey.{within_at, captured_performed, captured_not_performed}
use Rattle.dc_tree.proofs.Changing.{all_changed}
use Rattle.dc_core.specs.dc_store.specs.Kept.{IsRecoverable}
use Rattle.dc_core.specs.dc_store.specs.Checked.{Checks}
use Rattle.dc_core.specs.DcView.{DcView, leaves, captures_at}
use Rattle.dc_core.specs.Serves.{performs, knows, runs}
use Rattle.dc_core.specs.Kept.{IsDc}
use Rattle.tc_core.specs.declared.phase.Phase.{Phase}
use Rattle.tc_core.specs.declared.phase.Phase.TheVariants as phase
use Rattle.node_laws.specs.Node.{NodeView}
use Rattle.node_laws.specs.Kept.{IsKept, IsNext, IsSent, StaysTrue, IsAnswerIn, IsServed, IsTrueTo, IsLowAnswered}
use Rattle.node_laws.specs.Source.{Source, IsWaiting, own}
use Rattle.node_laws.proofs.Invariant.AtKeys.{own_leaf}
use Rattle.node_laws.proofs.Invariant.Sources.{live, run_live, of_log}
use Rattle.node_laws.proofs.Invariant.Carries.{Carries, replied, keeps_dc}

-- the same session runs, as far past its redo, and no request's number was lost, where redo goes by them
pub served_alike : (at : Phase) (session : ℕ) (log : List Record) (old new : DcView) → new.stored ≡ old.stored
    → new.session ≡ old.session → new.redo ≡ old.redo
    → ((IsWaiting at → ⊥) → (n : ℕ) (o : Op) → Requests log n o → captures_at old (key_of o) n ≡ true
    → captures_at new (key_of o) n ≡ true)
    → IsServed at session log old → IsServed at session log new
served_alike phase.Unconnected session log old new stored same past captured h = tt
served_alike phase.Connecting session log old new stored same past captured h = h
served_alike (phase.Redoing next ending) session log old new stored same past captured h = (
  h.0,
  stored ∙ h.1,
  λ runs n o asks below. captured (λ waits. waits) n o asks (h.2 (sym same ∙ runs) n o asks below),
)
served_alike (phase.Undoing waiting) session log old new stored same past captured h =
    (stored ∙ h.0, λ runs. past ∙ h.1 (sym same ∙ runs))
served_alike phase.Running session log old new stored same past captured h =
    (stored ∙ h.0, λ runs. past ∙ h.1 (sym same ∙ runs))

-- so what carries on the requests of the source does those of the log
pub served_carried : (w : NodeView) (k : IsKept w) (dc : DcView) → dc.session ≡ w.dc.session → dc.redo ≡ w.dc.redo
    → Carries k.source.log w.dc dc → IsServed w.tc.phase w.tc.session w.tc.log dc
served_carried w k dc same past c =
    served_alike w.tc.phase w.tc.session w.tc.log w.dc dc c.stored same past
    (λ unwaiting.
    of_log w.tc k.source
    (λ (x : Source). (n : ℕ) (o : Op) → Requests x.log n o → captures_at w.dc (key_of o) n ≡ true
    → captures_at dc (key_of o) n ≡ true)
    (live w k unwaiting) c.captured) k.sessions.served

-- what a request says to be stable is known
pub keeps_known : (w : NodeView) (stable : ℕ) (reply : Option Reply) (k : IsKept w) → IsDc (knows w.dc stable)
    → stable ≤ k.source.sure → IfSome reply (StaysTrue w.tc (knows w.dc stable) k.source)
    → IsKept (replied w (knows w.dc stable) reply)
keeps_known w stable reply k is sure given =
    let c : Carries k.source.log w.dc (knows w.dc stable) = record {
      captured = λ n o asks h. h;
      stored = refl;
      ran = λ t r. r;
      past = λ past. past;
      checks = λ l h. h;
      opened = refl;
    } in
    keeps_dc w (knows w.dc stable) k c reply given is k.recoverable k.true_to k.performed k.answered
    (omega (arith, k.known, sure))
    (record { begun = k.sessions.begun; served = served_carried w k (knows w.dc stable) refl refl c })

-- a new number is the next on its key
module _ (w : NodeView) (s n stable : ℕ) (o : Op) (k : IsKept w) (is : IsDc (knows (performs w.dc n o) stable))
    (recoverable : IsRecoverable (performs w.dc n o).system) (checks : Checks w.dc.system (performs w.dc n o).system)
    (running : runs w.dc s ≡ true)
    (sent : IsSent w.tc w.dc k.source (asks.Perform s n stable o)) (new : captures_at w.dc (key_of o) n ≡ false) where
  abbrev x : Source
  x = k.source

  abbrev old : LeafView
  old = leaf_at (leaves w.dc) (key_of o)

  abbrev leaf : LeafView
  leaf = performed old n o

  abbrev dc : DcView
  dc = knows (performs w.dc n o) stable

  next : IsNext x w.dc n stable o
  next = sent.1.holds running

  next_on : IsNextOn x.log old n o
  next_on = record {
    requests = next.requests;
    within = within_at (leaves w.dc) (key_of o) k.dc.system.leaves;
    uncaptured = new;
    others = λ m q asks on below. next.earlier m q asks below on;
  }

  captures_it : captures_at (performs w.dc n o) (key_of o) n ≡ true
  captures_it = captured_performed (leaves w.dc) k.dc.system.leaves n o

  captures_more : (m : ℕ) (p : Op) → Requests x.log m p → captures_at w.dc (key_of p) m ≡ true
      → captures_at (performs w.dc n o) (key_of p) m ≡ true
  captures_more m p asks h = elim (cases_eq m n) [
    | inl same ↦
        let one : p ≡ o = one_request x.log n o p next.requests (subst (λ (z : ℕ). Requests x.log z p) same asks) in
        rw (same, one) captures_it
    | inr apart ↦ captured_not_performed (leaves w.dc) k.dc.system.leaves n o (key_of p) m apart ∙ h
  ]

  carries : Carries x.log w.dc dc
  carries = record {
    captured = captures_more;
    stored = refl;
    ran = λ t r. r;
    past = λ past. past;
    checks = checks;
    opened = refl;
  }

  honest : IsHonestLeaf x.log leaf
  honest = honest_performed x.log old n o (own_leaf w (key_of o) k) next_on

  true_to : IsTrueTo w.tc x (performs w.dc n o).system
  true_to = record {
    leaves = all_changed (IsHonestLeaf x.log) (key_of o) (λ (l : LeafView). performed l n o) (leaves w.dc)
        (λ was. honest) k.true_to.leaves;
    low = all_changed (IsLowAnswered x.log x.sure) (key_of o) (λ (l : LeafView). performed l n o) (leaves w.dc)
        (λ low. low) k.true_to.low;
    written = k.true_to.written;
    written_low = k.true_to.written_low;
  }

  -- its answer is the log's, where that session is the transaction component's
  own_answer : s ≡ w.tc.session → IsAnswerIn (own w.tc) n (Some (answer_in old.rows o))
  own_answer same = of_log w.tc x (λ (y : Source). IsAnswerIn y n (Some (answer_in old.rows o)))
      (run_live w s k running same)
      (record {
        op = o;
        requests = next.requests;
        answer = right_answer x.log old n o (own_leaf w (key_of o) k) next_on;
      })

  pub performs_next : IsKept
      (replied w dc (Some (says.Answered s n (Some (answer_in old.rows o)))))
  performs_next =
      keeps_dc w dc k carries (Some (says.Answered s n (Some (answer_in old.rows o))))
      (record {
        older = sent.0;
        captured = record {
          begun = sent.1.begun;
          holds = λ r. record { op = o; requests = next.requests; captured = captures_it };
        };
        own = λ unwaiting same. own_answer same;
      })
      is recoverable true_to (next.requests, k.performed) k.answered (omega (arith, k.known, next.sure))
      (record { begun = k.sessions.begun; served = served_carried w k dc refl refl carries })
