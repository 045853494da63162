-- What the data component does by itself keeps what was sent, replied and captured.
use Rattle.std.proofs.Common.{◌≡◌, ℕ, ◌≤◌, true, false, List, [], ◌∷◌, ◌++◌, Option, Some, None, IfSome, refl, sym, subst, arith, inl, inr}
use Rattle.history.specs.declared.record.Record.{Record}
use Rattle.std.specs.List.{AllByRecursion}
use Rattle.record_key.specs.declared.op.Op.{Op}
use Rattle.record_key.specs.declared.op.Answer.{Answer}
use Rattle.record_key.specs.Table.{Bytes, key_of}
use Rattle.record_key.proofs.Lists.{all_from}
use Rattle.history.specs.Log.{Requests}
use Rattle.framed_log.specs.Beginning.{beginning}
use Rattle.tc_log.specs.LogView.{last_not_session}
use Rattle.codec.specs.declared.request.Request.{Request}
use Rattle.codec.specs.declared.request.Request.TheVariants as asks
use Rattle.codec.specs.declared.reply.Reply.{Reply}
use Rattle.codec.specs.declared.reply.Reply.TheVariants as says
use Rattle.dc_core.specs.dc_store.specs.Kept.{IsRecoverable}
use Rattle.dc_core.specs.dc_store.specs.Checked.{Checks}
use Rattle.dc_core.specs.declared.performance.Performance.{Performance}
use Rattle.dc_core.specs.DcView.{DcView, captures_at}
use Rattle.dc_core.specs.Serves.{runs}
use Rattle.dc_core.specs.Tends.{may_merge}
use Rattle.dc_core.specs.Kept.{IsDc}
use Rattle.node_laws.specs.Node.{NodeView, with_dc}
use Rattle.node_laws.specs.Kept.{IsKept, IsAnsweredBy, InSession, IsNext, IsSent, IsCaptured, IsAnswered, StaysTrue, IsTrueTo, AreSessions, AnsweredAreCaptured, EarlierAreCaptured}
use Rattle.node_laws.specs.Source.{Source, IsSource, own}
use Rattle.node_laws.proofs.Invariant.ByNumber.{all_push}
use Rattle.node_laws.proofs.Invariant.Keeps.{with_reply}

-- the data component has become this, and it has replied, or not
abbrev pub replied : NodeView → DcView → Option Reply → NodeView
replied w dc None = with_dc w dc
replied w dc (Some reply) = with_reply (with_dc w dc) reply

-- the same sessions ran, as far past their redo at least, and no request's number was lost at its key; nor is a leaf
-- less low; and they are the same leaves that were opened
pub record Carries (log : List Record) (old new : DcView) : Type 0 where
  pub captured : (n : ℕ) (o : Op) → Requests log n o → captures_at old (key_of o) n ≡ true
      → captures_at new (key_of o) n ≡ true
  pub stored : new.stored ≡ old.stored
  pub ran : (s : ℕ) → runs new s ≡ true → runs old s ≡ true
  pub past : old.redo ≡ false → new.redo ≡ false
  pub checks : Checks old.system new.system
  pub opened : new.opened_to ≡ old.opened_to

module _ (w : NodeView) (dc : DcView) (k : IsKept w) (c : Carries k.source.log w.dc dc) where
  abbrev x : Source
  x = k.source

  -- what holds in a session that still runs
  carried : (s : ℕ) (P Q : Type 0) → (P → Q) → InSession w.dc s P → InSession dc s Q
  carried s P Q from h = record {
    begun = omega (arith, h.begun, c.stored);
    holds = λ r. from (h.holds (c.ran s r));
  }

  earlier_carried : (n : ℕ) (o : Op) → EarlierAreCaptured x.log w.dc n o → EarlierAreCaptured x.log dc n o
  earlier_carried n o h m q asks below on =
      elim (h m q asks below on) [
        | inl captured ↦ inl (subst (λ (z : Bytes). captures_at dc z m ≡ true) on
            (c.captured m q asks (subst (λ (z : Bytes). captures_at w.dc z m ≡ true) (sym on) captured)))
        | inr both ↦ inr both
      ]

  next_carried : (n stable : ℕ) (o : Op) → IsNext x w.dc n stable o → IsNext x dc n stable o
  next_carried n stable o h =
      record { sure = h.sure; requests = h.requests; earlier = earlier_carried n o h.earlier }

  all_carried : AnsweredAreCaptured x.log w.dc → AnsweredAreCaptured x.log dc
  all_carried h n o asks answered = c.captured n o asks (h n o asks answered)

  low_carried : (s l : ℕ) → InSession w.dc s (IsAnsweredBy x.log x.sure l)
      → InSession dc s (IsAnsweredBy x.log x.sure l)
  low_carried s l = carried s (IsAnsweredBy x.log x.sure l) (IsAnsweredBy x.log x.sure l) (λ to. to)

  sent_carried : (q : Request) → IsSent w.tc w.dc x q → IsSent w.tc dc x q
  sent_carried (asks.Connect s end) h =
      record { begun = h.begun; next = λ less. h.next (omega (arith, less, c.stored)) }
  sent_carried (asks.Perform s n stable o) h =
      (h.0, carried s (IsNext x w.dc n stable o) (IsNext x dc n stable o) (next_carried n stable o) h.1)
  sent_carried (asks.Get s n key) h = h
  sent_carried (asks.Scan s n low high) h = h
  sent_carried (asks.LowWater s l) h = low_carried s l h
  sent_carried (asks.Checkpoint s l) h = low_carried s l h
  sent_carried (asks.RedoEnd s) h =
      carried s (AnsweredAreCaptured x.log w.dc) (AnsweredAreCaptured x.log dc) all_carried h
  sent_carried (asks.StableEnd s stable) h = carried s (stable ≤ x.sure) (stable ≤ x.sure) (λ sure. sure) h

  captured_carried : (n : ℕ) → IsCaptured x w.dc n → IsCaptured x dc n
  captured_carried n h =
      record { op = h.op; requests = h.requests; captured = c.captured n h.op h.requests h.captured }

  answered_carried : (s n : ℕ) (a : Option Answer) → IsAnswered w.tc w.dc x s n a → IsAnswered w.tc dc x s n a
  answered_carried s n a h = record {
    older = h.older;
    captured = carried s (IsCaptured x w.dc n) (IsCaptured x dc n) (captured_carried n) h.captured;
    own = h.own;
  }

  given_carried : (reply : Reply) → StaysTrue w.tc w.dc x reply → StaysTrue w.tc dc x reply
  given_carried (says.Connected s) h = omega (arith, h, c.stored)
  given_carried (says.Answered s n a) h = answered_carried s n a h
  given_carried (says.Row s m v) h = h
  given_carried (says.Rows s m rows) h = h
  given_carried (says.Checkpointed s l) h = c.checks l h
  given_carried (says.RedoEnded s) h = carried s (w.dc.redo ≡ false) (dc.redo ≡ false) c.past h

  -- what is past redo now was, or its redo has ended
  pub keeps_dc : (reply : Option Reply) → IfSome reply (StaysTrue w.tc dc x) → IsDc dc → IsRecoverable dc.system
      → IsTrueTo w.tc x dc.system
      → AllByRecursion (λ (p : Performance). Requests x.log p.number p.op) dc.performed
      → (may_merge dc ≡ true → AnsweredAreCaptured x.log w.dc) → dc.known ≤ x.sure
      → AreSessions w.tc.stable w.tc.session w.tc.phase w.tc.log dc → IsKept (replied w dc reply)
  keeps_dc reply given is recoverable true_to performed past known sessions = by reply given
    where
      all : AllByRecursion (StaysTrue w.tc dc x) w.replies
      all = all_from (StaysTrue w.tc w.dc x) (StaysTrue w.tc dc x) given_carried w.replies k.given

      kept : (replies : List Reply) → AllByRecursion (StaysTrue w.tc dc x) replies
          → IsKept (record w { dc = dc; replies = replies })
      kept replies given = record {
        tc = k.tc;
        right = k.right;
        dc = is;
        recoverable = recoverable;
        source = x;
        from = subst (λ (stored : ℕ). IsSource w.tc stored x) (sym c.stored) k.from;
        true_to = true_to;
        performed = performed;
        answered = λ may. all_carried (past may);
        sent = all_from (IsSent w.tc w.dc x) (IsSent w.tc dc x) sent_carried w.requests k.sent;
        given = given;
        sessions = sessions;
        checked = c.checks w.tc.checkpointed k.checked;
        known = known;
        opened = omega (arith, k.opened, c.opened);
        quiet = k.quiet;
      }

      by : (reply : Option Reply) → IfSome reply (StaysTrue w.tc dc x) → IsKept (replied w dc reply)
      by None none = kept w.replies all
      by (Some reply) given =
          kept (w.replies ++ reply ∷ []) (all_push (StaysTrue w.tc dc x) w.replies reply all given)

-- ---- a session was taken, or the data component has crashed: its leaves have their effects from the log itself

-- no session that was taken before runs now
pub record StartsAnew (old new : DcView) : Type 0 where
  pub stored : old.stored ≤ new.stored
  pub other : (s : ℕ) → s ≤ old.stored → runs new s ≡ true → ⊥
  pub unmerged : may_merge new ≡ true → ⊥
  pub checks : Checks old.system new.system

module _ (w : NodeView) (dc : DcView) (k : IsKept w) (a : StartsAnew w.dc dc) where
  abbrev y : Source
  y = own w.tc

  past : (s : ℕ) (P Q : Type 0) → InSession w.dc s P → InSession dc s Q
  past s P Q h = record {
    begun = omega (arith, h.begun, a.stored);
    holds = λ r. absurd (a.other s h.begun r);
  }

  sent_past : (q : Request) → IsSent w.tc w.dc k.source q → IsSent w.tc dc y q
  sent_past (asks.Connect s end) h =
      record { begun = h.begun; next = λ less. h.next (omega (arith, less, a.stored)) }
  sent_past (asks.Perform s n stable o) h =
      (h.0, past s (IsNext k.source w.dc n stable o) (IsNext y dc n stable o) h.1)
  sent_past (asks.Get s n key) h = h
  sent_past (asks.Scan s n low high) h = h
  sent_past (asks.LowWater s l) h =
      past s (IsAnsweredBy k.source.log k.source.sure l) (IsAnsweredBy y.log y.sure l) h
  sent_past (asks.Checkpoint s l) h =
      past s (IsAnsweredBy k.source.log k.source.sure l) (IsAnsweredBy y.log y.sure l) h
  sent_past (asks.RedoEnd s) h = past s (AnsweredAreCaptured k.source.log w.dc) (AnsweredAreCaptured y.log dc) h
  sent_past (asks.StableEnd s stable) h = past s (stable ≤ k.source.sure) (stable ≤ y.sure) h

  given_past : (reply : Reply) → StaysTrue w.tc w.dc k.source reply → StaysTrue w.tc dc y reply
  given_past (says.Connected s) h = omega (arith, h, a.stored)
  given_past (says.Answered s n v) h = record {
    older = h.older;
    captured = past s (IsCaptured k.source w.dc n) (IsCaptured y dc n) h.captured;
    own = h.own;
  }
  given_past (says.Row s m v) h = h
  given_past (says.Rows s m rows) h = h
  given_past (says.Checkpointed s l) h = a.checks l h
  given_past (says.RedoEnded s) h = past s (w.dc.redo ≡ false) (dc.redo ≡ false) h

  pub keeps_anew : (reply : Option Reply) → IfSome reply (StaysTrue w.tc dc y) → IsDc dc → IsRecoverable dc.system
      → IsTrueTo w.tc y dc.system
      → AllByRecursion (λ (p : Performance). Requests y.log p.number p.op) dc.performed → dc.known ≤ y.sure
      → dc.opened_to ≤ last_not_session (beginning w.tc.log w.tc.stable)
      → AreSessions w.tc.stable w.tc.session w.tc.phase w.tc.log dc → IsKept (replied w dc reply)
  keeps_anew reply given is recoverable true_to performed known opened sessions = by reply given
    where
      all : AllByRecursion (StaysTrue w.tc dc y) w.replies
      all = all_from (StaysTrue w.tc w.dc k.source) (StaysTrue w.tc dc y) given_past w.replies k.given

      kept : (replies : List Reply) → AllByRecursion (StaysTrue w.tc dc y) replies
          → IsKept (record w { dc = dc; replies = replies })
      kept replies given = record {
        tc = k.tc;
        right = k.right;
        dc = is;
        recoverable = recoverable;
        source = y;
        from = inl refl;
        true_to = true_to;
        performed = performed;
        answered = λ may. absurd (a.unmerged may);
        sent = all_from (IsSent w.tc w.dc k.source) (IsSent w.tc dc y) sent_past w.requests k.sent;
        given = given;
        sessions = sessions;
        checked = a.checks w.tc.checkpointed k.checked;
        known = known;
        opened = opened;
        quiet = k.quiet;
      }

      by : (reply : Option Reply) → IfSome reply (StaysTrue w.tc dc y) → IsKept (replied w dc reply)
      by None none = kept w.replies all
      by (Some reply) given =
          kept (w.replies ++ reply ∷ []) (all_push (StaysTrue w.tc dc y) w.replies reply all given)
