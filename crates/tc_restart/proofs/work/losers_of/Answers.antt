use Rattle.std.proofs.Common.{◌≡◌, ◌∙◌, ℕ, ◌+◌, List, ◌∷◌, length, sym, ap, subst, arith}
use Rattle.std.specs.List.{All}
use Rattle.std.specs.Map.{keys_of}
use Rattle.std.proofs.lemmas.List.Elements.{All-head, All-tail}
use Rattle.history.specs.declared.record.Record.{Record}
use Rattle.tc_log.specs.Replay.{OpenAt}
use Rattle.tc_restart.specs.Heaps.{IsHeaped, seen}
use Rattle.tc_restart.proofs.Building.{each_open, none_yet, one_less}
use Rattle.tc_restart.proofs.Taking.{AreWith}
use Rattle.tc_restart.proofs.work.losers_of.Goals as goal

pub loop-txn-init : goal.loop-txn-init
loop-txn-init g c =
    let log : List Record = c.args.frames.now.records in
    let gives = c.into_iter-txn-iterator.ensures.into_iter_gives in
    let entries : List (ℕ × ℕ) = c.args.open_txns.now.entries in
    let heaps = c.in_ok-heaps.heaps in
    let count : c.len-2.result ≡ length c.into_iter-txn-iterator.result = c.len-2.ensures.len
    ∙ sym (ap length gives.0) in
    record {
      kept = subst (IsHeaped heaps) count c.in_ok-heaps.ensures.kept;
      below = ap (λ v. v.below) c.in_ok-heaps.ensures.empty ∙ ap (λ (n : ℕ). n + 1) c.len.ensures.count;
      so_far = subst (λ (es : List (ℕ × ℕ)). AreWith log (length log + 1) (keys_of es) (seen heaps)) (sym gives.0)
          (none_yet log c.args.open_txns.now c.requires gives.5 gives.6 (seen heaps)
          (ap (λ v. v.undoing) c.in_ok-heaps.ensures.empty)
          (ap (λ v. v.done) c.in_ok-heaps.ensures.empty));
      each = subst (All (λ (e : ℕ × ℕ). OpenAt log e.0 e.1)) (sym gives.0)
          (each_open log c.args.open_txns.now c.requires gives.6);
    }

pub loop-txn-preserved : goal.loop-txn-preserved
loop-txn-preserved g c =
    let log : List Record = c.args.frames.now.records in
    let t : ℕ = c.in-Some.txn.now in
    let last : ℕ = c.in-Some.last.now in
    let rest : List (ℕ × ℕ) = c.next.new.self in
    let step : ◌≡◌ {A = List (ℕ × ℕ)} c.loop-txn.txn-iterator ((t, last) ∷ rest) = c.in-Some.ensures.steps in
    let each = subst (All (λ (e : ℕ × ℕ). OpenAt log e.0 e.1)) step c.loop-txn.invariant.each in
    let count : length c.loop-txn.txn-iterator ≡ length rest + 1 = ap length step ∙ omega arith in
    record {
      kept = c.add.ensures.kept (length rest) (subst (IsHeaped c.loop-txn.heaps) count c.loop-txn.invariant.kept);
      below = c.add.ensures.added.0 ∙ c.loop-txn.invariant.below;
      so_far = one_less log (keys_of rest) (seen c.loop-txn.heaps) (seen c.add.new.self) t last c.left_to_undo.result
          c.len.ensures.legal
          (All-head (λ (e : ℕ × ℕ). OpenAt log e.0 e.1) (t, last) rest each) c.left_to_undo.ensures
          (subst (λ (es : List (ℕ × ℕ)). AreWith log (length log + 1) (keys_of es) (seen c.loop-txn.heaps)) step
          c.loop-txn.invariant.so_far)
          c.add.ensures.added;
      each = All-tail (λ (e : ℕ × ℕ). OpenAt log e.0 e.1) (t, last) rest each;
    }
