use Rattle.std.proofs.Common.{◌≡◌, List, [], ◌∷◌, length, ap, sym, subst, arith}
use Rattle.std.proofs.lemmas.List.{length-append}
use Rattle.std.specs.List.{AllByRecursion}
use Rattle.engine_marks.specs.Seen.{Seen, reader}
use Rattle.engine_monitor.specs.declared.opened.SessionStart.{SessionStart}
use Rattle.engine_monitor.specs.Opened.{ReadsMarks}
use Rattle.engine_guarded.specs.engine_history.proofs.Lists.{all_snoc}
use Rattle.engine_monitor.proofs.Opening.{all_first}
use Rattle.engine_monitor.proofs.opened.session_starts.Goals as goal

pub loop-seat-preserved : goal.loop-seat-preserved
loop-seat-preserved c =
    let m = c.args.marks.now in
    let rest = c.next.new.self.rest.items in
    let session_start : SessionStart = record { ends = c.open.result; seat = c.in-Some.seat } in
    let ahead = all_first (λ (s : Seen). s ≡ reader m 0 0) c.loop-seat.seat-iterator.rest.items c.in-Some.seat rest
    c.in-Some.ensures.steps.0 c.loop-seat.invariant.1 in
    let before = ap (λ (xs : List Seen). length xs) c.in-Some.ensures.steps.0 in
    let added = ap (λ (xs : List SessionStart). length xs) c.in_ok-push.ensures.items in (
      subst (AllByRecursion (ReadsMarks m)) (sym c.in_ok-push.ensures.items)
          (all_snoc (ReadsMarks m) c.loop-seat.session_starts.items session_start c.loop-seat.invariant.0 ahead.0),
      ahead.1,
      omega (arith, added, before, c.loop-seat.invariant.2, length-append c.loop-seat.session_starts.items (session_start ∷ [])),
    )
