use Rattle.std.proofs.Common.{◌≡◌, ℕ, List, ◌∷◌, refl, sym, ap, subst, ◌∙◌}
use Rattle.std.proofs.lemmas.Result.{err_from_is_err_and}
use Rattle.codec.specs.Frames.{IfTaken}
use Rattle.codec.specs.Reading.{taken_at}
use Rattle.codec.specs.declared.frame.FrameEnd.{FrameEnd}
use Rattle.codec.specs.declared.frame.FrameEnd.TheVariants as ends
use Rattle.history.specs.declared.record.Record.{Record}
use Rattle.history.specs.Legal.{IsLegal}
use Rattle.tc_log.specs.Opening.{BeginsAs}
use Rattle.tc_log.specs.KeysKept.{KeepsNoneOver}
use Rattle.tc_log.specs.Replay.{IsIndex}
use Rattle.tc_log.specs.Spelled.{StandsNext}
use Rattle.tc_log.proofs.KeysKept.{of_nothing, with_one}
use Rattle.tc_log.proofs.Opening.{begins_nothing, begins_more, index_nothing, shorter, refused_next}
use Rattle.tc_log.proofs.read.replay.Goals as goal

pub loop-next-init : goal.loop-next-init
loop-next-init g c =
    let left : List ℕ = c.args.frames.now.left in
    let Starts : List Record → Type 0 = λ log. BeginsAs left log left × IsIndex log c.new-index.result
    × KeepsNoneOver log c.new-index.result in
    let starts = subst Starts (sym c.requires.unread) (
      begins_nothing left,
      index_nothing c.new-index.result c.new-index.ensures.analysis
          c.new-index.ensures.holders c.new-index.ensures.adders c.new-index.ensures.answered c.new-index.ensures.last,
      of_nothing c.new-index.result,
    ) in
    (starts.0, starts.1, refl, c.requires.unjudged ∙ sym c.requires.unread, starts.2)

-- what was read stands next
is_next : (end : FrameEnd) (place : ℕ) (log : List Record) (left : List ℕ) (r : Record) (next : ℕ) → end ≡ ends.At next
    → IfTaken (taken_at place end r) (StandsNext log left) → StandsNext log left r next
is_next end place log left r next is stands =
    let P : FrameEnd → Type 0 = λ e. IfTaken (taken_at place e r) (StandsNext log left) in
    subst P is stands

pub loop-next-smaller : goal.loop-next-smaller
loop-next-smaller g c = shorter c.loop-next.frames.left c.next.new.found c.step.new.frames.left
    c.in_ok-step-in-At.ensures.left

pub loop-next-preserved : goal.loop-next-preserved
loop-next-preserved g c =
    let log' : List Record = c.step.new.frames.records in
    let next = is_next c.next.result _ c.loop-next.frames.records c.loop-next.frames.left c.next.new.found
    c.in-At.next c.in-At.is c.next.ensures.found in
    let Begun : List Record → Type 0 = λ l. BeginsAs c.args.frames.now.left l c.step.new.frames.left in
    let grown : log' ≡ c.next.new.found ∷ c.loop-next.frames.records = c.in_ok-step-in-At.ensures.records in
    let legal : IsLegal (c.next.new.found ∷ c.loop-next.frames.records) = subst IsLegal grown
    c.in_ok-step-in-At.ensures.index.legal in (
      subst Begun (sym grown)
          (begins_more c.args.frames.now.left c.loop-next.frames.records c.loop-next.frames.left c.next.new.found
          c.step.new.frames.left c.loop-next.invariant.0 legal next.fits
          c.in_ok-step-in-At.ensures.room c.in_ok-step-in-At.ensures.left),
      c.in_ok-step-in-At.ensures.index,
      c.step.ensures.device ∙ c.loop-next.invariant.2,
      c.in_ok-look-in-At.ensures.shown ∙ ap (λ (l : List Record). c.next.new.found ∷ l) c.loop-next.invariant.3 ∙ sym grown,
      with_one c.loop-next.frames.records log' c.next.new.found c.loop-next.index c.step.new.index grown
          c.loop-next.invariant.1 c.in_ok-step-in-At.ensures.forgotten c.in_ok-step-in-At.ensures.one_more
          c.loop-next.invariant.4,
    )

pub returns-in_err-step-in-At-clause-refused : goal.returns-in_err-step-in-At-clause-refused
returns-in_err-step-in-At-clause-refused g c =
    let next = is_next c.next.result _ c.loop-next.frames.records c.loop-next.frames.left c.next.new.found
    c.in-At.next c.in-At.is c.next.ensures.found in
    let p = err_from_is_err_and c.from_residual.result c.from_residual.ensures.1 in
    rw (p.1, p.2)
    (refused_next c.args.frames.now.left c.loop-next.frames.records c.loop-next.frames.left c.next.new.found _ _
    c.loop-next.invariant.0 next.fits next.parts
    c.in_err-step-in-At.ensures.refused)
