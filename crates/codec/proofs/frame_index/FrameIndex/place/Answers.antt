use Rattle.std.proofs.Common.{◌≡◌, ◌∙◌, ℕ, ◌+◌, ◌*◌, ◌/◌, ◌<◌, ◌≤◌, List, length, get_or, ap, subst, sym, arith}
use Rattle.std.proofs.lemmas.List.{get_or_read}
use Rattle.codec.specs.FrameIndex.{next_at, place_at, FrameIndexView}
use Rattle.codec.proofs.Indexed.{place_next, place_grows}
use Rattle.codec.proofs.frame_index.FrameIndex.place.Goals.{then-before-lt-STEP, else-before-lt-STEP}
use Rattle.codec.proofs.frame_index.FrameIndex.place.Goals as goal

-- one hop on
next_is : (bytes : List ℕ) (first hops place : ℕ) → place ≡ place_at bytes (first + hops)
    → next_at bytes place ≡ place_at bytes (first + (hops + 1))
next_is bytes first hops place at =
    ap (next_at bytes) at ∙ sym (place_next bytes (first + hops)) ∙ ap (place_at bytes) (omega arith)

pub after-place-requires : goal.after-place-requires
after-place-requires c =
    let bytes : List ℕ = c.args.bytes.now in
    let first : ℕ = 8 * (c.args.before / 8) in
    subst (λ (p : ℕ). p ≤ length bytes) (sym (next_is bytes first c.loop.counter c.loop.place c.loop.invariant))
    (omega (
      arith,
      place_grows bytes (first + (c.loop.counter + 1)) c.args.self.now.count
          (omega (arith, c.loop-test.true, c.requires.there)),
      c.requires.indexed.whole,
    ))

pub loop-preserved : goal.loop-preserved
loop-preserved c =
    c.after-place.ensures
    ∙ next_is c.args.bytes.now (8 * (c.args.before / 8)) c.loop.counter c.loop.place c.loop.invariant

pub loop-init : goal.loop-init
unfolding place_at
loop-init c = elim c.if-before-lt-STEP.branch [
  | then-before-lt-STEP w ↦
      let none : 0 ≡ 8 * (c.args.before / 8) + 0 = omega (arith, w.if-before-lt-STEP.true) in
      w.place-is ∙ ap (place_at c.args.bytes.now) none
  | else-before-lt-STEP w ↦
      let mark : ℕ = c.args.before / 8 in
      let same : c.self.inside.marks.items ≡ c.args.self.now.marks = ap (λ (v : FrameIndexView). v.marks) c.self.view_is in
      let kept = c.requires.indexed.indexed in
      let within : mark < length c.args.self.now.marks = omega (arith, c.requires.there, kept.enough) in
      w.place-is
      ∙ get_or_read c.self.inside.marks.items mark _ (omega (arith, within, ap length same))
      w.index-else-before-lt-STEP.ensures 0
      ∙ ap (λ (marks : List ℕ). get_or marks mark 0) same
      ∙ kept.placed mark (omega (arith, w.if-before-lt-STEP.false)) within
      ∙ ap (place_at c.args.bytes.now) (omega arith)
]
