use Rattle.std.proofs.Common.{◌≡◌, ◌∙◌, ◌-◌, ◌<◌, ℕ, suc, get_or, length, sym, ap, subst, arith}
use Rattle.std.proofs.lemmas.List.{length-map}
use Rattle.dc_leaf.specs.Leaf.{first}
use Rattle.dc_tree.specs.Choosing.{first_pair, are_due}
use Rattle.dc_tree.specs.Lists.{leaf_of, leaves_in}
use Rattle.dc_tree.proofs.Firsts.{FromPlace, from_start, pair_here, pair_later, pair_nowhere}
use Rattle.dc_tree.proofs.Places.{in_box}
use Rattle.dc_tree.proofs.choosing.pair_in.Goals as goal
use Rattle.dc_tree.proofs.choosing.pair_in.Goals.{After-are_due}

pub loop-next-init : goal.loop-next-init
loop-next-init c = λ p next.
    let none : 0 ≡ p = omega (arith, next) in
    subst (λ (q : ℕ). FromPlace (first_pair c.args.known) (leaves_in c.args.leaves.now) q) none
    (from_start (first_pair c.args.known (leaves_in c.args.leaves.now)))

module _ (c : After-are_due) where
  abbrev p : ℕ
  p = c.loop-next.next - 1

  next : suc p ≡ c.loop-next.next
  next = omega (arith, c.loop-next.auto.next)

  within : suc p < length (leaves_in c.args.leaves.now)
  within = omega (arith, next, c.loop-next-test.true, length-map c.args.leaves.now leaf_of)

  -- what is asked of the leaf before the next one, and of that
  asked : are_due c.args.known (get_or (leaves_in c.args.leaves.now) p first)
      (get_or (leaves_in c.args.leaves.now) (suc p) first)
      ≡ c.are_due.result
  asked =
      let boxes = c.args.leaves.now in
      let left = in_box boxes p c.index-leaves-next.result (omega (arith, next, c.loop-next-test.true))
      c.index-leaves-next.is ∙ sym c.deref.ensures in
      let right =
      ap (λ (q : ℕ). get_or (leaves_in boxes) q first) next
      ∙ in_box boxes c.loop-next.next c.index-leaves-next-in-loop-next.result c.loop-next-test.true
      c.index-leaves-next-in-loop-next.is ∙ sym c.deref-in-loop-next.ensures in
      (λ i. are_due c.args.known (left i) (right i)) ∙ sym c.are_due.ensures

pub loop-next-preserved : goal.loop-next-preserved
loop-next-preserved c = λ q more.
    let same : suc (p c.before) ≡ q = omega (arith, more, next c.before) in
    subst (λ (n : ℕ). FromPlace (first_pair c.args.known) (leaves_in c.args.leaves.now) n) same
    (pair_later c.args.known (leaves_in c.args.leaves.now) (p c.before) (within c.before)
    (asked c.before ∙ c.if-are_due.false)
    (c.loop-next.invariant (p c.before) (next c.before)))

pub returns-then-are_due : goal.returns-then-are_due
returns-then-are_due c =
    sym (pair_here c.args.known (leaves_in c.args.leaves.now) (p c.before) (within c.before)
    (asked c.before ∙ c.if-are_due.true)
    (c.loop-next.invariant (p c.before) (next c.before)))

pub returns : goal.returns
returns c =
    let before : suc (c.loop-next.next - 1) ≡ c.loop-next.next = omega (arith, c.loop-next.auto.next) in
    pair_nowhere c.args.known (leaves_in c.args.leaves.now) (c.loop-next.next - 1)
    (omega (arith, before, c.loop-next-test.false, length-map c.args.leaves.now leaf_of))
    (c.loop-next.invariant (c.loop-next.next - 1) before)
