use Rattle.std.proofs.Common.{◌≡◌, true, false, slice_index, drop, refl, arith}
use Rattle.log_blocks.specs.Blocks.{Write, Old, New, InHead, InOldHead, InBlock}
use Rattle.log_blocks.proofs.Parts.{whole_length, first_at, first_new, first_of_new, first_old, first_of_old}
use Rattle.log_blocks.proofs.block.block_at.Goals as goal
use Rattle.log_blocks.proofs.block.block_at.Goals.{else-before-via-then-before+else-left-eq-OLD_VERSION, else-before-via-else-before}

pub returns-then-left-lt-HEAD_LEN-clause-whole : goal.returns-then-left-lt-HEAD_LEN-clause-whole
returns-then-left-lt-HEAD_LEN-clause-whole c (Old start bytes) rest here stands within =
    absurd (omega (arith, whole_length c.args.before (Old start bytes) rest c.args.left.now here))
returns-then-left-lt-HEAD_LEN-clause-whole c (New start bytes) rest here stands within =
    absurd (omega (arith, whole_length c.args.before (New start bytes) rest c.args.left.now here))

pub returns-then-left-eq-OLD_VERSION-clause-whole : goal.returns-then-left-eq-OLD_VERSION-clause-whole
returns-then-left-eq-OLD_VERSION-clause-whole c (Old start bytes) rest here stands within =
    c.old_block.ensures.whole start bytes rest here stands.0 within
returns-then-left-eq-OLD_VERSION-clause-whole c (New start bytes) rest here stands within =
    let two = first_of_new c.args.before start bytes rest c.args.left.now here in
    absurd (omega (arith, two, c.if-left-eq-OLD_VERSION.true))

pub returns-then-left-eq-OLD_VERSION-clause-ends : goal.returns-then-left-eq-OLD_VERSION-clause-ends
returns-then-left-eq-OLD_VERSION-clause-ends c (InHead few) = absurd (omega (arith, few))
returns-then-left-eq-OLD_VERSION-clause-ends c (InOldHead takes first few) = c.old_block.ensures.in_head few
returns-then-left-eq-OLD_VERSION-clause-ends c (InBlock (Old start bytes) stands first fits short) =
    c.old_block.ensures.ends start bytes first stands.0 fits short
returns-then-left-eq-OLD_VERSION-clause-ends c (InBlock (New start bytes) stands first fits short) =
    let two = first_new c.args.before start bytes _ c.args.left.now (first_at c.args.before (New start bytes) c.args.left.now first) in
    absurd (omega (arith, two, c.if-left-eq-OLD_VERSION.true))

-- no block of version 1 stands there
not_old : (c : goal.After-new_block) → c.args.before.takes_old ≡ true → slice_index c.args.left.now 0 ≡ 0 → ⊥
not_old c takes first = elim c.else-before.branch [
  | else-before-via-then-before+else-left-eq-OLD_VERSION other ↦ omega (arith, first, other.if-left-eq-OLD_VERSION.false)
  | else-before-via-else-before none ↦ let not : c.args.before.takes_old ≡ false = none.if-before.false in cc
]

pub returns-else-before-clause-whole : goal.returns-else-before-clause-whole
returns-else-before-clause-whole c (Old start bytes) rest here stands within =
    absurd (not_old c (stands.1 refl) (first_of_old c.args.before start bytes rest c.args.left.now here stands.0))
returns-else-before-clause-whole c (New start bytes) rest here stands within =
    c.new_block.ensures.whole start bytes rest here stands.0 within

pub returns-else-before-clause-ends : goal.returns-else-before-clause-ends
returns-else-before-clause-ends c (InHead few) = absurd (omega (arith, few))
returns-else-before-clause-ends c (InOldHead takes first few) = absurd (not_old c takes first)
returns-else-before-clause-ends c (InBlock (Old start bytes) stands first fits short) =
    absurd
    (not_old c (stands.1 refl)
    (first_old c.args.before start bytes _ c.args.left.now (first_at c.args.before (Old start bytes) c.args.left.now first) stands.0))
returns-else-before-clause-ends c (InBlock (New start bytes) stands first fits short) =
    c.new_block.ensures.ends start bytes first stands.0 fits short
