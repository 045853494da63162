use Rattle.std.proofs.Common.{◌≡◌, Some, length, refl, arith}
use Rattle.std.specs.Prelude.{slice_get}
use Rattle.std.proofs.lemmas.Option.{slice_get_read}
use Rattle.dc_core.specs.Shows.{Follows}
use Rattle.dc_core.proofs.Walks.{all_get, all_more, all_through}
use Rattle.dc_core.proofs.asking.follows_all.Goals as goal

pub returns-then-not-follows : goal.returns-then-not-follows
returns-then-not-follows c =
    let entries = c.args.entries.now in
    let entry = c.entry.result in
    let there : slice_get entries c.loop-place.place ≡ Some entry =
    slice_get_read entries (length entries) c.loop-place.place entry refl
    (omega (arith, c.loop-place-test.true, c.len-place-end.ensures))
    c.entry.ensures in (
      λ wrong. absurd (cc),
      λ all.
          let next =
          c.follows.ensures.1 (all_get (Follows c.args.number c.args.op.now) entries c.loop-place.place entry all there)
          in
          absurd (cc),
    )

pub loop-place-preserved : goal.loop-place-preserved
loop-place-preserved c =
    let entries = c.args.entries.now in
    let entry = c.entry.result in
    all_more (Follows c.args.number c.args.op.now) entries c.loop-place.place entry
    (slice_get_read entries (length entries) c.loop-place.place entry refl
    (omega (arith, c.loop-place-test.true, c.len-place-end.ensures))
    c.entry.ensures) c.loop-place.invariant (c.follows.ensures.0 c.if-not-follows.false)

pub returns : goal.returns
returns c = (
  λ _. all_through (Follows c.args.number c.args.op.now) c.args.entries.now c.loop-place.place
      (omega (arith, c.loop-place-test.false, c.len-place-end.ensures)) c.loop-place.invariant,
  λ all. refl,
)
