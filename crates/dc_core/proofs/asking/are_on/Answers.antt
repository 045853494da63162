use Rattle.std.proofs.Common.{◌≡◌, Some, length, refl, arith}
use Rattle.std.specs.Prelude.{slice_get}
use Rattle.std.proofs.lemmas.Option.{slice_get_read}
use Rattle.dc_core.specs.Shows.{IsOn}
use Rattle.dc_core.proofs.Walks.{all_get, all_more, all_through}
use Rattle.dc_core.proofs.asking.are_on.Goals as goal

pub returns-then-not-is_on : goal.returns-then-not-is_on
returns-then-not-is_on c =
    let entries = c.args.entries.now in
    let entry = c.entry-entry.result in
    let there : slice_get entries c.loop-place.place ≡ Some entry =
    slice_get_read entries (length entries) c.loop-place.place entry refl
    (omega (arith, c.loop-place-test.true, c.len-place-end.ensures))
    c.entry-entry.ensures in (
      λ wrong. absurd (cc),
      λ all.
          let on =
          c.is_on.ensures.1 (all_get (IsOn c.args.number c.args.key.now) entries c.loop-place.place entry all there) in
          absurd (cc),
    )

pub loop-place-preserved : goal.loop-place-preserved
loop-place-preserved c =
    let entries = c.args.entries.now in
    let entry = c.entry-entry.result in
    all_more (IsOn c.args.number c.args.key.now) entries c.loop-place.place entry
    (slice_get_read entries (length entries) c.loop-place.place entry refl
    (omega (arith, c.loop-place-test.true, c.len-place-end.ensures))
    c.entry-entry.ensures) c.loop-place.invariant (c.is_on.ensures.0 c.if-not-is_on.false)

pub returns : goal.returns
returns c = (
  λ _. all_through (IsOn c.args.number c.args.key.now) c.args.entries.now c.loop-place.place
      (omega (arith, c.loop-place-test.false, c.len-place-end.ensures)) c.loop-place.invariant,
  λ all. refl,
)
