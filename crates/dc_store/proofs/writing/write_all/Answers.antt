use Rattle.std.proofs.Common.{◌<◌, ◌≤◌, ◌∙◌, length, subst, sym, ap, refl, arith}
use Rattle.codec.specs.Images.{IsOrderedImage, IsImage}
use Rattle.dc_leaf.specs.Leaf.{LeafView}
use Rattle.dc_recovery.specs.Images.{image_of}
use Rattle.dc_store.specs.Changes.{written_to}
use Rattle.dc_store.specs.Gives.{FailsWriting}
use Rattle.dc_store.specs.Seen.{seen}
use Rattle.dc_store.specs.SystemView.{SystemView}
use Rattle.dc_store.specs.Writing.{HasRoom}
use Rattle.dc_store.proofs.AllWritten.{begins, goes_on, fails_here, written_now, images_now}
use Rattle.dc_store.proofs.Spelling.{room_stays, room_at}
use Rattle.dc_store.proofs.Written.{at_place, ordered_images, keeps_failed}
use Rattle.dc_store.proofs.writing.write_all.Goals as goal

pub loop-place-init : goal.loop-place-init
loop-place-init g c = record { writes = begins _ c.requires.kept; room = c.requires.room }

pub loop-place-preserved : goal.loop-place-preserved
loop-place-preserved g c =
    let there : c.loop-place.place < length (g.L.LeafSet.leaves c.args.leaves.now) =
    omega (arith, c.loop-place-test.true, c.len-place-end.ensures.count) in
    record {
      writes =
          goes_on _ _ _ c.loop-place.place c.loop-place.invariant.writes there refl
          (subst (λ (leaf : LeafView). IsImage (image_of leaf)) c.leaf.ensures c.in_default.ensures.image)
          (c.in_default.ensures.written _ ∙ ap (written_to _) c.leaf.ensures);
      room =
          room_stays _ _ _ _ _ c.in_default.ensures.room_kept c.in_default.ensures.spelling_kept
          c.loop-place.invariant.room;
    }

pub write-requires-clause-ordered : goal.write-requires-clause-ordered
write-requires-clause-ordered g c =
    let there : c.loop-place.place < length (g.L.LeafSet.leaves c.args.leaves.now) =
    omega (arith, c.loop-place-test.true, c.len-place-end.ensures.count) in
    let kept = c.loop-place.invariant.writes.kept in
    rw c.leaf.ensures
    (at_place (λ (leaf : LeafView). IsOrderedImage (image_of leaf)) _ c.loop-place.place there
    (ordered_images _ kept.leaves.each kept.numbers))

pub write-requires-clause-room : goal.write-requires-clause-room
write-requires-clause-room g c =
    let there : c.loop-place.place < length (g.L.LeafSet.leaves c.args.leaves.now) =
    omega (arith, c.loop-place-test.true, c.len-place-end.ensures.count) in
    subst (HasRoom _ _) (sym c.leaf.ensures) (room_at _ _ _ c.loop-place.place there c.loop-place.invariant.room)

pub returns-in-Err-clause-kept : goal.returns-in-Err-clause-kept
returns-in-Err-clause-kept g c =
    keeps_failed _ c.leaf.result.now _ c.loop-place.invariant.writes.kept (c.in-Err.ensures.failed _)

pub returns-in-Err-clause-failed : goal.returns-in-Err-clause-failed
returns-in-Err-clause-failed g c =
    let there : c.loop-place.place < length (g.L.LeafSet.leaves c.args.leaves.now) =
    omega (arith, c.loop-place-test.true, c.len-place-end.ensures.count) in
    let leaves = g.L.LeafSet.leaves c.args.leaves.now in
    let now : SystemView = seen leaves c.loop-place.log (g.P.PageDevice.pages c.loop-place.pages)
    (g.P.PageDevice.usage c.loop-place.pages) in
    let new : SystemView = seen leaves c.write.new.log (g.P.PageDevice.pages c.write.new.pages)
    (g.P.PageDevice.usage c.write.new.pages) in
    fails_here _ now new c.loop-place.place c.loop-place.invariant.writes there
    (subst (λ (leaf : LeafView). FailsWriting now leaf new) c.leaf.ensures (c.in-Err.ensures.failed leaves))

pub returns-clause-kept : goal.returns-clause-kept
returns-clause-kept g c = c.loop-place.invariant.writes.kept

pub returns-clause-images : goal.returns-clause-images
returns-clause-images g c =
    let past : length (g.L.LeafSet.leaves c.args.leaves.now) ≤ c.loop-place.place =
    omega (arith, c.loop-place-test.false, c.len-place-end.ensures.count) in
    images_now _ _ c.loop-place.place c.loop-place.invariant.writes past

pub returns-clause-written : goal.returns-clause-written
returns-clause-written g c =
    let past : length (g.L.LeafSet.leaves c.args.leaves.now) ≤ c.loop-place.place =
    omega (arith, c.loop-place-test.false, c.len-place-end.ensures.count) in
    written_now _ _ c.loop-place.place c.loop-place.invariant.writes past
