use Rattle.std.proofs.Common.{◌≡◌, ◌∙◌, ◌<◌, ℕ, List, length, get_or, take, ap, subst, arith, true}
use Rattle.codec.specs.Images.{image_bytes}
use Rattle.codec.specs.declared.image.LeafImage.{LeafImage}
use Rattle.dc_leaf.specs.Leaf.{LeafView, first}
use Rattle.dc_recovery.specs.Images.{image_of}
use Rattle.dc_store.specs.Writing.{image_len}
use Rattle.dc_store.proofs.Spelling.{room_stays, room_more}
use Rattle.dc_store.proofs.writing.make_room.Goals as goal

pub loop-place-preserved : goal.loop-place-preserved
loop-place-preserved g c =
    let leaves : List LeafView = g.L.LeafSet.leaves c.args.leaves.now in
    let there : c.loop-place.place < length leaves =
    omega (arith, c.loop-place-test.true, c.len-place-end.ensures.count) in
    let len : c.in-Some.len ≡ image_len (get_or leaves c.loop-place.place first) = c.in-Some.ensures.some
    ∙ ap (λ (image : LeafImage). length (image_bytes image)) (c.image_of.ensures ∙ ap image_of c.leaf-leaf.ensures) in
    let id : c.id.result ≡ (get_or leaves c.loop-place.place first).id = c.id.ensures
    ∙ ap (λ (leaf : LeafView). leaf.id) c.leaf-leaf.ensures in
    record {
      room =
          room_more _ _ leaves c.loop-place.place there
          (room_stays _ _ _ _ (take c.loop-place.place leaves) c.make_room.ensures.kept c.reserve.ensures.capacity
          c.loop-place.invariant.room)
          (record {
            spelled = omega (
              arith,
              len,
              c.in_ok-reserve.ensures.ok,
              c.reserve.ensures.len,
              c.loop-place.invariant.empty,
            );
            page = λ n le.
                subst (λ (i : ℕ). g.P.PageDevice.has_room c.make_room.new.self i n ≡ true) id
                (c.in_ok-make_room.ensures.room n (omega (arith, le, len)));
          });
      empty = c.reserve.ensures.len ∙ c.loop-place.invariant.empty;
      same = c.make_room.ensures.same ∙ c.loop-place.invariant.same;
      unused = c.make_room.ensures.uncounted ∙ c.loop-place.invariant.unused;
    }
