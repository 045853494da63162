use Rattle.std.proofs.Common.{◌≡◌, ◌∙◌, ap, sym, subst, inl, inr, refl}
use Rattle.codec.specs.Images.{IsOrderedImage, IsImage}
use Rattle.dc_leaf.specs.Leaf.{LeafView}
use Rattle.dc_recovery.specs.Images.{image_of}
use Rattle.dc_tree.specs.Leaves.{leaf_at}
use Rattle.dc_store.specs.Kept.{IsSystem}
use Rattle.dc_store.specs.Changes.{written_to}
use Rattle.dc_store.specs.Seen.{seen}
use Rattle.dc_store.specs.SystemView.{SystemView}
use Rattle.dc_store.proofs.Places.{leaf_there}
use Rattle.dc_store.proofs.Within.{asked, flush_refused, flush_stops}
use Rattle.dc_store.proofs.Written.{at_place, ordered_images, keeps_failed, keeps_written_at, fails_alike}
use Rattle.dc_store.proofs.system.SystemTxns.flush.Goals as goal

pub prepare-requires : goal.prepare-requires
prepare-requires g c =
    rw c.leaf-leaf.ensures
    (at_place (λ (leaf : LeafView). IsOrderedImage (image_of leaf)) _ c.place_of-place.result
    c.place_of-place.ensures.within (ordered_images _ c.self.invariant.leaves.each c.self.invariant.numbers))

pub invariant_of-self : goal.invariant_of-self
invariant_of-self g c = rw (c.in-Err.ensures.same, c.in-Err.ensures.unused) c.self.invariant

pub invariant_of-self-in-Err-put : goal.invariant_of-self-in-Err-put
invariant_of-self-in-Err-put g c =
    keeps_failed _ c.leaf-leaf.result.now _
    (rw (c.in_default.ensures.same, c.in_default.ensures.unused) c.self.invariant) (c.in-Err-put.ensures.failed _)

pub invariant_of-self-2 : goal.invariant_of-self-2
invariant_of-self-2 g c =
    let v : SystemView = seen (g.L.LeafSet.leaves c.self.inside.leaves) c.self.inside.log
    (g.P.PageDevice.pages c.self.inside.pages) (g.P.PageDevice.usage c.self.inside.pages) in
    let same = c.in_default.ensures.same in
    let unused = c.in_default.ensures.unused in
    subst IsSystem (sym (c.in_default-put.ensures.written v.leaves
    ∙ (λ i. written_to (seen v.leaves c.self.inside.log (same i) (unused i)) (c.leaf-leaf.ensures i))))
    (keeps_written_at v c.place_of-place.result c.self.invariant c.place_of-place.ensures.within
    (subst (λ (leaf : LeafView). IsImage (image_of leaf)) c.leaf-leaf.ensures c.in_default.ensures.image))

pub returns-then-not-is_within : goal.returns-then-not-is_within
returns-then-not-is_within g c =
    let v : SystemView = seen (g.L.LeafSet.leaves c.self.inside.leaves) c.self.inside.log
    (g.P.PageDevice.pages c.self.inside.pages) (g.P.PageDevice.usage c.self.inside.pages) in
    record {
      gives =
          rw (← c.self.view_is) (flush_refused c.args.known v c.args.key.now
          (asked c.args.known v.leaves c.args.key.now c.place_of-place.result _ _ c.place_of-place.ensures.place
          c.place_of-place.ensures.within c.leaf-leaf.ensures (sym c.is_within.ensures ∙ c.if-not-is_within.true)));
    }

pub returns-in-Err : goal.returns-in-Err
returns-in-Err g c =
    let v : SystemView = seen (g.L.LeafSet.leaves c.self.inside.leaves) c.self.inside.log
    (g.P.PageDevice.pages c.self.inside.pages) (g.P.PageDevice.usage c.self.inside.pages) in
    record {
      gives =
          rw (← c.self.view_is) (flush_stops c.args.known v c.args.key.now c.in-Err.refusal
          (seen v.leaves c.self.inside.log (g.P.PageDevice.pages c.prepare.new.pages) (g.P.PageDevice.usage c.prepare.new.pages))
          (asked c.args.known v.leaves c.args.key.now c.place_of-place.result _ _ c.place_of-place.ensures.place
          c.place_of-place.ensures.within c.leaf-leaf.ensures (sym c.is_within.ensures ∙ c.if-not-is_within.false))
          (inl (c.in-Err.ensures.memory, rw (c.in-Err.ensures.same, c.in-Err.ensures.unused) refl)));
    }

pub returns-in-Err-put : goal.returns-in-Err-put
returns-in-Err-put g c =
    let v : SystemView = seen (g.L.LeafSet.leaves c.self.inside.leaves) c.self.inside.log
    (g.P.PageDevice.pages c.self.inside.pages) (g.P.PageDevice.usage c.self.inside.pages) in
    let at = c.place_of-place.ensures in
    let there : c.leaf-leaf.result.now ≡ leaf_at v.leaves c.args.key.now = c.leaf-leaf.ensures
    ∙ leaf_there v.leaves c.args.key.now c.place_of-place.result at.place at.within in
    record {
      gives =
          rw (← c.self.view_is) (flush_stops c.args.known v c.args.key.now c.in-Err-put.refusal _
          (asked c.args.known v.leaves c.args.key.now c.place_of-place.result _ _ at.place at.within c.leaf-leaf.ensures
          (sym c.is_within.ensures ∙ c.if-not-is_within.false)) (inr (
            c.in-Err-put.ensures.refused,
            fails_alike _ _ _ _ _ _ _ _ _ c.in_default.ensures.same c.in_default.ensures.unused there
                (c.in-Err-put.ensures.failed v.leaves),
          )));
    }

pub returns : goal.returns
returns g c =
    let v : SystemView = seen (g.L.LeafSet.leaves c.self.inside.leaves) c.self.inside.log
    (g.P.PageDevice.pages c.self.inside.pages) (g.P.PageDevice.usage c.self.inside.pages) in
    let at = c.place_of-place.ensures in
    let there : c.leaf-leaf.result.now ≡ leaf_at v.leaves c.args.key.now = c.leaf-leaf.ensures
    ∙ leaf_there v.leaves c.args.key.now c.place_of-place.result at.place at.within in
    let same = c.in_default.ensures.same in
    let unused = c.in_default.ensures.unused in
    record {
      gives =
          rw (← c.self.view_is) (record {
            within =
                asked c.args.known v.leaves c.args.key.now c.place_of-place.result _ _ at.place at.within c.leaf-leaf.ensures
                (sym c.is_within.ensures ∙ c.if-not-is_within.false);
            own = c.id.ensures ∙ ap (λ (l : LeafView). l.id) there;
            fits = subst (λ (l : LeafView). IsImage (image_of l)) there c.in_default.ensures.image;
            after = c.in_default-put.ensures.written v.leaves
                ∙ (λ i. written_to (seen v.leaves c.self.inside.log (same i) (unused i)) (there i));
          });
    }
