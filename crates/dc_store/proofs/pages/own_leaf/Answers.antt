use Rattle.std.proofs.Common.{◌∙◌, Some, ap, sym, inr, arith, refl}
use Rattle.dc_leaf.specs.Leaf.{LeafView}
use Rattle.dc_store.proofs.PageReading.{image_page, own_page, no_image, other_image}
use Rattle.dc_store.proofs.pages.own_leaf.Goals as goal
use Rattle.dc_store.proofs.pages.own_leaf.Goals.{then-image-id-via-then-image-id, then-image-id-via-else-image-id+then-image-records}

pub returns-in_default : goal.returns-in_default
returns-in_default c = record {
  leaf = tt;
  own = tt;
  refused = inr (inr (
    refl,
    no_image c.args.bytes.now c.in_ok-image.field-0 c.args.id c.args.records
        c.in_ok-image.ensures.only c.in_default.not-Record,
  ));
  no_device = λ is. absurd (cc);
}

pub returns-then-image-id-clause-refused : goal.returns-then-image-id-clause-refused
returns-then-image-id-clause-refused c =
    inr (inr (
      refl,
      other_image c.args.bytes.now c.in_ok-image.field-0 c.in-Record.image c.in-Record.field-1 c.args.id
          c.args.records c.in_ok-image.ensures.only c.in-Record.is
          (λ same within.
          elim c.then-image-id.branch [
            | then-image-id-via-then-image-id w ↦ absurd (omega (arith, same, w.if-image-id.true))
            | then-image-id-via-else-image-id+then-image-records w ↦
                absurd (omega (arith, within, w.if-image-records.true))
          ]),
    ))

pub returns-clause-leaf : goal.returns-clause-leaf
returns-clause-leaf c =
    let whole = rw c.in-Record.is at c.in_ok-image.ensures.found in
    image_page c.in-Record.image c.args.bytes.now whole.fits whole.all
    ∙ ap (λ (leaf : LeafView). Some leaf) (sym (c.in_ok-new.ensures.ok ∙ c.leaf_of.ensures))

pub returns-clause-own : goal.returns-clause-own
returns-clause-own c =
    let whole = rw c.in-Record.is at c.in_ok-image.ensures.found in
    own_page c.in-Record.image c.args.bytes.now c.args.id c.args.records whole.fits whole.all
    (omega (arith, c.if-image-id.false)) (omega (arith, c.if-image-records.false))
