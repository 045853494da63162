use Rattle.std.proofs.Common.{◌≡◌, ◌∙◌, length, arith}
use Rattle.codec.specs.declared.image.LeafImage.{LeafImage}
use Rattle.codec.specs.declared.taken.Taken.{Taken}
use Rattle.codec.specs.declared.taken.Taken.TheVariants as took
use Rattle.codec.specs.Frames.{IfTaken, IfBad, IsWhole}
use Rattle.codec.specs.Images.{image_bytes, IsImage}
use Rattle.codec.specs.Reading.{image_at, all_of, value_or_bad}
use Rattle.codec.proofs.Frames.{whole_found, whole_only, whole_never_short, whole_bad}
use Rattle.codec.proofs.Images.{image_reads}
use Rattle.codec.proofs.Results.{on_ok}
use Rattle.codec.proofs.image.take_leaf_image.Goals as goal

pub returns : goal.returns
returns c =
    let bytes = c.args.bytes.now in
    let result = c.take_page.result in
    let exact = λ (t : Taken LeafImage). t ≡ value_or_bad 0 (length bytes) (all_of image_at bytes) in
    let value = c.take_page.ensures.value in
    record {
      found = on_ok result exact (λ t. IfTaken t (IsWhole LeafImage image_bytes IsImage bytes)) value
          (λ t e. whole_found LeafImage image_bytes IsImage image_at image_reads bytes t
          (λ i. omega (arith, c.type_inv.bytes i)) e);
      only = on_ok result exact
          (λ t. (image : LeafImage) → IsImage image → bytes ≡ image_bytes image → t ≡ took.Record image (length bytes))
          value
          (λ t e image fits is. e ∙ whole_only LeafImage image_bytes IsImage image_at image_reads bytes image fits is);
      never_short = on_ok result exact (λ t. t ≡ took.Short → ⊥) value
          (λ t e. whole_never_short LeafImage bytes (all_of image_at bytes) t e);
      bad = on_ok result exact (λ t. IfBad t (λ place. place ≡ 0)) value
          (λ t e. whole_bad LeafImage bytes (all_of image_at bytes) t e);
      cause = c.take_page.ensures.cause;
      memory = c.take_page.ensures.memory;
    }
