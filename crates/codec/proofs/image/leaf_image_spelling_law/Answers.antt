use Rattle.std.proofs.Common.{List, [], ◌++◌, ℕ, ap}
use Rattle.codec.specs.declared.image.LeafImage.{LeafImage}
use Rattle.codec.specs.Images.{image_bytes, IsImage}
use Rattle.codec.specs.Reading.{image_at}
use Rattle.codec.proofs.Readers.{one_spelling}
use Rattle.codec.proofs.Images.{image_reads}
use Rattle.codec.proofs.image.leaf_image_spelling_law.Goals as goal

pub returns : goal.returns
returns c =
    let begins = one_spelling LeafImage image_bytes IsImage image_at image_reads in
    record {
      same = λ a b p q e. (begins a b [] [] p q (ap (λ (bytes : List ℕ). bytes ++ []) e)).0;
      begins = begins;
    }
