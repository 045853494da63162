use Rattle.dc_recovery.proofs.Images.{images_keep_leaves}
use Rattle.dc_recovery.proofs.laws.image_law.Goals as goal

pub returns : goal.returns
returns c = images_keep_leaves
