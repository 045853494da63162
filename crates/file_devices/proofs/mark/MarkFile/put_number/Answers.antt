use Rattle.std.proofs.Common.{arith}
use Rattle.std.proofs.lemmas.List.{length-take}
use Rattle.file_devices.proofs.mark.MarkFile.put_number.Goals as goal

pub slice_bounds-put-end : goal.slice_bounds-put-end
slice_bounds-put-end c = omega (arith, length-take 33 c.text_of-text.result, c.text_of-text.ensures)
