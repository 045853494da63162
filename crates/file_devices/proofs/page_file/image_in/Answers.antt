use Rattle.std.proofs.Common.{◌∙◌, ap, sym, arith}
use Rattle.log_blocks.specs.Blocks.{head_at}
use Rattle.std.proofs.lemmas.Bool.{false≢true}
use Rattle.std.proofs.lemmas.Bool.Decides.{Decides-eqb}
use Rattle.std.proofs.lemmas.Slice.Eq.{slice_eq-Decides}
use Rattle.file_devices.proofs.PageFile.{is_long, begins}
use Rattle.file_devices.proofs.page_file.image_in.Goals as goal

pub returns-then-file-lt-HEAD_LEN-clause-other : goal.returns-then-file-lt-HEAD_LEN-clause-other
returns-then-file-lt-HEAD_LEN-clause-other c =
    λ _ image is. omega (arith, c.if-file-lt-HEAD_LEN.true, is_long c.args.store c.args.id image c.args.file.now is)

pub returns-else-eq-clause-other : goal.returns-else-eq-clause-other
returns-else-eq-clause-other c =
    λ _ image is.
    let same =
    c.split_at.ensures.front ∙ begins c.args.store c.args.id image c.args.file.now is
    ∙ ap (head_at c.args.store c.args.id) (sym c.split_at.ensures.back) ∙ sym c.head.ensures.head ∙ sym c.as_slice.ensures in
    false≢true
    (sym c.if-eq.false
    ∙ (slice_eq-Decides Decides-eqb c.split_at.result.0.now c.as_slice.result.now c.eq.result c.eq.ensures).1 same)
