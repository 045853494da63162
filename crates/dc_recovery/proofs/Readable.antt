-- Every legal log is readable.
use Rattle.std.proofs.Common.{List, [], ◌∷◌, is_some, ap, ◌∙◌}
use Rattle.codec.specs.declared.dc_record.DcRecord.{DcRecord}
use Rattle.codec.specs.declared.dc_record.DcRecord.TheVariants.{Accept, Split, Merge}
use Rattle.dc_recovery.specs.Shape.{part_in, shape, FitsSplit, FitsMerge, IsLegal}
use Rattle.dc_recovery.specs.Recovery.{Pages}
use Rattle.dc_recovery.specs.Ready.{IsReadable, LegalIsReadable}
use Rattle.dc_recovery.proofs.Finding.{next_left, next_there}
use Rattle.dc_recovery.proofs.Presence.{is_there, there}

one_readable : (pages : Pages) (log : List DcRecord) (r : DcRecord) → IsLegal (r ∷ log) → IsReadable pages log r
one_readable pages log (Accept session) legal = tt
one_readable pages log (Split left cut right) legal =
    let fits : FitsSplit log left cut right = legal.0 in
    (is_there pages log legal.1 left ∙ ap is_some fits.there, fits.next)
one_readable pages log (Merge left right merged) legal =
    let fits : FitsMerge log left right merged = legal.0 in (
      is_there pages log legal.1 left
          ∙ there (part_in left (shape log)) (next_left left right (shape log) fits.neighbours),
      is_there pages log legal.1 right
          ∙ there (part_in right (shape log)) (next_there left right (shape log) fits.neighbours),
    )

pub readable : LegalIsReadable
readable pages [] legal = tt
readable pages (r ∷ log) legal = (one_readable pages log r legal, readable pages log legal.1)
