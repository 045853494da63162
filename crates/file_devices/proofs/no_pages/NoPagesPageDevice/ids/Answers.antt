use Rattle.std.proofs.Common.{List, ℕ, map, sym, ap, ◌∙◌, nat_cmp}
use Rattle.std.specs.FinMap.{empty, entries, len-entries, len-empty}
use Rattle.std.proofs.lemmas.List.{nil_from_length}
use Rattle.file_devices.proofs.no_pages.NoPagesPageDevice.ids.Goals as goal

pub returns-clause-written : goal.returns-clause-written
returns-clause-written c =
    c.new.ensures.items
    ∙ sym (ap (map (λ e. e.0)) (nil_from_length (entries empty) (sym (len-entries empty) ∙ len-empty nat_cmp (List ℕ))))
