use Rattle.std.proofs.Common.{ap, sym, ◌∙◌}
use Rattle.stable.proofs.Pages.{image, get-pages_of}
use Rattle.stable.proofs.mem_pages.image_of.Goals as goal

pub returns-in-Some : goal.returns-in-Some
returns-in-Some c =
    c.written_image.ensures ∙ ap image c.in-Some.ensures.value
    ∙ sym (get-pages_of c.args.places.now.entries c.args.id)

pub returns-in-None : goal.returns-in-None
returns-in-None c =
    ap image c.in-None.ensures.value
    ∙ sym (get-pages_of c.args.places.now.entries c.args.id)
