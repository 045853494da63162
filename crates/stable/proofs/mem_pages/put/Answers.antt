use Rattle.std.proofs.Common.{◌≡◌, ◌≤◌, Some, refl, sym, ap, ◌∙◌, subst}
use Rattle.std.specs.Vec.{vec_capacity}
use Rattle.stable.specs.declared.mem_pages.Page.{Page}
use Rattle.stable.proofs.Pages.{PutsAt, image_at, pages_of-put, rooms_kept, same_page}
use Rattle.stable.proofs.mem_pages.put.Goals as goal

pub returns-clause-pages : goal.returns-clause-pages
returns-clause-pages c =
    let p = c.fill.new.page in
    let puts : PutsAt c.args.id p c.args.places.now.entries (c.get_mut.follows.lender p).entries =
    ((c.get_mut.follows.holds p).3 (rw (sym c.in-Some.ensures.value) refl)).0 in
    let is : image_at p ≡ Some c.args.image.now = rw c.fill.ensures.written (ap Some c.fill.ensures.image) in
    pages_of-put c.args.places.now.entries (c.get_mut.follows.lender p).entries c.args.id p c.args.image.now puts is

pub returns-clause-kept : goal.returns-clause-kept
returns-clause-kept c =
    let p = c.fill.new.page in
    let puts : PutsAt c.args.id p c.args.places.now.entries (c.get_mut.follows.lender p).entries =
    ((c.get_mut.follows.holds p).3 (rw (sym c.in-Some.ensures.value) refl)).0 in
    rooms_kept c.args.places.now.entries (c.get_mut.follows.lender p).entries c.args.id p puts (λ was found.
    let same : was ≡ c.in-Some.page.now = same_page was c.in-Some.page.now (sym found ∙ sym c.in-Some.ensures.value) in
    subst (λ (w : Page). vec_capacity w.image ≤ vec_capacity p.image) (sym same) c.fill.ensures.kept)
