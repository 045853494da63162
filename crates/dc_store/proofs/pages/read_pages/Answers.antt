use Rattle.std.proofs.Common.{◌≡◌, ◌∙◌, ℕ, ◌+◌, ◌≤◌, List, take, length, ap, sym, subst, get_or, arith}
use Rattle.std.proofs.lemmas.Result.{err_from_is_err_and}
use Rattle.std.proofs.lemmas.List.{take_all, take_more}
use Rattle.std.specs.FinMap as table
use Rattle.stable.specs.PagesState.{Pages}
use Rattle.stable.specs.Usage.{Usage, called, called_often}
use Rattle.dc_store.specs.Devices.{pages_of}
use Rattle.dc_store.specs.Paging.{IsOwnIfAny}
use Rattle.dc_store.specs.Shelf.{held}
use Rattle.dc_store.proofs.Paged.{ArePaged, one_refused, one_more, all_own, all_placed}
use Rattle.dc_store.specs.Uses.{page_calls}
use Rattle.dc_store.proofs.Used.{often_more, lacks_memory, stops_after}
use Rattle.dc_store.proofs.pages.read_pages.Goals as goal

pub returns-in_err-shelf-clause-stopped : goal.returns-in_err-shelf-clause-stopped
returns-in_err-shelf-clause-stopped g c =
    let p = err_from_is_err_and c.from_residual.result c.from_residual.ensures.1 in
    rw (p.1, p.2)
    (lacks_memory 1 (page_calls (g.P.PageDevice.pages c.args.pages.now)) _ _ _ (omega arith)
    c.in_err-shelf.ensures.memory (rw c.in-Ok.is at c.ids.ensures.used))

pub returns-in-Err-read_page-clause-stopped : goal.returns-in-Err-read_page-clause-stopped
returns-in-Err-read_page-clause-stopped g c =
    let pages : Pages = g.P.PageDevice.pages c.args.pages.now in
    let le : (1 + c.loop-id.id-index) + 1 ≤ page_calls pages =
    omega (
      arith,
      c.loop-id-test.true,
      ap length c.as_slice-id-items.ensures.value,
      ap length c.in-Ok.ensures.written,
    ) in
    stops_after (1 + c.loop-id.id-index) 1 (page_calls pages) _ _ _ _ c.loop-id.invariant.used le
    c.in-Err-read_page.ensures.stopped

pub returns-in-Err-read_page-clause-refused : goal.returns-in-Err-read_page-clause-refused
returns-in-Err-read_page-clause-refused g c =
    one_refused _ _ _ c.args.records c.in-Err-read_page.refusal c.loop-id.invariant.same
    c.in-Err-read_page.ensures.refused

pub loop-id-preserved : goal.loop-id-preserved
loop-id-preserved g c =
    let pages : Pages = g.P.PageDevice.pages c.args.pages.now in
    let ids : List ℕ = c.as_slice-id-items.result.now in
    let id : ℕ = get_or ids c.loop-id.id-index 0 in
    let before : Usage = g.P.PageDevice.usage c.args.pages.now in
    let next : (1 + c.loop-id.id-index) + 1 ≡ 1 + (c.loop-id.id-index + 1) = omega arith in
    let more = take_more ids c.loop-id.id-index 0 (omega (arith, c.loop-id-test.true)) in
    record {
      paged = subst (ArePaged pages c.args.records c.args.numbers c.offer.new.self.slots.items) (sym more)
          (one_more pages c.args.records c.args.numbers c.loop-id.shelf.slots.items c.offer.new.self.slots.items
          (take c.loop-id.id-index ids) id (held c.in-Ok-read_page.leaf) c.loop-id.invariant.paged
          (subst (λ (m : Pages). IsOwnIfAny (table.get m id) id c.args.records) c.loop-id.invariant.same
          c.in-Ok-read_page.ensures.own)
          (c.in-Ok-read_page.ensures.leaf ∙ ap (λ (m : Pages). pages_of m id) c.loop-id.invariant.same)
          (λ lt. c.offer.ensures.put (omega (arith, lt, c.loop-id.invariant.count)))
          (λ ge. c.offer.ensures.passed (omega (arith, ge, c.loop-id.invariant.count))));
      count = c.offer.ensures.count ∙ c.loop-id.invariant.count;
      same = c.read_page.ensures.same ∙ c.loop-id.invariant.same;
      used = c.in-Ok-read_page.ensures.used ∙ ap called c.loop-id.invariant.used
          ∙ often_more (1 + c.loop-id.id-index) 1 before
          ∙ ap (λ (n : ℕ). called_often n before) next;
    }

pub returns-clause-held : goal.returns-clause-held
returns-clause-held g c =
    let ids : take c.loop-id.id-index c.as_slice-id-items.result.now
    ≡ table.keys (g.P.PageDevice.pages c.args.pages.now) =
    take_all c.loop-id.id-index c.as_slice-id-items.result.now (omega (arith, c.loop-id-test.false))
    ∙ c.as_slice-id-items.ensures.value ∙ c.in-Ok.ensures.written in
    let paged = subst (ArePaged (g.P.PageDevice.pages c.args.pages.now) c.args.records c.args.numbers
    c.loop-id.shelf.slots.items) ids c.loop-id.invariant.paged in
    all_placed _ c.args.records c.args.numbers _ paged
    (omega (arith, c.loop-id.invariant.count, c.loop-id.shelf.slots.ok.0))

pub returns-clause-own : goal.returns-clause-own
returns-clause-own g c =
    let ids : take c.loop-id.id-index c.as_slice-id-items.result.now
    ≡ table.keys (g.P.PageDevice.pages c.args.pages.now) =
    take_all c.loop-id.id-index c.as_slice-id-items.result.now (omega (arith, c.loop-id-test.false))
    ∙ c.as_slice-id-items.ensures.value ∙ c.in-Ok.ensures.written in
    let paged = subst (ArePaged (g.P.PageDevice.pages c.args.pages.now) c.args.records c.args.numbers
    c.loop-id.shelf.slots.items) ids c.loop-id.invariant.paged in
    all_own _ c.args.records c.args.numbers _ paged
