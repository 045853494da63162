use Rattle.std.proofs.Common.{◌≡◌, ◌+◌, take, vec_len}
use Rattle.stable.specs.Usage.{called_often}
use Rattle.dc_store.proofs.Paged.{ArePaged}
use Rattle.dc_store.proofs.pages.read_pages.Given as goal

-- the pages so far are read
abbrev pub invariant-loop-id : goal.invariant-loop-id
invariant-loop-id g l = record {
  paged : ArePaged (g.P.PageDevice.pages l.fn.pages) l.records l.numbers l.shelf.slots.items
      (take l.id-index l.id-items);
  count : vec_len l.shelf.slots ≡ l.numbers;
  same : g.P.PageDevice.pages l.pages ≡ g.P.PageDevice.pages l.fn.pages;
  used : g.P.PageDevice.usage l.pages ≡ called_often (1 + l.id-index) (g.P.PageDevice.usage l.fn.pages);
}
