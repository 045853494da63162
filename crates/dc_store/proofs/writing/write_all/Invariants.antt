use Rattle.std.proofs.Common.{vec_capacity}
use Rattle.dc_store.specs.Seen.{seen}
use Rattle.dc_store.specs.Writing.{HaveRoom}
use Rattle.dc_store.proofs.AllWritten.{WritesOn}
use Rattle.dc_store.proofs.writing.write_all.Given as goal

-- the leaves before the place are written, and there is room for all
abbrev pub invariant-loop-place : goal.invariant-loop-place
invariant-loop-place g l = record {
  writes : WritesOn
      (seen (g.L.LeafSet.leaves l.leaves) l.fn.log (g.P.PageDevice.pages l.fn.pages) (g.P.PageDevice.usage l.fn.pages))
      (seen (g.L.LeafSet.leaves l.leaves) l.log (g.P.PageDevice.pages l.pages) (g.P.PageDevice.usage l.pages)) l.place;
  room : HaveRoom (g.P.PageDevice.has_room l.pages) (vec_capacity l.image) (g.L.LeafSet.leaves l.leaves);
}
