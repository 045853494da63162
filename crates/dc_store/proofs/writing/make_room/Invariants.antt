use Rattle.std.proofs.Common.{◌≡◌, take, vec_capacity, vec_len}
use Rattle.dc_store.specs.Writing.{HaveRoom}
use Rattle.dc_store.proofs.writing.make_room.Given as goal

-- the leaves before the place have room
abbrev pub invariant-loop-place : goal.invariant-loop-place
invariant-loop-place g l = record {
  room : HaveRoom (g.P.PageDevice.has_room l.pages) (vec_capacity l.image) (take l.place (g.L.LeafSet.leaves l.leaves));
  empty : vec_len l.image ≡ 0;
  same : g.P.PageDevice.pages l.pages ≡ g.P.PageDevice.pages l.fn.pages;
  unused : g.P.PageDevice.usage l.pages ≡ g.P.PageDevice.usage l.fn.pages;
}
