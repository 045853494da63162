use Rattle.std.proofs.Common.{◌≡◌, List, Box, length, reverse, sym, subst, inr, arith}
use Rattle.std.specs.declared.alloc.Global.{Global}
use Rattle.std.proofs.lemmas.List.{length-reverse}
use Rattle.dc_tree.specs.Lists.{leaves_in}
use Rattle.codec.specs.declared.dc_record.DcRecord.{DcRecord}
use Rattle.dc_leaf.specs.Leaf.{LeafView}
use Rattle.stable.specs.PagesState.{Pages}
use Rattle.dc_store.specs.Arranging.{HaveOwnNumbers, IsArrangement}
use Rattle.dc_store.proofs.Gathered.{IsGathered, gathers, gathered_apart, gathered_row, gathered_none}
use Rattle.dc_store.proofs.Found.{pages_refused}
use Rattle.std.proofs.lemmas.Result.{err_from_is_err_and}
use Rattle.dc_store.specs.Uses.{page_calls}
use Rattle.dc_store.proofs.Used.{lacks_memory}
use Rattle.dc_store.proofs.recovering.leaves_of.Goals as goal

pub returns-in_err-leaves-clause-stopped : goal.returns-in_err-leaves-clause-stopped
returns-in_err-leaves-clause-stopped g c =
    let n = page_calls (g.P.PageDevice.pages c.args.pages.now) in
    let p = err_from_is_err_and c.from_residual-in_err-leaves.result c.from_residual-in_err-leaves.ensures.1 in
    rw (p.1, p.2) (lacks_memory n n _ _ _ (omega arith) c.in_err-leaves.ensures.memory c.in-Ok.ensures.used)

pub arrange-requires : goal.arrange-requires
arrange-requires g c =
    let log : List DcRecord = reverse c.args.records.items in
    let pages : Pages = g.P.PageDevice.pages c.args.pages.now in
    let count : c.len.result ≡ length log =
    omega (arith, c.len.ensures, c.args.records.ok.0, length-reverse c.args.records.items) in
    let places : length c.replay.new.shelf.slots.items ≡ c.args.next_id =
    omega (arith, c.in_ok-replay.ensures.count, c.in-Ok.ensures.count, c.replay.new.shelf.slots.ok.0) in
    let gathered : IsGathered pages log c.replay.new.shelf.slots.items =
    gathers pages log c.in-Ok.shelf.slots.items c.replay.new.shelf.slots.items c.len.result c.args.next_id
    c.requires.records c.requires.readable c.requires.numbered c.in-Ok.ensures.own count c.requires.next places
    c.in-Ok.ensures.held c.in_ok-replay.ensures.recovered in
    subst (λ (bs : List (Box LeafView Global)). HaveOwnNumbers (leaves_in bs)) (sym c.in_ok-leaves.ensures.these)
    (gathered_apart pages log c.replay.new.shelf.slots.items gathered)

pub returns-clause-recovered : goal.returns-clause-recovered
returns-clause-recovered g c =
    let log : List DcRecord = reverse c.args.records.items in
    let pages : Pages = g.P.PageDevice.pages c.args.pages.now in
    let count : c.len.result ≡ length log =
    omega (arith, c.len.ensures, c.args.records.ok.0, length-reverse c.args.records.items) in
    let places : length c.replay.new.shelf.slots.items ≡ c.args.next_id =
    omega (arith, c.in_ok-replay.ensures.count, c.in-Ok.ensures.count, c.replay.new.shelf.slots.ok.0) in
    let gathered : IsGathered pages log c.replay.new.shelf.slots.items =
    gathers pages log c.in-Ok.shelf.slots.items c.replay.new.shelf.slots.items c.len.result c.args.next_id
    c.requires.records c.requires.readable c.requires.numbered c.in-Ok.ensures.own count c.requires.next places
    c.in-Ok.ensures.held c.in_ok-replay.ensures.recovered in
    gathered_row pages log c.replay.new.shelf.slots.items gathered (leaves_in c.in-Ok-arrange.row.items)
    (subst (λ (bs : List (Box LeafView Global)). IsArrangement (leaves_in bs) (leaves_in c.in-Ok-arrange.row.items))
    c.in_ok-leaves.ensures.these c.in-Ok-arrange.ensures.arranged)

pub returns-in-Err-arrange-clause-refused : goal.returns-in-Err-arrange-clause-refused
returns-in-Err-arrange-clause-refused g c =
    let log : List DcRecord = reverse c.args.records.items in
    let pages : Pages = g.P.PageDevice.pages c.args.pages.now in
    let count : c.len.result ≡ length log =
    omega (arith, c.len.ensures, c.args.records.ok.0, length-reverse c.args.records.items) in
    let places : length c.replay.new.shelf.slots.items ≡ c.args.next_id =
    omega (arith, c.in_ok-replay.ensures.count, c.in-Ok.ensures.count, c.replay.new.shelf.slots.ok.0) in
    let gathered : IsGathered pages log c.replay.new.shelf.slots.items =
    gathers pages log c.in-Ok.shelf.slots.items c.replay.new.shelf.slots.items c.len.result c.args.next_id
    c.requires.records c.requires.readable c.requires.numbered c.in-Ok.ensures.own count c.requires.next places
    c.in-Ok.ensures.held c.in_ok-replay.ensures.recovered in
    let none = subst (λ (bs : List (Box LeafView Global)). (row : List LeafView) → IsArrangement (leaves_in bs) row → ⊥)
    c.in_ok-leaves.ensures.these c.in-Err-arrange.ensures.none in
    inr (inr (
      c.in-Err-arrange.ensures.refused,
      inr (gathered_none pages log c.replay.new.shelf.slots.items gathered none),
    ))

pub returns-in-Err-clause-refused : goal.returns-in-Err-clause-refused
returns-in-Err-clause-refused g c =
    let count : c.len.result ≡ length (reverse c.args.records.items) =
    omega (arith, c.len.ensures, c.args.records.ok.0, length-reverse c.args.records.items) in
    pages_refused _ _ c.len.result c.in-Err.refusal count c.in-Err.ensures.refused
