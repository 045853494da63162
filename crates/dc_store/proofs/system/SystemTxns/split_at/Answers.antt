use Rattle.std.proofs.Common.{◌∙◌, ℕ, ◌+◌, ap, refl, arith}
use Rattle.codec.specs.Images.{image_in}
use Rattle.dc_leaf.specs.Leaf.{LeafView}
use Rattle.dc_tree.specs.Parting.{split_at}
use Rattle.dc_recovery.specs.Images.{image_of}
use Rattle.dc_store.specs.LogView.{ChangeLogView}
use Rattle.dc_store.specs.Seen.{seen}
use Rattle.dc_store.specs.SystemView.{SystemView}
use Rattle.dc_store.proofs.KeepsSplit.{IsPlanned, planned_ordered, split_done}
use Rattle.dc_store.proofs.system.SystemTxns.split_at.Goals as goal

pub append-requires : goal.append-requires
append-requires g c =
    let v : SystemView = seen (g.L.LeafSet.leaves c.self.inside.leaves) c.self.inside.log
    (g.P.PageDevice.pages c.self.inside.pages) (g.P.PageDevice.usage c.self.inside.pages) in
    let planned : IsPlanned v c.args.place c.next_id-id.result (c.len-last.result + 1) c.in_ok-split.split
    (image_in c.image_of.result) = record {
      may = record {
        kept = c.self.invariant;
        may = rw (← c.self.view_is) at c.requires;
        room = omega (arith, c.if-last-ge-LAST_NUMBER.false, c.len-last.ensures.count);
        more = omega (arith, c.if-id-gt-LAST_NUMBER.false, c.next_id-id.ensures);
      };
      half = c.in_ok-split.ensures.half;
      new = c.next_id-id.ensures;
      last = ap (λ (n : ℕ). n + 1) c.len-last.ensures.count;
      logged = c.image_of.ensures ∙ ap image_of c.deref-2.ensures;
    } in
    record { ordered = planned_ordered v _ _ _ _ _ planned }

pub invariant_of-self-2 : goal.invariant_of-self-2
invariant_of-self-2 g c =
    let v : SystemView = seen (g.L.LeafSet.leaves c.self.inside.leaves) c.self.inside.log
    (g.P.PageDevice.pages c.self.inside.pages) (g.P.PageDevice.usage c.self.inside.pages) in
    let planned : IsPlanned v c.args.place c.next_id-id.result (c.len-last.result + 1) c.in_ok-split.split
    (image_in c.image_of.result) = record {
      may = record {
        kept = c.self.invariant;
        may = rw (← c.self.view_is) at c.requires;
        room = omega (arith, c.if-last-ge-LAST_NUMBER.false, c.len-last.ensures.count);
        more = omega (arith, c.if-id-gt-LAST_NUMBER.false, c.next_id-id.ensures);
      };
      half = c.in_ok-split.ensures.half;
      new = c.next_id-id.ensures;
      last = ap (λ (n : ℕ). n + 1) c.len-last.ensures.count;
      logged = c.image_of.ensures ∙ ap image_of c.deref-2.ensures;
    } in
    let right : LeafView = c.in_ok-split.split.right.value in
    let leaves = c.split.ensures
    ∙ ap (split_at c.args.place right.id right.last) c.in_ok-make_room.ensures.unchanged in
    split_done v _ _ _ _ _ planned _ c.in_ok-append.ensures.spelled leaves
    (ap (λ (l : ChangeLogView). l.log) c.in_ok-append.ensures.appended)
    (ap (λ (l : ChangeLogView). l.stable) c.in_ok-append.ensures.appended) refl
