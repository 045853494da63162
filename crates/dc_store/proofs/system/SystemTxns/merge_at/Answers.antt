use Rattle.std.proofs.Common.{◌∙◌, ℕ, ◌+◌, ap, refl, arith}
use Rattle.codec.specs.Images.{image_in}
use Rattle.dc_leaf.specs.Leaf.{LeafView}
use Rattle.dc_recovery.specs.Images.{image_of}
use Rattle.dc_store.specs.LogView.{ChangeLogView}
use Rattle.dc_store.specs.Seen.{seen}
use Rattle.dc_store.specs.SystemView.{SystemView}
use Rattle.dc_store.proofs.KeepsMerge.{IsPlanned, planned_ordered, merge_done}
use Rattle.dc_store.proofs.system.SystemTxns.merge_at.Goals as goal

pub append-requires : goal.append-requires
append-requires g c =
    let v : SystemView = seen (g.L.LeafSet.leaves c.self.inside.leaves) c.self.inside.log
    (g.P.PageDevice.pages c.self.inside.pages) (g.P.PageDevice.usage c.self.inside.pages) in
    let planned : IsPlanned v c.args.place (c.len-last.result + 1) c.in_ok-merge.merge c.id.result
    (image_in c.image_of.result) = record {
      may = record {
        kept = c.self.invariant;
        may = rw (← c.self.view_is) at c.requires;
        room = omega (arith, c.if-last-ge-LAST_NUMBER.false, c.len-last.ensures.count);
      };
      of = c.in_ok-merge.ensures.both;
      last = ap (λ (n : ℕ). n + 1) c.len-last.ensures.count;
      own = c.id.ensures ∙ ap (λ (leaf : LeafView). leaf.id) c.deref.ensures;
      logged = c.image_of.ensures ∙ ap image_of c.deref-2.ensures;
    } in
    record { ordered = planned_ordered v _ _ _ _ _ planned }

pub invariant_of-self-2 : goal.invariant_of-self-2
invariant_of-self-2 g c =
    let v : SystemView = seen (g.L.LeafSet.leaves c.self.inside.leaves) c.self.inside.log
    (g.P.PageDevice.pages c.self.inside.pages) (g.P.PageDevice.usage c.self.inside.pages) in
    let planned : IsPlanned v c.args.place (c.len-last.result + 1) c.in_ok-merge.merge c.id.result
    (image_in c.image_of.result) = record {
      may = record {
        kept = c.self.invariant;
        may = rw (← c.self.view_is) at c.requires;
        room = omega (arith, c.if-last-ge-LAST_NUMBER.false, c.len-last.ensures.count);
      };
      of = c.in_ok-merge.ensures.both;
      last = ap (λ (n : ℕ). n + 1) c.len-last.ensures.count;
      own = c.id.ensures ∙ ap (λ (leaf : LeafView). leaf.id) c.deref.ensures;
      logged = c.image_of.ensures ∙ ap image_of c.deref-2.ensures;
    } in
    merge_done v _ _ _ _ _ planned _ c.in_ok-append.ensures.spelled c.merge.ensures
    (ap (λ (l : ChangeLogView). l.log) c.in_ok-append.ensures.appended)
    (ap (λ (l : ChangeLogView). l.stable) c.in_ok-append.ensures.appended) refl
