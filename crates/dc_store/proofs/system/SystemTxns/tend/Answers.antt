use Rattle.std.proofs.Common.{◌≡◌, ◌∙◌, true, sym}
use Rattle.dc_tree.proofs.Firsts.{first_large_at, first_pair_at}
use Rattle.dc_store.proofs.Within.{tends_split, tends_merge}
use Rattle.dc_store.proofs.system.SystemTxns.tend.Goals as goal

pub split_at-requires : goal.split_at-requires
split_at-requires g c =
    rw (← c.self.view_is)
    (first_large_at c.args.known _ c.in-Some.place (sym c.first_large.ensures ∙ c.in-Some.is)).may

pub merge_at-requires : goal.merge_at-requires
merge_at-requires g c =
    rw (← c.self.view_is)
    (first_pair_at c.args.known _ c.in-Some-first_pair.place (sym c.first_pair.ensures ∙ c.in-Some-first_pair.is)).may

pub returns-in-Some : goal.returns-in-Some
returns-in-Some g c =
    record {
      gives =
          rw (← c.self.view_is)
          (tends_split c.args.known _ c.args.merges c.in-Some.place _ _ (sym c.first_large.ensures ∙ c.in-Some.is)
          (rw (← c.self.view_is) at c.in_ok-split_at.ensures.split));
    }

pub returns-in_ok-merge_at-in-Some-first_pair : goal.returns-in_ok-merge_at-in-Some-first_pair
returns-in_ok-merge_at-in-Some-first_pair g c =
    let merges : c.args.merges ≡ true = c.if-not-merges.false in
    record {
      gives =
          rw (merges, ← c.self.view_is)
          (tends_merge c.args.known _ c.in-Some-first_pair.place _ _ (sym c.first_large.ensures ∙ c.in_default.is)
          (sym c.first_pair.ensures ∙ c.in-Some-first_pair.is)
          (rw (← c.self.view_is) at c.in_ok-merge_at-in-Some-first_pair.ensures.merged));
    }
