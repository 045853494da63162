use Rattle.std.proofs.Common.{ℕ, List, Some, refl, sym, ◌∙◌, subst}
use Rattle.std.specs.Ordering.{nat_cmp}
use Rattle.std.specs.Cmp.Lexicographic.{slice_cmp}
use Rattle.std.specs.BTreeMap.{get, Updates}
use Rattle.shell_scripts.proofs.Bindings.{put_zero, none_there}
use Rattle.shell_scripts.proofs.label.Labels.make_room.Goals as goal

pub returns-in_ok-insert-clause-same : goal.returns-in_ok-insert-clause-same
returns-in_ok-insert-clause-same c =
    let P : List ℕ → Type 0 = λ k. Updates (slice_cmp nat_cmp) c.args.self.now.numbers c.insert.new.self k (Some 0) in
    record {
      numbers = put_zero c.args.self.now.numbers c.insert.new.self c.args.label.now
          (none_there (get (slice_cmp nat_cmp) c.args.self.now.numbers c.args.label.now)
          (sym c.contains_key.ensures ∙ c.if-not-contains_key.true))
          (subst P c.copied.ensures c.in_ok-insert.ensures.updates);
      scans = refl;
    }
