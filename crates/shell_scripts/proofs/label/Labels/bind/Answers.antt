use Rattle.std.proofs.Common.{◌≡◌, ℕ, List, Some, None, refl, subst}
use Rattle.std.specs.Prelude.{OnOk, OnErr}
use Rattle.std.specs.Ordering.{nat_cmp}
use Rattle.std.specs.Cmp.Lexicographic.{slice_cmp}
use Rattle.std.specs.BTreeMap.{get, Updates}
use Rattle.shell_scripts.proofs.Bindings.{put_here, put_elsewhere, put_surely}
use Rattle.shell_scripts.proofs.label.Labels.bind.Goals as goal

pub returns : goal.returns
returns c =
    let P : List ℕ → Type 0 =
    λ k. OnOk c.insert.result
    (Updates (slice_cmp nat_cmp) c.args.self.now.numbers c.insert.new.self k (Some c.args.number)) in
    let Q : List ℕ → Type 0 = λ k. OnErr c.insert.result (get (slice_cmp nat_cmp) c.args.self.now.numbers k ≡ None) in
    let put : Updates (slice_cmp nat_cmp) c.args.self.now.numbers c.insert.new.self c.args.label.now
    (Some c.args.number) =
    put_surely _ c.insert.result c.requires (subst Q c.copied.ensures c.insert.ensures.absent)
    (subst P c.copied.ensures c.insert.ensures.updates) in
    record {
      here = put_here c.args.self.now.numbers c.insert.new.self c.args.label.now c.args.number put;
      elsewhere = put_elsewhere c.args.self.now.numbers c.insert.new.self c.args.label.now (Some c.args.number) put;
      scans = refl;
    }
