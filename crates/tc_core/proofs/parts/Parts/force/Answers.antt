use Rattle.std.proofs.Common.{◌≡◌, ◌∙◌, [], List, ℕ, ap, Vec, Global}
use Rattle.tc_core.specs.Changes.{let_go}
use Rattle.tc_core.specs.Seen.{seen}
use Rattle.tc_core.proofs.KeepsTc.{keeps_force}
use Rattle.tc_core.proofs.parts.Parts.force.Goals as goal

pub returns-clause-kept : goal.returns-clause-kept
returns-clause-kept g c =
    let w = seen c.args.self.now in
    let items : Vec ℕ Global → List ℕ = λ v. v.items in
    let none : c.replace-committed.new.dest.items ≡ [] =
    ap items c.replace-committed.ensures.after ∙ c.new-none.ensures.items in
    let gone : c.let_go.new.locks ≡ let_go w.committing w.locks =
    c.let_go.ensures ∙ ap (λ (ts : List ℕ). let_go ts w.locks)
    (c.as_slice.ensures.value ∙ ap items c.replace-committed.ensures.value) in
    rw (c.in_ok-end.ensures.forced, none, gone) (keeps_force w c.requires)
