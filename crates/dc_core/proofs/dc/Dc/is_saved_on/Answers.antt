use Rattle.std.proofs.Common.{◌≡◌, ◌<◌, ◌≤◌, ◌∙◌, length, get_or, ap, sym, subst, arith, refl, List}
use Rattle.std.specs.List.{AllByRecursion}
use Rattle.std.proofs.lemmas.Option.{slice_get-get_or}
use Rattle.record_key.specs.declared.entry.Entry.{Entry}
use Rattle.dc_leaf.specs.Leaf.{LeafView, first}
use Rattle.dc_core.specs.Shows.{IsOn}
use Rattle.dc_core.proofs.Walks.{all_get, all_more, all_through}
use Rattle.dc_core.proofs.dc.Dc.is_saved_on.Goals as goal

pub returns-then-not-are_on : goal.returns-then-not-are_on
returns-then-not-are_on g c =
    let leaves = c.self.inside.system.leaves in
    let AreOn : List Entry → Type 0 = AllByRecursion (IsOn c.args.number c.args.key.now) in
    let within : c.loop-place.place < length leaves =
    omega (arith, c.loop-place-test.true, c.len-place-end.ensures.count) in
    let read : c.entries.result.now ≡ (get_or leaves c.loop-place.place first).ab.entries =
    c.entries.ensures ∙ ap (λ (leaf : LeafView). leaf.ab.entries) c.leaf.ensures in rw (← c.self.view_is) (
      λ wrong. absurd (cc),
      λ all.
          let own =
          all_get (λ (leaf : LeafView). AreOn leaf.ab.entries) leaves c.loop-place.place
          (get_or leaves c.loop-place.place first) all (slice_get-get_or leaves c.loop-place.place first within) in
          let on = c.are_on.ensures.1 (subst AreOn (sym read) own) in
          absurd (cc),
    )

pub loop-place-preserved : goal.loop-place-preserved
loop-place-preserved g c =
    let leaves = c.self.inside.system.leaves in
    let AreOn : List Entry → Type 0 = AllByRecursion (IsOn c.args.number c.args.key.now) in
    let within : c.loop-place.place < length leaves =
    omega (arith, c.loop-place-test.true, c.len-place-end.ensures.count) in
    let read : c.entries.result.now ≡ (get_or leaves c.loop-place.place first).ab.entries =
    c.entries.ensures ∙ ap (λ (leaf : LeafView). leaf.ab.entries) c.leaf.ensures in
    all_more (λ (leaf : LeafView). AreOn leaf.ab.entries) leaves c.loop-place.place
    (get_or leaves c.loop-place.place first) (slice_get-get_or leaves c.loop-place.place first within)
    c.loop-place.invariant (subst AreOn read (c.are_on.ensures.0 c.if-not-are_on.false))

pub returns : goal.returns
returns g c =
    let leaves = c.self.inside.system.leaves in
    let most : length leaves ≤ c.loop-place.place =
    omega (arith, c.loop-place-test.false, c.len-place-end.ensures.count) in
    let AreOn : LeafView → Type 0 = λ leaf. AllByRecursion (IsOn c.args.number c.args.key.now) leaf.ab.entries in rw (← c.self.view_is) (
      λ _. all_through AreOn leaves c.loop-place.place most c.loop-place.invariant,
      λ all. refl,
    )
