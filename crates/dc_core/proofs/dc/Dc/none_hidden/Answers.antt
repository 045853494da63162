use Rattle.std.proofs.Common.{◌≡◌, ◌<◌, ◌≤◌, ◌∙◌, length, get_or, ap, arith, refl}
use Rattle.std.proofs.lemmas.Option.{slice_get-get_or}
use Rattle.dc_leaf.specs.Leaf.{LeafView, first}
use Rattle.dc_core.proofs.Walks.{all_get, all_more, all_through}
use Rattle.dc_core.proofs.dc.Dc.none_hidden.Goals as goal

pub returns-then-number-low : goal.returns-then-number-low
returns-then-number-low g c =
    let leaves = c.self.inside.system.leaves in
    let within : c.loop-place.place < length leaves =
    omega (arith, c.loop-place-test.true, c.len-place-end.ensures.count) in
    let low : c.low.result ≡ (get_or leaves c.loop-place.place first).ab.low =
    c.low.ensures ∙ ap (λ (leaf : LeafView). leaf.ab.low) c.leaf.ensures in rw (← c.self.view_is) (
      λ wrong. absurd (cc),
      λ all.
          let below =
          all_get (λ (leaf : LeafView). leaf.ab.low < c.args.number) leaves c.loop-place.place
          (get_or leaves c.loop-place.place first) all (slice_get-get_or leaves c.loop-place.place first within) in
          absurd (omega (arith, low, below, c.if-number-low.true)),
    )

pub loop-place-preserved : goal.loop-place-preserved
loop-place-preserved g c =
    let leaves = c.self.inside.system.leaves in
    let within : c.loop-place.place < length leaves =
    omega (arith, c.loop-place-test.true, c.len-place-end.ensures.count) in
    let low : c.low.result ≡ (get_or leaves c.loop-place.place first).ab.low =
    c.low.ensures ∙ ap (λ (leaf : LeafView). leaf.ab.low) c.leaf.ensures in
    all_more (λ (leaf : LeafView). leaf.ab.low < c.args.number) leaves c.loop-place.place
    (get_or leaves c.loop-place.place first) (slice_get-get_or leaves c.loop-place.place first within)
    c.loop-place.invariant (omega (arith, low, c.if-number-low.false))

pub returns : goal.returns
returns g c =
    let leaves = c.self.inside.system.leaves in
    let most : length leaves ≤ c.loop-place.place =
    omega (arith, c.loop-place-test.false, c.len-place-end.ensures.count) in rw (← c.self.view_is) (
      λ _. all_through (λ (leaf : LeafView). leaf.ab.low < c.args.number) leaves c.loop-place.place most
          c.loop-place.invariant,
      λ all. refl,
    )
