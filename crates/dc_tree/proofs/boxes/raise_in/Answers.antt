use Rattle.std.proofs.Common.{◌≡◌, ◌<◌, ℕ, length, ap, ◌∙◌, arith, add-one}
use Rattle.std.proofs.lemmas.Grind.{common_steps}
use Rattle.std.proofs.lemmas.List.{length-map}
use Rattle.std.specs.Box.{with_value}
use Rattle.dc_leaf.specs.Leaf.{LeafView, raised_to}
use Rattle.dc_tree.specs.Lists.{leaf_of, leaves_in}
use Rattle.dc_tree.proofs.Raising.{raised_below, raised_all, raised_next}
use Rattle.dc_tree.proofs.boxes.raise_in.Goals as goal

pub loop-place-preserved : goal.loop-place-preserved
loop-place-preserved c =
    let old = c.args.leaves.now.items in
    let len : length (leaves_in old) ≡ length old = length-map old leaf_of in
    let within : c.loop-place.place < length (leaves_in old) = grind (arith, common_steps, len) in
    rw add-one
    (raised_next leaf_of c.loop-place.leaves.items (leaves_in old) c.args.low c.loop-place.place
    (with_value c.index_mut.result.now c.raise.new.self) c.index_mut.result.now
    c.loop-place.invariant within
    (c.raise.ensures ∙ ap (λ (l : LeafView). raised_to l c.args.low)
    (c.deref_mut.ensures.value ∙ ap leaf_of c.index_mut.ensures.value)))

pub returns : goal.returns
returns c =
    let old = c.args.leaves.now.items in
    let len : length (leaves_in old) ≡ length old = length-map old leaf_of in
    let end : c.loop-place.place ≡ length (leaves_in old) = grind (arith, common_steps, len) in
    c.loop-place.invariant ∙ ap (λ (i : ℕ). raised_below c.args.low i (leaves_in old)) end
    ∙ raised_all c.args.low (leaves_in old)
