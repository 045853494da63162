use Rattle.std.proofs.Common.{◌≡◌, set, sym, true≢false, ap, ◌∙◌, subst, rules}
use Rattle.std.specs.Box.{with_value}
use Rattle.record_key.specs.Lent.{op_lent}
use Rattle.record_key.specs.Table.{key_of}
use Rattle.dc_ab_lsn.specs.AbLsn.{captures}
use Rattle.dc_leaf.specs.Leaf.{LeafView, is_in_fences}
use Rattle.dc_leaf.specs.Performs.{Performs}
use Rattle.dc_tree.specs.Leaves.{leaf_at, place_at}
use Rattle.dc_tree.specs.Lists.{leaf_of, leaves_in}
use Rattle.dc_tree.proofs.AtKey.{within_at}
use Rattle.dc_tree.proofs.Searching.{found, performs_there, same_there, there_in}
use Rattle.dc_tree.proofs.boxes.perform_in.Goals as goal

pub perform-requires-clause-within : goal.perform-requires-clause-within
perform-requires-clause-within g c =
    let xs = c.args.leaves.now.items in
    let k = key_of (op_lent c.args.op.now) in
    let place : c.place_in-place.result ≡ place_at (leaves_in xs) k =
    rw (c.as_slice.ensures.value, c.key.ensures) at c.place_in-place.ensures.place in
    ap (λ (l : LeafView). is_in_fences l k)
    (c.deref_mut.ensures.value
    ∙ found leaf_of xs k c.place_in-place.result c.index_mut.result.now c.requires.leaves place
    c.index_mut.ensures.value)
    ∙ within_at (leaves_in xs) k c.requires.leaves

pub returns-in_err-done-clause-repeated : goal.returns-in_err-done-clause-repeated
returns-in_err-done-clause-repeated g c = λ captured.
    let xs = c.args.leaves.now.items in
    let k = key_of (op_lent c.args.op.now) in
    let place : c.place_in-place.result ≡ place_at (leaves_in xs) k =
    rw (c.as_slice.ensures.value, c.key.ensures) at c.place_in-place.ensures.place in
    let leaf : c.deref_mut.result.now ≡ leaf_at (leaves_in xs) k =
    c.deref_mut.ensures.value
    ∙ found leaf_of xs k c.place_in-place.result c.index_mut.result.now c.requires.leaves place
    c.index_mut.ensures.value in
    absurd (true≢false (sym (c.in_err-done.ensures.repeated
    (ap (λ (l : LeafView). captures l.ab c.args.number) leaf ∙ captured))))

pub returns-in_err-done-clause-refused : goal.returns-in_err-done-clause-refused
returns-in_err-done-clause-refused g c =
    let xs = c.args.leaves.now.items in
    let p = c.place_in-place.result in
    let same : leaves_in (set xs p (with_value c.index_mut.result.now c.perform.new.self)) ≡ leaves_in xs =
    same_there leaf_of xs p (with_value c.index_mut.result.now c.perform.new.self) c.index_mut.result.now
    (c.in_err-done.ensures.refused ∙ c.deref_mut.ensures.value ∙ ap leaf_of c.index_mut.ensures.value) in
    search rules

pub returns-clause-done : goal.returns-clause-done
returns-clause-done g c =
    let xs = c.args.leaves.now.items in
    let k = key_of (op_lent c.args.op.now) in
    let place : c.place_in-place.result ≡ place_at (leaves_in xs) k =
    rw (c.as_slice.ensures.value, c.key.ensures) at c.place_in-place.ensures.place in
    let leaf : c.deref_mut.result.now ≡ leaf_at (leaves_in xs) k =
    c.deref_mut.ensures.value
    ∙ found leaf_of xs k c.place_in-place.result c.index_mut.result.now c.requires.leaves place
    c.index_mut.ensures.value in
    rw place
    (performs_there leaf_of xs c.args.number (op_lent c.args.op.now) c.in_ok-done.done
    (g.S.AnswerSink.told c.perform.new.sink)
    (with_value c.index_mut.result.now c.perform.new.self) (there_in leaf_of xs k c.requires.leaves)
    (subst (λ (l : LeafView). Performs l c.args.number (op_lent c.args.op.now) c.in_ok-done.done
    (g.S.AnswerSink.told c.perform.new.sink) c.perform.new.self) leaf c.in_ok-done.ensures.done))
