use Rattle.std.proofs.Common.{◌≡◌, ◌∙◌, ℕ, ◌+◌, ◌<◌, ◌^◌, [], ◌∷◌, ◌++◌, ap, arith, length}
use Rattle.std.proofs.lemmas.Grind.{common_steps}
use Rattle.codec.specs.Marks.{marked}
use Rattle.codec.proofs.Indexed.{indexed_few}
use Rattle.node_world.specs.Sent.{SentView}
use Rattle.node_world.proofs.Framed.{all_more, all_read_more, body_is_short}
use Rattle.node_world.proofs.sent.Sent.push.Given as given
use Rattle.node_world.proofs.sent.Sent.push.Goals as goal

pub push_reserved-requires-clause-few : goal.push_reserved-requires-clause-few
push_reserved-requires-clause-few g c =
    let m = c.self.inside in
    let long : length m.bytes.items < 2 ^ 64 = grind (arith, common_steps) in
    omega (arith, c.in_ok-reserve.ensures.count, indexed_few _ _ _ c.self.invariant.indexes, long)

-- what the index holds once the new frame is counted
marks_are : (g : given.Over) (c : goal.After-push_reserved g)
    → c.push_reserved.new.self.marks
    ≡ marked c.self.inside.index.marks c.self.inside.index.count (length c.self.inside.bytes.items)
marks_are g c =
    let place : c.len-place.result ≡ length c.self.inside.bytes.items = grind (arith, common_steps) in
    c.push_reserved.ensures.marks
    ∙ λ i. marked (c.in_ok-reserve.ensures.marks i) (c.in_ok-reserve.ensures.count i) (place i)

count_is : (g : given.Over) (c : goal.After-push_reserved g)
    → c.push_reserved.new.self.count ≡ c.self.inside.index.count + 1
count_is g c = c.push_reserved.ensures.count ∙ ap (λ (n : ℕ). n + 1) c.in_ok-reserve.ensures.count

is_short : (g : given.Over) (c : goal.After-push_reserved g)
    → length (g.M.Message.spell (g.P.Parts.message c.args.parts.now)) < 2 ^ 64
is_short g c =
    let long : length c.put.new.out.items < 2 ^ 64 = grind (arith, common_steps) in
    body_is_short _ c.self.inside.bytes.items _ c.in_ok-put.ensures.spelling long

pub invariant_of-self-2 : goal.invariant_of-self-2
invariant_of-self-2 g c =
    let T = g.M.Message in
    let m = c.self.inside in
    rw (c.in_ok-put.ensures.spelling, marks_are g c, count_is g c)
    (all_more _ T.spell T.is_spelled T.read_at T.reads m.bytes.items m.index.marks m.index.count
    (g.P.Parts.message c.args.parts.now) c.self.invariant c.in_ok-put.ensures.spelled (is_short g c))

pub returns-clause-appended : goal.returns-clause-appended
returns-clause-appended g c =
    let T = g.M.Message in
    let m = c.self.inside in
    let message = g.P.Parts.message c.args.parts.now in
    rw (c.in_ok-put.ensures.spelling, count_is g c)
    (all_read_more _ T.spell T.is_spelled T.read_at T.reads m.bytes.items m.index.marks m.index.count
    message c.self.invariant c.in_ok-put.ensures.spelled (is_short g c)
    ∙ ap (λ (v : SentView _). v.messages ++ message ∷ []) c.self.view_is)
