use Rattle.std.proofs.Common.{List, arith, subst, ◌∙◌}
use Rattle.record_key.specs.Rows.{Row}
use Rattle.jakumshe.specs.Records.{GivesRows}
use Rattle.std.proofs.lemmas.List.{length-set}
use Rattle.jakumshe.proofs.Paging.{one_more}
use Rattle.jakumshe.proofs.node.Node.page.Goals as goal

pub loop-count-preserved : goal.loop-count-preserved
loop-count-preserved c =
    let before = c.args.self.now.rows.items in
    let room = c.loop-count.room in
    let given = c.loop-count.invariant.0 in
    let long = length-set room c.loop-count.count c.put.new.self in (
      one_more before c.pop.new.self.items room c.loop-count.count c.put.new.self (c.in-Some.key, c.in-Some.value)
          (subst (λ (rows : List Row). GivesRows before rows room c.loop-count.count) c.in-Some.ensures.items given)
          c.loop-count-test.true c.put.ensures,
      omega (arith, c.loop-count-test.true, long),
      c.loop-count.invariant.2,
      long ∙ c.loop-count.invariant.3,
    )
