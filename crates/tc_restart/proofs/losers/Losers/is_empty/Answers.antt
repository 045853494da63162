use Rattle.std.proofs.Common.{◌≡◌, ◌∙◌, false, ap, subst, is_some}
use Rattle.std.specs.Prelude.{not}
use Rattle.tc_restart.specs.Heaps.{seen}
use Rattle.tc_restart.specs.Losers.{LosersView, TellsNone}
use Rattle.tc_restart.proofs.Listed.{tells_none}
use Rattle.tc_restart.proofs.losers.Losers.is_empty.Goals as goal

pub returns-then-is_none : goal.returns-then-is_none
returns-then-is_none c =
    let none : is_some c.lose_next.result ≡ false = c.is_none.ensures ∙ ap not c.if-is_none.true in
    subst (λ (l : LosersView). TellsNone l c.is_none-then-is_none.result) c.self.view_is
    (tells_none (seen c.self.inside.heaps) c.lose_next.result c.ended_next.result c.is_none-then-is_none.result
    c.lose_next.ensures c.ended_next.ensures none
    c.is_none-then-is_none.ensures)
