use Rattle.std.proofs.Common.{sym}
use Rattle.std.specs.FinMap as table
use Rattle.dc_store.proofs.PageReading.{own_if}
use Rattle.dc_store.proofs.pages.read_page.Goals as goal

pub returns-in_ok-own_leaf-in-Ok-Some-clause-own : goal.returns-in_ok-own_leaf-in-Ok-Some-clause-own
returns-in_ok-own_leaf-in-Ok-Some-clause-own g c =
    own_if (table.get (g.P.PageDevice.pages c.args.pages.now) c.args.id) c.in-Ok-Some.bytes.now c.args.id c.args.records
    (sym (rw c.in-Ok-Some.field-0-is at c.in-Ok-Some.ensures.value)) c.in_ok-own_leaf-in-Ok-Some.ensures.own
