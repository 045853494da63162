use Rattle.std.proofs.Common.{◌≡◌, Some, None, refl, sym, ap, ◌∙◌}
use Rattle.std.specs.FinMap.{get}
use Rattle.record_key.specs.declared.op.Op.TheVariants.{Insert, Update, Delete, Add}
use Rattle.record_key.specs.Table.{key_of, add_value}
use Rattle.record_key.proofs.Tables.{after-idle}
use Rattle.record_key.proofs.plain_table.PlainTable.apply.Goals as goal

pub returns-in-Insert-Some-clause-table : goal.returns-in-Insert-Some-clause-table
returns-in-Insert-Some-clause-table c =
    let op : c.args.op.now ≡ Insert c.in-Insert-Some.field-0-0 c.in-Insert-Some.field-1-0 = c.in-Insert-Some.is-0 in
    let there : Some c.in-Insert-Some.field-0-1 ≡ get c.args.self.now (key_of c.args.op.now) =
    sym c.in-Insert-Some.is-1 ∙ c.value_at.ensures ∙ ap (get c.args.self.now) c.key.ensures in
    rw op (after-idle c.args.self.now (Insert c.in-Insert-Some.field-0-0 c.in-Insert-Some.field-1-0)
    (Some c.in-Insert-Some.field-0-1) (rw op at there) refl)

pub returns-in-Update-None-clause-table : goal.returns-in-Update-None-clause-table
returns-in-Update-None-clause-table c =
    let op : c.args.op.now ≡ Update c.in-Update-None.field-0-0 c.in-Update-None.field-1-0 = c.in-Update-None.is-0 in
    let there : None ≡ get c.args.self.now (key_of c.args.op.now) =
    sym c.in-Update-None.is-1 ∙ c.value_at.ensures ∙ ap (get c.args.self.now) c.key.ensures in
    rw op (after-idle c.args.self.now (Update c.in-Update-None.field-0-0 c.in-Update-None.field-1-0) None
    (rw op at there) refl)

pub returns-in-Delete-None-clause-table : goal.returns-in-Delete-None-clause-table
returns-in-Delete-None-clause-table c =
    let op : c.args.op.now ≡ Delete c.in-Delete-None.field-0-0 = c.in-Delete-None.is-0 in
    let there : None ≡ get c.args.self.now (key_of c.args.op.now) =
    sym c.in-Delete-None.is-1 ∙ c.value_at.ensures ∙ ap (get c.args.self.now) c.key.ensures in
    rw op (after-idle c.args.self.now (Delete c.in-Delete-None.field-0-0) None (rw op at there) refl)

pub returns-in-None-clause-table : goal.returns-in-None-clause-table
returns-in-None-clause-table c =
    let op : c.args.op.now ≡ Add c.in-Add-Some.key c.in-Add-Some.amount = c.in-Add-Some.is-0 in
    let there : Some c.in-Add-Some.old ≡ get c.args.self.now (key_of c.args.op.now) =
    sym c.in-Add-Some.is-1 ∙ c.value_at.ensures ∙ ap (get c.args.self.now) c.key.ensures in
    rw op (after-idle c.args.self.now (Add c.in-Add-Some.key c.in-Add-Some.amount) (Some c.in-Add-Some.old)
    (rw op at there) (ap (λ s. Some (add_value c.in-Add-Some.old s)) (sym c.plus.ensures ∙ c.in-None.is)))

pub returns-in-Add-None-clause-table : goal.returns-in-Add-None-clause-table
returns-in-Add-None-clause-table c =
    let op : c.args.op.now ≡ Add c.in-Add-None.field-0-0 c.in-Add-None.field-1-0 = c.in-Add-None.is-0 in
    let there : None ≡ get c.args.self.now (key_of c.args.op.now) =
    sym c.in-Add-None.is-1 ∙ c.value_at.ensures ∙ ap (get c.args.self.now) c.key.ensures in
    rw op (after-idle c.args.self.now (Add c.in-Add-None.field-0-0 c.in-Add-None.field-1-0) None (rw op at there) refl)
