use Rattle.std.proofs.Common.{◌≡◌, ◌<◌, ℕ, List, get_or, sym, ◌∙◌, ap, arith, []}
use Rattle.std.specs.Ordering.{ordering_reverse}
use Rattle.std.specs.declared.cmp.Ordering.{Ordering}
use Rattle.std.specs.declared.cmp.Ordering.TheVariants.{Less, Greater}
use Rattle.std.proofs.lemmas.Cmp.{nat_list_cmp_total}
use Rattle.record_key.specs.Table.{Bytes}
use Rattle.record_key.specs.Laws.{key_cmp}
use Rattle.record_key.specs.Rows.{Row}
use Rattle.record_key.proofs.Search.{stands_from, belongs_from}
use Rattle.record_key.proofs.plain_table.place_of.Goals as goal

abbrev order : Bytes → Row → Ordering
order k row = key_cmp k row.0

-- how the key compares with a row that was compared with it
turned : (k x : Bytes) (o : Ordering) → key_cmp x k ≡ o → key_cmp k x ≡ ordering_reverse o
turned k x o is = nat_list_cmp_total.antisymm k x ∙ ap ordering_reverse is

passed : (k : Bytes) (rows : List Row) (place : ℕ) (d : Row)
    → ((j : ℕ) (d : Row) → j < place → key_cmp (get_or rows j d).0 k ≡ Less)
    → (j : ℕ) → j < place → key_cmp k (get_or rows j d).0 ≡ Greater
passed k rows place d below j lt = turned k (get_or rows j d).0 Less (below j d lt)

pub returns-in-Equal-clause-at : goal.returns-in-Equal-clause-at
returns-in-Equal-clause-at c =
    let k = c.args.key.now in
    let row = c.index-rows-place.result in
    stands_from (order k) c.args.rows.now c.loop-place.place row (omega arith)
    (passed k c.args.rows.now c.loop-place.place row c.loop-place.invariant)
    (turned k _ _ (ap (λ (r : Row). key_cmp r.0 k) (sym c.index-rows-place.is) ∙ sym c.cmp.ensures ∙ c.in-Equal.is))

pub returns-in-Greater-clause-gap : goal.returns-in-Greater-clause-gap
returns-in-Greater-clause-gap c =
    let k = c.args.key.now in
    let row = c.index-rows-place.result in
    belongs_from (order k) c.args.rows.now c.loop-place.place row (omega arith)
    (passed k c.args.rows.now c.loop-place.place row c.loop-place.invariant)
    (λ _. turned k _ _ (ap (λ (r : Row). key_cmp r.0 k) (sym c.index-rows-place.is) ∙ sym c.cmp.ensures
    ∙ c.in-Greater.is))

pub returns-clause-gap : goal.returns-clause-gap
returns-clause-gap c =
    belongs_from (order c.args.key.now) c.args.rows.now _ ([], []) (omega arith)
    (λ j lt. passed c.args.key.now c.args.rows.now c.loop-place.place ([], []) c.loop-place.invariant j (omega arith))
    (λ lt. absurd (omega arith))
