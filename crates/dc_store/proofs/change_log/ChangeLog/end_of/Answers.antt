use Rattle.std.proofs.Common.{◌≡◌, ℕ, ◌∙◌, ◌<◌, ◌≤◌, List, sym, ap, arith, length, get_or}
use Rattle.std.proofs.lemmas.Grind.{common_steps}
use Rattle.codec.specs.declared.dc_record.DcRecord.{DcRecord}
use Rattle.framed_log.specs.Beginning.{beginning}
use Rattle.framed_log.proofs.Beginning.{whole}
use Rattle.dc_store.specs.Devices.{framing, spelled, places}
use Rattle.framed_log.proofs.Spelled.{length-places, place_at}
use Rattle.dc_store.proofs.change_log.ChangeLog.end_of.Goals as goal

-- before the last record its frame's place is the end, and after that the log's
at_place : (log : List DcRecord) (items : List ℕ) (n len x : ℕ) → items ≡ places log → len ≡ length items → n < len
    → get_or items n x ≡ length (spelled (beginning log n))
at_place log items n len x are count less =
    ap (λ (xs : List ℕ). get_or xs n x) are
    ∙ place_at framing log n x (omega (arith, less, count, ap length are, length-places framing log))

at_end : (log : List DcRecord) (items : List ℕ) (n len end : ℕ) → items ≡ places log → len ≡ length items → len ≤ n
    → end ≡ length (spelled log) → end ≡ length (spelled (beginning log n))
at_end log items n len end are count all is =
    is ∙ ap (λ (l : List DcRecord). length (spelled l))
    (sym (whole log n (omega (arith, all, count, ap length are, length-places framing log))))

pub returns-then-count-len : goal.returns-then-count-len
returns-then-count-len g c =
    let count : c.len.result ≡ length c.self.inside.places.items = grind (arith, common_steps) in
    rw (← c.self.view_is)
    (c.index.ensures
    ∙ at_place _ c.self.inside.places.items c.args.count c.len.result c.index.result.now c.self.invariant.1.begins_are
    count c.if-count-len.true)

pub returns-else-count-len : goal.returns-else-count-len
returns-else-count-len g c =
    let count : c.len.result ≡ length c.self.inside.places.items = grind (arith, common_steps) in
    rw (← c.self.view_is)
    (at_end _ c.self.inside.places.items c.args.count c.len.result c.self.inside.end c.self.invariant.1.begins_are
    count c.if-count-len.false
    c.self.invariant.1.end_is)
