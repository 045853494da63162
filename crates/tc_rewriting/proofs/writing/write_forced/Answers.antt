use Rattle.std.proofs.Common.{◌≡◌, ◌∙◌, ◌<◌, ◌^◌, length, sym, ap, subst, ℕ}
use Rattle.tc_log.specs.LogView.{LogView}
use Rattle.tc_rewriting.proofs.writing.write_forced.Goals as goal

pub returns : goal.returns
returns g c =
    let log = c.write_rows.new.log in
    let new = c.force.new.self in
    let forced = c.in_ok-force.ensures.forced in
    let same : new.records ≡ log.records = ap (λ (v : LogView). v.records) forced in
    record {
      written = same ∙ c.in_ok-write_rows.ensures.written;
      forced = ap (λ (v : LogView). v.stable) forced ∙ ap length (sym same);
      numbered = subst (λ (n : ℕ). n < 2 ^ 48) c.len-count.ensures.count c.len-count.ensures.numbered;
      refused = tt;
    }
