use Rattle.std.proofs.Common.{◌≡◌, ◌<◌, ◌+◌, ◌-◌, ℕ, List, take, drop, flat_map, get_or, subst, length, ap, sym, ◌∙◌, arith}
use Rattle.std.proofs.lemmas.List.{get_or-drop, length-drop}
use Rattle.std.specs.Io.KnownBytes.{Appends}
use Rattle.record_key.specs.declared.entry.Entry.{Entry}
use Rattle.shell_scripts.proofs.Printing.{prints_err, cut_at_item, item_more, items_all}
use Rattle.shell_scripts.specs.Stored.{further_number}
use Rattle.shell_scripts.proofs.leaves.print_numbers.Goals as goal

-- behind the first it stands one place earlier
behind : (entries : List Entry) (at : ℕ) (e : Entry) → 0 < at → e ≡ get_or entries at e
    → e ≡ get_or (drop 1 entries) (at - 1) e
behind entries at e some is =
    let same : 1 + (at - 1) ≡ at = omega (arith, some) in
    is ∙ ap (λ (i : ℕ). get_or entries i e) (sym same) ∙ sym (get_or-drop 1 entries (at - 1) e)

pub returns-in_err-print_next : goal.returns-in_err-print_next
returns-in_err-print_next g c =
    let es = drop 1 c.args.entries.now in
    let within : c.loop-at.at - 1 < length es =
    omega (arith, c.loop-at-test.true, c.len-at-end.ensures, c.loop-at.invariant.0, length-drop 1 c.args.entries.now) in
    prints_err _ _ _ c.from_residual.result c.from_residual.ensures.0
    (cut_at_item further_number _ _ _ es (c.loop-at.at - 1) c.entry.result c.entry.result within
    (behind c.args.entries.now c.loop-at.at c.entry.result c.loop-at.invariant.0 c.entry.ensures) c.loop-at.invariant.1
    c.in_err-print_next.ensures)

pub loop-at-preserved : goal.loop-at-preserved
loop-at-preserved g c =
    let es = drop 1 c.args.entries.now in
    let i : ℕ = c.loop-at.at - 1 in
    let within : i < length es =
    omega (arith, c.loop-at-test.true, c.len-at-end.ensures, c.loop-at.invariant.0, length-drop 1 c.args.entries.now) in
    let next : i + 1 ≡ c.loop-at.at + 1 - 1 = omega (arith, c.loop-at.invariant.0) in
    let Written : ℕ → Type 0 =
    λ n. Appends (g.W.Write.contents c.args.writer.now) (g.W.Write.contents c.print_next.new.writer)
    (flat_map further_number (take n es)) in (
      omega arith,
      subst Written next (item_more further_number _ _ _ es i c.entry.result c.entry.result within
          (behind c.args.entries.now c.loop-at.at c.entry.result c.loop-at.invariant.0 c.entry.ensures)
          c.loop-at.invariant.1
          c.in_ok-print_next.ensures),
    )

pub returns : goal.returns
returns g c =
    items_all further_number _ _ (drop 1 c.args.entries.now) (c.loop-at.at - 1)
    (omega (arith, c.loop-at-test.false, c.len-at-end.ensures, length-drop 1 c.args.entries.now)) c.loop-at.invariant.1
