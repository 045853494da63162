use Rattle.std.proofs.Common.{◌≡◌, ap, refl, sym, Some, ◌∙◌}
use Rattle.std.specs.Option.{option_copied}
use Rattle.tc_core.specs.declared.change.Change.TheVariants.{Told}
use Rattle.tc_core.specs.Replies.{reader}
use Rattle.tc_core.specs.Seen.{seen}
use Rattle.tc_core.proofs.KeepsReads.{reader_is, keeps_told}
use Rattle.tc_core.proofs.Refused.{happened}
use Rattle.tc_core.proofs.parts.Parts.on_rows.Goals as goal

pub returns-clause-kept : goal.returns-clause-kept
returns-clause-kept g c =
    let w = seen c.args.self.now in
    let o = c.in-Some.opened.now in
    let at = (reader_is w c.args.read o c.requires (sym c.oldest.ensures ∙ ap option_copied c.in-Some.is)).0 in
    rw (happened w o.txn o Told c.change.new.self (record { is = at; number = refl }) c.change.ensures)
    (keeps_told w o c.requires at)

pub returns-clause-left : goal.returns-clause-left
returns-clause-left g c =
    let w = seen c.args.self.now in
    let o = c.in-Some.opened.now in
    let is : reader w c.args.read ≡ Some o = sym c.oldest.ensures ∙ ap option_copied c.in-Some.is in
    let at = (reader_is w c.args.read o c.requires is).0 in
    rw (
      happened w o.txn o Told c.change.new.self (record { is = at; number = refl }) c.change.ensures,
      is,
      sym c.reads_range.ensures ∙ c.if-not-reads_range.false,
    ) refl
