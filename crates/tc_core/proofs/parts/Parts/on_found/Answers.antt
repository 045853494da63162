use Rattle.std.proofs.Common.{◌≡◌, ap, refl, sym, Some, ◌∙◌}
use Rattle.std.specs.Option.{option_copied}
use Rattle.tc_core.specs.declared.change.Change.TheVariants.{Told}
use Rattle.tc_core.specs.Replies.{reader}
use Rattle.tc_core.specs.Seen.{seen}
use Rattle.tc_core.proofs.KeepsReads.{reader_is, keeps_told}
use Rattle.tc_core.proofs.Refused.{happened}
use Rattle.tc_core.proofs.parts.Parts.on_found.Goals as goal

pub returns-clause-kept : goal.returns-clause-kept
returns-clause-kept g c =
    let w = seen c.args.self.now in
    let o = c.in-Some.opened.now in
    let at = (reader_is w c.args.read o c.requires (sym c.oldest.ensures ∙ ap option_copied c.in-Some.is)).0 in
    rw (happened w o.txn o Told c.change.new.self (record { is = at; number = refl }) c.change.ensures)
    (keeps_told w o c.requires at)

pub returns-clause-gives : goal.returns-clause-gives
returns-clause-gives g c = λ value.
    let w = seen c.args.self.now in
    let o = c.in-Some.opened.now in
    let is : reader w c.args.read ≡ Some o = sym c.oldest.ensures ∙ ap option_copied c.in-Some.is in
    let at = (reader_is w c.args.read o c.requires is).0 in
    let key = sym c.reads_key.ensures ∙ c.if-not-reads_key.false in
    record {
      told = rw (is, key) refl;
      left = rw (
        happened w o.txn o Told c.change.new.self (record { is = at; number = refl }) c.change.ensures,
        is,
        key,
      ) refl;
    }
