use Rattle.std.proofs.Common.{◌<◌, ◌∙◌, length, arith}
use Rattle.dc_store.proofs.Keeps.{keeps_accepted, keeps_forced}
use Rattle.dc_store.proofs.KeepsLeaves.{keeps_taken_back}
use Rattle.dc_store.proofs.system.SystemTxns.accept.Goals as goal

pub invariant_of-self-2 : goal.invariant_of-self-2
invariant_of-self-2 g c =
    let room : length c.self.inside.log.log < 281474976710655 =
    omega (arith, c.if-len-ge-LAST_NUMBER.false, c.len.ensures.count) in
    let back = c.replace_all.ensures ∙ c.in_ok-replacements.ensures.taken in
    rw (c.in_ok-force.ensures.forced, c.in_ok-append.ensures.appended, back)
    (keeps_taken_back _ c.args.end
    (keeps_forced _ (keeps_accepted _ c.args.session c.self.invariant room c.in_ok-append.ensures.spelled))
    (rw back at c.kept.ensures))
