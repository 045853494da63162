use Rattle.std.proofs.Common.{◌≡◌, ◌∙◌, ◌<◌, true, sym, arith, length}
use Rattle.std.proofs.lemmas.Grind.{common_steps}
use Rattle.dc_store.specs.Known.{may_follow}
use Rattle.dc_store.specs.declared.reading.Reading.{Reading}
use Rattle.dc_store.specs.Reading.{log_so_far}
use Rattle.dc_store.proofs.HasRead.{reading_more}
use Rattle.dc_store.proofs.reading.Reading.take_in.Goals as goal

pub returns-clause-taken : goal.returns-clause-taken
returns-clause-taken c =
    let old : Reading = c.args.self.now in
    let new : Reading = record {
      records = c.push.new.self;
      places = c.push-2.new.self;
      «end» = c.args.next;
      known = c.follow.new.self;
    } in
    let may : may_follow (log_so_far old) c.args.found ≡ true =
    sym (c.lets.ensures (log_so_far old) c.requires.right.known) ∙ c.if-not-lets.false in
    let room : length (log_so_far old) < 281474976710655 = grind (arith, common_steps) in
    reading_more old new c.args.found c.requires.right c.requires.fits may room c.in_ok-push.ensures.items
    c.in_ok-push-2.ensures.items c.requires.next
    (c.in_ok-follow.ensures (log_so_far old) c.requires.right.known)
