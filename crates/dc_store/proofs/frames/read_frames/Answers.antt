use Rattle.std.proofs.Common.{◌≡◌, ℕ, ◌<◌, ◌^◌, List, length, drop, ap, arith}
use Rattle.std.proofs.lemmas.Grind.{common_steps}
use Rattle.std.proofs.lemmas.Result.{err_from_is_err_and}
use Rattle.record_key.specs.declared.refusal.Refusal.TheVariants.{BadBytes}
use Rattle.framed_log.specs.Opening.{IsNoFrame}
use Rattle.dc_store.specs.Devices.{framing}
use Rattle.dc_store.proofs.HasRead.{IsNext, read_nothing, read_more, less_left, refused_next, refused_here}
use Rattle.dc_store.proofs.frames.read_frames.Goals as goal

pub loop-reading-init : goal.loop-reading-init
loop-reading-init c = read_nothing c.args.bytes.now c.in_ok-reading.reading c.in_ok-reading.ensures

pub loop-reading-smaller : goal.loop-reading-smaller
loop-reading-smaller c =
    let old = c.loop-reading.reading in
    let there : IsNext c.args.bytes.now old c.in-Record.found c.in-Record.next =
    rw c.in-Record.is at c.in_ok-found.ensures.found in
    less_left c.args.bytes.now old c.take_in.new.self c.in-Record.found c.in-Record.next c.loop-reading.invariant there
    c.in_ok-take_in-in-Record.ensures.taken

pub loop-reading-preserved : goal.loop-reading-preserved
loop-reading-preserved c =
    let old = c.loop-reading.reading in
    let there : IsNext c.args.bytes.now old c.in-Record.found c.in-Record.next =
    rw c.in-Record.is at c.in_ok-found.ensures.found in
    read_more c.args.bytes.now old c.take_in.new.self c.in-Record.found c.in-Record.next c.loop-reading.invariant there
    c.in_ok-take_in-in-Record.ensures.taken

pub returns-in_err-take_in-in-Record-clause-refused : goal.returns-in_err-take_in-in-Record-clause-refused
returns-in_err-take_in-in-Record-clause-refused c =
    let old = c.loop-reading.reading in
    let there : IsNext c.args.bytes.now old c.in-Record.found c.in-Record.next =
    rw c.in-Record.is at c.in_ok-found.ensures.found in
    let small : length c.args.bytes.now < 2 ^ 64 = grind (arith, common_steps) in
    let p = err_from_is_err_and c.from_residual-in_err-take_in-in-Record.result
    c.from_residual-in_err-take_in-in-Record.ensures.1 in
    rw (p.1, p.2)
    (λ pages. refused_next c.args.bytes.now old c.in-Record.found c.in-Record.next _ pages small
    c.loop-reading.invariant there c.in_err-take_in-in-Record.ensures.refused)

pub returns-in-Short-clause-readable : goal.returns-in-Short-clause-readable
returns-in-Short-clause-readable c = λ pages. rw c.frames_of.ensures (c.loop-reading.invariant.right.readable pages)

pub returns-in-Bad-clause-refused : goal.returns-in-Bad-clause-refused
returns-in-Bad-clause-refused c =
    let bytes : List ℕ = c.args.bytes.now in
    let old = c.loop-reading.reading in
    let given = c.in_ok-found.ensures in
    let here : c.in-Bad.place ≡ old.end = rw c.in-Bad.is at given.bad in
    let none : IsNoFrame framing (drop old.end bytes) = record {
      uncut = λ cut. let short = given.short.1 cut in let is = c.in-Bad.is in cc;
      none = λ r stands. let taken = given.only r stands.rest stands.fits.0 stands.parts in let is = c.in-Bad.is in cc;
    } in
    λ pages. refused_here bytes old _ pages c.loop-reading.invariant (ap (λ (n : ℕ). BadBytes n) here) none
