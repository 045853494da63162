use Rattle.std.proofs.Common.{◌≡◌, ◌∙◌, Some}
use Rattle.clap.specs.Matches.{found_of, one_text}
use Rattle.clap.proofs.WalkLemmas.{one_text-rows}
use Rattle.shell_command_line.proofs.task.number_of.Goals as goal

pub unreachable-requires : goal.unreachable-requires
unreachable-requires c =
    let named = c.requires.1 in
    let text : one_text (found_of c.args.asked.now) c.args.option.now ≡ Some named.text =
    one_text-rows (found_of c.args.asked.now) c.args.option.now ∙ named.given in
    let read = rw c.in-None.is at c.get_one.ensures.value named.text text in
    read.1.0 (named.within.0, named.within.1)

pub returns : goal.returns
returns c =
    let named = c.requires.1 in
    let text : one_text (found_of c.args.asked.now) c.args.option.now ≡ Some named.text =
    one_text-rows (found_of c.args.asked.now) c.args.option.now ∙ named.given in
    let read = rw c.in-Some.is at c.get_one.ensures.value named.text text in
    record { text = named.text; given = named.given; number = read.0.1 }
