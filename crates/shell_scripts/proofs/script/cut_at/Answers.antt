use Rattle.std.proofs.Common.{◌==◌, ◌∷◌, take, ap, sym, ◌∙◌}
use Rattle.std.specs.List.{slice_split}
use Rattle.shell_scripts.proofs.Grammar.{not_cut, cut_there}
use Rattle.shell_scripts.proofs.script.cut_at.Goals as goal

pub returns-in-Some-clause-parts : goal.returns-in-Some-clause-parts
returns-in-Some-clause-parts c =
    cut_there (λ b. b == c.args.at) c.args.bytes.now c.in-Some.place (sym c.in-Some.ensures.place)
    ∙ ap (λ v. take c.in-Some.place c.args.bytes.now ∷ slice_split (λ b. b == c.args.at) v)
    (sym c.split_at.ensures.back)

pub returns-in-None-clause-parts : goal.returns-in-None-clause-parts
returns-in-None-clause-parts c = not_cut (λ b. b == c.args.at) c.args.bytes.now (sym c.in-None.ensures.place)
