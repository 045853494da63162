use Rattle.std.proofs.Common.{◌≡◌, ◌∙◌, ◌≤◌, ℕ, inl, inr, sym, subst}
use Rattle.clap.specs.Matches.{found_of, one_text}
use Rattle.clap.specs.Walk.{one_of, rows_of}
use Rattle.clap.proofs.WalkLemmas.{one_text-rows}
use Rattle.shell_command_line.specs.Asked.{most_number}
use Rattle.shell_command_line.proofs.task.number_if.Goals as goal

pub returns-in-Some : goal.returns-in-Some
returns-in-Some c =
    let found = found_of c.args.asked.now in
    let option = c.args.option.now in
    let same : one_text found option ≡ one_of option (rows_of found) = one_text-rows found option in
    elim c.requires [
      | inl none ↦ absurd (cc (c.in-Some.ensures.none (same ∙ none)))
      | inr named ↦
          let read = c.in-Some.ensures.value named.text (same ∙ named.given) in
          let above : ℕ → Type 0 = λ v. 1 ≤ v in
          let below : ℕ → Type 0 = λ v. v ≤ most_number in (
            record { text = named.text; given = named.given; number = read.0.1 },
            subst above (sym read.0.1) named.within.2,
            subst below (sym read.0.1) named.within.3,
          )
    ]

pub returns-in-None : goal.returns-in-None
returns-in-None c =
    let found = found_of c.args.asked.now in
    let option = c.args.option.now in
    let same : one_text found option ≡ one_of option (rows_of found) = one_text-rows found option in
    elim c.requires [
      | inl none ↦ none
      | inr named ↦
          let read = c.in-None.ensures.value named.text (same ∙ named.given) in
          absurd (read.1.0 (named.within.0, named.within.1))
    ]
