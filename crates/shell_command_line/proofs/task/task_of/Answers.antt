use Rattle.std.proofs.Common.{rules, ◌≡◌, ◌∙◌, Bool, List, Option, Some, None, codes, option_map, sym, subst}
use Rattle.std.specs.Borrow.{Bor}
use Rattle.clap.specs.declared.parser.matches.Found.{Found}
use Rattle.clap.specs.Matches.{found_of, one_text}
use Rattle.clap.specs.Simple.{subcommand_rows_of}
use Rattle.clap.specs.Walk.{Row, Text, one_of, rows_of}
use Rattle.clap.proofs.WalkLemmas.{first_value-rows, one_text-rows}
use Rattle.shell_command_line.specs.declared.task.Task.TheVariants as task
use Rattle.shell_command_line.specs.Asked.{AsksFor, IsGivenText, IsSet, NamesStore}
use Rattle.shell_command_line.proofs.task.task_of.Goals as goal

-- the words name this subcommand, with these rows, in which the folder is named
names_store : (A : Option (Text × List Row) → Type 0) (name : Text) (store : Option (Bor Text)) (rows : List Row)
    → ((s : Text × List Row) → s.1 ≡ rows → NamesStore s name store → A (Some s)) → (s : Option (Text × List Row))
    → option_map (λ p. p.0) s ≡ Some name → option_map (λ p. p.1) s ≡ Some rows
    → IsGivenText rows (codes "store") store → A s
names_store A name store rows asks None is same named = absurd (cc is)
names_store A name store rows asks (Some s) is same named =
    let own : s.0 ≡ name = cc is in
    let its : s.1 ≡ rows = cc same in
    asks s its (own, subst (λ (r : List Row). IsGivenText r (codes "store") store) (sym its) named)

-- a flag is the same in the same rows
set_there : (flag : Text) (set : Bool) (old new : List Row) → new ≡ old → IsSet old flag set → IsSet new flag set
set_there flag set old new its is = subst (λ (r : List Row). IsSet r flag set) (sym its) is

pub returns-in-Some-subcommand_matches-3-clause-asks : goal.returns-in-Some-subcommand_matches-3-clause-asks
returns-in-Some-subcommand_matches-3-clause-asks c =
    let found : Found = found_of c.in-Some-subcommand_matches-3.asked.now in
    names_store (λ s. AsksFor s (task.Compact c.get_str.result)) (codes "compact") c.get_str.result
    (rows_of found) (λ s its named. named) (subcommand_rows_of c.args.matches.now) (search rules) (search rules)
    (c.get_str.ensures ∙ first_value-rows found (codes "store"))

pub returns-in-Some-subcommand_matches-4-clause-asks : goal.returns-in-Some-subcommand_matches-4-clause-asks
returns-in-Some-subcommand_matches-4-clause-asks c =
    let found : Found = found_of c.in-Some-subcommand_matches-4.asked.now in
    names_store (λ s. AsksFor s (task.Check c.get_str-in-Some-subcommand_matches-4.result)) (codes "check") c.get_str-in-Some-subcommand_matches-4.result
    (rows_of found) (λ s its named. named) (subcommand_rows_of c.args.matches.now) (search rules) (search rules)
    (c.get_str-in-Some-subcommand_matches-4.ensures ∙ first_value-rows found (codes "store"))

pub returns-in-Some-subcommand_matches-5-clause-asks : goal.returns-in-Some-subcommand_matches-5-clause-asks
returns-in-Some-subcommand_matches-5-clause-asks c =
    let found : Found = found_of c.in-Some-subcommand_matches-5.asked.now in
    names_store (λ s. AsksFor s (task.Dump c.get_str-in-Some-subcommand_matches-5.result)) (codes "dump") c.get_str-in-Some-subcommand_matches-5.result
    (rows_of found) (λ s its named. named) (subcommand_rows_of c.args.matches.now) (search rules) (search rules)
    (c.get_str-in-Some-subcommand_matches-5.ensures ∙ first_value-rows found (codes "store"))

pub returns-in-Some-subcommand_matches-7-clause-asks : goal.returns-in-Some-subcommand_matches-7-clause-asks
returns-in-Some-subcommand_matches-7-clause-asks c =
    let found : Found = found_of c.in-Some-subcommand_matches-7.asked.now in
    names_store (λ s. AsksFor s (task.Stat c.get_str-in-Some-subcommand_matches-7.result)) (codes "stat") c.get_str-in-Some-subcommand_matches-7.result
    (rows_of found) (λ s its named. named) (subcommand_rows_of c.args.matches.now) (search rules) (search rules)
    (c.get_str-in-Some-subcommand_matches-7.ensures ∙ first_value-rows found (codes "store"))

pub returns-in-Some-subcommand_matches-6-clause-asks : goal.returns-in-Some-subcommand_matches-6-clause-asks
returns-in-Some-subcommand_matches-6-clause-asks c =
    let found : Found = found_of c.in-Some-subcommand_matches-6.asked.now in
    let of : (flag : Text) → one_text found flag ≡ one_of flag (rows_of found) = λ flag. one_text-rows found flag in
    let create : IsSet (rows_of found) (codes "create") c.get_flag.result = record {
      given = λ e. c.get_flag.ensures.value (of (codes "create") ∙ e);
      otherwise = λ e. c.get_flag.ensures.other (of (codes "create") ∙ e);
      absent = λ e. c.get_flag.ensures.none (of (codes "create") ∙ e);
    } in
    names_store (λ s. AsksFor s (task.Load c.get_str-in-Some-subcommand_matches-6.result c.get_flag.result)) (codes "load")
    c.get_str-in-Some-subcommand_matches-6.result (rows_of found)
    (λ s its named. (named, set_there (codes "create") c.get_flag.result (rows_of found) s.1 its create))
    (subcommand_rows_of c.args.matches.now) (search rules) (search rules)
    (c.get_str-in-Some-subcommand_matches-6.ensures ∙ first_value-rows found (codes "store"))

pub returns-in-Some-subcommand_matches-8-clause-asks : goal.returns-in-Some-subcommand_matches-8-clause-asks
returns-in-Some-subcommand_matches-8-clause-asks c =
    let found : Found = found_of c.in-Some-subcommand_matches-8.asked.now in
    names_store (λ s. AsksFor s (task.Dc c.get_str-in-Some-subcommand_matches-8.result)) (codes "dc") c.get_str-in-Some-subcommand_matches-8.result
    (rows_of found) (λ s its named. named) (subcommand_rows_of c.args.matches.now) (search rules) (search rules)
    (c.get_str-in-Some-subcommand_matches-8.ensures ∙ first_value-rows found (codes "store"))

pub returns-in-Some-subcommand_matches-9-clause-asks : goal.returns-in-Some-subcommand_matches-9-clause-asks
returns-in-Some-subcommand_matches-9-clause-asks c =
    let found : Found = found_of c.in-Some-subcommand_matches-9.asked.now in
    let script : IsGivenText (rows_of found) (codes "script") c.get_str-in-Some-subcommand_matches-9-2.result =
    c.get_str-in-Some-subcommand_matches-9-2.ensures ∙ first_value-rows found (codes "script") in
    let Is : List Row → Type 0 = λ r. IsGivenText r (codes "script") c.get_str-in-Some-subcommand_matches-9-2.result in
    names_store
    (λ s. AsksFor s (task.Tc c.get_str-in-Some-subcommand_matches-9.result c.get_str-in-Some-subcommand_matches-9-2.result))
    (codes "tc") c.get_str-in-Some-subcommand_matches-9.result (rows_of found)
    (λ s its named. (named, subst Is (sym its) script)) (subcommand_rows_of c.args.matches.now) (search rules)
    (search rules) (c.get_str-in-Some-subcommand_matches-9.ensures ∙ first_value-rows found (codes "store"))

pub returns-clause-asks : goal.returns-clause-asks
returns-clause-asks c =
    let found : Found = found_of c.in-Some-subcommand_matches-10.asked.now in
    let of : (flag : Text) → one_text found flag ≡ one_of flag (rows_of found) = λ flag. one_text-rows found flag in
    let continue : IsSet (rows_of found) (codes "continue") c.get_flag-in-Some-subcommand_matches-10.result = record {
      given = λ e. c.get_flag-in-Some-subcommand_matches-10.ensures.value (of (codes "continue") ∙ e);
      otherwise = λ e. c.get_flag-in-Some-subcommand_matches-10.ensures.other (of (codes "continue") ∙ e);
      absent = λ e. c.get_flag-in-Some-subcommand_matches-10.ensures.none (of (codes "continue") ∙ e);
    } in
    let read_only : IsSet (rows_of found) (codes "read-only") c.get_flag-in-Some-subcommand_matches-10-2.result = record {
      given = λ e. c.get_flag-in-Some-subcommand_matches-10-2.ensures.value (of (codes "read-only") ∙ e);
      otherwise = λ e. c.get_flag-in-Some-subcommand_matches-10-2.ensures.other (of (codes "read-only") ∙ e);
      absent = λ e. c.get_flag-in-Some-subcommand_matches-10-2.ensures.none (of (codes "read-only") ∙ e);
    } in
    let create : IsSet (rows_of found) (codes "create") c.get_flag-in-Some-subcommand_matches-10-3.result = record {
      given = λ e. c.get_flag-in-Some-subcommand_matches-10-3.ensures.value (of (codes "create") ∙ e);
      otherwise = λ e. c.get_flag-in-Some-subcommand_matches-10-3.ensures.other (of (codes "create") ∙ e);
      absent = λ e. c.get_flag-in-Some-subcommand_matches-10-3.ensures.none (of (codes "create") ∙ e);
    } in
    let strict : IsSet (rows_of found) (codes "strict") c.get_flag-in-Some-subcommand_matches-10-4.result = record {
      given = λ e. c.get_flag-in-Some-subcommand_matches-10-4.ensures.value (of (codes "strict") ∙ e);
      otherwise = λ e. c.get_flag-in-Some-subcommand_matches-10-4.ensures.other (of (codes "strict") ∙ e);
      absent = λ e. c.get_flag-in-Some-subcommand_matches-10-4.ensures.none (of (codes "strict") ∙ e);
    } in
    let interactive : IsSet (rows_of found) (codes "interactive") c.get_flag-in-Some-subcommand_matches-10-5.result = record {
      given = λ e. c.get_flag-in-Some-subcommand_matches-10-5.ensures.value (of (codes "interactive") ∙ e);
      otherwise = λ e. c.get_flag-in-Some-subcommand_matches-10-5.ensures.other (of (codes "interactive") ∙ e);
      absent = λ e. c.get_flag-in-Some-subcommand_matches-10-5.ensures.none (of (codes "interactive") ∙ e);
    } in
    let keep_log : IsSet (rows_of found) (codes "keep-log") c.get_flag-in-Some-subcommand_matches-10-6.result = record {
      given = λ e. c.get_flag-in-Some-subcommand_matches-10-6.ensures.value (of (codes "keep-log") ∙ e);
      otherwise = λ e. c.get_flag-in-Some-subcommand_matches-10-6.ensures.other (of (codes "keep-log") ∙ e);
      absent = λ e. c.get_flag-in-Some-subcommand_matches-10-6.ensures.none (of (codes "keep-log") ∙ e);
    } in
    let there = λ (flag : Text) (set : Bool) (s : Text × List Row) (its : s.1 ≡ rows_of found). set_there flag set (rows_of found) s.1 its in
    names_store
    (λ s. AsksFor s (task.Run c.get_flag-in-Some-subcommand_matches-10.result c.get_str-in-Some-subcommand_matches-10.result c.get_flag-in-Some-subcommand_matches-10-2.result c.get_flag-in-Some-subcommand_matches-10-3.result c.get_flag-in-Some-subcommand_matches-10-4.result c.get_flag-in-Some-subcommand_matches-10-5.result c.get_flag-in-Some-subcommand_matches-10-6.result))
    (codes "run") c.get_str-in-Some-subcommand_matches-10.result (rows_of found)
    (λ s its named. (
      named,
      there (codes "continue") c.get_flag-in-Some-subcommand_matches-10.result s its continue,
      there (codes "read-only") c.get_flag-in-Some-subcommand_matches-10-2.result s its read_only,
      there (codes "create") c.get_flag-in-Some-subcommand_matches-10-3.result s its create,
      there (codes "strict") c.get_flag-in-Some-subcommand_matches-10-4.result s its strict,
      there (codes "interactive") c.get_flag-in-Some-subcommand_matches-10-5.result s its interactive,
      there (codes "keep-log") c.get_flag-in-Some-subcommand_matches-10-6.result s its keep_log,
    ))
    (subcommand_rows_of c.args.matches.now) (search rules) (search rules)
    (c.get_str-in-Some-subcommand_matches-10.ensures ∙ first_value-rows found (codes "store"))
