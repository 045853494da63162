-- The subcommand that words name which are taken, and what it was given.
use Rattle.std.proofs.Common.{zero, suc, ◌≡◌, ◌⊎◌, ℕ, Bool, true, false, not, List, [], ◌∷◌, Option, Some, None, is_some, length, refl, inl, inr, sym, subst, ◌∙◌, ◌||◌}
use Rattle.std.specs.Prelude.{⊤, fold, ◌&&◌, cond, codes, option_map}
use Rattle.std.specs.Option.{option_map_or}
use Rattle.std.specs.Str.{bytes_eq}
use Rattle.std.proofs.lemmas.Slice.Eq.{bytes_eq-Decides}
use Rattle.clap.specs.Kinds.{or_else, range_kinds}
use Rattle.clap.specs.Walk.{Held, Names, Outcome, Row, Rule, Step, Text, Waiting, Walk, action_of, after_flag, after_step, answers_to, arg_by_index, done, finished, idle, long_or_other, next, nothing_held, one_of, option, plain, plain_word, positional, refused, short_or_plain, subcommand, subcommand_met, subcommand_or_other, to_positional, trailing, value, waits, walk, walk_from, walked, walked_from, word_met}
use Rattle.clap.specs.Lexer.{long_of, short_of}
use Rattle.clap.specs.Simple.{App, Shape, argument_words, built, entered, filled, help_rule, names_of, rows_at, subcommand_of}
use Rattle.clap.specs.Faults.{check_fault, entered_fault, fault_of, level_fault, other_fault, step_fault, walk_fault, word_fault}
use Rattle.clap.specs.declared.builder.action.ArgAction.TheVariants.{Set}
use Rattle.clap.specs.declared.error.kind.ErrorKind.TheVariants as kind
use Rattle.clap.specs.declared.builder.value_parser.ValueParser.TheVariants.{Unsigned}
use Rattle.clap.proofs.ValueTestLemmas.{accepts-Accepts}
use Rattle.clap.proofs.OnLiterals.{clap_on_literals}
use Rattle.shell_command_line.proofs.Options.{HasOption, HasValue, IsKnown, IsRequest, both_none, level_has_value, level_may_have_value}
use Rattle.shell_command_line.specs.CommandLine.{at, command_line, counting, last, locks, numbering, rounds, sessions}
use Rattle.shell_command_line.specs.Asked.{MayAskFor, MayCount, NamesCount, most_number}

-- ---- a call for help is never taken

abbrev NoHelp : Option (Text × List Text) → Type 0
NoHelp None = ⊤
NoHelp (Some p) = bytes_eq p.0 (codes "help") ≡ false

abbrev StepsNoHelp : Step → Type 0
StepsNoHelp (subcommand name) = bytes_eq name (codes "help") ≡ false
StepsNoHelp _ = ⊤

-- the command answers to `help`
module _ (s : Shape) (helps : s.disable_help_subcommand ≡ false) (names : Names) where
  plain_steps : (w : Waiting) (word : Text) (h : Held) → StepsNoHelp (plain_word s.rules w word h).1
  plain_steps idle word h = tt
  plain_steps (option id) word h = tt
  plain_steps positional word h = tt

  flag_steps : (w : Waiting) (word : Text) (h : Held) (o : Outcome) → StepsNoHelp (after_flag s.rules w word h o).1
  flag_steps w word h done = tt
  flag_steps w word h (waits id) = tt
  flag_steps w word h plain = plain_steps w word h
  flag_steps w word h refused = plain_steps w word h

  short_steps : (w : Waiting) (word : Text) (o : Option Text) (h : Held)
      → StepsNoHelp (short_or_plain s.rules w word o h).1
  short_steps w word None h = plain_steps w word h
  short_steps w word (Some flags) h = flag_steps w word _ _

  long_steps : (w : Waiting) (word : Text) (o : Option (Text × Option Text)) (h : Held)
      → StepsNoHelp (long_or_other s.rules w word o h).1
  long_steps w word None h = short_steps w word (short_of word) h
  long_steps w word (Some p) h = flag_steps w word _ _

  named_step : (t u : Bool) → u ≡ false → cond (t && not u) (kind.DisplayHelp ∷ kind.InvalidSubcommand ∷ []) [] ≡ []
      → t ≡ false
  named_step false u e none = refl
  named_step true true e none = absurd (cc e)
  named_step true false e none = absurd (cc none)

  other_steps : (o : Option Text) (w : Waiting) (position : ℕ) (word : Text) (h : Held) → other_fault s o word h ≡ []
      → StepsNoHelp (subcommand_or_other s.rules o w position word h).1
  other_steps (Some name) w position word h e =
      named_step (bytes_eq name (codes "help")) s.disable_help_subcommand helps e
  other_steps None w position word h e = go (bytes_eq word (45 ∷ 45 ∷ []))
    where
      go : (t : Bool) → StepsNoHelp (cond t (h, trailing position) (long_or_other s.rules w word (long_of word) h)).1
      go true = tt
      go false = long_steps w word (long_of word) h

  word_steps : (t : Bool) (w : Waiting) (position : ℕ) (word : Text) (h : Held) → word_fault s names t w word h ≡ []
      → StepsNoHelp (word_met s.rules names t w position word h).1
  word_steps true w position word h e = tt
  word_steps false w position word h e = other_steps (subcommand_met names w word) w position word h e

  place_stops : (o : Option Rule) (word : Text) (w : Walk) (h : Held) → NoHelp w.stopped
      → NoHelp (to_positional s.rules o word w h).stopped
  place_stops None word w h before = before
  place_stops (Some a) word w h before = tt

  step_stops : (word : Text) (w : Walk) (h : Held) (step : Step) → NoHelp w.stopped → StepsNoHelp step
      → NoHelp (after_step s.rules word w h step).stopped
  step_stops word w h (next waiting) before step = before
  step_stops word w h (trailing position) before step = before
  step_stops word w h (subcommand name) before step = step
  step_stops word w h value before step = place_stops (arg_by_index s.rules w.position) word w h before

  walked_stops : (stop : Option (Text × List Text)) (w : Walk) (word : Text) → NoHelp w.stopped → NoHelp stop
      → cond (is_some stop) [] (or_else (word_fault s names w.is_trailing w.waiting word w.held)
      (step_fault s w.position (word_met s.rules names w.is_trailing w.waiting w.position word w.held).0
      (word_met s.rules names w.is_trailing w.waiting w.position word w.held).1)) ≡ []
      → NoHelp (walked_from s.rules names stop w word).stopped
  walked_stops (Some p) w word before stop e = stop
  walked_stops None w word before stop e =
      step_stops word w _ _ before (word_steps w.is_trailing w.waiting w.position word w.held (both_none _ _ e).0)

  walk_stops : (words : List Text) (w : Walk) → NoHelp w.stopped → walk_fault s names w words ≡ []
      → NoHelp (fold (walked s.rules names) w words).stopped
  unfolding clap_on_literals
  walk_stops [] w before e = before
  walk_stops (word ∷ rest) w before e =
      let parts = both_none _ _ e in
      walk_stops rest (walked s.rules names w word) (walked_stops w.stopped w word before before parts.0) parts.1

-- ---- the program

abbrev line : App
line = built command_line

abbrev shape_in : ℕ → List Shape → Shape
shape_in n [] = line.top
shape_in zero (a ∷ bs) = a
shape_in (suc n) (a ∷ bs) = shape_in n bs

-- the commands that have options of numbers, as they are built
abbrev pool_shape : Shape
pool_shape = shape_in 1 line.subs

abbrev explain_shape : Shape
explain_shape = shape_in 2 line.subs

abbrev draw_shape : Shape
draw_shape = shape_in 3 line.subs

abbrev pub sessions_rule : Rule
sessions_rule = filled sessions

abbrev pub rounds_rule : Rule
rounds_rule = filled rounds

abbrev pub locks_rule : Rule
locks_rule = filled locks

abbrev at_rule : Rule
at_rule = filled at

abbrev last_rule : Rule
last_rule = filled last

abbrev asking_rule : Rule
asking_rule = filled help_rule

itself : (a : Rule) → action_of a ≡ Set → IsKnown a a
itself a sets = record { acts = inl sets; same = λ e. refl }

another : (a b : Rule) → (action_of b ≡ Set) ⊎ IsRequest b → bytes_eq b.id a.id ≡ false → IsKnown a b
another a b acts apart = record { acts = acts; same = λ e. absurd (cc (sym apart ∙ e)) }

asks_help : IsRequest asking_rule
asks_help again values rows e =
    let asks = (both_none (range_kinds 0 0 (length values)) (kind.DisplayHelp ∷ []) e).1 in
    absurd (cc asks)

has_sessions : HasOption sessions_rule pool_shape
has_sessions = record {
  is = record { sets = refl; least = refl; default = refl };
  known = (
    itself sessions_rule refl,
    (
      another sessions_rule rounds_rule (inl refl) refl,
      (another sessions_rule locks_rule (inl refl) refl, (another sessions_rule asking_rule (inr asks_help) refl, tt)),
    ),
  );
  no_places = λ i. refl;
}

has_rounds : HasOption rounds_rule pool_shape
has_rounds = record {
  is = record { sets = refl; least = refl; default = refl };
  known = (
    another rounds_rule sessions_rule (inl refl) refl,
    (
      itself rounds_rule refl,
      (another rounds_rule locks_rule (inl refl) refl, (another rounds_rule asking_rule (inr asks_help) refl, tt)),
    ),
  );
  no_places = λ i. refl;
}

has_locks : HasOption locks_rule pool_shape
has_locks = record {
  is = record { sets = refl; least = refl; default = refl };
  known = (
    another locks_rule sessions_rule (inl refl) refl,
    (
      another locks_rule rounds_rule (inl refl) refl,
      (itself locks_rule refl, (another locks_rule asking_rule (inr asks_help) refl, tt)),
    ),
  );
  no_places = λ i. refl;
}

has_at : HasOption at_rule explain_shape
has_at = record {
  is = record { sets = refl; least = refl; default = tt };
  known = (itself at_rule refl, (another at_rule asking_rule (inr asks_help) refl, tt));
  no_places = λ i. refl;
}

has_last : HasOption last_rule draw_shape
has_last = record {
  is = record { sets = refl; least = refl; default = tt };
  known = (itself last_rule refl, (another last_rule asking_rule (inr asks_help) refl, tt));
  no_places = λ i. refl;
}

named : (most : ℕ) (name default : Text) (rows : List Row) → HasValue (filled (counting name most default)) rows
    → NamesCount rows name most
named most name default rows v = record {
  text = v.text;
  given = v.found;
  within = accepts-Accepts false (Unsigned 1 most) v.text v.passes;
}

may_name : (name : Text) (rows : List Row)
    → (one_of name rows ≡ None) ⊎ HasValue (filled (numbering name)) rows → MayCount rows name
may_name name rows (inl none) = inl none
may_name name rows (inr v) = inr (record {
  text = v.text;
  given = v.found;
  within = accepts-Accepts false (Unsigned 1 most_number) v.text v.passes;
})

enters : (has : Bool) (rows : List Row) → check_fault line.top rows has ≡ [] → has ≡ true
enters true rows e = refl
enters false rows e = absurd (cc e)

pool_taken : (words : List Text) → level_fault pool_shape [] nothing_held words false [] ≡ []
    → MayAskFor (Some (rows_at pool_shape words))
pool_taken words e =
    let first = level_has_value sessions_rule pool_shape [] words false [] has_sessions refl (inl refl) e in
    let second = level_has_value rounds_rule pool_shape [] words false [] has_rounds refl (inr (inl refl)) e in
    let third = level_has_value locks_rule pool_shape [] words false [] has_locks refl (inr (inr (inl refl))) e in
    inr (inl (
      refl,
      named 8 (codes "sessions") (codes "4") _ first,
      named 99 (codes "rounds") (codes "3") _ second,
      named 3 (codes "locks") (codes "3") _ third,
    ))

explain_taken : (words : List Text) → level_fault explain_shape [] nothing_held words false [] ≡ []
    → MayAskFor (Some (rows_at explain_shape words))
explain_taken words e =
    let given = level_may_have_value at_rule explain_shape [] words false [] has_at e in
    inr (inr (inl (refl, may_name (codes "at") _ given)))

draw_taken : (words : List Text) → level_fault draw_shape [] nothing_held words false [] ≡ []
    → MayAskFor (Some (rows_at draw_shape words))
draw_taken words e =
    let given = level_may_have_value last_rule draw_shape [] words false [] has_last e in
    inr (inr (inr (inl (refl, may_name (codes "last") _ given))))

is_help : (name : Text) (more : Bool) → more ≡ false → (bytes_eq (codes "help") name || more) ≡ true
    → bytes_eq name (codes "help") ≡ false → ⊥
is_help name true none e apart = absurd (cc none)
is_help name false none e apart = go (bytes_eq (codes "help") name) refl e
  where
    go : (t : Bool) → bytes_eq (codes "help") name ≡ t → (t || false) ≡ true → ⊥
    go false is e = absurd (cc e)
    go true is e =
        let same : codes "help" ≡ name = (bytes_eq-Decides (codes "help") name).0 is in
        let P : Text → Type 0 = λ v. bytes_eq v (codes "help") ≡ false in
        absurd (cc (subst P (sym same) apart))

abbrev chosen : Bool → Bool → Bool → Bool → Bool → Bool → Bool → Bool → Bool → Bool → Bool → Bool → Option Shape
chosen r q x d c k o l t u v h = cond r (Some (shape_in 0 line.subs)) (cond q (Some pool_shape)
    (cond x (Some explain_shape) (cond d (Some draw_shape)
    (cond c (Some (shape_in 4 line.subs)) (cond k (Some (shape_in 5 line.subs))
    (cond o (Some (shape_in 6 line.subs)) (cond l (Some (shape_in 7 line.subs))
    (cond t (Some (shape_in 8 line.subs)) (cond u (Some (shape_in 9 line.subs))
    (cond v (Some (shape_in 10 line.subs)) (cond h (Some (shape_in 11 line.subs)) None)))))))))))

stop_taken : (stop : Option (Text × List Text)) → NoHelp stop → entered_fault line stop ≡ []
    → is_some (entered line stop) ≡ true → MayAskFor (entered line stop)
stop_taken None apart e some = absurd (cc some)
stop_taken (Some p) apart e some =
    go (answers_to p.0 (codes "run", [])) (answers_to p.0 (codes "pool", [])) (answers_to p.0 (codes "explain", []))
    (answers_to p.0 (codes "draw", [])) (answers_to p.0 (codes "compact", [])) (answers_to p.0 (codes "check", []))
    (answers_to p.0 (codes "dump", [])) (answers_to p.0 (codes "load", [])) (answers_to p.0 (codes "stat", []))
    (answers_to p.0 (codes "dc", [])) (answers_to p.0 (codes "tc", [])) (answers_to p.0 (codes "help", [])) refl e some
  where
    go : (r q x d c k o l t u v h : Bool) → answers_to p.0 (codes "help", []) ≡ h
        → option_map_or (λ s. level_fault s [] nothing_held p.1 false []) (chosen r q x d c k o l t u v h) [] ≡ []
        → is_some (option_map (λ s. rows_at s p.1) (chosen r q x d c k o l t u v h)) ≡ true
        → MayAskFor (option_map (λ s. rows_at s p.1) (chosen r q x d c k o l t u v h))
    go true q x d c k o l t u v h asks e some = inl refl
    go false true x d c k o l t u v h asks e some = pool_taken p.1 e
    go false false true d c k o l t u v h asks e some = explain_taken p.1 e
    go false false false true c k o l t u v h asks e some = draw_taken p.1 e
    go false false false false true k o l t u v h asks e some = inr (inr (inr (inr (inl refl))))
    go false false false false false true o l t u v h asks e some = inr (inr (inr (inr (inr (inl refl)))))
    go false false false false false false true l t u v h asks e some = inr (inr (inr (inr (inr (inr (inl refl))))))
    go false false false false false false false true t u v h asks e some =
        inr (inr (inr (inr (inr (inr (inr (inl refl)))))))
    go false false false false false false false false true u v h asks e some =
        inr (inr (inr (inr (inr (inr (inr (inr (inl refl))))))))
    go false false false false false false false false false true v h asks e some =
        inr (inr (inr (inr (inr (inr (inr (inr (inr (inl refl)))))))))
    go false false false false false false false false false false true h asks e some =
        inr (inr (inr (inr (inr (inr (inr (inr (inr (inr refl)))))))))
    go false false false false false false false false false false false true asks e some =
        absurd (is_help p.0 false refl asks apart)
    go false false false false false false false false false false false false asks e some = absurd (cc some)

-- words without a fault name a subcommand that is taken
pub words_taken : (words : List Text) → fault_of command_line words ≡ [] → MayAskFor (subcommand_of command_line words)
words_taken words none =
    let given = argument_words line words in
    let end = walk line.top.rules (names_of line) nothing_held given in
    let parts = both_none _ _ none in
    let after = both_none _ _ parts.1 in
    let check = (both_none _ _ (both_none _ _ after.1).1).1 in
    let apart = walk_stops line.top refl (names_of line) given (walk_from nothing_held) tt parts.0 in
    stop_taken end.stopped apart after.0 (enters _ (finished line.top.rules end.held) check)
