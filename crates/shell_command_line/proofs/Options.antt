-- Where the words are taken an option has a value that passed its parser, or none if it has no default.
use Rattle.std.proofs.Common.{zero, suc, ◌≡◌, ◌⊎◌, ℕ, Bool, true, false, List, [], ◌∷◌, ◌++◌, Option, Some, None, is_some, length, ap, sym, subst, refl, inl, inr}
use Rattle.std.proofs.lemmas.Bool.{or_right}
use Rattle.std.specs.Prelude.{⊤, find, fold, ◌||◌, cond, drop, option_and_then, option_map, slice_get, encode_utf8}
use Rattle.std.specs.List.{AllByRecursion}
use Rattle.std.specs.Option.{option_map_or}
use Rattle.std.specs.Str.{bytes_eq, chars}
use Rattle.std.proofs.lemmas.Slice.Eq.{bytes_eq-Decides}
use Rattle.clap.specs.Facts.{parser_of_value, unwrap_or_range}
use Rattle.clap.specs.Lexer.{long_of, short_of}
use Rattle.clap.specs.Values.{read_as, refused_kind}
use Rattle.clap.specs.Kinds.{Kinds, or_else, range_kinds}
use Rattle.clap.specs.Takes.{value_passes}
use Rattle.clap.specs.Walk.{Held, Names, Outcome, Row, Rule, Step, Text, Waiting, Walk, action_of, after_flag, after_step, arg_by_id, arg_by_index, arg_by_long, arg_by_short, at_row, attached_value, bundle_met, bundle_step, default_rows, done, flag_met, has_row, idle, long_met, long_or_other, more_values, most_values, next, nothing_held, one_of, option, option_met, option_word, plain, plain_word, positional, reacted, reading_by, refused, row_text, rows_after, settled, settled_rows, short_met, short_or_plain, subcommand, subcommand_met, subcommand_or_other, takes_values, to_positional, trailing, used, used_by_id, value, values_or_missing, waits, walk, walk_from, walked, walked_from, with_default, with_values, without, word_met}
use Rattle.clap.specs.Simple.{Shape}
use Rattle.clap.specs.Faults.{bundle_step_fault, flag_word_fault, flags_fault, level_fault, long_fault, option_fault, other_fault, react_fault, set_fault, settle_fault, short_fault, step_fault, use_fault, walk_fault, word_fault}
use Rattle.clap.specs.declared.builder.action.ArgAction.TheVariants.{Set}
use Rattle.clap.specs.declared.builder.value_parser.Reading.{Reading}
use Rattle.clap.specs.declared.error.kind.ErrorKind.TheVariants as kind
use Rattle.clap.specs.declared.parser.matches.ValueSource.{ValueSource}
use Rattle.clap.specs.declared.parser.matches.ValueSource.TheVariants.{DefaultValue, CommandLine}
use Rattle.clap.proofs.OnLiterals.{clap_on_literals}

-- ---- the rules of a command that has the option

-- the first value passes the option's parser
abbrev pub FirstPasses : Rule → List Text → Type 0
FirstPasses a [] = ⊥
FirstPasses a (v ∷ vs) = value_passes a v ≡ true

-- a default passes, where there is one
abbrev pub DefaultPasses : Rule → List Text → Type 0
DefaultPasses a [] = ⊤
DefaultPasses a (v ∷ vs) = value_passes a v ≡ true

-- each use takes a value
pub record IsOption (a : Rule) : Type 0 where
  pub sets : action_of a ≡ Set
  pub least : (unwrap_or_range a.range).start_inclusive ≡ 1
  pub default : DefaultPasses a a.defaults

-- no use of it is taken
abbrev pub IsRequest : Rule → Type 0
IsRequest b = (again : Bool) (values : List Text) (rows : List Row) → use_fault again b values rows ≡ [] → ⊥

-- a rule of the command: the option's own, or another's
pub record IsKnown (a b : Rule) : Type 0 where
  pub acts : (action_of b ≡ Set) ⊎ IsRequest b
  pub same : bytes_eq b.id a.id ≡ true → b ≡ a

abbrev KnownIf : Rule → Option Rule → Type 0
KnownIf a None = ⊤
KnownIf a (Some b) = IsKnown a b

found_known : (a : Rule) (p : Rule → Bool) (c : List Rule) → AllByRecursion (IsKnown a) c → KnownIf a (find p c)
found_known a p [] known = tt
found_known a p (x ∷ xs) known = go (p x) (found_known a p xs known.1)
  where
    go : (t : Bool) → KnownIf a (find p xs) → KnownIf a (cond t (Some x) (find p xs))
    go true later = known.0
    go false later = later

pub both_none : (xs ys : Kinds) → or_else xs ys ≡ [] → (xs ≡ []) × (ys ≡ [])
both_none [] ys e = (refl, e)
both_none (x ∷ xs) ys e = absurd (cc e)

-- ---- rows

-- a row of the option has a first value that passes, and is read as the option says
abbrev RowFits : Rule → Row → Type 0
RowFits a r = bytes_eq r.id a.id ≡ true → FirstPasses a r.values × (r.reading ≡ reading_by a)

abbrev Fits : Rule → List Row → Type 0
Fits a rows = AllByRecursion (RowFits a) rows

fits_both : (a : Rule) (xs ys : List Row) → Fits a xs → Fits a ys → Fits a (xs ++ ys)
fits_both a [] ys f g = g
fits_both a (x ∷ xs) ys f g = (f.0, fits_both a xs ys f.1 g)

first_stays : (a : Rule) (xs ys : List Text) → FirstPasses a xs → FirstPasses a (xs ++ ys)
first_stays a [] ys f = absurd f
first_stays a (x ∷ xs) ys f = f

at_row_fits : (a : Rule) (id : Text) (change : Row → List Row) (missing rows : List Row) → Fits a missing
    → ((r : Row) → RowFits a r → Fits a (change r)) → Fits a rows → Fits a (at_row id change missing rows)
at_row_fits a id change missing [] m keeps f = m
at_row_fits a id change missing (r ∷ rs) m keeps f =
    go (bytes_eq r.id id) (at_row_fits a id change missing rs m keeps f.1)
  where
    go : (t : Bool) → Fits a (at_row id change missing rs)
        → Fits a (cond t (change r ++ rs) (r ∷ at_row id change missing rs))
    go true later = fits_both a (change r) rs (keeps r f.0) f.1
    go false later = (f.0, later)

with_values_fits : (a : Rule) (id : Text) (how : Reading) (s : ValueSource) (values : List Text) (rows : List Row)
    → (bytes_eq id a.id ≡ true → FirstPasses a values × (how ≡ reading_by a)) → Fits a rows
    → Fits a (with_values id how s values rows)
with_values_fits a id how s values rows new f =
    at_row_fits a id (more_values s values) _ rows (new, tt)
    (λ r g. ((λ e. (first_stays a r.values values (g e).0, (g e).1)), tt)) f

without_fits : (a : Rule) (id : Text) (rows : List Row) → Fits a rows → Fits a (without id rows)
without_fits a id rows f = at_row_fits a id (λ _. []) [] rows tt (λ r g. tt) f

-- ---- one use

passes_by : (a : Rule) (v : Text) (t : Bool) → cond t [] (refused_kind (parser_of_value a.parser) ∷ []) ≡ [] → t ≡ true
passes_by a v true e = refl
passes_by a v false e = absurd (cc e)

first_by : (a : Rule) (n : ℕ) (values : List Text) (rows : List Row) (again : Bool) → n ≡ 1
    → range_kinds n (most_values a) (length values) ≡ [] → set_fault again a (values_or_missing a values) rows ≡ []
    → FirstPasses a (values_or_missing a values)
first_by a n [] rows again one range set =
    let bad : range_kinds 1 (most_values a) 0 ≡ [] = subst (λ k. range_kinds k (most_values a) 0 ≡ []) one range in
    absurd (cc bad)
first_by a n (v ∷ vs) rows again one range set =
    let values = (both_none _ _ set).1 in
    passes_by a v _ (both_none _ _ values).0

first_passes : (a : Rule) (values : List Text) (rows : List Row) (again : Bool) → IsOption a
    → use_fault again a values rows ≡ [] → FirstPasses a (values_or_missing a values)
first_passes a values rows again is e =
    let parts = both_none _ _ e in
    let set : set_fault again a (values_or_missing a values) rows ≡ [] = rw is.sets at parts.1 in
    first_by a _ values rows again is.least parts.0 set

used_fits : (a b : Rule) (again : Bool) (values : List Text) (rows : List Row) → IsOption a → IsKnown a b → Fits a rows
    → use_fault again b values rows ≡ [] → Fits a (used b values rows)
used_fits a b again values rows is known f e = elim known.acts [
  | inl sets ↦
      let new : bytes_eq b.id a.id ≡ true
      → FirstPasses a (values_or_missing b values) × (reading_by b ≡ reading_by a) = λ h.
      let P : Rule → Type 0 = λ x. FirstPasses a (values_or_missing x values) in
      let Q : Rule → Type 0 = λ x. use_fault again x values rows ≡ [] in (
        subst P (sym (known.same h)) (first_passes a values rows again is (subst Q (known.same h) e)),
        ap reading_by (known.same h),
      ) in
      rw sets (with_values_fits a b.id (reading_by b) CommandLine (values_or_missing b values) _ new
      (without_fits a b.id rows f))
  | inr never ↦ absurd (never again values rows e)
]

-- ---- the walk

module _ (a : Rule) (is : IsOption a) (c : List Rule) (known : AllByRecursion (IsKnown a) c) (again : Bool) where
  by_rule_fits : (o : Option Rule) (values : List Text) (rows : List Row) → KnownIf a o → Fits a rows
      → option_map_or (λ b. use_fault again b values rows) o [] ≡ [] → Fits a (used_by_id o values rows)
  by_rule_fits None values rows k f e = f
  by_rule_fits (Some b) values rows k f e = used_fits a b again values rows is k f e

  settled_rows_fit : (p : Option (Text × List Text)) (rows : List Row) → Fits a rows
      → option_map_or (λ p. option_map_or (λ b. use_fault again b p.1 rows) (arg_by_id c p.0) []) p [] ≡ []
      → Fits a (settled_rows c p rows)
  settled_rows_fit None rows f e = f
  settled_rows_fit (Some p) rows f e =
      by_rule_fits (arg_by_id c p.0) p.1 rows (found_known a (λ b. bytes_eq b.id p.0) c known) f e

  settled_fits : (h : Held) → Fits a h.rows → settle_fault c again h ≡ [] → Fits a (settled c h).rows
  settled_fits h f e = settled_rows_fit h.pending h.rows f e

  reacted_fits : (b : Rule) (values : List Text) (h : Held) → IsKnown a b → Fits a h.rows
      → react_fault c again b values h ≡ [] → Fits a (reacted c b values h).rows
  reacted_fits b values h k f e =
      let parts = both_none _ _ e in
      used_fits a b again values (settled c h).rows is k (settled_fits h f parts.0) parts.1

  option_met_fits : (b : Rule) (v : Option Text) (h : Held) → IsKnown a b → Fits a h.rows
      → option_fault c again b v h ≡ [] → Fits a (option_met c b v h).0.rows
  option_met_fits b (Some v) h k f e = reacted_fits b (v ∷ []) h k f e
  option_met_fits b None h k f e = settled_fits h f e

  flag_met_fits : (b : Rule) (v : Option Text) (h : Held) → IsKnown a b → Fits a h.rows
      → cond (is_some v) (kind.TooManyValues ∷ []) (react_fault c again b [] h) ≡ [] → Fits a (flag_met c b v h).0.rows
  flag_met_fits b (Some v) h k f e = f
  flag_met_fits b None h k f e = reacted_fits b [] h k f e

  long_met_fits : (o : Option Rule) (v : Option Text) (h : Held) → KnownIf a o → Fits a h.rows
      → long_fault c again o v h ≡ [] → Fits a (long_met c o v h).0.rows
  long_met_fits None v h k f e = f
  long_met_fits (Some b) v h k f e = go (takes_values b) e
    where
      go : (t : Bool)
          → cond t (option_fault c again b v h)
          (cond (is_some v) (kind.TooManyValues ∷ []) (react_fault c again b [] h)) ≡ []
          → Fits a (cond t (option_met c b v h) (flag_met c b v h)).0.rows
      go true e = option_met_fits b v h k f e
      go false e = flag_met_fits b v h k f e

  short_met_fits : (o : Option Rule) (rest : Text) (h : Held) (more : Held → Held × Outcome) (after : Held → Kinds)
      → ((h : Held) → Fits a h.rows → after h ≡ [] → Fits a (more h).0.rows) → KnownIf a o → Fits a h.rows
      → short_fault c again o rest h after ≡ [] → Fits a (short_met c o rest h more).0.rows
  short_met_fits None rest h more after later k f e = f
  short_met_fits (Some b) rest h more after later k f e = go (takes_values b) e
    where
      go : (t : Bool)
          → cond t (option_fault c again b (attached_value rest) h)
          (or_else (react_fault c again b [] h) (after (reacted c b [] h))) ≡ []
          → Fits a (cond t (option_met c b (attached_value rest) h) (more (reacted c b [] h))).0.rows
      go true e = option_met_fits b (attached_value rest) h k f e
      go false e =
          let parts = both_none _ _ e in
          later (reacted c b [] h) (reacted_fits b [] h k f parts.0) parts.1

  flag_fits : (x : Option ℕ) (flags : Text) (skip : ℕ) (so_far : Outcome) (h : Held)
      (more : Text → ℕ → Outcome → Held → Held × Outcome) (after : Text → ℕ → Held → Kinds)
      → ((flags : Text) (skip : ℕ) (so_far : Outcome) (h : Held) → Fits a h.rows → after flags skip h ≡ []
      → Fits a (more flags skip so_far h).0.rows)
      → Fits a h.rows → bundle_step_fault c again x flags skip h after ≡ []
      → Fits a (bundle_step c x flags skip so_far h more).0.rows
  flag_fits None flags skip so_far h more after later f e = f
  flag_fits (Some x) flags zero so_far h more after later f e =
      let rest = drop (length (encode_utf8 x)) flags in
      short_met_fits (arg_by_short c x) rest h (more rest 0 done) (after rest 0) (later rest 0 done)
      (found_known a _ c known) f e
  flag_fits (Some x) flags (suc skip) so_far h more after later f e =
      later (drop (length (encode_utf8 x)) flags) skip so_far h f e

  bundle_fits : (k : ℕ) (flags : Text) (skip : ℕ) (so_far : Outcome) (h : Held) → Fits a h.rows
      → flags_fault c again k flags skip h ≡ [] → Fits a (bundle_met c k flags skip so_far h).0.rows
  unfolding clap_on_literals
  bundle_fits zero flags skip so_far h f e = f
  bundle_fits (suc k) flags skip so_far h f e =
      flag_fits (slice_get (chars flags) 0) flags skip so_far h (bundle_met c k) (flags_fault c again k) (bundle_fits k)
      f e

  option_word_fits : (o : Option Rule) (id word : Text) (h : Held) → Fits a h.rows
      → Fits a (option_word o id word h).0.rows
  option_word_fits None id word h f = f
  option_word_fits (Some b) id word h f = f

  plain_word_fits : (w : Waiting) (word : Text) (h : Held) → Fits a h.rows → Fits a (plain_word c w word h).0.rows
  plain_word_fits idle word h f = f
  plain_word_fits (option id) word h f = option_word_fits (arg_by_id c id) id word h f
  plain_word_fits positional word h f = f

  after_flag_fits : (w : Waiting) (word : Text) (h : Held) (o : Outcome) → Fits a h.rows
      → Fits a (after_flag c w word h o).0.rows
  after_flag_fits w word h done f = f
  after_flag_fits w word h (waits id) f = f
  after_flag_fits w word h plain f = plain_word_fits w word h f
  after_flag_fits w word h refused f = plain_word_fits w word h f

  short_or_plain_fits : (w : Waiting) (word : Text) (o : Option Text) (h : Held) → Fits a h.rows
      → option_map_or (λ flags. flags_fault c again (length flags) flags h.skip (record h { skip = 0 })) o [] ≡ []
      → Fits a (short_or_plain c w word o h).0.rows
  short_or_plain_fits w word None h f e = plain_word_fits w word h f
  short_or_plain_fits w word (Some flags) h f e =
      after_flag_fits w word _ _ (bundle_fits (length flags) flags h.skip plain (record h { skip = 0 }) f e)

  flag_word_fits : (w : Waiting) (word : Text) (o : Option (Text × Option Text)) (h : Held) → Fits a h.rows
      → flag_word_fault c again o word h ≡ [] → Fits a (long_or_other c w word o h).0.rows
  flag_word_fits w word (Some p) h f e =
      after_flag_fits w word _ _ (long_met_fits (arg_by_long c p.0) p.1 h (found_known a _ c known) f e)
  flag_word_fits w word None h f e = short_or_plain_fits w word (short_of word) h f e

  -- ---- a word, and all of them

  to_positional_fits : (o : Option Rule) (word : Text) (w : Walk) (h : Held) → o ≡ None → Fits a h.rows
      → Fits a (to_positional c o word w h).held.rows
  to_positional_fits None word w h none f = f
  to_positional_fits (Some b) word w h none f = absurd (cc none)

  after_step_fits : ((i : ℕ) → arg_by_index c i ≡ None) → (word : Text) (w : Walk) (h : Held) (step : Step)
      → Fits a h.rows → Fits a (after_step c word w h step).held.rows
  after_step_fits no_places word w h (next waiting) f = f
  after_step_fits no_places word w h (trailing position) f = f
  after_step_fits no_places word w h (subcommand name) f = f
  after_step_fits no_places word w h value f =
      to_positional_fits (arg_by_index c w.position) word w h (no_places w.position) f

-- the rules of a command with the option, where no word stands for itself
pub record HasOption (a : Rule) (s : Shape) : Type 0 where
  pub is : IsOption a
  pub known : AllByRecursion (IsKnown a) s.rules
  pub no_places : (i : ℕ) → arg_by_index s.rules i ≡ None

module _ (a : Rule) (s : Shape) (has : HasOption a s) (names : Names) where
  other_fits : (o : Option Text) (waiting : Waiting) (position : ℕ) (word : Text) (h : Held) → Fits a h.rows
      → other_fault s o word h ≡ [] → Fits a (subcommand_or_other s.rules o waiting position word h).0.rows
  other_fits (Some name) waiting position word h f e = f
  other_fits None waiting position word h f e = go (bytes_eq word (45 ∷ 45 ∷ [])) e
    where
      go : (t : Bool) → cond t [] (flag_word_fault s.rules s.args_override_self (long_of word) word h) ≡ []
          → Fits a (cond t (h, trailing position) (long_or_other s.rules waiting word (long_of word) h)).0.rows
      go true e = f
      go false e = flag_word_fits a has.is s.rules has.known s.args_override_self waiting word (long_of word) h f e

  word_fits : (t : Bool) (waiting : Waiting) (position : ℕ) (word : Text) (h : Held) → Fits a h.rows
      → word_fault s names t waiting word h ≡ [] → Fits a (word_met s.rules names t waiting position word h).0.rows
  word_fits true waiting position word h f e = f
  word_fits false waiting position word h f e =
      other_fits (subcommand_met names waiting word) waiting position word h f e

  walked_from_fits : (stop : Option (Text × List Text)) (w : Walk) (word : Text) → Fits a w.held.rows
      → cond (is_some stop) [] (or_else (word_fault s names w.is_trailing w.waiting word w.held)
      (step_fault s w.position (word_met s.rules names w.is_trailing w.waiting w.position word w.held).0
      (word_met s.rules names w.is_trailing w.waiting w.position word w.held).1)) ≡ []
      → Fits a (walked_from s.rules names stop w word).held.rows
  walked_from_fits (Some p) w word f e = f
  walked_from_fits None w word f e =
      after_step_fits a has.is s.rules has.known s.args_override_self has.no_places word w _ _
      (word_fits w.is_trailing w.waiting w.position word w.held f (both_none _ _ e).0)

  walk_fits : (words : List Text) (w : Walk) → Fits a w.held.rows → walk_fault s names w words ≡ []
      → Fits a (fold (walked s.rules names) w words).held.rows
  unfolding clap_on_literals
  walk_fits [] w f e = f
  walk_fits (word ∷ rest) w f e =
      let parts = both_none _ _ e in
      walk_fits rest (walked s.rules names w word) (walked_from_fits w.stopped w word f parts.0) parts.1

-- ---- defaults

default_rows_fit : (a : Rule) (id : Text) (how : Reading) (values : List Text) (rows : List Row)
    → (bytes_eq id a.id ≡ true → DefaultPasses a values × (how ≡ reading_by a)) → Fits a rows
    → Fits a (default_rows id how values rows)
default_rows_fit a id how [] rows new f = f
default_rows_fit a id how (v ∷ vs) rows new f = with_values_fits a id how DefaultValue (v ∷ vs) rows new f

default_fits : (a b : Rule) (rows : List Row) → IsOption a → IsKnown a b → Fits a rows → Fits a (with_default rows b)
default_fits a b rows is known f = go (has_row b.id rows)
  where
    go : (t : Bool) → Fits a (cond t rows (default_rows b.id (reading_by b) b.defaults rows))
    go true = f
    go false =
        let P : Rule → Type 0 = λ x. DefaultPasses a x.defaults in
        default_rows_fit a b.id (reading_by b) b.defaults rows
        (λ h. (subst P (sym (known.same h)) is.default, ap reading_by (known.same h))) f

defaults_fit : (a : Rule) (d : List Rule) (rows : List Row) → IsOption a → AllByRecursion (IsKnown a) d → Fits a rows
    → Fits a (fold with_default rows d)
defaults_fit a [] rows is known f = f
defaults_fit a (b ∷ d) rows is known f =
    defaults_fit a d (with_default rows b) is known.1 (default_fits a b rows is known.0 f)

-- ---- the option has a row

or_keeps : (x y z : Bool) → (x || y) ≡ true → (y ≡ true → z ≡ true) → (x || z) ≡ true
or_keeps true y z e keeps = refl
or_keeps false y z e keeps = keeps e

same_text : (id : Text) → bytes_eq id id ≡ true
same_text id = (bytes_eq-Decides id id).1 refl

row_stays : (id j : Text) (s : ValueSource) (values : List Text) (missing rows : List Row) → has_row id rows ≡ true
    → has_row id (at_row j (more_values s values) missing rows) ≡ true
row_stays id j s values missing [] h = absurd (cc h)
row_stays id j s values missing (r ∷ rs) h = go (bytes_eq r.id j) (row_stays id j s values missing rs)
  where
    go : (t : Bool) → (has_row id rs ≡ true → has_row id (at_row j (more_values s values) missing rs) ≡ true)
        → has_row id (cond t (more_values s values r ++ rs) (r ∷ at_row j (more_values s values) missing rs)) ≡ true
    go true later = h
    go false later = or_keeps (bytes_eq r.id id) (has_row id rs) _ h later

default_keeps : (id : Text) (b : Rule) (rows : List Row) → has_row id rows ≡ true
    → has_row id (with_default rows b) ≡ true
default_keeps id b rows h = go (has_row b.id rows) b.defaults
  where
    go : (t : Bool) (values : List Text)
        → has_row id (cond t rows (default_rows b.id (reading_by b) values rows)) ≡ true
    go true values = h
    go false [] = h
    go false (v ∷ vs) = row_stays id b.id DefaultValue (v ∷ vs) _ rows h

row_comes : (id : Text) (s : ValueSource) (values : List Text) (r : Row) (rows : List Row) → bytes_eq r.id id ≡ true
    → has_row id (at_row id (more_values s values) (r ∷ []) rows) ≡ true
row_comes id s values r [] same = rw same refl
row_comes id s values r (x ∷ xs) same = go (bytes_eq x.id id) refl (row_comes id s values r xs same)
  where
    go : (t : Bool) → bytes_eq x.id id ≡ t → has_row id (at_row id (more_values s values) (r ∷ []) xs) ≡ true
        → has_row id (cond t (more_values s values x ++ xs) (x ∷ at_row id (more_values s values) (r ∷ []) xs)) ≡ true
    go true here later = rw here refl
    go false here later = or_right (bytes_eq x.id id) _ later

default_comes : (a : Rule) (rows : List Row) → FirstPasses a a.defaults → has_row a.id (with_default rows a) ≡ true
default_comes a rows default = go (has_row a.id rows) refl a.defaults default
  where
    go : (t : Bool) → has_row a.id rows ≡ t → (values : List Text) → FirstPasses a values
        → has_row a.id (cond t rows (default_rows a.id (reading_by a) values rows)) ≡ true
    go true here values first = here
    go false here [] first = absurd first
    go false here (v ∷ vs) first = row_comes a.id DefaultValue (v ∷ vs) _ rows (same_text a.id)

-- the rule is one of these
abbrev pub IsAmongRules : Rule → List Rule → Type 0
IsAmongRules a [] = ⊥
IsAmongRules a (b ∷ d) = (b ≡ a) ⊎ IsAmongRules a d

defaults_keep : (id : Text) (d : List Rule) (rows : List Row) → has_row id rows ≡ true
    → has_row id (fold with_default rows d) ≡ true
defaults_keep id [] rows h = h
defaults_keep id (b ∷ d) rows h = defaults_keep id d (with_default rows b) (default_keeps id b rows h)

defaults_come : (a : Rule) (d : List Rule) (rows : List Row) → FirstPasses a a.defaults → IsAmongRules a d
    → has_row a.id (fold with_default rows d) ≡ true
defaults_come a [] rows default among = absurd among
defaults_come a (b ∷ d) rows default among = elim among [
  | inl here ↦
      let P : Rule → Type 0 = λ x. has_row a.id (with_default rows x) ≡ true in
      defaults_keep a.id d (with_default rows b) (subst P (sym here) (default_comes a rows default))
  | inr later ↦ defaults_come a d (with_default rows b) default later
]

-- what the option has is a value that passes
pub record HasValue (a : Rule) (rows : List Row) : Type 0 where
  pub text : Text
  pub found : one_of a.id rows ≡ Some (read_as (reading_by a) text)
  pub passes : value_passes a text ≡ true

row_value : (a : Rule) (r : Row) (values : List Text) → FirstPasses a values → r.reading ≡ reading_by a
    → (v : Text) × (option_map (read_as r.reading) (slice_get values 0) ≡ Some (read_as (reading_by a) v))
    × (value_passes a v ≡ true)
row_value a r [] f how = absurd f
row_value a r (v ∷ vs) f how = (v, ap (λ h. Some (read_as h v)) how, f)

found_value : (a : Rule) (rows : List Row) → Fits a rows → has_row a.id rows ≡ true
    → (v : Text) × (one_of a.id rows ≡ Some (read_as (reading_by a) v)) × (value_passes a v ≡ true)
found_value a [] f h = absurd (cc h)
found_value a (r ∷ rs) f h = go (bytes_eq r.id a.id) refl h (found_value a rs f.1)
  where
    go : (t : Bool) → bytes_eq r.id a.id ≡ t → (t || has_row a.id rs) ≡ true
        → (has_row a.id rs ≡ true
        → (v : Text) × (one_of a.id rs ≡ Some (read_as (reading_by a) v)) × (value_passes a v ≡ true))
        → (v : Text)
        × (option_and_then row_text (cond t (Some r) (find (λ r. bytes_eq r.id a.id) rs))
        ≡ Some (read_as (reading_by a) v))
        × (value_passes a v ≡ true)
    go true here h later = row_value a r r.values (f.0 here).0 (f.0 here).1
    go false here h later = later h

no_value : (id : Text) (rows : List Row) → has_row id rows ≡ false → one_of id rows ≡ None
no_value id [] h = refl
no_value id (r ∷ rs) h = go (bytes_eq r.id id) h (no_value id rs)
  where
    go : (t : Bool) → (t || has_row id rs) ≡ false → (has_row id rs ≡ false → one_of id rs ≡ None)
        → option_and_then row_text (cond t (Some r) (find (λ r. bytes_eq r.id id) rs)) ≡ None
    go true h later = absurd (cc h)
    go false h later = later h

value_if : (a : Rule) (rows : List Row) (t : Bool) → has_row a.id rows ≡ t → Fits a rows
    → (one_of a.id rows ≡ None) ⊎ HasValue a rows
value_if a rows false h f = inl (no_value a.id rows h)
value_if a rows true h f =
    let value = found_value a rows f h in
    inr (record { text = value.0; found = value.1; passes = value.2 })

-- what the words and the defaults leave of an option of a command that takes the words
rows_fit : (a : Rule) (s : Shape) (names : Names) (words : List Text) (used : Bool) (below : Kinds) → HasOption a s
    → level_fault s names nothing_held words used below ≡ [] → Fits a (rows_after s.rules names words)
rows_fit a s names words used below has none =
    let end = (walk s.rules names nothing_held words).held in
    let parts = both_none _ _ none in
    let rest = both_none _ _ (both_none _ _ parts.1).1 in
    let walked = walk_fits a s has names words (walk_from nothing_held) tt parts.0 in
    let settled = settled_fits a has.is s.rules has.known s.args_override_self end walked rest.0 in
    defaults_fit a s.rules _ has.is has.known settled

-- an option of a command that takes the words has no value, or one that passes
pub level_may_have_value : (a : Rule) (s : Shape) (names : Names) (words : List Text) (used : Bool) (below : Kinds)
    → HasOption a s → level_fault s names nothing_held words used below ≡ []
    → (one_of a.id (rows_after s.rules names words) ≡ None) ⊎ HasValue a (rows_after s.rules names words)
level_may_have_value a s names words used below has none =
    value_if a _ _ refl (rows_fit a s names words used below has none)

-- and where it has a default it has one that passes
pub level_has_value : (a : Rule) (s : Shape) (names : Names) (words : List Text) (used : Bool) (below : Kinds)
    → HasOption a s → FirstPasses a a.defaults → IsAmongRules a s.rules
    → level_fault s names nothing_held words used below ≡ [] → HasValue a (rows_after s.rules names words)
level_has_value a s names words used below has default among none =
    let value = found_value a _ (rows_fit a s names words used below has none)
    (defaults_come a s.rules _ default among) in
    record { text = value.0; found = value.1; passes = value.2 }
