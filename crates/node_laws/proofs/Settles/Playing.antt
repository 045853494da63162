-- Rounds of settling, one after another.
use Rattle.std.proofs.Common.{◌≡◌, ℕ, ◌+◌, ◌-◌, ◌≤◌, ◌<◌, List, [], ◌∷◌, ◌++◌, length, Option, Some, None, refl, sym, ap, ◌∙◌, subst, arith, inl, inr, append_assoc, append-nil}
use Rattle.std.proofs.lemmas.Bool.{cases_eq}
use Rattle.std.proofs.lemmas.List.{length-append}
use Rattle.record_key.specs.declared.refusal.Refusal.{Refusal}
use Rattle.node_laws.specs.declared.event.Event.{Event}
use Rattle.node_laws.specs.declared.event.Event.TheVariants as event
use Rattle.node_laws.specs.declared.event.Out.{Out}
use Rattle.node_laws.specs.declared.event.Out.TheVariants as out
use Rattle.node_laws.specs.declared.round.Round.{Round}
use Rattle.node_laws.specs.Node.{NodeView}
use Rattle.node_laws.specs.Stepping.{IsStep, TellsOn}
use Rattle.node_laws.proofs.Settles.Telling.{tells_rounds, tells_stopped, tells_then}
use Rattle.node_laws.specs.Kept.{IsKept}
use Rattle.node_laws.specs.Rounds.{IsDone, Plays, StopsAt, Performed, Stopped, IsExchange, IsNextRound, events_of, Rounds, Played, Broken, IsAllowed, fewer}
use Rattle.node_laws.specs.Bound.{rounds_left, most_rounds}
use Rattle.node_laws.proofs.Settles.Wants.{wants}

-- an output that isn't a refusal
pub done_if : (o : Out) → ((r : Refusal) → o ≡ out.Refused r → ⊥) → IsDone o
done_if (out.Refused r) h = h r refl
done_if (out.Begun n) h = tt
done_if (out.Logged n) h = tt
done_if (out.Asked n) h = tt
done_if out.RollingBack h = tt
done_if out.Nothing h = tt
done_if (out.Compensated n) h = tt
done_if (out.RolledBack n) h = tt
done_if (out.Saved n) h = tt
done_if (out.CommitLogged n) h = tt
done_if (out.Back t s) h = tt
done_if (out.Stable n cs) h = tt
done_if (out.Connects n cs) h = tt
done_if (out.Sent n) h = tt
done_if (out.Replied n) h = tt
done_if out.Noted h = tt
done_if out.Down h = tt
done_if out.Set h = tt
done_if (out.Up n) h = tt
done_if (out.Connected n) h = tt
done_if (out.RedoEnded n) h = tt
done_if (out.Answered u a) h = tt
done_if (out.Row u v) h = tt
done_if (out.Rows u rows) h = tt
done_if (out.Flushed id) h = tt
done_if (out.Merged pair) h = tt
done_if (out.Split pair) h = tt
done_if (out.Undone n) h = tt
done_if (out.CheckpointLogged n) h = tt
done_if (out.Lost n) h = tt

-- one event
pub one_done : (old new : NodeView) (e : Event) (o : Out) (before after : List Out) → IsStep old e o new → IsDone o
    → after ≡ before ++ o ∷ [] → Performed old (e ∷ []) before after new
one_done old new e o before after step done appended =
    record { outs = o ∷ []; appended = appended; steps = (new, step, done, refl) }

-- an event, and those after it
pub then_done : (old mid new : NodeView) (e : Event) (es : List Event) (before between after : List Out)
    → Performed old (e ∷ []) before between mid → Performed mid es between after new
    → Performed old (e ∷ es) before after new
then_done old mid new e es before between after first rest =
    by first.outs first.steps first.appended
  where
    by : (outs : List Out) → Plays old (e ∷ []) outs mid → between ≡ before ++ outs
        → Performed old (e ∷ es) before after new
    by [] steps appended = absurd steps
    by (o ∷ p ∷ os) steps appended = absurd steps.3
    by (o ∷ []) steps appended =
        let P : NodeView → Type 0 = λ x. Plays x es rest.outs new in
        record {
          outs = o ∷ rest.outs;
          appended = rest.appended ∙ ap (λ (xs : List Out). xs ++ rest.outs) appended
              ∙ append_assoc before (o ∷ []) rest.outs;
          steps = (steps.0, steps.1, steps.2, subst P steps.3 rest.steps);
        }

pub then_stopped : (old mid new : NodeView) (e : Event) (es : List Event) (before between after : List Out)
    (r : Refusal)
    → Performed old (e ∷ []) before between mid
    → Stopped mid es between after r new → Stopped old (e ∷ es) before after r new
then_stopped old mid new e es before between after r first rest =
    by first.outs first.steps first.appended
  where
    by : (outs : List Out) → Plays old (e ∷ []) outs mid → between ≡ before ++ outs
        → Stopped old (e ∷ es) before after r new
    by [] steps appended = absurd steps
    by (o ∷ p ∷ os) steps appended = absurd steps.3
    by (o ∷ []) steps appended =
        let P : NodeView → Type 0 = λ x. StopsAt x es rest.outs r new in
        record {
          outs = o ∷ rest.outs;
          appended = rest.appended ∙ ap (λ (xs : List Out). xs ++ rest.outs) appended
              ∙ append_assoc before (o ∷ []) rest.outs;
          stops = (steps.0, steps.1, steps.2, subst P steps.3 rest.stops);
        }

-- where the first event stopped, so did they all
pub first_stopped : (old new : NodeView) (e : Event) (es : List Event) (before after : List Out) (r : Refusal)
    → Stopped old (e ∷ []) before after r new → Stopped old (e ∷ es) before after r new
first_stopped old new e es before after r h = by h.outs h.stops h.appended
  where
    by : (outs : List Out) → StopsAt old (e ∷ []) outs r new → after ≡ before ++ outs
        → Stopped old (e ∷ es) before after r new
    by [] stops appended = record { outs = []; appended = appended; stops = stops }
    by (o ∷ os) stops appended = absurd (none os stops.3)
      where
        none : (os : List Out) → StopsAt stops.0 [] os r new → ⊥
        none [] h = h
        none (p ∷ ps) h = h

-- the numbers of an exchange's messages
pub sent_number : (w mid : NodeView) (e : Event) (before between : List Out) → IsExchange w e
    → Performed w (e ∷ []) before between mid → length mid.requests ≡ length w.requests + 1
sent_number w mid e before between asks h = by h.outs h.steps
  where
    by : (outs : List Out) → Plays w (e ∷ []) outs mid → length mid.requests ≡ length w.requests + 1
    by [] steps = absurd steps
    by (o ∷ p ∷ os) steps = absurd steps.3
    by (o ∷ []) steps = ap (λ (x : NodeView). length x.requests) steps.3 ∙ asks.sent o steps.0 steps.1.step steps.2

pub replied_number : (w mid after : NodeView) (e : Event) (a b c : List Out) → IsExchange w e
    → Performed w (e ∷ []) a b mid → Performed mid (event.Request (length w.requests + 1) ∷ []) b c after
    → length after.replies ≡ length w.replies + 1
replied_number w mid after e a b c asks h k = by h.outs h.steps k.outs k.steps
  where
    by : (os : List Out) → Plays w (e ∷ []) os mid → (ps : List Out)
        → Plays mid (event.Request (length w.requests + 1) ∷ []) ps after → length after.replies ≡ length w.replies + 1
    by [] first ps next = absurd first
    by (o ∷ p ∷ os) first ps next = absurd first.3
    by (o ∷ []) first [] next = absurd next
    by (o ∷ []) first (p ∷ q ∷ ps) next = absurd next.3
    by (o ∷ []) first (p ∷ []) next =
        let P : NodeView → Type 0 = λ x. IsStep x (event.Request (length w.requests + 1)) p next.0 in
        ap (λ (x : NodeView). length x.replies) next.3
        ∙ asks.replied o p first.0 next.0 first.1.step first.2 (subst P first.3 next.1).step next.2

-- as many rounds are left to play
abbrev pub LeftAfter : Option ℕ → ℕ → Option ℕ → Type 0
LeftAfter None n left = left ≡ None
LeftAfter (Some most) n left = (n ≤ most) × (left ≡ Some (most - n))

-- the rounds so far
pub record SoFar (old : NodeView) (most : Option ℕ) (before : List Out) (left : Option ℕ) (after : List Out)
    (now : NodeView) : Type 0 where
  pub played : Played old before after now
  pub count : length played.rounds + rounds_left now ≤ rounds_left old
  pub left_is : LeftAfter most (length played.rounds) left

pub none_yet : (old : NodeView) (most : Option ℕ) (before : List Out) → SoFar old most before most before old
none_yet old most before =
    record {
      played = record { rounds = []; outs = []; appended = sym (append-nil before); played = (refl, refl) };
      count = omega arith;
      left_is = all most;
    }
  where
    all : (most : Option ℕ) → LeftAfter most 0 most
    all None = refl
    all (Some n) = (omega arith, ap Some (omega arith))

rounds_push : (old now new : NodeView) (rs : List Round) (outs more : List Out) (r : Round) → Rounds old rs outs now
    → IsNextRound now r → Plays now (events_of now r) more new
    → Rounds old (rs ++ r ∷ []) (outs ++ more) new
rounds_push old now new [] outs more r rounds next steps =
    let P : NodeView → Type 0 = λ x. IsNextRound x r × Plays x (events_of x r) more new in
    let here = subst P rounds.1 (next, steps) in
    (new, more, [], ap (λ (xs : List Out). xs ++ more) rounds.0 ∙ sym (append-nil more), here.0, here.1, (refl, refl))
rounds_push old now new (q ∷ rs) outs more r rounds next steps = (
  rounds.0,
  rounds.1,
  rounds.2 ++ more,
  ap (λ (xs : List Out). xs ++ more) rounds.3 ∙ append_assoc rounds.1 rounds.2 more,
  rounds.4,
  rounds.5,
  rounds_push rounds.0 now new rs rounds.2 more r rounds.6 next steps,
)

-- one round more
fewer_left : (most : Option ℕ) (n : ℕ) (left : Option ℕ) → LeftAfter most n left → (left ≡ Some 0 → ⊥)
    → LeftAfter most (n + 1) (fewer left)
fewer_left None n left h some = ap fewer h
fewer_left (Some m) n left h some =
    let less : n < m = elim_less m n h.0 (λ e. some (h.1 ∙ ap Some (omega (arith, e)))) in
    (omega (arith, less), ap fewer h.1 ∙ ap Some (omega arith))
  where
    elim_less : (m n : ℕ) → n ≤ m → (n ≡ m → ⊥) → n < m
    elim_less m n most apart = omega (arith, most, apart)

pub one_more : (old now new : NodeView) (most left : Option ℕ) (before after grown : List Out) (r : Round)
    → SoFar old most before left after now → (left ≡ Some 0 → ⊥) → IsNextRound now r
    → Performed now (events_of now r) after grown new → rounds_left new < rounds_left now
    → SoFar old most before (fewer left) grown new
one_more old now new most left before after grown r far some next h less =
    let p = far.played in
    let count : length (p.rounds ++ r ∷ []) ≡ length p.rounds + 1 = length-append p.rounds (r ∷ []) in
    record {
      played = record {
        rounds = p.rounds ++ r ∷ [];
        outs = p.outs ++ h.outs;
        appended = h.appended ∙ ap (λ (xs : List Out). xs ++ h.outs) p.appended ∙ append_assoc before p.outs h.outs;
        played = rounds_push old now new p.rounds p.outs h.outs r p.played next h.steps;
      };
      count = omega (arith, count, far.count, less);
      left_is = subst (λ (n : ℕ). LeftAfter most n (fewer left)) (sym count)
          (fewer_left most (length p.rounds) left far.left_is some);
    }

-- all the rounds that were allowed
pub all_played : (most left : Option ℕ) (n : ℕ) → LeftAfter most n left → left ≡ Some 0 → most ≡ Some n
all_played None left n h spent = let e = sym h ∙ spent in absurd (cc)
all_played (Some m) left n h spent =
    let e : Some (m - n) ≡ Some 0 = sym h.1 ∙ spent in let none : m - n ≡ 0 = cc in ap Some (omega (arith, none, h.0))

-- so far no more rounds were played than may be, and where one is left, one less
pub allowed : (most left : Option ℕ) (n : ℕ) → LeftAfter most n left → IsAllowed most n
allowed None left n h = tt
allowed (Some m) left n h = h.0

one_allowed : (most left : Option ℕ) (n : ℕ) → LeftAfter most n left → (left ≡ Some 0 → ⊥) → IsAllowed most (n + 1)
one_allowed None left n h some = tt
one_allowed (Some m) left n h some = elim (cases_eq n m) [
  | inl e ↦ absurd (some (h.1 ∙ ap Some (omega (arith, e))))
  | inr apart ↦ omega (arith, h.0, apart)
]

-- a round stopped
pub broken : (old now new : NodeView) (most left : Option ℕ) (before after grown : List Out) (r : Round)
    (refusal : Refusal)
    → SoFar old most before left after now → (left ≡ Some 0 → ⊥) → IsKept now
    → IsNextRound now r → Stopped now (events_of now r) after grown refusal new → rounds_left old < most_rounds old.tc.log
    → (b : Broken old before grown refusal new) × IsAllowed most (length b.rounds.rounds + 1)
    × (length b.rounds.rounds < most_rounds old.tc.log) × TellsOn old (b.rounds.outs ++ b.stopped.outs) new
broken old now new most left before after grown r refusal far some kept next h bound = (
  record {
    last = now;
    between = after;
    rounds = far.played;
    round = r;
    next = next;
    stopped = h;
    want = wants now new r h.outs refusal kept next h.stops;
  },
  one_allowed most left (length far.played.rounds) far.left_is some,
  omega (arith, far.count, bound),
  tells_then old now new far.played.outs h.outs
      (tells_rounds old now far.played.rounds far.played.outs far.played.played)
      (tells_stopped now new r h.outs refusal h.stops),
)
