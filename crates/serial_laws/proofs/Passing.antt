-- Entries that pass each other by change places, and come and go, and all keep their answers.
use Rattle.std.proofs.Common.{arith, ◌≡◌, ◌≤◌, Bool, true, false, cond, List, [], ◌∷◌, ◌++◌, refl, ap, ◌∙◌}
use Rattle.std.specs.Prelude.{filter, not, nat_lt, if◌then◌else◌}
use Rattle.std.specs.List.{AllByRecursion}
use Rattle.std.specs.FinMap.{empty}
use Rattle.record_key.specs.declared.op.Op.{Op}
use Rattle.record_key.specs.Table.{Table, answer_in, after}
use Rattle.inverse.specs.Inverse.{PassBy}
use Rattle.inverse.proofs.Undo.{either_order, answer-after, passes_back}
use Rattle.history.specs.History.{Entry, plain, placed}
use Rattle.simulation.specs.View.{standing}
use Rattle.simulation.proofs.Entries.{not_lt}
use Rattle.serial_laws.specs.Replay.{replay, AreTrue}

-- all pairs, of an entry and one that is older
abbrev pub Pairs : (Entry → Entry → Type 0) → List Entry → Type 0
Pairs R [] = Unit {0}
Pairs R (g ∷ h) = AllByRecursion (R g) h × Pairs R h

-- an operation passes all of these by
abbrev pub PassesAll : Op → List Entry → Type 0
PassesAll o h = AllByRecursion (λ g. PassBy o g.op) h

pub replay_append : (m : Table) (a b : List Entry) → replay m (a ++ b) ≡ replay (replay m b) a
replay_append m [] b = refl
replay_append m (e ∷ a) b = ap (λ x. after x e.op) (replay_append m a b)

pub true_append : (m : Table) (a b : List Entry) → AreTrue (replay m b) a → AreTrue m b → AreTrue m (a ++ b)
true_append m [] b first second = second
true_append m (e ∷ a) b first second = grind (arith, true_append m a b first.1 second, replay_append)

pub true_first : (m : Table) (a b : List Entry) → AreTrue m (a ++ b) → AreTrue (replay m b) a
true_first m [] b all = tt
true_first m (e ∷ a) b all = (all.0 ∙ ap (λ x. answer_in x e.op) (replay_append m a b), true_first m a b all.1)

pub true_second : (m : Table) (a b : List Entry) → AreTrue m (a ++ b) → AreTrue m b
true_second m [] b all = all
true_second m (e ∷ a) b all = true_second m a b all.1

-- one that passes them by may come first or last
pub comes_last : (m : Table) (o : Op) (g : List Entry) → PassesAll o g → replay (after m o) g ≡ after (replay m g) o
comes_last m o [] pass = refl
comes_last m o (e ∷ g) pass = grind (arith, comes_last m o g pass.1, either_order)

pub answered_below : (m : Table) (o : Op) (g : List Entry) → PassesAll o g → answer_in (replay m g) o ≡ answer_in m o
answered_below m o [] pass = refl
answered_below m o (e ∷ g) pass = grind (arith, answered_below m o g pass.1, answer-after, passes_back)

pub true_above : (m : Table) (o : Op) (g : List Entry) → PassesAll o g → AreTrue m g → AreTrue (after m o) g
true_above m o [] pass all = tt
true_above m o (e ∷ g) pass all = grind (arith, true_above m o g pass.1 all.1, answer-after, comes_last)

-- an entry that was told by all of these may stand before those that it passes by
pub true_between : (m : Table) (e : Entry) (newer older : List Entry) → PassesAll e.op newer
    → e.answer ≡ answer_in (replay m (newer ++ older)) e.op → AreTrue m (newer ++ older)
    → AreTrue m (newer ++ e ∷ older)
true_between m e newer older pass told all =
    true_append m newer (e ∷ older)
    (true_above (replay m older) e.op newer pass (true_first m newer older all)) (
      told ∙ ap (λ x. answer_in x e.op) (replay_append m newer older)
          ∙ answered_below (replay m older) e.op newer pass,
      true_second m newer older all,
    )

pub replay_between : (m : Table) (e : Entry) (newer older : List Entry) → PassesAll e.op newer
    → replay m (newer ++ e ∷ older) ≡ after (replay m (newer ++ older)) e.op
replay_between m e newer older pass = grind (arith, replay_append, comes_last)

-- those that a test takes go below the others, where they pass by what they meet
abbrev pub Sinks : (Entry → Bool) → Entry → Entry → Type 0
Sinks p g e = p g ≡ true → p e ≡ false → PassBy g.op e.op

abbrev pub sunk : (Entry → Bool) → List Entry → List Entry
sunk p h = filter (λ e. not (p e)) h ++ filter p h

left_above : (p : Entry → Bool) (e : Entry) (h : List Entry) → p e ≡ true → AllByRecursion (Sinks p e) h
    → PassesAll e.op (filter (λ g. not (p g)) h)
left_above p e [] is all = tt
left_above p e (g ∷ h) is all = grind (arith, left_above p e h is all.1)

-- both are seen at once
pub record IsAlike (m : Table) (h k : List Entry) : Type 0 where
  pub told : AreTrue m k
  pub leaves : replay m k ≡ replay m h

sink_one : (m : Table) (p : Entry → Bool) (e : Entry) (h : List Entry) (b : Bool) → p e ≡ b
    → AllByRecursion (Sinks p e) h → e.answer ≡ answer_in (replay m h) e.op → IsAlike m h (sunk p h)
    → IsAlike m (e ∷ h) (cond (not b) (e ∷ filter (λ g. not (p g)) h) (filter (λ g. not (p g)) h)
    ++ cond b (e ∷ filter p h) (filter p h))
sink_one m p e h b is all told rest = grind (arith, left_above, true_between, replay_between)

pub sink : (m : Table) (p : Entry → Bool) (h : List Entry) → Pairs (Sinks p) h → AreTrue m h
    → IsAlike m h (sunk p h)
sink m p [] pairs all = record { told = tt; leaves = refl }
sink m p (e ∷ h) pairs all = sink_one m p e h (p e) refl pairs.0 all.0 (sink m p h pairs.1 all.1)

-- so the others may go
pub true_left : (m : Table) (p : Entry → Bool) (h : List Entry) → Pairs (Sinks p) h → AreTrue m h
    → AreTrue m (filter p h)
true_left m p h pairs all = true_second m (filter (λ g. not (p g)) h) (filter p h) (sink m p h pairs all).told

-- the plain map is what the entries leave that stand
pub plain_replay : (h : List Entry) → replay empty (standing h) ≡ plain h
plain_replay [] = refl
plain_replay (e ∷ h) = pick e.crossed (plain_replay h)
  where
    pick : (b : Bool) → replay empty (standing h) ≡ plain h
        → replay empty (cond (not b) (e ∷ standing h) (standing h))
        ≡ (if b then plain h else after (plain h) e.op)
    pick true rest = rest
    pick false rest = ap (λ x. after x e.op) rest

-- a placed entry parts those that stand
pub record Parts (e : Entry) (h k : List Entry) : Type 0 where
  pub newer : List Entry
  pub older : List Entry
  pub before : h ≡ newer ++ older
  pub now : k ≡ newer ++ e ∷ older
  pub above : AllByRecursion (λ f. e.number ≤ f.number) newer

pub parts : (e : Entry) (h : List Entry) → e.crossed ≡ false → Parts e (standing h) (standing (placed e h))
parts e [] stands = grind arith
parts e (f ∷ h) stands = pick (nat_lt f.number e.number) refl (parts e h stands)
  where
    past : (b : Bool) → e.number ≤ f.number → Parts e (standing h) (standing (placed e h))
        → Parts e (cond (not b) (f ∷ standing h) (standing h))
        (cond (not b) (f ∷ standing (placed e h)) (standing (placed e h)))
    past true ge rest = rest
    past false ge rest = record {
      newer = f ∷ rest.newer;
      older = rest.older;
      before = ap (λ x. f ∷ x) rest.before;
      now = ap (λ x. f ∷ x) rest.now;
      above = (ge, rest.above);
    }

    pick : (b : Bool) → nat_lt f.number e.number ≡ b → Parts e (standing h) (standing (placed e h))
        → Parts e (standing (f ∷ h)) (standing (if b then e ∷ f ∷ h else f ∷ placed e h))
    pick true lt rest = record {
      newer = [];
      older = standing (f ∷ h);
      before = refl;
      now = ap (λ (b : Bool). cond (not b) (e ∷ standing (f ∷ h)) (standing (f ∷ h))) stands;
      above = tt;
    }
    pick false ge rest = past f.crossed (not_lt f.number e.number ge) rest
