-- Machines of short runs: what may follow a line, and what must.
use Rattle.std.proofs.Common.{◌≡◌, ℕ, ◌<◌, Bool, true, false, List, [], ◌∷◌, Some, None, refl, sym, ap, ◌∙◌, subst, arith, ne_eqb, true≢false}
use Rattle.std.specs.Prelude.{◌==◌, map, if◌then◌else◌}
use Rattle.std.specs.List.{AllByRecursion}
use Rattle.std.specs.FinMap.{get-empty}
use Rattle.std.proofs.lemmas.Bool.{cases_eq}
use Rattle.record_key.specs.declared.op.Op.{Op}
use Rattle.record_key.specs.declared.op.Op.TheVariants.{Insert}
use Rattle.record_key.specs.declared.op.Answer.{Answer}
use Rattle.record_key.specs.declared.op.Answer.TheVariants.{Inserted, Exists}
use Rattle.record_key.specs.Table.{Bytes, answer_at, answer_in}
use Rattle.record_key.specs.Laws.{key_cmp}
use Rattle.record_key.proofs.Tables.{get-with_record_same}
use Rattle.history.specs.History.{Entry, plain, placed, cross}
use Rattle.history.specs.Spans.{Span, AnyConflict, changed_span}
use Rattle.history.specs.ListMachine.{Machine, Txn, Open, Waiting, Rolling, Gone, Line, Begins, Acts, TellsAnswer, Crashes, Step, Steps, AreAllLeft, Survives, IsAbove, IsAboveAll, HasStatus, IsFree, IsHolder, with_txn, with_status, fallen, blank, nobody, ended, fresh}

-- the machine after a line
abbrev pub begun : Machine → ℕ → Machine
begun m t = with_txn m t blank

abbrev pub acted : Machine → ℕ → Op → ℕ → Machine
acted m t o k =
    with_txn m t (record (m.txns t) {
      status = Waiting k o;
      last = Some (k, o);
      spans = changed_span o ∷ (m.txns t).spans;
    })

abbrev pub told : Machine → ℕ → Op → ℕ → Answer → Machine
told m t o k a =
    record (with_status m t Open) {
      h = placed (record { number = k; txn = t; op = o; answer = a; crossed = false })
          m.h;
    }

abbrev pub rolling : Machine → Machine
rolling m = record (with_status m 2 (Rolling None)) { h = cross (λ _. true) 2 m.h }

abbrev pub gone : Machine → Machine
gone m = with_txn m 2 (ended (m.txns 2) Gone)

-- a crash makes this of transaction 2, and there is no other
abbrev pub crashed : Machine → ℕ → Txn → Bool → Machine
crashed m bound x fell = record {
  h = map (fallen (λ u. if u == 2 then fell else false) bound) m.h;
  txns = λ u. if u == 2 then x else nobody;
}

-- after a transaction's first insert
abbrev pub inserted : Op → Machine
inserted o = told (acted (begun fresh 2) 2 o 3) 2 o 3 Inserted

-- what an insert of a key is answered that isn't there
pub first_answer : (a b : Bytes) → Inserted ≡ answer_in (plain []) (Insert a b)
first_answer a b = ap (answer_at (Insert a b)) (sym (get-empty key_cmp a))

-- and one that is
pub second_answer : (a b c : Bytes) → Exists ≡ answer_in (plain (inserted (Insert a b)).h) (Insert a c)
second_answer a b c = grind (arith, get-with_record_same)

-- nobody else has begun
abbrev pub IsAlone : Machine → ℕ → Type 0
IsAlone m t = (u : ℕ) → (u ≡ t → ⊥) → m.txns u ≡ nobody

pub alone_with : (m : Machine) (t : ℕ) (x : Txn) → IsAlone m t → IsAlone (with_txn m t x) t
alone_with m t x alone u apart = ap (λ (b : Bool). if b then x else m.txns u) (ne_eqb u t apart) ∙ alone u apart

pub alone_acted : (o : Op) (k : ℕ) → IsAlone (acted (begun fresh 2) 2 o k) 2
alone_acted o k = alone_with (begun fresh 2) 2 _ (alone_with fresh 2 blank (λ u apart. refl))

pub alone_inserted : (o : Op) → IsAlone (inserted o) 2
alone_inserted o = alone_with (acted (begun fresh 2) 2 o 3) 2 _ (alone_acted o 3)

-- so nobody else holds anything, or waits
pub alone_free : (m : Machine) (t : ℕ) (s : Span) → IsAlone m t → IsFree m t s
alone_free m t s alone u apart h = subst (λ x. AnyConflict s x.spans) (alone u apart) h

pub alone_above : (m : Machine) (t k : ℕ) → IsAlone m t → IsAbove k (m.txns t).status → (u : ℕ)
    → IsAbove k (m.txns u).status
alone_above m t k alone own u = grind arith

-- or has begun
pub alone_below : (m : Machine) (t k : ℕ) → IsAlone m t → t < k → (u : ℕ) → (m.txns u).begun ≡ true → u < k
alone_below m t k alone below u has_begun = grind arith

pub fresh_below : (k : ℕ) → IsAboveAll k fresh
fresh_below k = (tt, λ u has_begun. absurd (true≢false (sym has_begun)), λ u. tt)

-- the first two lines, and three
pub starts_acting : (o : Op) (lines : List Line) (last : Machine) → Steps (acted (begun fresh 2) 2 o 3) lines last
    → Steps fresh (Begins 2 ∷ Acts 2 o 3 ∷ lines) last
starts_acting o lines last rest = grind arith

pub starts : (a b : Bytes) (lines : List Line) (last : Machine) → Steps (inserted (Insert a b)) lines last
    → Steps fresh (Begins 2 ∷ Acts 2 (Insert a b) 3 ∷ TellsAnswer 2 Inserted ∷ lines) last
starts a b lines last rest =
    let o : Op = Insert a b in
    starts_acting o (TellsAnswer 2 Inserted ∷ lines) last (inserted o, (3, o, refl, first_answer a b, refl), rest)

-- a crash leaves others, who have no entries
all_left : (bound u : ℕ) (h : List Entry) → (u ≡ 2 → ⊥) → AllByRecursion (λ e. e.txn ≡ 2) h → AreAllLeft bound u h
all_left bound u [] apart own = tt
all_left bound u (e ∷ h) apart own = (λ same. absurd (apart (sym same ∙ own.0)), all_left bound u h apart own.1)

pub crashes : (m : Machine) (bound : ℕ) (x : Txn) (fell : Bool) → IsAlone m 2 → AllByRecursion (λ e. e.txn ≡ 2) m.h
    → Survives m bound 2 (m.txns 2).status x fell → Step m Crashes (crashed m bound x fell)
crashes m bound x fell alone own survives = grind (arith, cases_eq, ne_eqb, all_left)

pub alone_crashed : (m : Machine) (bound : ℕ) (x : Txn) (fell : Bool) → IsAlone (crashed m bound x fell) 2
alone_crashed m bound x fell u apart = ap (λ (b : Bool). if b then x else nobody) (ne_eqb u 2 apart)

-- transaction 2 alone may keep transaction 4 from a key
pub second_holder : (m : Machine) → IsAlone m 2 → (s : Span) → AnyConflict s (m.txns 2).spans
    → IsHolder (begun m 4) 4 s 2
second_holder m alone s conflicts = grind arith

-- what must follow a line
pub after_begins : (m : Machine) (t : ℕ) (lines : List Line) (last : Machine) → Steps m (Begins t ∷ lines) last
    → Steps (begun m t) lines last
after_begins m t lines last h = subst (λ x. Steps x lines last) h.1.1 h.2

pub after_acts : (m : Machine) (t : ℕ) (o : Op) (k : ℕ) (lines : List Line) (last : Machine)
    → Steps m (Acts t o k ∷ lines) last → Steps (acted m t o k) lines last
after_acts m t o k lines last h = subst (λ x. Steps x lines last) h.1.4 h.2

-- a told answer is the right one
pub after_told : (m : Machine) (o : Op) (k : ℕ) (a : Answer) (lines : List Line) (last : Machine)
    → HasStatus m 2 (Waiting k o)
    → Steps m (TellsAnswer 2 a ∷ lines) last → (a ≡ answer_in (plain m.h) o) × Steps (told m 2 o k a) lines last
after_told m o k a lines last waits h = grind arith

-- what must follow the first two lines, and three
pub after_acting : (o : Op) (lines : List Line) (last : Machine) → Steps fresh (Begins 2 ∷ Acts 2 o 3 ∷ lines) last
    → Steps (acted (begun fresh 2) 2 o 3) lines last
after_acting o lines last h = grind arith

pub after_insert : (o : Op) (lines : List Line) (last : Machine)
    → Steps fresh (Begins 2 ∷ Acts 2 o 3 ∷ TellsAnswer 2 Inserted ∷ lines) last → Steps (inserted o) lines last
after_insert o lines last h = grind arith
