-- The value at a key on which nobody acts stays, where only committed transactions left it.
use Rattle.std.proofs.lemmas.Bool.Decides.{nat_tests}
use Rattle.std.proofs.Common.{arith, ◌≡◌, ◌≢◌, ℕ, ◌≤◌, Bool, true, false, List, [], ◌∷◌, Option, None, refl, sym, ap, ◌∙◌, subst, inl, inr, true≢false}
use Rattle.std.specs.Prelude.{◌==◌, ◌&&◌, ◌||◌, not, map, nat_lt, if◌then◌else◌}
use Rattle.std.specs.List.{AllByRecursion, list_any}
use Rattle.std.specs.FinMap.{get, get-empty}
use Rattle.std.proofs.lemmas.Bool.{cases_Bool}
use Rattle.record_key.specs.declared.op.Op.{Op}
use Rattle.record_key.specs.declared.op.Answer.{Answer}
use Rattle.record_key.specs.Table.{Bytes, key_of, value_after}
use Rattle.record_key.specs.Laws.{key_cmp}
use Rattle.record_key.proofs.Tables.{is_same-true}
use Rattle.history.specs.History.{Entry, plain, placed}
use Rattle.history.specs.Values.{is_on}
use Rattle.history.specs.ListMachine.{Machine, Txn, Status, Open, Waiting, Committed, Line, Begins, Acts, TellsAnswer, Reads, TellsRow, TellsRows, Saves, GoesBack, TellsBack, RollsBack, TellsRolledBack, Commits, TellsCommitted, Crashes, TellsLost, IsRefused, HasStatus, Falls, AreAllLeft, Survives, Step, Steps, with_txn, fallen}
use Rattle.log_laws.proofs.Plain.{entry_leaves}
use Rattle.simulation.specs.Lasting.{IsOwned, IsLastAt, ActsElsewhere, ValuesLast}
use Rattle.simulation.proofs.Entries.{marked, marked_all, fallen_all}
use Rattle.simulation.proofs.Placing.{all_placed}
use Rattle.simulation.proofs.Owning.{spared_by}
use Rattle.simulation.proofs.Lasting.{survives_as, other_than, committed_step}

-- what an operation leaves, if it does
abbrev leaving : Bool → Op → Option Bytes → Option Bytes
leaving does o v = if does then value_after o v else v

-- what the entries that stand leave at a key
abbrev value_in : Bytes → List Entry → Option Bytes
value_in k [] = None
value_in k (e ∷ h) = leaving (not e.crossed && is_on k e.op) e.op (value_in k h)

plain_value : (k : Bytes) (h : List Entry) → get (plain h) k ≡ value_in k h
plain_value k [] = get-empty key_cmp k
plain_value k (e ∷ h) = entry_leaves e.crossed k (plain h) e.op (value_in k h) (plain_value k h)

-- an entry at another key leaves it
off_key : (k : Bytes) (o : Op) → key_of o ≢ k → is_on k o ≡ false
off_key k o apart =
    elim (cases_Bool (is_on k o)) [
      | inl on ↦ absurd (apart (sym (is_same-true k (key_of o) on)))
      | inr off ↦ off
    ]

passed : (k : Bytes) (e : Entry) (h : List Entry) → key_of e.op ≢ k → value_in k (e ∷ h) ≡ value_in k h
passed h h2 h3 apart = grind (arith, off_key, true≢false)

placed_value : (k : Bytes) (e : Entry) (h : List Entry) → key_of e.op ≢ k → value_in k (placed e h) ≡ value_in k h
placed_value k e [] apart = passed k e [] apart
placed_value k e (f ∷ h) apart = pick (nat_lt f.number e.number) (placed_value k e h apart)
  where
    pick : (b : Bool) → value_in k (placed e h) ≡ value_in k h
        → value_in k (if b then e ∷ f ∷ h else f ∷ placed e h) ≡ value_in k (f ∷ h)
    pick true rest = passed k e (f ∷ h) apart
    pick false rest = ap (λ v. if not f.crossed && is_on k f.op then value_after f.op v else v) rest

-- and so do marks on none that stands there
marked_value : (k : Bytes) (f : ℕ → ℕ → Bool) (h : List Entry)
    → AllByRecursion (λ e. e.crossed ≡ false → key_of e.op ≡ k → f e.txn e.number ≡ false) h
    → value_in k (map (marked f) h) ≡ value_in k h
marked_value k f [] spared = refl
marked_value k f (e ∷ h) spared =
    by e.crossed (f e.txn e.number) (is_on k e.op) (λ c on. spared.0 c (sym (is_same-true k (key_of e.op) on)))
    (marked_value k f h spared.1)
  where
    by : (c b on : Bool) → (c ≡ false → on ≡ true → b ≡ false) → value_in k (map (marked f) h) ≡ value_in k h
        → leaving (not (c || b) && on) e.op (value_in k (map (marked f) h)) ≡ leaving (not c && on) e.op (value_in k h)
    by true b on spared rest = rest
    by false true true spared rest = absurd (true≢false (spared refl refl))
    by false true false spared rest = rest
    by false false true spared rest = ap (value_after e.op) rest
    by false false false spared rest = rest

-- and so does a crash that spares those that stand there
abbrev IsSpared : Bytes → (ℕ → Bool) → ℕ → Entry → Type 0
IsSpared k fell bound e = e.crossed ≡ false → key_of e.op ≡ k → (fell e.txn ≡ false) × (e.number ≤ bound)

fallen_step : (k : Bytes) (fell : ℕ → Bool) (bound n t : ℕ) (o : Op) (a : Answer) (c : Bool) (v w : Option Bytes)
    (over on : Bool) → nat_lt bound n ≡ over → is_on k o ≡ on
    → (c ≡ false → on ≡ true → (fell t ≡ false) × (n ≤ bound)) → v ≡ w
    → leaving (not (fallen fell bound (record { number = n; txn = t; op = o; answer = a; crossed = c })).crossed
    && is_on k (fallen fell bound (record { number = n; txn = t; op = o; answer = a; crossed = c })).op)
    (fallen fell bound (record { number = n; txn = t; op = o; answer = a; crossed = c })).op v
    ≡ leaving (not c && is_on k o) o w
fallen_step h h2 h3 h4 h5 o a c v w over on is at spared rest = grind arith

fallen_value : (k : Bytes) (fell : ℕ → Bool) (bound : ℕ) (h : List Entry) → AllByRecursion (IsSpared k fell bound) h
    → value_in k (map (fallen fell bound) h) ≡ value_in k h
fallen_value k fell bound [] spared = refl
fallen_value k fell bound (e ∷ h) spared =
    fallen_step k fell bound e.number e.txn e.op e.answer e.crossed (value_in k (map (fallen fell bound) h))
    (value_in k h) (nat_lt bound e.number) (is_on k e.op) refl refl
    (λ c on. spared.0 c (sym (is_same-true k (key_of e.op) on))) (fallen_value k fell bound h spared.1)

-- how a line changes the history
data Change (m n : Machine) : Type 0 where
  Stays : n.h ≡ m.h → Change m n
  Places : (e : Entry) → HasStatus m e.txn (Waiting e.number e.op) → n.h ≡ placed e m.h → Change m n
  Marks : (f : ℕ → ℕ → Bool) → ((t k : ℕ) → HasStatus m t Committed → f t k ≡ false) → n.h ≡ map (marked f) m.h
      → Change m n
  Loses : (fell : ℕ → Bool) → (bound : ℕ)
      → ((t : ℕ) → HasStatus m t Committed → (fell t ≡ false) × AreAllLeft bound t m.h)
      → n.h ≡ map (fallen fell bound) m.h → Change m n

change : (m n : Machine) (line : Line) → Step m line n → Change m n
change m n (Begins u) h = Stays (ap (λ y. y.h) h.1)
change m n (Acts u o k) h = Stays (ap (λ y. y.h) h.4)
change m n (TellsAnswer u a) h =
    Places (record { number = h.0; txn = u; op = h.1; answer = a; crossed = false }) h.2 (ap (λ y. y.h) h.4)
change m n (Reads u q) h = Stays (ap (λ y. y.h) h.3)
change m n (TellsRow u value) h = Stays (ap (λ y. y.h) h.3)
change m n (TellsRows u rows) h = Stays (ap (λ y. y.h) h.4)
change m n (Saves u s) h = Stays (ap (λ y. y.h) h.3)
change m n (GoesBack u s) h =
    let p : ℕ → Bool = λ k. not (list_any (λ j. j == k) h.0) in
    Marks (λ t k. t == u && p k) (λ t k is. spared_by p t u (other_than m t u Committed Open is h.1 (λ e. cc)) k)
    (ap (λ y. y.h) h.4)
change m n (TellsBack u s) h = Stays (ap (λ y. y.h) h.1)
change m n (RollsBack u) h =
    let p : ℕ → Bool = λ _. true in
    Marks (λ t k. t == u && p k) (λ t k is. spared_by p t u (other_than m t u Committed Open is h.0 (λ e. cc)) k)
    (ap (λ y. y.h) h.1)
change m n (TellsRolledBack u) h = Stays (ap (λ y. y.h) h.1)
change m n (Commits u) h = Stays (ap (λ y. y.h) h.1)
change m n (TellsCommitted u) h = Stays (ap (λ y. y.h) h.1)
change m n Crashes h =
    Loses h.0 h.1 (λ t is. let s = survives_as m n t Committed h is in (s.1, s.0.1)) h.3
change m n (TellsLost u) h = Stays (ap (λ y. y.h) h.1)
change m n (IsRefused call refusal) h = Stays (ap (λ y. y.h) h.1)

-- of whoever committed are the entries that stand there, and so they stay
owns_on : (m n : Machine) (line : Line) (k : Bytes) (e : Entry) → Step m line n → IsOwned m k e → IsOwned n k e
owns_on h h2 line h3 h4 h5 owns stands on = grind (arith, nat_tests, committed_step)

each_on : (m n : Machine) (line : Line) (k : Bytes) (h : List Entry) → Step m line n → AllByRecursion (IsOwned m k) h
    → AllByRecursion (IsOwned n k) h
each_on m n line k [] step all = tt
each_on m n line k (e ∷ h) step all = (owns_on m n line k e step all.0, each_on m n line k h step all.1)

unmarked_before : (c b : Bool) → (c || b) ≡ false → c ≡ false
unmarked_before c b h = grind arith

owners_step : (m n : Machine) (line : Line) (k : Bytes) → Step m line n → IsLastAt m k → Change m n
    → AllByRecursion (IsOwned n k) n.h
owners_step h h2 line h3 h4 rest h5 =
    grind (arith, each_on, all_placed, marked_all, unmarked_before, fallen_all, true≢false)

spared_each : (m : Machine) (k : Bytes) (fell : ℕ → Bool) (bound : ℕ) (h : List Entry)
    → ((t : ℕ) → HasStatus m t Committed → (fell t ≡ false) × AreAllLeft bound t h) → AllByRecursion (IsOwned m k) h
    → AllByRecursion (IsSpared k fell bound) h
spared_each m k fell bound [] spared all = tt
spared_each m k fell bound (e ∷ h) spared all = (
  λ stands on. let own = spared e.txn (all.0 stands on).1 in (own.0, own.1.0 refl),
  spared_each m k fell bound h (λ t is. let own = spared t is in (own.0, own.1.1)) all.1,
)

spares_each : (m : Machine) (k : Bytes) (f : ℕ → ℕ → Bool) (h : List Entry)
    → ((t j : ℕ) → HasStatus m t Committed → f t j ≡ false) → AllByRecursion (IsOwned m k) h
    → AllByRecursion (λ e. e.crossed ≡ false → key_of e.op ≡ k → f e.txn e.number ≡ false) h
spares_each m k f [] spared all = tt
spares_each m k f (e ∷ h) spared all = grind (arith, spares_each m k f h spared all.1)

value_step : (m n : Machine) (k : Bytes) → IsLastAt m k → Change m n → value_in k n.h ≡ value_in k m.h
value_step h h2 h3 rest h4 = grind (arith, placed_value, marked_value, spares_each, fallen_value, spared_each)

-- whoever waits waits for an operation elsewhere
abbrev WaitsElsewhere : Bytes → Txn → Type 0
WaitsElsewhere k x = (j : ℕ) (o : Op) → x.status ≡ Waiting j o → key_of o ≢ k

abbrev WaitsNot : Status → Type 0
WaitsNot (Waiting j o) = ⊥
WaitsNot _ = Unit {0}

waits_not : (k : Bytes) (x : Txn) → WaitsNot x.status → WaitsElsewhere k x
waits_not k x idle j o e = absurd (subst WaitsNot e idle)

waits_with : (m n : Machine) (k : Bytes) (u : ℕ) (x : Txn) (g : List Entry) → IsLastAt m k → WaitsElsewhere k x
    → n ≡ record (with_txn m u x) { h = g }
    → (t : ℕ) → WaitsElsewhere k (n.txns t)
waits_with h h2 h3 u x g rest new is h4 = grind arith

still_with : (m n : Machine) (k : Bytes) (u : ℕ) (x : Txn) (g : List Entry) → IsLastAt m k → WaitsNot x.status
    → n ≡ record (with_txn m u x) { h = g }
    → (t : ℕ) → WaitsElsewhere k (n.txns t)
still_with m n k u x g rest idle is = waits_with m n k u x g rest (waits_not k x idle) is

falls_waits : (m : Machine) (bound t : ℕ) (new : Txn) → Falls m bound t new → WaitsNot new.status
falls_waits h h2 h3 new h4 = grind arith

stays_waits : (m : Machine) (t : ℕ) (s : Status) (new : Txn) → HasStatus m t s → new ≡ m.txns t → WaitsNot s
    → WaitsNot new.status
stays_waits m t s new is same idle = subst WaitsNot (sym (ap (λ x. x.status) same ∙ is)) idle

crash_waits : (m : Machine) (bound t : ℕ) (s : Status) (new : Txn) (fell : Bool) → HasStatus m t s
    → Survives m bound t s new fell
    → WaitsNot new.status
crash_waits h h2 h3 s new h4 is h5 = grind arith

waits_step : (m n : Machine) (line : Line) (k : Bytes) → Step m line n → ActsElsewhere k line → IsLastAt m k
    → (t : ℕ) → WaitsElsewhere k (n.txns t)
waits_step h h2 line h3 h4 off rest h5 = grind arith

values_in : (m n : Machine) (lines : List Line) (k : Bytes) → Steps m lines n → AllByRecursion (ActsElsewhere k) lines
    → IsLastAt m k
    → value_in k n.h ≡ value_in k m.h
values_in m n [] k steps off rest = ap (λ y. value_in k y.h) steps
values_in m n (line ∷ lines) k steps off rest =
    let next : IsLastAt steps.0 k = record {
      owners = owners_step m steps.0 line k steps.1 rest (change m steps.0 line steps.1);
      unasked = waits_step m steps.0 line k steps.1 off.0 rest;
    } in
    values_in steps.0 n lines k steps.2 off.1 next ∙ value_step m steps.0 k rest (change m steps.0 line steps.1)

pub values_last : ValuesLast
values_last h h2 lines h3 steps off rest = grind (arith, plain_value, values_in)
