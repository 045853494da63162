-- What holds of every number of a log, from what was read at each.
use Rattle.std.proofs.Common.{◌≡◌, ◌≢◌, ℕ, ◌+◌, ◌≤◌, ◌⊎◌, Bool, true, false, List, length, IsSome, is_some, refl, subst, arith, inl, inr, IsTrue, nat_eq, ◌↔◌, not}
use Rattle.std.specs.Prelude.{◌&&◌}
use Rattle.std.proofs.lemmas.Bool.{cases_eq, cases_Bool, and_parts}
use Rattle.record_key.specs.declared.op.Op.{Op}
use Rattle.record_key.specs.Table.{is_add}
use Rattle.history.specs.declared.record.Record.{Record}
use Rattle.history.specs.Log.{request_in}
use Rattle.history.specs.Legal.{IsIdle, IsKeyFree, IsLatest, IsLatestOrNone, AreAnswered}
use Rattle.log_laws.specs.Reading.{Waits, Blocks, LacksAnswer}
use Rattle.log_laws.proofs.Records.{IsNumber, within}
use Rattle.log_laws.proofs.LegalLogs.{op_number, request_number, step_number}
use Rattle.log_laws.proofs.Undo.{latest_as}

-- only numbers of the log wait, block or lack an answer
pub waits_number : (log : List Record) (t n : ℕ) → Waits log t n → IsNumber log n
waits_number log t n h = step_number log n t h.step

pub blocks_number : (log : List Record) (t : ℕ) (o : Op) (n : ℕ) → Blocks log t o n → IsNumber log n
blocks_number log t o n h = op_number log n h.txn h.op h.is_op

pub lacks_number : (log : List Record) (low n : ℕ) → LacksAnswer log low n → IsNumber log n
lacks_number log low n h = within (λ r. IsSome (request_in r)) (λ e. cc) log n h.requested

-- where none waits, the transaction is idle
pub idle_from : (log : List Record) (t : ℕ) → ((n : ℕ) → n ≤ length log → Waits log t n → ⊥) → IsIdle log t
idle_from log t none n o step asks = grind (arith, cases_Bool, is_some, step_number)

-- where none blocks, the key is free
pub free_from : (log : List Record) (t : ℕ) (o : Op) → ((n : ℕ) → n ≤ length log → Blocks log t o n → ⊥)
    → IsKeyFree log t o
free_from log t o none n u q is_op same goes_on =
    elim (cases_eq u t) [
      | inl e ↦ inl e
      | inr other ↦
          elim (cases_Bool (is_add o && is_add q)) [
            | inl both ↦ inr (and_parts (is_add o) (is_add q) both)
            | inr apart ↦ absurd (none n (op_number log n u q is_op).bounded (record {
              txn = u;
              op = q;
              is_op = is_op;
              same_key = same;
              apart = apart;
              is_open = goes_on;
              other = other;
            }))
          ]
    ]

-- where none lacks its answer, all are answered
pub answered_from : (log : List Record) (low : ℕ) → ((n : ℕ) → n ≤ length log → LacksAnswer log low n → ⊥)
    → AreAnswered log low
answered_from log low none n o below asks = grind (arith, cases_Bool, is_some, request_number)

-- the greatest of those read so far: of none, and of all
pub latest_none : (P : ℕ → Type 0) → (P 0 → ⊥) → IsLatestOrNone (λ n. P n × (n ≤ 0)) 0
latest_none P zero_is_none = inr (refl, λ m h. let e : m ≡ 0 = omega (arith, h.1) in zero_is_none (subst P e h.0))

-- the greatest of all, where none is above the size
pub latest_all : (P : ℕ → Type 0) (size x : ℕ) → ((n : ℕ) → P n → n ≤ size) → IsLatestOrNone (λ n. P n × (n ≤ size)) x
    → IsLatestOrNone P x
latest_all P size x bounded found = latest_as (λ n. P n × (n ≤ size)) P (λ n h. h.0) (λ n h. (h, bounded n h)) x found

-- and of one number more, which is one of them or isn't
pub latest_more : (P : ℕ → Type 0) (i x y : ℕ) (b : Bool) → IsLatestOrNone (λ n. P n × (n ≤ i)) x
    → ((b ≡ true → P (i + 1)) × (P (i + 1) → b ≡ true))
    → ((b ≡ true) × (y ≡ i + 1)) ⊎ ((b ≡ false) × (y ≡ x)) → IsLatestOrNone (λ n. P n × (n ≤ i + 1)) y
latest_more h i x y b found decides h2 = grind arith

-- a kind of numbers has one greatest
pub latest_unique : (P : ℕ → Type 0) (x y : ℕ) → IsLatestOrNone P x → IsLatestOrNone P y → x ≡ y
latest_unique h x y h2 h3 = grind arith

-- which, unless it is 0, is one of them
pub latest_some : (P : ℕ → Type 0) (x : ℕ) → x ≢ 0 → IsLatestOrNone P x → IsLatest P x
latest_some h x some h2 = grind arith

-- so a number is tested against the one that was found
pub is_the_latest : (P : ℕ → Type 0) (x y : ℕ) → IsLatestOrNone P x → IsTrue (nat_eq x y) ↔ IsLatestOrNone P y
is_the_latest h x y found = grind arith

-- the same where one is wanted
pub is_the_next : (P : ℕ → Type 0) (x y : ℕ) → y ≢ 0 → IsLatestOrNone P x → IsTrue (nat_eq x y) ↔ IsLatest P y
is_the_next h x y some found = grind arith

-- 0 is no greatest number
pub is_zero : (P : ℕ → Type 0) (y : ℕ) → y ≡ 0 → (P 0 → ⊥) → IsTrue (not (nat_eq y 0)) ↔ IsLatest P y
is_zero h y h2 zero_is_none = grind arith

-- 0 was found just where there is none
pub is_none : (P : ℕ → Type 0) (x : ℕ) → (P 0 → ⊥) → IsLatestOrNone P x → IsTrue (nat_eq x 0) ↔ ((n : ℕ) → P n → ⊥)
is_none h x zero_is_none h2 = grind arith
