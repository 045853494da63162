-- Adds commute: they leave the same in either order, and none changes what another is answered.
use Rattle.std.proofs.Common.{◌≡◌, ℕ, ◌+◌, ◌-◌, ◌%◌, ◌^◌, ◌<◌, true, false, Option, Some, None, refl, sym, ap, ◌∙◌, arith, inl, inr, true≢false}
use Rattle.std.proofs.Math.Nat.{mod-lt}
use Rattle.std.proofs.lemmas.Bool.{cases_Bool}
use Rattle.record_key.specs.declared.op.Op.{Op}
use Rattle.record_key.specs.declared.op.Op.TheVariants.{Insert, Update, Upsert, Delete, Add}
use Rattle.record_key.specs.declared.op.Answer.TheVariants.{Added}
use Rattle.record_key.specs.Amounts.{amount_bytes, amount_in, is_number, summed, negated}
use Rattle.record_key.specs.Table.{Bytes, is_add, add_answer, add_value, answer_at, value_after}
use Rattle.record_key.specs.Laws.{AddsCommute}
use Rattle.record_key.proofs.Amounts.{amount_again, is_number-amount, amount_below, amount_spelled}

-- the sum, where the value is a number and where it isn't
pub summed_number : (v : Bytes) (x : ℕ) → is_number v ≡ true
    → summed v x ≡ Some (amount_bytes ((amount_in v + x) % 2 ^ 64))
unfolding summed
summed_number v x h = rw h refl

pub summed_none : (v : Bytes) (x : ℕ) → is_number v ≡ false → summed v x ≡ None
unfolding summed
summed_none v x h = rw h refl

-- a sum is a number too, and one amount after the other is both
pub summed_twice : (v : Bytes) (x y : ℕ) → is_number v ≡ true
    → summed (amount_bytes ((amount_in v + x) % 2 ^ 64)) y ≡ Some (amount_bytes ((amount_in v + (x + y)) % 2 ^ 64))
summed_twice v x y h =
    let sum : ℕ = (amount_in v + x) % 2 ^ 64 in
    let fits : sum < 2 ^ 64 = mod-lt (amount_in v + x) (omega arith) in
    let read : amount_in (amount_bytes sum) ≡ sum = amount_again sum fits in
    summed_number (amount_bytes sum) y (is_number-amount sum)
    ∙ ap (λ (n : ℕ). Some (amount_bytes n)) (omega (arith, read))

-- an amount and what takes it back leave the value
pub summed_back : (v : Bytes) (x : ℕ) → is_number v ≡ true
    → amount_bytes ((amount_in v + (x + negated x)) % 2 ^ 64) ≡ v
unfolding negated
summed_back v x h =
    let below : amount_in v < 2 ^ 64 = amount_below v h in
    let e : (amount_in v + (x + (2 ^ 64 - x % 2 ^ 64) % 2 ^ 64)) % 2 ^ 64 ≡ amount_in v = omega (arith, below) in
    ap amount_bytes e ∙ amount_spelled v h

-- what an Add leaves of a value: another number, or the value
pub value_number : (k v : Bytes) (x : ℕ) → is_number v ≡ true
    → value_after (Add k x) (Some v) ≡ Some (amount_bytes ((amount_in v + x) % 2 ^ 64))
value_number k v x h = ap (λ s. Some (add_value v s)) (summed_number v x h)

pub value_none : (k v : Bytes) (x : ℕ) → is_number v ≡ false → value_after (Add k x) (Some v) ≡ Some v
value_none k v x h = ap (λ s. Some (add_value v s)) (summed_none v x h)

-- an operation that is an Add is one of a key and an amount
abbrev OfAdd : (Op → Type 0) → Op → Type 0
OfAdd P o = ((k : Bytes) (x : ℕ) → P (Add k x)) → P o

add_form : (P : Op → Type 0) (o : Op) → is_add o ≡ true → OfAdd P o
add_form P (Add k x) h each = each k x
add_form P _ h each = absurd (true≢false (sym h))

commutes : (k l : Bytes) (x y : ℕ) (r : Option Bytes)
    → value_after (Add k x) (value_after (Add l y) r) ≡ value_after (Add l y) (value_after (Add k x) r)
commutes k l x y None = refl
commutes k l x y (Some v) =
    elim (cases_Bool (is_number v)) [
      | inl h ↦ one k l x y h ∙ ap (λ (n : ℕ). Some (amount_bytes ((amount_in v + n) % 2 ^ 64))) (omega arith)
          ∙ sym (one l k y x h)
      | inr h ↦ ap (value_after (Add k x)) (value_none l v y h) ∙ value_none k v x h
          ∙ sym (ap (value_after (Add l y)) (value_none k v x h) ∙ value_none l v y h)
    ]
  where
    one : (k l : Bytes) (x y : ℕ) → is_number v ≡ true
        → value_after (Add k x) (value_after (Add l y) (Some v))
        ≡ Some (amount_bytes ((amount_in v + (y + x)) % 2 ^ 64))
    one k l x y h =
        let w : Bytes = amount_bytes ((amount_in v + y) % 2 ^ 64) in
        ap (value_after (Add k x)) (value_number l v y h) ∙ ap (λ s. Some (add_value w s)) (summed_twice v y x h)

answers : (k l : Bytes) (x y : ℕ) (r : Option Bytes)
    → answer_at (Add k x) (value_after (Add l y) r) ≡ answer_at (Add k x) r
answers k l x y None = refl
answers k l x y (Some v) =
    elim (cases_Bool (is_number v)) [
      | inl h ↦ ap (answer_at (Add k x)) (value_number l v y h) ∙ ap (add_answer x) (summed_twice v y x h)
          ∙ sym (ap (add_answer x) (summed_number v x h))
      | inr h ↦ ap (answer_at (Add k x)) (value_none l v y h)
    ]

-- an Add is taken back by an Add, which finds a number
pub added_back : (k v : Bytes) (x : ℕ) → is_number v ≡ true
    → value_after (Add k (negated x)) (value_after (Add k x) (Some v)) ≡ Some v
added_back k v x h =
    let w : Bytes = amount_bytes ((amount_in v + x) % 2 ^ 64) in
    ap (value_after (Add k (negated x))) (value_number k v x h)
    ∙ ap (λ s. Some (add_value w s)) (summed_twice v x (negated x) h) ∙ ap Some (summed_back v x h)

pub added_answer : (k v : Bytes) (x y : ℕ) → is_number v ≡ true
    → answer_at (Add k y) (value_after (Add k x) (Some v)) ≡ Added y
added_answer k v x y h = ap (answer_at (Add k y)) (value_number k v x h) ∙ ap (add_answer y) (summed_twice v x y h)

pub adds_commute : AddsCommute
adds_commute = record {
  value = λ o q r both.
      add_form (λ a. value_after a (value_after q r) ≡ value_after q (value_after a r)) o both.0 (λ l x.
      add_form (λ b. value_after (Add l x) (value_after b r) ≡ value_after b (value_after (Add l x) r)) q both.1
      (λ p y. commutes l p x y r));
  answer = λ o q r both.
      add_form (λ a. answer_at a (value_after q r) ≡ answer_at a r) o both.0 (λ l x.
      add_form (λ b. answer_at (Add l x) (value_after b r) ≡ answer_at (Add l x) r) q both.1 (λ p y. answers l p x y r));
}

-- two values of which an Add sees the same: both are absent, both numbers, or both neither
abbrev pub SeenAlike : Option Bytes → Option Bytes → Type 0
SeenAlike None None = Unit {0}
SeenAlike None (Some w) = ⊥
SeenAlike (Some v) None = ⊥
SeenAlike (Some v) (Some w) = is_number v ≡ is_number w

pub seen_same : (v : Option Bytes) → SeenAlike v v
seen_same None = tt
seen_same (Some v) = refl

seen_back : (v w : Option Bytes) → SeenAlike v w → SeenAlike w v
seen_back None None h = tt
seen_back None (Some w) h = absurd h
seen_back (Some v) None h = absurd h
seen_back (Some v) (Some w) h = sym h

-- an Add leaves a number of a number
still_number : (v : Bytes) (x : ℕ) → is_number (add_value v (summed v x)) ≡ is_number v
still_number v x =
    elim (cases_Bool (is_number v)) [
      | inl h ↦ ap (λ s. is_number (add_value v s)) (summed_number v x h)
          ∙ is_number-amount ((amount_in v + x) % 2 ^ 64) ∙ sym h
      | inr h ↦ ap (λ s. is_number (add_value v s)) (summed_none v x h)
    ]

seen_sum : (k : Bytes) (x : ℕ) (v w : Option Bytes) → SeenAlike v w → SeenAlike (value_after (Add k x) v) w
seen_sum k x None w h = h
seen_sum k x (Some v) None h = h
seen_sum k x (Some v) (Some w) h = still_number v x ∙ h

pub seen_left : (o : Op) (v w : Option Bytes) → is_add o ≡ true → SeenAlike v w → SeenAlike (value_after o v) w
seen_left o v w add h = add_form (λ a. SeenAlike (value_after a v) w) o add (λ k x. seen_sum k x v w h)

pub seen_right : (o : Op) (v w : Option Bytes) → is_add o ≡ true → SeenAlike v w → SeenAlike v (value_after o w)
seen_right o v w add h = seen_back (value_after o w) v (seen_left o w v add (seen_back v w h))

-- what any operation leaves of them is seen alike
pub seen_after : (o : Op) (v w : Option Bytes) → SeenAlike v w → SeenAlike (value_after o v) (value_after o w)
seen_after o None None h = seen_same (value_after o None)
seen_after o None (Some w) h = absurd h
seen_after o (Some v) None h = absurd h
seen_after (Insert k new) (Some v) (Some w) h = h
seen_after (Update k new) (Some v) (Some w) h = refl
seen_after (Upsert k new) (Some v) (Some w) h = refl
seen_after (Delete k) (Some v) (Some w) h = tt
seen_after (Add k x) (Some v) (Some w) h = still_number v x ∙ h ∙ sym (still_number w x)

-- and an Add is answered alike
seen_answer : (k : Bytes) (x : ℕ) (v w : Option Bytes) → SeenAlike v w → answer_at (Add k x) v ≡ answer_at (Add k x) w
seen_answer k x None None h = refl
seen_answer k x None (Some w) h = absurd h
seen_answer k x (Some v) None h = absurd h
seen_answer k x (Some v) (Some w) h =
    elim (cases_Bool (is_number w)) [
      | inl number ↦ ap (add_answer x) (summed_number v x (h ∙ number)) ∙ sym (ap (add_answer x) (summed_number w x number))
      | inr none ↦ ap (add_answer x) (summed_none v x (h ∙ none)) ∙ sym (ap (add_answer x) (summed_none w x none))
    ]

pub answered_alike : (o : Op) (v w : Option Bytes) → is_add o ≡ true → SeenAlike v w → answer_at o v ≡ answer_at o w
answered_alike o v w add h = add_form (λ a. answer_at a v ≡ answer_at a w) o add (λ k x. seen_answer k x v w h)
