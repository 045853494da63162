-- What a crash keeps of a log, by how many bytes its first records have.
use Rattle.std.proofs.Common.{◌≡◌, ℕ, ◌+◌, ◌-◌, ◌<◌, ◌≤◌, List, ◌++◌, length, take, drop, refl, sym, ap, ◌∙◌, append_assoc, arith, inl, inr}
use Rattle.std.proofs.lemmas.Bool.{cases_lt, lt-ltb, le-ltb}
use Rattle.std.proofs.lemmas.List.{length-append, length-take-le, take-append-drop}
use Rattle.stable.specs.Crash.{MayLeave}
use Rattle.node_laws.specs.Component.{lesser, bytes_left, Keeps}

-- ---- the lesser of two

first_least : (a b : ℕ) → a ≤ b → lesser a b ≡ a
first_least a b le =
    elim (cases_lt a b) [
      | inl less ↦ rw (lt-ltb a b less) refl
      | inr not ↦ rw (le-ltb a b not) (omega (arith, le, not))
    ]

second_least : (a b : ℕ) → b ≤ a → lesser a b ≡ b
second_least a b le = rw (le-ltb a b le) refl

pub lesser_next : (a n : ℕ) → lesser (lesser a n + 1) n ≡ lesser (a + 1) n
lesser_next a n =
    elim (cases_lt a n) [
      | inl less ↦ rw (first_least a n (omega (arith, less))) refl
      | inr not ↦
          let is : lesser a n ≡ n = second_least a n not in
          second_least (lesser a n + 1) n (omega (arith, is)) ∙ sym (second_least (a + 1) n (omega (arith, not)))
    ]

-- it is at most each of them, and at least what both are
pub lesser_first : (a b : ℕ) → lesser a b ≤ a
lesser_first a b =
    elim (cases_lt a b) [
      | inl less ↦ let is = first_least a b (omega (arith, less)) in omega (arith, is)
      | inr not ↦ let is = second_least a b not in omega (arith, is, not)
    ]

pub lesser_second : (a b : ℕ) → lesser a b ≤ b
lesser_second a b =
    elim (cases_lt a b) [
      | inl less ↦ let is = first_least a b (omega (arith, less)) in omega (arith, is, less)
      | inr not ↦ let is = second_least a b not in omega (arith, is)
    ]

pub lesser_above : (n a b : ℕ) → n ≤ a → n ≤ b → n ≤ lesser a b
lesser_above n a b one other =
    elim (cases_lt a b) [
      | inl less ↦ let is = first_least a b (omega (arith, less)) in omega (arith, is, one)
      | inr not ↦ let is = second_least a b not in omega (arith, is, other)
    ]

-- ---- how many bytes are left, where more records have no fewer bytes

module _ (size : ℕ → ℕ) (grows : (m n : ℕ) → m ≤ n → size m ≤ size n) (stable records more bytes : ℕ) where
  -- those of the stable records are
  pub left_stable : stable ≤ records → size stable ≤ bytes_left size stable records more bytes
  left_stable le =
      let some = grows stable (lesser (stable + more) records)
      (lesser_above stable (stable + more) records (omega arith) le) in
      lesser_above (size stable) (size (lesser (stable + more) records) + bytes)
      (size (lesser (stable + more + 1) records)) (omega (arith, some))
      (grows stable (lesser (stable + more + 1) records)
      (lesser_above stable (stable + more + 1) records (omega arith) le))

  -- and no more than the log has
  pub left_within : bytes_left size stable records more bytes ≤ size records
  left_within =
      let some = lesser_second (size (lesser (stable + more) records) + bytes)
      (size (lesser (stable + more + 1) records)) in
      let all = grows (lesser (stable + more + 1) records) records (lesser_second (stable + more + 1) records) in
      omega (arith, some, all)

-- what is to be kept, so that so many bytes are left, where more records have no fewer bytes: those that are whole in them,
-- and what is left of them for the next one
pub part_left : (size : ℕ → ℕ) → ((m n : ℕ) → m ≤ n → size m ≤ size n) → (stable n records kept : ℕ) → stable ≤ n
    → size n ≤ size stable + kept → n < records → size stable + kept < size (n + 1)
    → bytes_left size stable records (n - stable) (kept - (size n - size stable))
    ≡ lesser (size stable + kept) (size records)
part_left size grows stable n records kept from within some next =
    let same : stable + (n - stable) ≡ n = omega (arith, from) in
    let first : lesser (stable + (n - stable)) records ≡ n =
    ap (λ m. lesser m records) same ∙ first_least n records (omega (arith, some)) in
    let second : lesser (stable + (n - stable) + 1) records ≡ n + 1 =
    ap (λ m. lesser (m + 1) records) same ∙ first_least (n + 1) records (omega (arith, some)) in
    let total : size n + (kept - (size n - size stable)) ≡ size stable + kept =
    omega (arith, within, grows stable n from) in
    (λ i. lesser (size (first i) + (kept - (size n - size stable))) (size (second i)))
    ∙ ap (λ x. lesser x (size (n + 1))) total
    ∙ first_least (size stable + kept) (size (n + 1)) (omega (arith, next))
    ∙ sym (first_least (size stable + kept) (size records)
    (omega (arith, next, grows (n + 1) records (omega (arith, some)))))

-- so many records are whole in so many bytes
pub keeps_of : (size : ℕ → ℕ) (stable records more bytes left n : ℕ) → left ≡ bytes_left size stable records more bytes
    → stable ≤ n → n ≤ records → size n ≤ left → ((m : ℕ) → m ≤ records → size m ≤ left → m ≤ n)
    → Keeps size stable records more bytes n
keeps_of size stable records more bytes left n is least within whole most = record {
  stable = least;
  within = within;
  whole = omega (arith, whole, is);
  most = λ m le fits. most m le (omega (arith, fits, is));
}

-- of the pending bytes as many are taken as are wanted
pub cut_to : (kept : ℕ) (forced pending : List ℕ) → length forced ≤ kept → kept ≤ length forced + length pending
    → length (forced ++ take (kept - length forced) pending) ≡ kept
cut_to kept forced pending low high =
    let parts = length-append forced (take (kept - length forced) pending) in
    let taken = length-take-le (kept - length forced) pending (omega (arith, low, high)) in
    omega (arith, parts, taken, low)

-- ---- what is kept of the pending bytes

pub may_leave : (forced pending : List ℕ) (kept : ℕ) → MayLeave forced pending (forced ++ take kept pending)
may_leave forced pending kept = record {
  beginning = (
    drop kept pending,
    ap (λ p. forced ++ p) (sym (take-append-drop kept pending))
        ∙ sym (append_assoc forced (take kept pending) (drop kept pending)),
  );
  has_forced = (take kept pending, refl);
}
