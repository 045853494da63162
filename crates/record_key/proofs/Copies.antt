-- What entries take of a buffer, and that their copies take no more.
use Rattle.std.proofs.Common.{◌≡◌, ℕ, zero, suc, ◌+◌, ◌<◌, ◌≤◌, ◌==◌, Bool, true, false, List, [], ◌∷◌, length, take, drop, get_or, refl, ◌∙◌, arith}
use Rattle.std.specs.Prelude.{Some, None, if◌then◌else◌}
use Rattle.std.specs.List.{AllByRecursion}
use Rattle.std.proofs.lemmas.List.{length-append, length-drop, length-take}
use Rattle.std.proofs.lemmas.Bool.{eqb-true}
use Rattle.record_key.specs.Amounts.{amount_in}
use Rattle.record_key.specs.Compacting.{packed_len}
use Rattle.record_key.specs.Packed.{value_told, answer_from, packed, key_len, value_len, key_at, packed_answer, IsPacked}
use Rattle.record_key.specs.Table.{Bytes}
use Rattle.record_key.specs.declared.op.Answer.{Answer}
use Rattle.record_key.specs.declared.op.Answer.TheVariants.{Inserted, Updated, Was, Deleted, Exists, NoRecord, NotNumber, Added}
use Rattle.record_key.proofs.Amounts.{amount_length}

-- what holds of all items holds of each
pub each : {X : Type 0} (P : X → Type 0) (xs : List X) (i : ℕ) (d : X) → AllByRecursion P xs → i < length xs
    → P (get_or xs i d)
each P [] i d all inside = absurd (omega (arith, inside))
each P (x ∷ xs) zero d all inside = all.0
each P (x ∷ xs) (suc i) d all inside = each P xs i d all.1 (omega (arith, inside))

either : (b : Bool) (x y : Answer) (n : ℕ) → length (value_told x) ≤ n → length (value_told y) ≤ n
    → length (value_told (if b then x else y)) ≤ n
either true x y n first second = first
either false x y n first second = second

added : (b : Bool) (value : Bytes) → (b ≡ true → length value ≡ 8)
    → length (value_told (if b then Added (amount_in value) else NoRecord)) ≤ length value
added true value eight = omega (arith, eight refl, amount_length (amount_in value))
added false value eight = omega arith

-- an answer tells no more than the bytes that it is read from
told : (kind : ℕ) (value : Bytes) → (kind ≡ 9 → length value ≡ 8)
    → length (value_told (answer_from kind value)) ≤ length value
told kind value eight =
    let n = length value in
    let none : 0 ≤ n = omega arith in
    let whole : n ≤ n = omega arith in
    either (kind == 1) Inserted _ n none
    (either (kind == 2) (Updated value) _ n whole
    (either (kind == 3) (Was None) _ n none
    (either (kind == 4) (Was (Some value)) _ n whole
    (either (kind == 5) (Deleted value) _ n whole
    (either (kind == 6) Exists _ n none
    (either (kind == 8) NotNumber _ n none
    (added (kind == 9) value (λ is. eight (eqb-true kind 9 is)))))))))

module _ (bytes : List ℕ) (place : ℕ) (h : IsPacked bytes place) where
  abbrev tail : List ℕ
  tail = drop place bytes

  -- a copy takes no more than what it is a copy of
  pub no_longer : length (packed (key_at bytes place) (packed_answer bytes place)) ≤ packed_len bytes place
  unfolding packed key_at packed_answer
  no_longer =
      let kind = get_or tail 1 0 in
      let from = drop (3 + key_len bytes place) tail in
      let value = take (value_len bytes place) from in
      let key = take (key_len bytes place) (drop 3 tail) in
      let value_len_is : length value ≡ value_len bytes place = omega (arith, h.within, length-take (value_len bytes place) from, length-drop (3 + key_len bytes place) tail) in
      omega (arith, told kind value (λ nine. value_len_is ∙ h.amount nine), value_len_is, length-append key (value_told (answer_from kind value)), length-take (key_len bytes place) (drop 3 tail))
