-- Keys and answers are read where they were packed, also when more follow or some are dropped.
use Rattle.std.proofs.Common.{◌≡◌, ℕ, Bool, filter, zero, suc, ◌<◌, ◌≤◌, ◌+◌, List, [], ◌∷◌, ◌++◌, length, take, drop, get_or, Some, None, refl, sym, ap, ◌∙◌, subst, arith}
use Rattle.std.specs.Prelude.{map}
use Rattle.std.specs.List.{AllByRecursion, insert}
use Rattle.std.specs.List.Retain.{RetainsInTurn}
use Rattle.std.proofs.Math.Seq.{take-append_seam}
use Rattle.std.proofs.lemmas.List.{length-append, length-drop, drop_at, drop-append-le, take-append-le, take_all, get_or_append_left}
use Rattle.record_key.specs.Table.{Bytes}
use Rattle.record_key.specs.declared.op.Answer.{Answer}
use Rattle.record_key.specs.declared.op.Answer.TheVariants.{Inserted, Updated, Was, Deleted, Exists, NoRecord, NotNumber, Added}
use Rattle.record_key.specs.declared.entry.Entry.{Entry}
use Rattle.record_key.specs.declared.slot.Slot.{Slot}
use Rattle.record_key.specs.Packed.{kind_of, value_told, answer_from, packed, key_len, value_len, key_at, packed_answer, IsPacked, HasLengths, HasAmount, entry_in, IsFilled}
use Rattle.record_key.proofs.Amounts.{amount_again, amount_length}
use Rattle.record_key.proofs.Lists.{all_from}
use Rattle.record_key.proofs.Kept.{retained, all_filtered, map-filtered}

answer_again : (a : Answer) → HasAmount a → answer_from (kind_of a) (value_told a) ≡ a
answer_again Inserted h = refl
answer_again (Updated value) h = refl
answer_again (Was None) h = refl
answer_again (Was (Some value)) h = refl
answer_again (Deleted value) h = refl
answer_again Exists h = refl
answer_again NoRecord h = refl
answer_again NotNumber h = refl
answer_again (Added amount) h = ap Added (amount_again amount h)

-- only an Added is of kind 9, and it has eight bytes
amount_eight : (a : Answer) → kind_of a ≡ 9 → length (value_told a) ≡ 8
amount_eight Inserted h = absurd (omega arith)
amount_eight (Updated value) h = absurd (omega arith)
amount_eight (Was None) h = absurd (omega arith)
amount_eight (Was (Some value)) h = absurd (omega arith)
amount_eight (Deleted value) h = absurd (omega arith)
amount_eight Exists h = absurd (omega arith)
amount_eight NoRecord h = absurd (omega arith)
amount_eight NotNumber h = absurd (omega arith)
amount_eight (Added amount) h = amount_length amount

-- ---- more bytes

module _ (bytes more : List ℕ) (place : ℕ) (h : IsPacked bytes place) where
  abbrev tail : List ℕ
  tail = drop place bytes

  starts : place ≤ length bytes
  starts = omega (arith, h.within, length-drop place bytes)

  tail_more : drop place (bytes ++ more) ≡ tail ++ more
  tail_more = drop-append-le place bytes more starts

  same_head : (i : ℕ) → i < 3 → get_or (drop place (bytes ++ more)) i 0 ≡ get_or tail i 0
  same_head i lt = ap (λ (t : List ℕ). get_or t i 0) tail_more
      ∙ get_or_append_left tail more 0 i (omega (arith, lt, h.within))

  -- a part that lies within stays
  same_part : (from len : ℕ) → from + len ≤ length tail
      → take len (drop from (drop place (bytes ++ more))) ≡ take len (drop from tail)
  same_part from len le =
      ap (λ (t : List ℕ). take len (drop from t)) tail_more
      ∙ ap (take len) (drop-append-le from tail more (omega (arith, le)))
      ∙ take-append-le len (drop from tail) more (omega (arith, le, length-drop from tail))

  key_still : key_at (bytes ++ more) place ≡ key_at bytes place
  unfolding key_at
  key_still = ap (λ (n : ℕ). take n (drop 3 (drop place (bytes ++ more)))) (same_head 0 (omega arith))
      ∙ same_part 3 (key_len bytes place) (omega (arith, h.within))

  answer_still : packed_answer (bytes ++ more) place ≡ packed_answer bytes place
  unfolding packed_answer
  answer_still =
      rw (same_head 0 (omega arith), same_head 1 (omega arith), same_head 2 (omega arith))
      (ap (answer_from (get_or tail 1 0))
      (same_part (3 + key_len bytes place) (value_len bytes place) (omega (arith, h.within))))

  packed_still : IsPacked (bytes ++ more) place
  packed_still =
      let longer : length (drop place (bytes ++ more)) ≡ length tail + length more =
      ap length tail_more ∙ length-append tail more in
      let key = same_head 0 (omega arith) in
      let value = same_head 2 (omega arith) in
      record {
        some_key = omega (arith, key, h.some_key);
        short_key = omega (arith, key, h.short_key);
        short_value = omega (arith, value, h.short_value);
        amount = λ nine. value ∙ h.amount (sym (same_head 1 (omega arith)) ∙ nine);
        within = omega (arith, key, value, h.within, longer);
      }

all_still : (bytes more : List ℕ) (slots : List Slot) → AllByRecursion (IsFilled bytes) slots
    → AllByRecursion (IsFilled (bytes ++ more)) slots
all_still bytes more = all_from (IsFilled bytes) (IsFilled (bytes ++ more))
    (λ slot h. packed_still bytes more slot.place h)

same_entries : (bytes more : List ℕ) (slots : List Slot) → AllByRecursion (IsFilled bytes) slots
    → map (entry_in (bytes ++ more)) slots ≡ map (entry_in bytes) slots
same_entries bytes more [] all = refl
same_entries bytes more (slot ∷ slots) all = λ i.
    record {
      number = slot.number;
      key = key_still bytes more slot.place all.0 i;
      answer = answer_still bytes more slot.place all.0 i;
    } ∷ same_entries bytes more slots all.1 i

-- ---- one entry more

module _ (bytes : List ℕ) (key : Bytes) (answer : Answer) (h : HasLengths key answer) where
  abbrev longer : List ℕ
  longer = bytes ++ packed key answer

  newest : drop (length bytes) longer ≡ packed key answer
  newest = drop_at bytes (packed key answer) (length bytes) refl

  key_newest : key_at longer (length bytes) ≡ key
  unfolding key_at packed
  key_newest = rw newest (take-append_seam key (value_told answer))

  answer_newest : packed_answer longer (length bytes) ≡ answer
  unfolding packed_answer packed
  answer_newest =
      let three : 3 + length key ≡ suc (suc (suc (length key))) = omega arith in
      ap (λ (t : List ℕ). answer_from (get_or t 1 0) (take (get_or t 2 0) (drop (3 + get_or t 0 0) t))) newest
      ∙ ap (λ (n : ℕ). answer_from (kind_of answer) (take (length (value_told answer)) (drop n (packed key answer)))) three
      ∙ ap (λ (v : Bytes). answer_from (kind_of answer) (take (length (value_told answer)) v))
      (drop_at key (value_told answer) (length key) refl)
      ∙ ap (answer_from (kind_of answer)) (take_all (length (value_told answer)) (value_told answer) (omega arith))
      ∙ answer_again answer h.amount

  packed_newest : IsPacked longer (length bytes)
  unfolding packed
  packed_newest =
      let lengths = length-append key (value_told answer) in
      let all : length (drop (length bytes) longer) ≡ suc (suc (suc (length (key ++ value_told answer)))) =
      ap length newest in
      let first : key_len longer (length bytes) ≡ length key = ap (λ (t : List ℕ). get_or t 0 0) newest in
      let second : get_or (drop (length bytes) longer) 1 0 ≡ kind_of answer =
      ap (λ (t : List ℕ). get_or t 1 0) newest in
      let third : value_len longer (length bytes) ≡ length (value_told answer) =
      ap (λ (t : List ℕ). get_or t 2 0) newest in
      record {
        some_key = omega (arith, first, h.some_key);
        short_key = omega (arith, first, h.short_key);
        short_value = omega (arith, third, h.short_value);
        amount = λ nine. third ∙ amount_eight answer (sym second ∙ nine);
        within = omega (arith, first, third, all, lengths);
      }

all_inserted : {X : Type 0} (P : X → Type 0) (xs : List X) (i : ℕ) (x : X) → AllByRecursion P xs → P x
    → AllByRecursion P (insert xs i x)
all_inserted P [] zero x all new = (new, tt)
all_inserted P [] (suc i) x all new = (new, tt)
all_inserted P (y ∷ ys) zero x all new = (new, all)
all_inserted P (y ∷ ys) (suc i) x all new = (all.0, all_inserted P ys i x all.1 new)

map-inserted : {X Y : Type 0} (f : X → Y) (xs : List X) (i : ℕ) (x : X)
    → map f (insert xs i x) ≡ insert (map f xs) i (f x)
map-inserted f [] zero x = refl
map-inserted f [] (suc i) x = refl
map-inserted f (y ∷ ys) zero x = refl
map-inserted f (y ∷ ys) (suc i) x = ap (λ zs. f y ∷ zs) (map-inserted f ys i x)

module _ (bytes : List ℕ) (slots : List Slot) (all : AllByRecursion (IsFilled bytes) slots) (at number place : ℕ)
    (ends : place ≡ length bytes) (key : Bytes) (answer : Answer) (h : HasLengths key answer) where
  abbrev slot : Slot
  slot = record { number = number; place = place }

  abbrev entry : Entry
  entry = record { number = number; key = key; answer = answer }

  pub put_filled : AllByRecursion (IsFilled (bytes ++ packed key answer)) (insert slots at slot)
  put_filled = all_inserted (IsFilled (bytes ++ packed key answer)) slots at slot
      (all_still bytes (packed key answer) slots all)
      (subst (IsPacked (bytes ++ packed key answer)) (sym ends) (packed_newest bytes key answer h))

  pub put_listed : map (entry_in (bytes ++ packed key answer)) (insert slots at slot)
      ≡ insert (map (entry_in bytes) slots) at entry
  put_listed = map-inserted (entry_in (bytes ++ packed key answer)) slots at slot
      ∙ (λ i. insert (same_entries bytes (packed key answer) slots all i) at (record {
        number = number;
        key = (ap (key_at (bytes ++ packed key answer)) ends ∙ key_newest bytes key answer h) i;
        answer = (ap (packed_answer (bytes ++ packed key answer)) ends ∙ answer_newest bytes key answer h) i;
      }))

-- ---- fewer entries

pub dropped : {F : Type 0} (bytes : List ℕ) (test : Entry → Bool) (R : F → Slot → Bool → F → Slot → Type 0) (f : F)
    → ((s : Slot) (b : Bool) (g : F) (t : Slot) → IsFilled bytes s → R f s b g t
    → (b ≡ test (entry_in bytes s)) × (g ≡ f) × (t ≡ s))
    → (slots left : List Slot) → AllByRecursion (IsFilled bytes) slots → RetainsInTurn R f slots left
    → AllByRecursion (IsFilled bytes) left × (map (entry_in bytes) left ≡ filter test (map (entry_in bytes) slots))
dropped bytes test R f says slots left all kept =
    let on_slots : Slot → Bool = λ s. test (entry_in bytes s) in
    let are : left ≡ filter on_slots slots = retained R (IsFilled bytes) on_slots f says slots left all kept in (
      subst (AllByRecursion (IsFilled bytes)) (sym are) (all_filtered (IsFilled bytes) on_slots slots all),
      ap (map (entry_in bytes)) are ∙ map-filtered (entry_in bytes) test slots,
    )
