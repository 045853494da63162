-- An operation, others on other keys, and then the inverse.
use Rattle.std.proofs.Common.{◌≡◌, ◌≢◌, List, [], ◌∷◌, false, Option, Some, None, refl, sym, ap, ◌∙◌, subst, inl, inr, true≢false}
use Rattle.std.proofs.lemmas.Bool.{cases_Bool}
use Rattle.std.specs.FinMap.{get}
use Rattle.record_key.specs.declared.op.Op.{Op}
use Rattle.record_key.specs.declared.op.Op.TheVariants.{Insert, Update, Upsert, Delete, Add}
use Rattle.record_key.specs.declared.op.Answer.{Answer}
use Rattle.record_key.specs.declared.op.Answer.TheVariants.{Inserted, Updated, Was, Deleted, Exists, NoRecord, NotNumber, Added}
use Rattle.record_key.specs.Amounts.{is_number, negated}
use Rattle.record_key.specs.Table.{Bytes, Table, key_of, is_add, AreAdds, add_answer, answer_in, after, answer_at, value_after, with_record}
use Rattle.record_key.proofs.Tables.{is_same, is_same-true, is_same-refl, with_record-again, with_record-there, with_record-swap, get-with_record_same, get-with_record_other}
use Rattle.record_key.proofs.Adds.{summed_number, summed_none, value_none, added_back, added_answer, adds_commute}
use Rattle.inverse.specs.Inverse.{undo_of, inverse_of, IsEffective, after_all, answers_in, PassBy, AllPassBy, Undone, WithoutEffect}

-- at the key alone: the inverse is on it, an Add just where the operation is one, puts back what stood there, and
-- does something
pub record PutsBack (o i : Op) (r : Option Bytes) : Type 0 where
  pub key : key_of i ≡ key_of o
  pub adds : is_add i ≡ is_add o
  pub value : value_after i (value_after o r) ≡ r
  pub effective : IsEffective (answer_at i (value_after o r))

-- what an inverse does, or where there is none, that nothing was done
abbrev pub Outcome : Op → Option Bytes → Option Op → Type 0
Outcome o r (Some i) = PutsBack o i r
Outcome o r None = value_after o r ≡ r

pub outcome : (o : Op) (r : Option Bytes) → Outcome o r (inverse_of o (answer_at o r))
outcome (Insert k v) None = record { key = refl; adds = refl; value = refl; effective = tt }
outcome (Insert k v) (Some old) = refl
outcome (Update k v) None = refl
outcome (Update k v) (Some old) = record { key = refl; adds = refl; value = refl; effective = tt }
outcome (Upsert k v) None = record { key = refl; adds = refl; value = refl; effective = tt }
outcome (Upsert k v) (Some old) = record { key = refl; adds = refl; value = refl; effective = tt }
outcome (Delete k) None = refl
outcome (Delete k) (Some old) = record { key = refl; adds = refl; value = refl; effective = tt }
outcome (Add k x) None = refl
outcome (Add k x) (Some v) =
    elim (cases_Bool (is_number v)) [
      | inl number ↦ subst (λ s. Outcome (Add k x) (Some v) (undo_of k (add_answer x s)))
          (sym (summed_number v x number)) (record {
            key = refl;
            adds = refl;
            value = added_back k v x number;
            effective = subst IsEffective (sym (added_answer k v x (negated x) number)) tt;
          })
      | inr none ↦ subst (λ s. Outcome (Add k x) (Some v) (undo_of k (add_answer x s)))
          (sym (summed_none v x none)) (value_none k v x none)
    ]

puts_back : (o i : Op) (r : Option Bytes) → inverse_of o (answer_at o r) ≡ Some i → PutsBack o i r
puts_back o i r h = let P : Option Op → Type 0 = Outcome o r in subst P h (outcome o r)

pub without_effect : WithoutEffect
without_effect m o h =
    let P : Option Op → Type 0 = Outcome o (get m (key_of o)) in
    with_record-there m (key_of o) _ (subst P h (outcome o (get m (key_of o))))

-- an operation elsewhere doesn't see a write at the key, and stands on either side of it
pub after-elsewhere : (m : Table) (k : Bytes) (s : Option Bytes) (p : Op) → key_of p ≢ k
    → after (with_record m k s) p ≡ with_record (after m p) k s
after-elsewhere m k s p apart =
    ap (λ r. with_record (with_record m k s) (key_of p) (value_after p r))
    (get-with_record_other m k (key_of p) s apart)
    ∙ with_record-swap m k (key_of p) s _ (λ e. apart (sym e))

answer-elsewhere : (m : Table) (k : Bytes) (s : Option Bytes) (p : Op) → key_of p ≢ k
    → answer_in (with_record m k s) p ≡ answer_in m p
answer-elsewhere m k s p apart = ap (answer_at p) (get-with_record_other m k (key_of p) s apart)

-- keys that a test tells apart
unlike : (a b : Bytes) → is_same a b ≡ false → a ≢ b
unlike a b h e = true≢false (sym (ap (λ x. is_same x b) e ∙ is_same-refl b) ∙ h)

-- operations that pass by each other leave the same in either order
swapped : (m : Table) (o p : Op) → key_of p ≢ key_of o → after (after m o) p ≡ after (after m p) o
swapped m o p apart =
    after-elsewhere m (key_of o) (value_after o (get m (key_of o))) p apart
    ∙ ap (λ r. with_record (after m p) (key_of o) (value_after o r))
    (sym (get-with_record_other m (key_of p) (key_of o) (value_after p (get m (key_of p))) (λ e. apart (sym e))))

-- at one key
after-twice : (m : Table) (o p : Op) → key_of p ≡ key_of o
    → after (after m o) p ≡ with_record m (key_of o) (value_after p (value_after o (get m (key_of o))))
after-twice m o p same =
    let k : Bytes = key_of o in
    let v : Option Bytes = value_after o (get m k) in
    ap (λ q. with_record (with_record m k v) q (value_after p (get (with_record m k v) q))) same
    ∙ ap (λ r. with_record (with_record m k v) k (value_after p r)) (get-with_record_same m k v)
    ∙ with_record-again m k v (value_after p v)

swapped_adds : (m : Table) (o p : Op) → key_of p ≡ key_of o → AreAdds o p → after (after m o) p ≡ after (after m p) o
swapped_adds m o p same both =
    after-twice m o p same
    ∙ ap (with_record m (key_of o)) (sym (adds_commute.value o p (get m (key_of o)) both))
    ∙ ap (λ q. with_record m q (value_after o (value_after p (get m q)))) (sym same)
    ∙ sym (after-twice m p o (sym same))

pub either_order : (m : Table) (o p : Op) → PassBy o p → after (after m o) p ≡ after (after m p) o
either_order m o p (inl apart) = swapped m o p apart
either_order m o p (inr both) =
    elim (cases_Bool (is_same (key_of p) (key_of o))) [
      | inl same ↦ swapped_adds m o p (is_same-true (key_of p) (key_of o) same) both
      | inr other ↦ swapped m o p (unlike (key_of p) (key_of o) other)
    ]

-- and neither changes what the other is answered
pub answer-after : (m : Table) (o p : Op) → PassBy o p → answer_in (after m o) p ≡ answer_in m p
answer-after m o p (inl apart) = answer-elsewhere m (key_of o) (value_after o (get m (key_of o))) p apart
answer-after m o p (inr both) =
    elim (cases_Bool (is_same (key_of p) (key_of o))) [
      | inl same ↦
          let k : Bytes = key_of o in
          let e : key_of p ≡ k = is_same-true (key_of p) (key_of o) same in
          ap (λ q. answer_at p (get (after m o) q)) e
          ∙ ap (answer_at p) (get-with_record_same m k (value_after o (get m k)))
          ∙ adds_commute.answer p o (get m k) (both.1, both.0) ∙ ap (λ q. answer_at p (get m q)) (sym e)
      | inr other ↦ answer-elsewhere m (key_of o) (value_after o (get m (key_of o))) p
          (unlike (key_of p) (key_of o) other)
    ]

pub passes_back : (o p : Op) → PassBy o p → PassBy p o
passes_back o p (inl apart) = inl (λ e. apart (sym e))
passes_back o p (inr both) = inr (both.1, both.0)

-- so an operation may come after all that pass it by
after_all-last : (m : Table) (o : Op) (w : List Op) → AllPassBy o w
    → after_all (after m o) w ≡ after (after_all m w) o
after_all-last m o [] h = refl
after_all-last m o (p ∷ w) h =
    ap (λ t. after_all t w) (either_order m o p h.0) ∙ after_all-last (after m p) o w h.1

answers_in-last : (m : Table) (o : Op) (w : List Op) → AllPassBy o w → answers_in (after m o) w ≡ answers_in m w
answers_in-last m o [] h = refl
answers_in-last m o (p ∷ w) h =
    ap (λ a. a ∷ answers_in (after (after m o) p) w) (answer-after m o p h.0)
    ∙ ap (λ t. answer_in m p ∷ answers_in t w) (either_order m o p h.0)
    ∙ ap (λ rest. answer_in m p ∷ rest) (answers_in-last (after m p) o w h.1)

-- with the same answer
answer-last : (m : Table) (o : Op) (w : List Op) → AllPassBy o w → answer_in (after_all m w) o ≡ answer_in m o
answer-last m o [] h = refl
answer-last m o (p ∷ w) h = answer-last (after m p) o w h.1 ∙ answer-after m p o (passes_back o p h.0)

-- the inverse at the table that it finds
undone_at : (t : Table) (o i : Op) (r : Option Bytes) → PutsBack o i r → r ≡ get t (key_of o)
    → after (with_record t (key_of o) (value_after o r)) i ≡ t
undone_at t o i r back there =
    ap (λ k. with_record (with_record t (key_of o) (value_after o r)) k
    (value_after i (get (with_record t (key_of o) (value_after o r)) k))) back.key
    ∙ ap (λ x. with_record (with_record t (key_of o) (value_after o r)) (key_of o) (value_after i x))
    (get-with_record_same t (key_of o) (value_after o r))
    ∙ ap (with_record (with_record t (key_of o) (value_after o r)) (key_of o)) back.value
    ∙ with_record-again t (key_of o) (value_after o r) r
    ∙ with_record-there t (key_of o) r there

effective_at : (t : Table) (o i : Op) (r : Option Bytes) → PutsBack o i r
    → IsEffective (answer_in (with_record t (key_of o) (value_after o r)) i)
effective_at t o i r back =
    let P : Option Bytes → Type 0 = λ x. IsEffective (answer_at i x) in
    let found : value_after o r ≡ get (with_record t (key_of o) (value_after o r)) (key_of i) =
    sym (ap (get (with_record t (key_of o) (value_after o r))) back.key
    ∙ get-with_record_same t (key_of o) (value_after o r)) in
    subst P found back.effective

pub undone : Undone
undone m o i w h pass =
    let t : Table = after_all m w in
    let r : Option Bytes = get t (key_of o) in
    let back : PutsBack o i r = puts_back o i r (ap (inverse_of o) (answer-last m o w pass) ∙ h) in
    let there : after_all (after m o) w ≡ after t o = after_all-last m o w pass in
    let P : Table → Type 0 = λ x. IsEffective (answer_in x i) in (
      ap (λ x. after x i) there ∙ undone_at t o i r back refl,
      answers_in-last m o w pass,
      subst P (sym there) (effective_at t o i r back),
    )

-- the inverse is on the operation's key
abbrev OnKey : Op → Option Op → Type 0
OnKey o (Some i) = key_of i ≡ key_of o
OnKey o None = Unit {0}

on_key : (o : Op) (a : Answer) → OnKey o (inverse_of o a)
on_key o Inserted = refl
on_key o (Updated old) = refl
on_key o (Was None) = refl
on_key o (Was (Some old)) = refl
on_key o (Deleted old) = refl
on_key o Exists = tt
on_key o NoRecord = tt
on_key o NotNumber = tt
on_key o (Added x) = refl

pub inverse_key : (o i : Op) (a : Answer) → inverse_of o a ≡ Some i → key_of i ≡ key_of o
inverse_key o i a is = let P : Option Op → Type 0 = OnKey o in subst P is (on_key o a)
