-- Honest leaves and low numbers over crashes.
use Rattle.std.proofs.Common.{◌≡◌, ℕ, ◌+◌, ◌≤◌, ◌==◌, ◌&&◌, Bool, true, List, [], ◌∷◌, length, sym, ◌∙◌, arith, inl, inr}
use Rattle.std.specs.Prelude.{nat_le}
use Rattle.std.proofs.lemmas.Bool.{cases_Bool, and_parts, or_cases, or_left, or_right}
use Rattle.record_key.specs.Table.{Bytes}
use Rattle.record_key.specs.declared.entry.Entry.{Entry}
use Rattle.history.specs.declared.record.Record.{Record}
use Rattle.dc_ab_lsn.specs.AbLsn.{AbLsnView, stands_in, captures}
use Rattle.dc_ab_lsn.specs.Parting.{is_under, entries_with, stands_with}
use Rattle.dc_ab_lsn.proofs.Capturing.{parted_captures}
use Rattle.dc_leaf.specs.Leaf.{LeafView}
use Rattle.dc_leaf.specs.Honest.{IsHonestLeaf}
use Rattle.dc_leaf.proofs.Honest.{honest_uncaptured}
use Rattle.dc_leaf.proofs.Sides.{honest_lower}
use Rattle.dc_recovery.specs.Laws.{CutsKeepHonest}
use Rattle.dc_recovery.specs.Ready.{IsLow, LowIsRecovered, HonestIsRecovered, IsHonestTo, BoundedIsRecovered}
use Rattle.dc_leaf.proofs.Starts.{inside_fences}
use Rattle.dc_recovery.proofs.Ready.{recovers, ready_stays, ready_too}

-- the law of cuts
pub cuts_keep_honest : CutsKeepHonest
cuts_keep_honest log leaf d cut less inside honest = honest_lower log leaf cut d honest (inside_fences leaf cut inside)

-- nothing is captured by a part that wasn't captured before
stands_fewer : (test : Bytes → Bool) (es : List Entry) (n : ℕ) → stands_with test es n ≡ true → stands_in es n ≡ true
stands_fewer test [] n h = h
stands_fewer test (e ∷ es) n h =
    elim (or_cases ((n == e.number) && test e.key) (stands_with test es n) h) [
      | inl here ↦ or_left (n == e.number) (stands_in es n) (and_parts (n == e.number) (test e.key) here).0
      | inr later ↦ or_right (n == e.number) (stands_in es n) (stands_fewer test es n later)
    ]

pub captures_fewer : (v : AbLsnView) (test : Bytes → Bool) (n : ℕ)
    → captures (record v { entries = entries_with test v.entries }) n ≡ true
    → captures v n ≡ true
captures_fewer v test n h =
    elim (or_cases (nat_le n v.low) (stands_with test v.entries n) (sym (parted_captures v.low v.entries test n) ∙ h)) [
      | inl low ↦ or_left (nat_le n v.low) (stands_in v.entries n) low
      | inr there ↦ or_right (nat_le n v.low) (stands_in v.entries n) (stands_fewer test v.entries n there)
    ]

-- the law of low numbers
pub low_recovered : (l : ℕ) → LowIsRecovered l
low_recovered l =
    record { recovers = recovers (IsLow l) (λ leaf d cut less inside low. low); stays = ready_stays (IsLow l) }

-- the law of honest leaves
pub honest_recovered : (log : List Record) → HonestIsRecovered log
honest_recovered log = record {
  recovers = recovers (IsHonestLeaf log) (cuts_keep_honest log);
  stays = ready_stays (IsHonestLeaf log);
}

-- honest as far as the log goes
longer_honest : (r : Record) (log : List Record) (end : ℕ) (leaf : LeafView) → end ≤ length log
    → IsHonestTo log end leaf
    → IsHonestTo (r ∷ log) end leaf
longer_honest r log end leaf le h = record {
  honest = honest_uncaptured r log leaf
      (elim (cases_Bool (captures leaf.ab (length log + 1))) [
        | inl got ↦ absurd (omega (arith, le, h.within (length log + 1) got))
        | inr out ↦ out
      ]) h.honest;
  within = h.within;
}

-- the law of honest leaves under a bound
pub bounded_recovered : BoundedIsRecovered
bounded_recovered = record {
  recovers = λ log end. recovers (IsHonestTo log end)
      (λ leaf d cut less inside h. record {
        honest = cuts_keep_honest log leaf d cut less inside h.honest;
        within = λ n got. h.within n (captures_fewer leaf.ab (is_under cut) n got);
      });
  stays = λ log end. ready_stays (IsHonestTo log end);
  grow = λ r log end pages changes forced le ready.
      ready_too (IsHonestTo log end) (IsHonestTo (r ∷ log) end) pages changes forced
      (λ leaf h. longer_honest r log end leaf le h) ready;
  rise = λ log end more pages changes forced le ready.
      ready_too (IsHonestTo log end) (IsHonestTo log more) pages changes forced
      (λ leaf h. record {
        honest = h.honest;
        within = λ n got. let low : n ≤ end = h.within n got in omega (arith, low, le);
      }) ready;
}
