-- What is still captured once the entries above an end are gone.
use Rattle.std.proofs.Common.{arith, ◌≡◌, ℕ, ◌≤◌, ◌==◌, ◌||◌, Bool, cond, List, [], ◌∷◌, refl, ap}
use Rattle.std.specs.Prelude.{not, ◌&&◌, nat_le, nat_lt}
use Rattle.std.proofs.Math.Bool.{and-true}
use Rattle.std.proofs.lemmas.Bool.{le-leb}
use Rattle.record_key.specs.declared.entry.Entry.{Entry}
use Rattle.record_key.specs.Entries.{RiseAbove}
use Rattle.dc_ab_lsn.specs.AbLsn.{AbLsnView, stands_in, captures, up_to, popped}
use Rattle.dc_ab_lsn.proofs.Rising.{filtered_rises}

one_stays : (n end : ℕ) (e : Entry) (es fs : List Entry) (b : Bool) → nat_lt end e.number ≡ b
    → stands_in fs n ≡ (stands_in es n && nat_le n end)
    → stands_in (cond (not b) (e ∷ fs) fs) n ≡ (((n == e.number) || stands_in es n) && nat_le n end)
one_stays n end e es fs b over rest = grind arith

stands_up_to : (end : ℕ) (es : List Entry) (n : ℕ) → stands_in (up_to end es) n ≡ (stands_in es n && nat_le n end)
stands_up_to end [] n = refl
stands_up_to end (e ∷ es) n = grind (arith, stands_up_to end es n, one_stays)

pub popped_captures : (v : AbLsnView) (end n : ℕ)
    → captures (popped v end) n ≡ (nat_le n v.low || (stands_in v.entries n && nat_le n end))
popped_captures v end n = ap (λ (b : Bool). nat_le n v.low || b) (stands_up_to end v.entries n)

-- a number up to the end as before
pub popped_same : (v : AbLsnView) (end n : ℕ) → n ≤ end → captures (popped v end) n ≡ captures v n
popped_same v end n le = grind (arith, popped_captures, le-leb, and-true)

pub popped_rises : (v : AbLsnView) (end : ℕ) → RiseAbove v.low v.entries → RiseAbove v.low (popped v end).entries
popped_rises v end h = filtered_rises (λ (e : Entry). not (nat_lt end e.number)) v.low v.entries h
