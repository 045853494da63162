-- Entries whose numbers rise: what stands in them, and what a place among them tells.
use Rattle.std.proofs.Common.{◌≡◌, ◌≢◌, ℕ, zero, suc, ◌<◌, ◌≤◌, ◌==◌, Bool, true, false, cond, List, [], ◌∷◌, get_or, Some, None, refl, sym, ◌∙◌, arith, inl, inr, true≢false, eq-eqb, ne_eqb, lt-ltb, filter}
use Rattle.std.specs.List.{insert}
use Rattle.std.specs.Ordering.{nat_cmp}
use Rattle.std.specs.declared.cmp.Ordering.TheVariants.{Less, Equal, Greater}
use Rattle.std.proofs.lemmas.Bool.{cases_lt, le-ltb, or_parts}
use Rattle.std.proofs.lemmas.Bool.Decides.{nat_tests}
use Rattle.record_key.specs.declared.entry.Entry.{Entry}
use Rattle.record_key.specs.Entries.{RiseAbove, HasNumberAt, IsGapForNumber}
use Rattle.dc_ab_lsn.specs.AbLsn.{stands_in, saved_in, with_entry}

-- how two numbers compare
tie : (m n : ℕ) → nat_cmp m n ≡ Equal → m ≡ n
tie m n h = grind (arith, nat_tests)

less : (m n : ℕ) → nat_cmp m n ≡ Less → m < n
less m n h = grind (arith, nat_tests)

greater : (m n : ℕ) → nat_cmp m n ≡ Greater → n < m
greater m n h = grind (arith, nat_tests)

pub rises_from : (k l : ℕ) (es : List Entry) → k ≤ l → RiseAbove l es → RiseAbove k es
rises_from k l [] le h = tt
rises_from k l (e ∷ es) le h = (omega (arith, le, h.0), h.1)

pub rises : (l : ℕ) (es : List Entry) → RiseAbove l es → RiseAbove 0 es
rises l es h = rises_from 0 l es (omega arith) h

-- what is kept of rising numbers rises
kept_rises : (b : Bool) (l : ℕ) (e : Entry) (es : List Entry) → l < e.number → RiseAbove e.number es
    → RiseAbove l (cond b (e ∷ es) es)
kept_rises b l e es lt h = grind (arith, rises_from)

pub filtered_rises : (p : Entry → Bool) (l : ℕ) (es : List Entry) → RiseAbove l es → RiseAbove l (filter p es)
filtered_rises p l [] h = tt
filtered_rises p l (e ∷ es) h = kept_rises (p e) l e (filter p es) h.0 (filtered_rises p e.number es h.1)

-- at a place the number stands, and in a gap it doesn't
pub at_stands : (n : ℕ) (es : List Entry) (p : ℕ) → HasNumberAt n es p → stands_in es n ≡ true
at_stands n [] p at = absurd at
at_stands n (e ∷ es) zero at = rw (eq-eqb n e.number (tie n e.number at)) refl
at_stands n (e ∷ es) (suc p) at = grind (arith, at_stands n es p at.1, greater, ne_eqb)

pub below_stands : (n l : ℕ) (es : List Entry) → n ≤ l → RiseAbove l es → stands_in es n ≡ false
below_stands n l [] le h = refl
below_stands n l (e ∷ es) le h =
    rw (ne_eqb n e.number (λ same. omega (arith, same, le, h.0)))
    (below_stands n e.number es (omega (arith, le, h.0)) h.1)

pub gap_stands : (n l : ℕ) (es : List Entry) (p : ℕ) → RiseAbove l es → IsGapForNumber n es p → stands_in es n ≡ false
gap_stands n l [] p h gap = refl
gap_stands n l (e ∷ es) zero h gap = grind (arith, less, ne_eqb, below_stands)
gap_stands n l (e ∷ es) (suc p) h gap = grind (arith, gap_stands n e.number es p h.1 gap.1, greater, ne_eqb)

-- the answer that is saved at a place, and none in a gap
pub at_saved : (n : ℕ) (es : List Entry) (p : ℕ) (d : Entry) → HasNumberAt n es p
    → saved_in es n ≡ Some (get_or es p d).answer
at_saved n [] p d at = absurd at
at_saved n (e ∷ es) zero d at = rw (eq-eqb e.number n (sym (tie n e.number at))) refl
at_saved n (e ∷ es) (suc p) d at = grind (arith, at_saved n es p d at.1, greater, ne_eqb)

pub unsaved : (n : ℕ) (es : List Entry) → stands_in es n ≡ false → saved_in es n ≡ None
unsaved n [] h = refl
unsaved n (e ∷ es) h =
    let no = or_parts (n == e.number) (stands_in es n) h in
    let apart : e.number ≢ n = λ same. true≢false (sym (eq-eqb n e.number (sym same)) ∙ no.0) in
    rw (ne_eqb e.number n apart) (unsaved n es no.1)

-- an entry goes into its gap
pub gap_placed : (f : Entry) (es : List Entry) (p : ℕ) → IsGapForNumber f.number es p → with_entry f es ≡ insert es p f
gap_placed f [] zero gap = refl
gap_placed f [] (suc p) gap = absurd (omega (arith, gap))
gap_placed f (e ∷ es) zero gap = grind (arith, less, le-ltb)
gap_placed f (e ∷ es) (suc p) gap = grind (arith, gap_placed f es p gap.1, lt-ltb, greater)

-- and the numbers rise still
pub placed_rises : (f : Entry) (l : ℕ) (es : List Entry) → l < f.number → RiseAbove l es → stands_in es f.number ≡ false
    → RiseAbove l (with_entry f es)
placed_rises f l [] lt h out = (lt, tt)
placed_rises f l (e ∷ es) lt h out =
    let no = or_parts (f.number == e.number) (stands_in es f.number) out in
    elim (cases_lt e.number f.number) [
      | inl less ↦ rw (lt-ltb e.number f.number less) (h.0, placed_rises f e.number es less h.1 no.1)
      | inr ge ↦
          let apart : f.number ≢ e.number = λ same. true≢false (sym (eq-eqb f.number e.number same) ∙ no.0) in
          let less : f.number < e.number = omega (arith, ge, apart) in
          rw (le-ltb e.number f.number ge) (lt, (less, h.1))
    ]
