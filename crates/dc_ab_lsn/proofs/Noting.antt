-- A search's place and what is captured, and an entry that goes into its gap.
use Rattle.std.proofs.Common.{arith, ◌≡◌, ℕ, ◌<◌, Bool, false, cond, List, Result, sym, ◌∙◌, true≢false, lt-ltb}
use Rattle.std.specs.Prelude.{not}
use Rattle.std.specs.Result.{is_ok}
use Rattle.std.specs.List.{insert}
use Rattle.std.proofs.lemmas.Bool.{cases_lt, lt-leb, le-ltb}
use Rattle.record_key.specs.declared.entry.Entry.{Entry}
use Rattle.record_key.specs.Entries.{RiseAbove, HasNumberAt, IsGapForNumber, IsPlaceOfNumber}
use Rattle.dc_ab_lsn.specs.AbLsn.{AbLsnView, stands_in, captures, with_entry}
use Rattle.dc_ab_lsn.specs.Parting.{placed_above}
use Rattle.dc_ab_lsn.proofs.Rising.{at_stands, gap_stands, gap_placed, placed_rises}

pub found_captured : (v : AbLsnView) (n : ℕ) (r : Result ℕ ℕ) → v.low < n → RiseAbove v.low v.entries
    → IsPlaceOfNumber n v.entries r
    → is_ok r ≡ captures v n
found_captured v n r lt h at = grind (arith, lt-leb, at_stands, gap_stands)

-- a number that isn't captured is above the low one and stands nowhere
pub uncaptured : (v : AbLsnView) (n : ℕ) → captures v n ≡ false → (v.low < n) × (stands_in v.entries n ≡ false)
uncaptured v n out = grind arith

pub no_place : (n : ℕ) (es : List Entry) (p : ℕ) → stands_in es n ≡ false → HasNumberAt n es p → ⊥
no_place n es p out at = true≢false (sym (at_stands n es p at) ∙ out)

pub noted_rises : (v : AbLsnView) (f : Entry) (p : ℕ) → RiseAbove v.low v.entries → captures v f.number ≡ false
    → IsGapForNumber f.number v.entries p → RiseAbove v.low (insert v.entries p f)
noted_rises v f p h out gap = grind (arith, uncaptured, gap_placed, placed_rises)

-- entries of another that are put at their places, one after another
pub put_rises : (low : ℕ) (f : Entry) (es : List Entry) (b : Bool) → low < f.number → RiseAbove low es
    → stands_in es f.number ≡ b
    → RiseAbove low (cond (not b) (with_entry f es) es)
put_rises low f es b less h out = grind (arith, placed_rises)

pub above_rises_too : (low : ℕ) (f : Entry) (es : List Entry) → RiseAbove low es → RiseAbove low (placed_above low f es)
above_rises_too low f es h = grind (arith, cases_lt, lt-ltb, put_rises, le-ltb)
