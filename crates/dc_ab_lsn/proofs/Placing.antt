-- A loop that puts entries at their places.
use Rattle.std.proofs.Common.{arith, ◌≡◌, ◌<◌, ◌+◌, ℕ, List, length, drop, drop-cons, add-one, get_or}
use Rattle.record_key.specs.declared.entry.Entry.{Entry}
use Rattle.record_key.specs.Entries.{RiseAbove}
use Rattle.dc_ab_lsn.specs.Parting.{placed_above, placed_all}
use Rattle.dc_ab_lsn.proofs.Noting.{above_rises_too}

-- these are left to put among those, and then all is as it shall be
pub record IsPlacing (low : ℕ) (end rest now : List Entry) : Type 0 where
  pub done : placed_all low rest now ≡ end
  pub rising : RiseAbove low now

-- the entry of this turn is the first of those that are left
pub placed_one : (low : ℕ) (end es : List Entry) (i : ℕ) (e : Entry) (now new : List Entry) → i < length es
    → e ≡ get_or es i e → IsPlacing low end (drop i es) now
    → new ≡ placed_above low e now → IsPlacing low end (drop (i + 1) es) new
placed_one low end es i e now new lt is h placed = grind (arith, add-one, drop-cons, above_rises_too)
