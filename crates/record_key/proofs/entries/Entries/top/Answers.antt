use Rattle.std.proofs.Common.{◌≡◌, ◌-◌, ◌<◌, ℕ, zero, suc, List, [], ◌∷◌, map, length, Some, slice_get, sym, ap, ◌∙◌, arith}
use Rattle.record_key.specs.declared.slot.Slot.{Slot}
use Rattle.record_key.specs.Entries.{RiseAbove, top_in}
use Rattle.record_key.specs.Packed.{entry_in}
use Rattle.record_key.proofs.entries.Entries.top.Goals as goal

-- of rising numbers the last is the greatest
last_top : (bytes : List ℕ) (slots : List Slot) (low n : ℕ) (last : Slot) → RiseAbove low (map (entry_in bytes) slots)
    → slice_get slots n ≡ Some last → suc n ≡ length slots
    → (low < last.number) × (last.number ≡ top_in (map (entry_in bytes) slots))
last_top bytes [] low n last rise is all = absurd (cc)
last_top bytes (s ∷ []) low zero last rise is all =
    let same : s ≡ last = cc in
    let number = ap (λ (t : Slot). t.number) same in
    (omega (arith, number, rise.0), omega (arith, number))
last_top bytes (s ∷ []) low (suc n) last rise is all = absurd (omega (arith, all))
last_top bytes (s ∷ t ∷ slots) low zero last rise is all = absurd (omega (arith, all))
last_top bytes (s ∷ t ∷ slots) low (suc n) last rise is all =
    let rest = last_top bytes (t ∷ slots) s.number n last rise.1 is (omega (arith, all)) in
    (omega (arith, rise.0, rest.0), omega (arith, rest.0, rest.1))

some : (slots : List Slot) (last : Slot) → slice_get slots (length slots - 1) ≡ Some last
    → suc (length slots - 1) ≡ length slots
some [] last is = absurd (cc)
some (s ∷ slots) last is = omega arith

pub returns-in-Some : goal.returns-in-Some
returns-in-Some c =
    let slots = c.self.inside.slots.items in
    let is : slice_get slots (length slots - 1) ≡ Some c.in-Some.slot.now =
    rw c.as_slice.ensures at (sym c.in-Some.ensures.value) in
    (last_top c.self.inside.bytes.items slots 0 (length slots - 1) c.in-Some.slot.now
    (rw (← c.self.view_is) at c.requires) is (some slots c.in-Some.slot.now is)).1
    ∙ ap top_in c.self.view_is
