-- What holds of the data component at every moment.
use Rattle.std.specs.Prelude.{◌≡◌, ◌⊎◌, ◌<◌, ◌≤◌, ℕ, true, List, map}
use Rattle.std.specs.List.{AllByRecursion}
use Rattle.record_key.specs.Table.{Bytes, key_of}
use Rattle.record_key.specs.declared.entry.Entry.{Entry}
use Rattle.dc_leaf.specs.Leaf.{LeafView}
use Rattle.dc_take_back.specs.Performed as laws
use Rattle.dc_take_back.specs.Listed as listing
use Rattle.dc_tree.specs.Leaves.{leaf_at, rows_of}
use Rattle.framed_log.specs.Beginning.{beginning}
use Rattle.dc_recovery.specs.Recovery.{stored_session}
use Rattle.dc_store.specs.Kept.{IsSystem}
use Rattle.dc_core.specs.declared.performance.Performance.{Performance}
use Rattle.dc_core.specs.DcView.{DcView, leaves, captures_at}
use Rattle.dc_core.specs.Tends.{may_merge}

-- an entry of a performance's number has its key and its answer
abbrev pub Saves : Performance → Entry → Type 0
Saves p e = p.number ≡ e.number → (key_of p.op ≡ e.key) × (p.answer ≡ e.answer)

abbrev pub IsListed : List Performance → Entry → Type 0
IsListed performed e = AllByRecursion (λ (p : Performance). Saves p e) performed

abbrev pub AreListed : List Performance → LeafView → Type 0
AreListed performed leaf = AllByRecursion (IsListed performed) leaf.ab.entries

-- the performances, for the laws of taking back
abbrev pub for_law : Performance → laws.Performance
for_law p = record { number = p.number; op = p.op; answer = p.answer }

abbrev pub for_laws : List Performance → List laws.Performance
for_laws ps = map for_law ps

-- an entry above the number is that of a performance
abbrev pub IsPerformed : ℕ → List laws.Performance → Entry → Type 0
IsPerformed end ps e = end < e.number → listing.IsListed ps e

abbrev pub ArePerformed : ℕ → List laws.Performance → LeafView → Type 0
ArePerformed end ps leaf = AllByRecursion (IsPerformed end ps) leaf.ab.entries

-- a number above this is hidden by the low number of its own key's leaf only where that of each leaf hides it
abbrev pub IsShown : ℕ → List LeafView → Performance → Type 0
IsShown n ls p =
    n < p.number
    → ((leaf_at ls (key_of p.op)).ab.low < p.number) ⊎ AllByRecursion (λ (leaf : LeafView). p.number ≤ leaf.ab.low) ls

-- a low number isn't above this, or above that of any leaf
abbrev pub IsLevel : ℕ → List LeafView → ℕ → Type 0
IsLevel n ls low = (low ≤ n) ⊎ AllByRecursion (λ (leaf : LeafView). low ≤ leaf.ab.low) ls

-- what holds of a data component at every moment
pub record IsDc (w : DcView) : Type 0 where
  pub system : IsSystem w.system
  -- the records are those at the last opening with what was performed since
  pub rows : rows_of (leaves w) ≡ laws.replayed w.opened (for_laws w.performed)
  -- each number was performed once, on the key whose leaf has captured it, and is saved with its answer or not at all
  pub once : listing.IsOnce (for_laws w.performed)
  pub captured : AllByRecursion (λ (p : Performance). captures_at w (key_of p.op) p.number ≡ true) w.performed
  pub saved : AllByRecursion (AreListed w.performed) (leaves w)
  -- each was answered at its place; on each key the numbers fall, but for Adds among Adds; and an entry with a greater
  -- number than any that the leaves were opened with is that of a performance
  pub answered : laws.AreAnsweredInPlace w.opened (for_laws w.performed)
  pub falls : (k : Bytes) → listing.FallOn k (for_laws w.performed)
  pub added : AllByRecursion (ArePerformed w.opened_to (for_laws w.performed)) (leaves w)
  -- above the greatest low number when redo last ended, none is hidden on one leaf alone; and while leaves may be joined
  -- their low numbers are no higher, or the same everywhere
  pub shown : AllByRecursion (IsShown w.redone_low (leaves w)) w.performed
  pub level : may_merge w ≡ true
      → AllByRecursion (λ (leaf : LeafView). IsLevel w.redone_low (leaves w) leaf.ab.low) (leaves w)
  -- the session that runs, if any, is the greatest one taken, and the stable log has one at least as great
  pub session : (w.session ≡ 0) ⊎ (w.session ≡ w.stored)
  pub stored : w.stored ≤ stored_session (beginning w.system.log w.system.stable)
