-- The transactions that added to a key.
use Rattle.std.specs.Prelude.{◌≡◌, ◌≢◌, ℕ, ◌==◌, ◌&&◌, Bool, not, List, [], Option, Some, None, is_some}
use Rattle.std.specs.BTreeMap as tree
use Rattle.std.specs.Global.{Vec}
use Rattle.record_key.specs.Laws.{key_cmp}
use Rattle.record_key.specs.Table.{Bytes}
use Rattle.tc_log.specs.declared.adders.Adders.{Adders}

abbrev pub items_of : Option (Vec ℕ) → List ℕ
items_of None = []
items_of (Some adders) = adders.items

abbrev pub adders_in : Adders → Bytes → List ℕ
adders_in adders k = items_of (tree.get key_cmp adders.by_key k)

-- the one function is the other but for this list here
pub record PutsAdders (old new : Bytes → List ℕ) (k : Bytes) (us : List ℕ) : Type 0 where
  pub here : new k ≡ us
  pub elsewhere : (q : Bytes) → q ≢ k → new q ≡ old q

-- one that added before stays listed when another Add comes: it is another transaction, and open
abbrev pub stays : (ℕ → Option ℕ) → ℕ → ℕ → Bool
stays latest t u = not (u == t) && is_some (latest u)
