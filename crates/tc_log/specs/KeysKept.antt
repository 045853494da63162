-- On how many keys an index keeps who did something.
use Rattle.std.specs.Prelude.{◌≡◌, ℕ, ◌+◌, ◌<◌, ◌≤◌, List, ◌++◌, length}
use Rattle.std.specs.BTreeMap.{btree_map_len}
use Rattle.history.specs.declared.record.Record.{Record}
use Rattle.history.specs.Log.{IsOpen}
use Rattle.tc_log.specs.declared.replay.Index.{Index}

abbrev pub keys_kept : Index → ℕ
keys_kept index = btree_map_len index.holders + btree_map_len index.adders.by_key

-- what transactions did that were over when none was open is forgotten: since then at most one key a record has come
pub record KeepsNoneOver (log : List Record) (index : Index) : Type 0 where
  pub few : (later before : List Record) → log ≡ later ++ before → 0 < length later
      → ((t : ℕ) → IsOpen before t → ⊥) → keys_kept index ≤ length later
