-- An index keeps no more keys than records came since no transaction was open.
use Rattle.std.proofs.Common.{◌≡◌, ℕ, ◌+◌, ◌<◌, ◌≤◌, List, [], ◌∷◌, ◌++◌, length, Some, refl, ap, subst, cond, arith}
use Rattle.std.specs.BTreeMap.{btree_map_len, is_at}
use Rattle.std.specs.Map.{lookup}
use Rattle.std.specs.Ordering.{nat_cmp, is_eq}
use Rattle.record_key.proofs.Numbers.{nat_cmp-itself}
use Rattle.history.specs.declared.record.Record.{Record}
use Rattle.history.specs.Log.{IsOpen}
use Rattle.tc_log.specs.declared.replay.Index.{Index}
use Rattle.tc_log.specs.KeysKept.{keys_kept, KeepsNoneOver}
use Rattle.tc_log.specs.Replay.{KeptOf, IsAnalysis, IsIndex}

module _ (log : List Record) (none : (t : ℕ) → IsOpen log t → ⊥) where
  -- nothing is kept of transactions where none is open
  no_entry : (es : List (ℕ × ℕ)) → ((t : ℕ) → KeptOf log t (lookup (is_at (nat_cmp t)) es)) → length es ≡ 0
  no_entry [] kept = refl
  no_entry (e ∷ es) kept =
      let first : lookup (is_at (nat_cmp e.0)) (e ∷ es) ≡ Some e.1 =
      ap (λ o. cond (is_eq o) (Some e.1) (lookup (is_at (nat_cmp e.0)) es)) (nat_cmp-itself e.0) in
      absurd (none e.0 (subst (KeptOf log e.0) first (kept e.0)).is_open)

  none_kept : (index : Index) → IsAnalysis log index.analysis → btree_map_len index.analysis.open_txns ≡ 0
  none_kept index h = no_entry index.analysis.open_txns.entries h.open_txns

pub of_nothing : (index : Index) → KeepsNoneOver [] index
of_nothing index = record { few = nothing }
  where
    nothing : (later before : List Record) → [] ≡ later ++ before → 0 < length later
        → ((t : ℕ) → IsOpen before t → ⊥) → keys_kept index ≤ length later
    nothing [] before is some none = absurd (omega (arith, some))
    nothing (r ∷ later) before is some none = absurd (cc)

pub with_one : (log log' : List Record) (r : Record) (old new : Index) → log' ≡ r ∷ log → IsIndex log old
    → (btree_map_len old.analysis.open_txns ≡ 0 → keys_kept new ≤ 1) → keys_kept new ≤ keys_kept old + 1
    → KeepsNoneOver log old → KeepsNoneOver log' new
with_one log log' r old new grown h forgets one h' = record { few = few }
  where
    few : (later before : List Record) → log' ≡ later ++ before → 0 < length later
        → ((t : ℕ) → IsOpen before t → ⊥) → keys_kept new ≤ length later
    few [] before is some none = absurd (omega (arith, some))
    few (s ∷ []) before is some none =
        let same : before ≡ log = cc in
        forgets (none_kept log (subst (λ (l : List Record). (t : ℕ) → IsOpen l t → ⊥) same none) old h.analysis)
    few (s ∷ t ∷ later) before is some none =
        let rest : log ≡ (t ∷ later) ++ before = cc in
        omega (arith, one, h'.few (t ∷ later) before rest (omega arith) none)
