-- The losers are made of the open transactions, one after another.
use Rattle.std.proofs.Common.{◌≡◌, ◌≢◌, ℕ, ◌+◌, true, List, [], ◌∷◌, ◌++◌, length, map, Option, Some, None, is_some, refl, sym, ap, ◌∙◌, subst, arith, inl, inr}
use Rattle.std.specs.BTreeMap.{BTreeMap, IsOrdered, get, keys}
use Rattle.std.specs.List.{All, Contains}
use Rattle.std.specs.List.Sorted.{IsStrictlySortedBy}
use Rattle.std.specs.Map.{keys_of}
use Rattle.std.specs.Ordering.{nat_cmp}
use Rattle.std.specs.declared.cmp.Ordering.TheVariants.{Less}
use Rattle.std.proofs.lemmas.Bool.{cases_eq}
use Rattle.std.proofs.lemmas.Bool.Decides.{nat_tests}
use Rattle.std.proofs.lemmas.Cmp.{nat_cmp_total}
use Rattle.std.proofs.lemmas.List.{append-nil}
use Rattle.std.proofs.lemmas.List.Elements.{All-nil, All-map, All-weaker, All-from_recursion}
use Rattle.std.proofs.lemmas.Map.Keys.{sorted_head, sorted_tail}
use Rattle.std.proofs.lemmas.Map.Lookups.{exact_unsigned}
use Rattle.std.proofs.lemmas.Map.Made.{Contains-tail}
use Rattle.std.proofs.lemmas.Map.Views.{btree_map_contains_key_iff}
use Rattle.history.specs.declared.record.Record.{Record}
use Rattle.history.specs.Log.{record_at, IsOpen}
use Rattle.history.specs.Legal.{IsLegal, Stands, IsLatestOrNone}
use Rattle.history.specs.Chains.{undo_from}
use Rattle.log_laws.proofs.LegalLogs.{begun_number}
use Rattle.log_laws.proofs.Undo.{latest_found}
use Rattle.tc_log.specs.Replay.{KeptOf, OpenAt}
use Rattle.tc_restart.specs.declared.loser.Loser.{Loser}
use Rattle.tc_restart.specs.Lists.{times, Lists}
use Rattle.tc_restart.specs.Heaps.{Adds}
use Rattle.tc_restart.specs.Losers.{LosersView, IsLoser, IsUndone, IsAt, txns}
use Rattle.tc_restart.proofs.Lists.{times_first, times_other, not_listed}
use Rattle.tc_restart.proofs.Taking.{AreWith, added}

-- in rising numbers each stands once
once_rising : (t : ℕ) (ts : List ℕ) → IsStrictlySortedBy nat_cmp ts → Contains ts t → times t ts ≡ 1
once_rising t [] rising there = absurd (omega (arith, there.1))
once_rising t (u ∷ ts) rising there =
    elim (cases_eq t u) [
      | inl e ↦
          let above : (v : ℕ) → nat_cmp u v ≡ Less → t ≢ v = λ v less same. apart u v less (sym e ∙ same) in
          times_first t u ts e ∙ ap (λ (n : ℕ). n + 1) (not_listed t ts
          (All-weaker (λ v. nat_cmp u v ≡ Less) (λ v. t ≢ v) above ts
          (All-from_recursion (λ v. nat_cmp u v ≡ Less) ts (sorted_head nat_cmp u ts rising))))
      | inr e ↦
          times_other t u ts e ∙ once_rising t ts (sorted_tail nat_cmp u ts rising)
          (Contains-tail u ts t (λ f. e (sym f)) there)
    ]
  where
    apart : (u v : ℕ) → nat_cmp u v ≡ Less → u ≢ v
    apart u v less same = grind (arith, nat_tests)

module _ (log : List Record) (m : BTreeMap ℕ ℕ) (kept : (t : ℕ) → KeptOf log t (get nat_cmp m t)) where
  -- what is kept of a listed transaction
  pub each_open : All (λ (e : ℕ × ℕ). get nat_cmp m e.0 ≡ Some e.1) m.entries
      → All (λ (e : ℕ × ℕ). OpenAt log e.0 e.1) m.entries
  each_open found =
      All-weaker (λ (e : ℕ × ℕ). get nat_cmp m e.0 ≡ Some e.1) (λ (e : ℕ × ℕ). OpenAt log e.0 e.1)
      (λ e is. subst (KeptOf log e.0) is (kept e.0)) m.entries found

  is_kept : (t : ℕ) → IsOpen log t → is_some (get nat_cmp m t) ≡ true
  is_kept t opened = by (get nat_cmp m t) (kept t)
    where
      by : (o : Option ℕ) → KeptOf log t o → is_some o ≡ true
      by None none = absurd (none opened)
      by (Some s) at = refl

  -- at first all are to be listed
  pub none_yet : IsOrdered nat_cmp m → All (λ (e : ℕ × ℕ). get nat_cmp m e.0 ≡ Some e.1) m.entries
      → (l : LosersView) → l.undoing ≡ [] → l.done ≡ [] → AreWith log (length log + 1) (keys_of m.entries) l
  none_yet ordered found l undoing done =
      let loser : (t : ℕ) → IsOpen log t → IsLoser log (length log + 1) t = λ t opened. record {
        open_txn = opened;
        early = omega (arith, (begun_number log t opened.begun).bounded);
      } in
      let listed : Lists (IsLoser log (length log + 1)) (keys m) = record {
        right = All-map (IsLoser log (length log + 1)) (λ (e : ℕ × ℕ). e.0) m.entries
            (All-weaker (λ (e : ℕ × ℕ). OpenAt log e.0 e.1) (λ (e : ℕ × ℕ). IsLoser log (length log + 1) e.0)
            (λ e is. loser e.0 is.is_open) m.entries (each_open found));
        once = λ t is. once_rising t (keys m) ordered
            ((btree_map_contains_key_iff nat_cmp_total exact_unsigned m t).0 (is_kept t is.open_txn));
      } in
      let none : txns l ≡ [] = ap (λ (xs : List Loser). map (λ (x : Loser). x.txn) xs ++ l.done) undoing ∙ done in
      record {
        listed = subst (Lists (IsLoser log (length log + 1)))
            (sym (ap (λ (ts : List ℕ). keys_of m.entries ++ ts) none ∙ append-nil (keys_of m.entries))) listed;
        undoing = subst (All (IsAt log)) (sym undoing) (All-nil (IsAt log));
        done = subst (All (IsUndone log)) (sym done) (All-nil (IsUndone log));
      }

-- then one less
pub one_less : (log : List Record) (others : List ℕ) (l new : LosersView) (t last left : ℕ) → IsLegal log
    → OpenAt log t last
    → left ≡ undo_from (record_at log last) last → AreWith log (length log + 1) (t ∷ others) l
    → Adds l (record { left = left; txn = t; last = last }) new → AreWith log (length log + 1) others new
one_less log others l new t last left legal at is h adds =
    added log (length log + 1) others l new (record { left = left; txn = t; last = last }) h at.latest
    (subst (IsLatestOrNone (Stands log t)) (sym is) (latest_found log t legal last at.latest)) adds
