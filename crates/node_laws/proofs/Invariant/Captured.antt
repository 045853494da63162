-- Up to which number a leaf has captured.
use Rattle.std.proofs.Common.{◌≡◌, ℕ, ◌<◌, ◌≤◌, ◌==◌, Bool, true, false, List, [], ◌∷◌, length, refl, ap, ◌∙◌, arith, inl, inr, sym, true≢false, eq-eqb}
use Rattle.std.specs.Prelude.{◌||◌, nat_le}
use Rattle.std.proofs.lemmas.Bool.{cases_Bool, cases_lt, or_cases, or_right}
use Rattle.std.proofs.lemmas.Bool.Decides.{nat_tests}
use Rattle.record_key.specs.declared.entry.Entry.{Entry}
use Rattle.record_key.specs.Entries.{top_in}
use Rattle.record_key.proofs.Lists.{all_from}
use Rattle.history.specs.declared.record.Record.{Record}
use Rattle.log_laws.proofs.LegalLogs.{request_number}
use Rattle.dc_ab_lsn.specs.AbLsn.{captures, stands_in}
use Rattle.dc_leaf.specs.Leaf.{LeafView}
use Rattle.dc_leaf.specs.Honest.{IsSavedRight, IsHonestLeaf}
use Rattle.dc_leaf.specs.Tops.{is_within}
use Rattle.dc_leaf.proofs.UpTo.{AreUpTo, none_above}
use Rattle.dc_recovery.specs.Ready.{IsHonestTo}
use Rattle.dc_core.specs.dc_store.proofs.Replacing.{up_to_top}
use Rattle.node_laws.specs.Kept.{IsLowAnswered}
use Rattle.node_laws.specs.Source.{Source}
use Rattle.node_laws.proofs.Invariant.Announced.{most_sure}

-- what a leaf hasn't captured above an end
pub uncaptured_above : (leaf : LeafView) (end n : ℕ) → ((m : ℕ) → captures leaf.ab m ≡ true → m ≤ end) → end < n
    → captures leaf.ab n ≡ false
uncaptured_above leaf end n within above = elim (cases_Bool (captures leaf.ab n)) [
  | inl captured ↦ absurd (omega (arith, within n captured, above))
  | inr uncaptured ↦ uncaptured
]

-- nothing above its low number and its entries
captured_to : (leaf : LeafView) (end : ℕ) → leaf.ab.low ≤ end → AreUpTo end leaf.ab.entries → (n : ℕ)
    → captures leaf.ab n ≡ true → n ≤ end
captured_to leaf end low all n captured = elim (or_cases (nat_le n leaf.ab.low)
    (stands_in leaf.ab.entries n) captured) [
      | inl below ↦ let less : n ≤ leaf.ab.low = grind (arith, nat_tests, below) in omega (arith, less, low)
      | inr stands ↦ elim (cases_lt end n) [
        | inl over ↦ absurd (true≢false (sym stands ∙ none_above end n leaf.ab.entries over all))
        | inr le ↦ omega (arith, le)
      ]
    ]

-- the entries of an honest leaf are requests of the log
pub entries_in : (log : List Record) (leaf : LeafView) → IsHonestLeaf log leaf → AreUpTo (length log) leaf.ab.entries
entries_in log leaf h = all_from (IsSavedRight log) (λ (e : Entry). e.number ≤ length log)
    (λ e right. (request_number log e.number right.op right.requests).bounded) leaf.ab.entries h.saved

-- so it has captured nothing above the log
pub captured_in : (log : List Record) (leaf : LeafView) → IsHonestLeaf log leaf → leaf.ab.low ≤ length log → (n : ℕ)
    → captures leaf.ab n ≡ true → n ≤ length log
captured_in log leaf h low = captured_to leaf (length log) low (entries_in log leaf h)

-- and so is the top one
pub top_to : (end : ℕ) (es : List Entry) → AreUpTo end es → top_in es ≤ end
top_to end [] all = omega arith
top_to end (e ∷ es) all = omega (arith, all.0, top_to end es all.1)

-- entries are captured
pub entries_to : (leaf : LeafView) (end : ℕ) → ((n : ℕ) → captures leaf.ab n ≡ true → n ≤ end)
    → AreUpTo end leaf.ab.entries
entries_to leaf end within =
    go leaf.ab.entries (λ n stands. within n (or_right (nat_le n leaf.ab.low) (stands_in leaf.ab.entries n) stands))
  where
    go : (es : List Entry) → ((n : ℕ) → stands_in es n ≡ true → n ≤ end) → AreUpTo end es
    go [] all = tt
    go (e ∷ es) all = (
      all e.number (ap (λ (b : Bool). b || stands_in es e.number) (eq-eqb e.number e.number refl)),
      go es (λ n stands. all n (or_right (n == e.number) (stands_in es n) stands)),
    )

-- a leaf without an entry above the known end has captured sure numbers only
pub sure_leaf : (x : Source) (known : ℕ) (leaf : LeafView) → x.sure ≤ length x.log → known ≤ x.sure
    → IsLowAnswered x.log x.sure leaf → is_within known leaf ≡ true → IsHonestLeaf x.log leaf
    → IsHonestTo x.log x.sure leaf
sure_leaf x known leaf within sure low top h =
    let top_known : top_in leaf.ab.entries ≤ known = grind (arith, nat_tests, top) in
    record {
      honest = h;
      within = captured_to leaf x.sure (most_sure x.log x.sure leaf.ab.low within low)
          (up_to_top x.sure leaf.ab.entries (omega (arith, top_known, sure)));
    }
