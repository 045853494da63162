-- A map of keys that was written at one key.
use Rattle.std.proofs.Common.{◌≡◌, ℕ, false, List, Option, sym, ap, ◌∙◌, inl, inr}
use Rattle.std.specs.Cmp.{Equal-is}
use Rattle.std.specs.Ordering.{is_eq}
use Rattle.std.specs.Global.{Vec}
use Rattle.std.proofs.lemmas.Bool.{cases_Bool}
use Rattle.std.proofs.lemmas.Map.Lookups.{exact_bytes}
use Rattle.record_key.specs.Laws.{key_cmp}
use Rattle.record_key.specs.Table.{Bytes}
use Rattle.tc_log.specs.Adders.{items_of, PutsAdders}
use Rattle.tc_log.specs.Replay.{Puts}

pub puts_key : (old new : Bytes → Option ℕ) (k : Bytes) (v : Option ℕ) → new k ≡ v
    → ((q : Bytes) → is_eq (key_cmp k q) ≡ false → new q ≡ old q) → Puts Bytes old new k v
puts_key old new k v here elsewhere = record {
  here = here;
  elsewhere = λ q apart. elim (cases_Bool (is_eq (key_cmp k q))) [
    | inl same ↦ absurd (apart (sym (exact_bytes k q ((Equal-is (key_cmp k q)).0 same))))
    | inr other ↦
        elsewhere q other
  ];
}

-- the same of the transactions that added to keys
pub puts_adders : (old new : Bytes → Option (Vec ℕ)) (k : Bytes) (v : Option (Vec ℕ)) (us : List ℕ) → new k ≡ v
    → ((q : Bytes) → is_eq (key_cmp k q) ≡ false → new q ≡ old q) → items_of v ≡ us
    → PutsAdders (λ q. items_of (old q)) (λ q. items_of (new q)) k us
puts_adders old new k v us here elsewhere is = record {
  here = ap items_of here ∙ is;
  elsewhere = λ q apart. elim (cases_Bool (is_eq (key_cmp k q))) [
    | inl same ↦ absurd (apart (sym (exact_bytes k q ((Equal-is (key_cmp k q)).0 same))))
    | inr other ↦ ap items_of (elsewhere q other)
  ];
}
