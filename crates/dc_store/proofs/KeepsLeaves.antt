-- Leaves that change, and keep numbers that have spellings.
use Rattle.std.proofs.Common.{◌≡◌, ℕ, false, List, Option, map, sym, subst, inl, inr}
use Rattle.std.specs.Prelude.{not, nat_lt}
use Rattle.std.specs.List.{AllByRecursion}
use Rattle.std.proofs.lemmas.Bool.{cases_Bool, MatchBool-at_true, MatchBool-at_false}
use Rattle.record_key.specs.Table.{key_of}
use Rattle.record_key.specs.declared.entry.Entry.{Entry}
use Rattle.record_key.specs.declared.op.Answer.{Answer}
use Rattle.record_key.specs.declared.op.Op.{Op}
use Rattle.dc_ab_lsn.specs.AbLsn.{captures}
use Rattle.codec.specs.Entries.{HasEntryNumber}
use Rattle.codec.specs.Fields.{IsNumber}
use Rattle.dc_leaf.specs.declared.leaf.Done.{Done}
use Rattle.dc_leaf.specs.Leaf.{LeafView, performed, raised_to}
use Rattle.dc_leaf.specs.TakingBack.{taken_back as leaf_taken_back}
use Rattle.dc_leaf.proofs.Raising.{all_filtered}
use Rattle.dc_tree.specs.Leaves.{AreLeaves, leaf_at}
use Rattle.dc_tree.specs.Performs.{PerformsAt, performed_at}
use Rattle.dc_tree.proofs.Changing.{all_changed, all_mapped}
use Rattle.dc_tree.proofs.Stays.{performed_leaves, raised_stays}
use Rattle.dc_recovery.specs.Images.{HasLeafNumbers}
use Rattle.dc_recovery.proofs.Images.{numbers_stay}
use Rattle.dc_store.specs.SystemView.{SystemView}
use Rattle.dc_store.specs.Changes.{lowered, taken_back}
use Rattle.dc_store.specs.Kept.{IsSystem}

keeps_changed : (v : SystemView) (leaves : List LeafView) → IsSystem v → AreLeaves leaves
    → AllByRecursion HasLeafNumbers leaves → IsSystem (record v { leaves = leaves })
keeps_changed v leaves h kept numbers = record {
  leaves = kept;
  numbers = numbers;
  records = h.records;
  numbered = h.numbered;
  named = h.named;
  pages = h.pages;
}

pub keeps_lowered : (v : SystemView) (l : ℕ) → IsNumber l → IsSystem v → IsSystem (lowered v l)
keeps_lowered v l small h =
    keeps_changed v (map (λ leaf. raised_to leaf l) v.leaves) h
    (raised_stays v.leaves l h.leaves).leaves
    (all_mapped HasLeafNumbers HasLeafNumbers (λ leaf. raised_to leaf l)
    (λ leaf has. numbers_stay.raise leaf l has small) v.leaves h.numbers)

-- what is above an end is taken back
pub keeps_taken_back : (v : SystemView) (end : ℕ) → IsSystem v → AreLeaves (taken_back v end).leaves
    → IsSystem (taken_back v end)
keeps_taken_back v end h kept =
    keeps_changed v (taken_back v end).leaves h kept
    (all_mapped HasLeafNumbers HasLeafNumbers (λ leaf. leaf_taken_back leaf end)
    (λ leaf has. record {
      id = has.id;
      last = has.last;
      low = has.low;
      entries =
          all_filtered HasEntryNumber (λ (e : Entry). not (nat_lt end e.number)) leaf.ab.entries has.entries;
    })
    v.leaves h.numbers)

pub keeps_performed : (v : SystemView) (n : ℕ) (o : Op) → IsNumber n → IsSystem v
    → captures (leaf_at v.leaves (key_of o)).ab n ≡ false → IsSystem (record v { leaves = performed_at v.leaves n o })
keeps_performed v n o small h out =
    let act : LeafView → LeafView = λ leaf. performed leaf n o in
    keeps_changed v (performed_at v.leaves n o) h
    (performed_leaves v.leaves n o h.leaves out)
    (all_changed HasLeafNumbers (key_of o) act v.leaves
    (λ has. numbers_stay.perform (leaf_at v.leaves (key_of o)) n o has small) h.numbers)

-- the same, whatever the request came to
pub keeps_performs : (v : SystemView) (n : ℕ) (o : Op) (done : Done) (a : Option Answer) (new : List LeafView)
    → IsNumber n → IsSystem v → PerformsAt v.leaves n o done a new → IsSystem (record v { leaves = new })
keeps_performs v n o done a new small h performs =
    let Of : List LeafView → Type 0 = λ leaves. IsSystem (record v { leaves = leaves }) in
    elim (cases_Bool (captures (leaf_at v.leaves (key_of o)).ab n)) [
      | inl again ↦ subst Of (sym (MatchBool-at_true _ _ again performs).1.1) h
      | inr out ↦ subst Of (sym (MatchBool-at_false _ _ out performs).1.1) (keeps_performed v n o small h out)
    ]
