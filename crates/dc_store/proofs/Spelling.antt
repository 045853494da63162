-- Room for the images of leaves: one that is raised has no longer image.
use Rattle.std.proofs.Common.{◌≡◌, ℕ, ◌+◌, ◌<◌, ◌≤◌, Bool, true, false, cond, filter, List, [], ◌∷◌, ◌++◌, length, map, get_or, take, sym, subst, arith, inl, inr, le-ltb, lt-ltb}
use Rattle.std.specs.Prelude.{nat_lt}
use Rattle.std.specs.List.{flat_map}
use Rattle.std.proofs.lemmas.Bool.{cases_lt}
use Rattle.std.proofs.lemmas.List.{length-append, take_more}
use Rattle.record_key.specs.declared.entry.Entry.{Entry}
use Rattle.record_key.proofs.Lists.{all_from, all_appended}
use Rattle.dc_ab_lsn.specs.AbLsn.{AbLsnView, raised}
use Rattle.codec.specs.Entries.{entry_bytes, entries_bytes}
use Rattle.codec.specs.Fields.{number}
use Rattle.codec.proofs.Fields.{length-number}
use Rattle.codec.proofs.Images.{image_length}
use Rattle.dc_leaf.specs.Leaf.{LeafView, first, raised_to}
use Rattle.dc_tree.proofs.Changing.{all_mapped}
use Rattle.dc_recovery.specs.Images.{image_of}
use Rattle.dc_store.specs.Writing.{image_len, HasRoom, HaveRoom}
use Rattle.dc_store.proofs.Written.{at_place}

-- ---- fewer entries

kept : (b : Bool) (f : Entry → List ℕ) (e : Entry) (es all : List Entry)
    → length (flat_map f es) ≤ length (flat_map f all)
    → length (flat_map f (cond b (e ∷ es) es)) ≤ length (f e ++ flat_map f all)
kept true f e es all le = omega (arith, length-append (f e) (flat_map f es), length-append (f e) (flat_map f all), le)
kept false f e es all le = omega (arith, length-append (f e) (flat_map f all), le)

fewer : (p : Entry → Bool) (f : Entry → List ℕ) (es : List Entry)
    → length (flat_map f (filter p es)) ≤ length (flat_map f es)
fewer p f [] = omega arith
fewer p f (e ∷ es) = kept (p e) f e (filter p es) es (fewer p f es)

entries_length : (es : List Entry) → length (entries_bytes es) ≡ 8 + length (flat_map entry_bytes es)
unfolding entries_bytes
entries_length es =
    omega (
      arith,
      length-append (number (length es)) (flat_map entry_bytes es),
      length-number (length es),
    )

raised_entries : (v : AbLsnView) (l : ℕ)
    → length (entries_bytes (raised v l).entries) ≤ length (entries_bytes v.entries)
raised_entries v l =
    elim (cases_lt v.low l) [
      | inl less ↦
          rw (lt-ltb v.low l less)
          (omega (
            arith,
            entries_length (filter (λ (e : Entry). nat_lt l e.number) v.entries),
            entries_length v.entries,
            fewer (λ (e : Entry). nat_lt l e.number) entry_bytes v.entries,
          ))
      | inr past ↦ rw (le-ltb v.low l past) (omega arith)
    ]

raised_len : (leaf : LeafView) (l : ℕ) → image_len (raised_to leaf l) ≤ image_len leaf
raised_len leaf l =
    omega (
      arith,
      image_length (image_of (raised_to leaf l)),
      image_length (image_of leaf),
      raised_entries leaf.ab l,
    )

-- ---- room

pub room_raised : (pages : ℕ → ℕ → Bool) (spelling l : ℕ) (leaves : List LeafView) → HaveRoom pages spelling leaves
    → HaveRoom pages spelling (map (λ leaf. raised_to leaf l) leaves)
room_raised pages spelling l leaves all =
    all_mapped (HasRoom pages spelling) (HasRoom pages spelling) (λ leaf. raised_to leaf l)
    (λ leaf has. record {
      spelled = omega (arith, raised_len leaf l, has.spelled);
      page = λ n le. has.page n (omega (arith, raised_len leaf l, le));
    }) leaves all

-- room that isn't taken away
pub room_stays : (old new : ℕ → ℕ → Bool) (before after : ℕ) (leaves : List LeafView)
    → ((id n : ℕ) → old id n ≡ true → new id n ≡ true) → before ≤ after → HaveRoom old before leaves
    → HaveRoom new after leaves
room_stays old new before after leaves kept le all =
    all_from (HasRoom old before) (HasRoom new after)
    (λ leaf has. record {
      spelled = omega (arith, has.spelled, le);
      page = λ n short. kept leaf.id n (has.page n short);
    }) leaves all

-- one leaf more has room
pub room_more : (pages : ℕ → ℕ → Bool) (spelling : ℕ) (leaves : List LeafView) (p : ℕ) → p < length leaves
    → HaveRoom pages spelling (take p leaves) → HasRoom pages spelling (get_or leaves p first)
    → HaveRoom pages spelling (take (p + 1) leaves)
room_more pages spelling leaves p within so_far here =
    subst (HaveRoom pages spelling) (sym (take_more leaves p first within))
    (all_appended (HasRoom pages spelling) (take p leaves) (get_or leaves p first ∷ []) so_far (here, tt))

pub room_at : (pages : ℕ → ℕ → Bool) (spelling : ℕ) (leaves : List LeafView) (p : ℕ) → p < length leaves
    → HaveRoom pages spelling leaves → HasRoom pages spelling (get_or leaves p first)
room_at pages spelling leaves p within all = at_place (HasRoom pages spelling) leaves p within all
