-- What stood at savepoints, by what stands now.
use Rattle.std.proofs.Common.{arith, ◌≡◌, ℕ, zero, suc, ◌<◌, true, List, [], ◌∷◌, ◌++◌, length, Some, refl, sym, ap, ◌∙◌, true≢false}
use Rattle.std.specs.Prelude.{filter, slice_get, take}
use Rattle.std.specs.List.{AllByRecursion}
use Rattle.record_key.proofs.Lists.{all_from, all_appended}
use Rattle.history.specs.History.{Entry, is_among}
use Rattle.simulation.proofs.Entries.{all_filtered}
use Rattle.serial_laws.proofs.Listing.{all_got, all_taken, among_below}

-- of these entries those whose numbers are among these
abbrev pub kept_of : List ℕ → List Entry → List Entry
kept_of kept s = filter (λ e. is_among e.number kept) s

-- a later savepoint has all of them that an earlier one has
abbrev pub Within : List Entry → List ℕ → List ℕ → Type 0
Within s kept later = AllByRecursion (λ e. is_among e.number kept ≡ true → is_among e.number later ≡ true) s

abbrev pub AreSaved : List Entry → List (List ℕ) → List (List Entry) → Type 0
AreSaved s [] [] = Unit {0}
AreSaved s (kept ∷ ks) (was ∷ ws) = (was ≡ kept_of kept s) × AllByRecursion (Within s kept) ks × AreSaved s ks ws
AreSaved s _ _ = ⊥

pub saved_length : (s : List Entry) (ks : List (List ℕ)) (ws : List (List Entry)) → AreSaved s ks ws
    → length ws ≡ length ks
saved_length s [] [] all = refl
saved_length s [] (w ∷ ws) all = absurd all
saved_length s (k ∷ ks) [] all = absurd all
saved_length s (k ∷ ks) (w ∷ ws) all = ap suc (saved_length s ks ws all.2)

-- an entry more, of which no savepoint knows
pub saved_more : (s : List Entry) (e : Entry) (ks : List (List ℕ)) (ws : List (List Entry))
    → AllByRecursion (λ kept. AllByRecursion (λ j. j < e.number) kept) ks → AreSaved s ks ws → AreSaved (e ∷ s) ks ws
saved_more s e [] [] below all = tt
saved_more s e [] (w ∷ ws) below all = absurd all
saved_more s e (k ∷ ks) [] below all = absurd all
saved_more s e (k ∷ ks) (w ∷ ws) below all =
    grind (arith, saved_more s e ks ws below.1 all.2, among_below, all_from, true≢false)

-- all are kept that are among
pub keep_all : (s : List Entry) (kept : List ℕ) → AllByRecursion (λ e. is_among e.number kept ≡ true) s
    → kept_of kept s ≡ s
keep_all [] kept all = refl
keep_all (e ∷ s) kept all = grind (arith, keep_all s kept all.1)

-- a savepoint more, which has them all
pub saved_now : (s : List Entry) (kept : List ℕ) (ks : List (List ℕ)) (ws : List (List Entry))
    → AllByRecursion (λ e. is_among e.number kept ≡ true) s → AreSaved s ks ws
    → AreSaved s (ks ++ kept ∷ []) (ws ++ s ∷ [])
saved_now s kept [] [] among all = (sym (keep_all s kept among), tt, tt)
saved_now s kept [] (w ∷ ws) among all = absurd all
saved_now s kept (k ∷ ks) [] among all = absurd all
saved_now s kept (k ∷ ks) (w ∷ ws) among all = grind (arith, saved_now s kept ks ws among all.2, all_appended, all_from)

-- what an earlier one has is there still after a return to a later one
kept_twice : (s : List Entry) (kept later : List ℕ) → Within s kept later
    → kept_of kept (kept_of later s) ≡ kept_of kept s
kept_twice [] kept later within = refl
kept_twice (e ∷ s) kept later within = grind (arith, kept_twice s kept later within.1, true≢false)

within_itself_too : (s : List Entry) (kept : List ℕ) → Within s kept kept
within_itself_too [] kept = tt
within_itself_too (e ∷ s) kept = ((λ is. is), within_itself_too s kept)

-- a return to the savepoint of this place
pub record Returns (s : List Entry) (kept : List ℕ) (n : ℕ) (ks : List (List ℕ)) (ws : List (List Entry)) : Type 0 where
  pub got : slice_get ws n ≡ Some (kept_of kept s)
  pub saved : AreSaved (kept_of kept s) (take (suc n) ks) (take (suc n) ws)

pub saved_back : (n : ℕ) (s : List Entry) (kept : List ℕ) (ks : List (List ℕ)) (ws : List (List Entry))
    → AreSaved s ks ws
    → slice_get ks n ≡ Some kept → Returns s kept n ks ws
saved_back n s kept [] ws all is = absurd (cc)
saved_back n s kept (k ∷ ks) [] all is = absurd all
saved_back zero s kept (k ∷ ks) (w ∷ ws) all is = grind (arith, kept_twice, within_itself_too)
saved_back (suc n) s kept (k ∷ ks) (w ∷ ws) all is =
    let rest = saved_back n s kept ks ws all.2 is in
    record {
      got = rest.got;
      saved = (
        all.0 ∙ sym (kept_twice s k kept (all_got (Within s k) n ks kept all.1 is)),
        all_from (Within s k) (Within (kept_of kept s) k)
            (λ later within. all_filtered (λ e. is_among e.number k ≡ true → is_among e.number later ≡ true)
            (λ e. is_among e.number kept) s within)
            (take (suc n) ks)
            (all_taken (Within s k) (suc n) ks all.1),
        rest.saved,
      );
    }
