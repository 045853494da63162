-- Where a loser is listed, and what follows for the greatest operation left and the least loser that may end.
use Rattle.std.proofs.Common.{◌≡◌, ℕ, ◌≤◌, ◌⊎◌, List, [], map, Option, Some, None, sym, refl, subst, arith, inl, inr, true, false, true≢false, Bool, is_some}
use Rattle.std.specs.Prelude.{not}
use Rattle.std.specs.List.{All, Contains}
use Rattle.std.proofs.lemmas.List.Elements.{All-contains, Contains-append_left, Contains-append_right, Contains-append_cases}
use Rattle.history.specs.declared.record.Record.{Record}
use Rattle.history.specs.Legal.{Stands}
use Rattle.tc_restart.specs.declared.loser.Loser.{Loser}
use Rattle.tc_restart.specs.Losers.{LosersView, AreLosers, IsLoser, IsUndone, IsAt, IsLeft, MayEnd, IsLeast, LosesNext, TellsNone, FindsNext, FindsEnded, txns}
use Rattle.tc_restart.proofs.Lists.{from_map, to_map, is_there}

module _ (log : List Record) (l : LosersView) (h : AreLosers log l) where
  -- a loser is listed with something left, or as done
  listed : (t : ℕ) → IsLoser log l.below t → ((x : Loser) × Contains l.undoing x × (x.txn ≡ t)) ⊎ Contains l.done t
  listed t loser =
      elim (Contains-append_cases (map (λ (x : Loser). x.txn) l.undoing) l.done t
      (is_there t (txns l) (omega (arith, h.listed.once t loser)))) [
        | inl c ↦ inl (from_map (λ (x : Loser). x.txn) l.undoing t c)
        | inr c ↦ inr c
      ]

  -- a listed one is a loser
  pub undoing_loser : (x : Loser) → Contains l.undoing x → IsLoser log l.below x.txn
  undoing_loser x c =
      All-contains (IsLoser log l.below) (txns l) x.txn h.listed.right
      (Contains-append_left (map (λ (y : Loser). y.txn) l.undoing) l.done x.txn
      (to_map (λ (y : Loser). y.txn) l.undoing x c))

  pub undoing_at : (x : Loser) → Contains l.undoing x → IsAt log x
  undoing_at x c = All-contains (IsAt log) l.undoing x h.undoing c

  pub done_ends : (t : ℕ) → Contains l.done t → MayEnd log l.below t
  done_ends t c = record {
    loser = All-contains (IsLoser log l.below) (txns l) t h.listed.right
        (Contains-append_right (map (λ (x : Loser). x.txn) l.undoing) l.done t c);
    undone = All-contains (IsUndone log) l.done t h.done c;
  }

  -- whose operation stands has it left, and who has none left is done
  pub stands_listed : (t n : ℕ) → IsLoser log l.below t → Stands log t n
      → (x : Loser) × Contains l.undoing x × (x.txn ≡ t)
  stands_listed t n loser stands = elim (listed t loser)
      [ inl found ↦ found | inr c ↦ absurd ((done_ends t c).undone n stands) ]

  pub ends_listed : (t : ℕ) → MayEnd log l.below t → Contains l.done t
  ends_listed t ends = elim (listed t ends.loser) [
    | inl found ↦ absurd (ends.undone found.0.left
        (subst (λ (u : ℕ). Stands log u found.0.left) found.2 (undoing_at found.0 found.1).left.is))
    | inr c ↦ c
  ]

  -- so an operation that is left is at most what its transaction is listed with
  pub left_below : (n : ℕ) → IsLeft log l.below n → (x : Loser) × Contains l.undoing x × (n ≤ x.left)
  left_below n is =
      let found = stands_listed is.txn n is.loser is.stands in (
        found.0,
        found.1,
        (undoing_at found.0 found.1).left.greatest n
            (subst (λ (u : ℕ). Stands log u n) (sym found.2) is.stands),
      )

  -- the listed one that has the greatest left
  pub greatest_left : (x : Loser) → Contains l.undoing x → All (λ (y : Loser). y.left ≤ x.left) l.undoing
      → LosesNext log l.below x
  greatest_left x c top = record {
    loser = undoing_loser x c;
    at = undoing_at x c;
    latest = record {
      is = record { txn = x.txn; loser = undoing_loser x c; stands = (undoing_at x c).left.is };
      greatest = λ n is.
          let found = left_below n is in
          omega (arith, found.2, All-contains (λ (y : Loser). y.left ≤ x.left) l.undoing found.0 top found.1);
    };
  }

  -- and the least one that is done
  pub least_done : (t : ℕ) → Contains l.done t → All (λ u. t ≤ u) l.done → IsLeast (MayEnd log l.below) t
  least_done t c top = record
      { is = done_ends t c; least = λ u ends. All-contains (λ v. t ≤ v) l.done u top (ends_listed u ends) }

pub finds_next : (l : LosersView) (x : Loser) → Contains l.undoing x → All (λ (y : Loser). y.left ≤ x.left) l.undoing
    → FindsNext l (Some x)
finds_next l x c top log h = greatest_left log l h x c top

pub finds_none : (l : LosersView) → l.undoing ≡ [] → FindsNext l None
finds_none l none log h = λ n is.
    let found = left_below log l h n is in
    let c : Contains [] found.0 = subst (λ xs. Contains xs found.0) none found.1 in
    omega (arith, c.1)

pub finds_ended : (l : LosersView) (t : ℕ) → Contains l.done t → All (λ u. t ≤ u) l.done → FindsEnded l (Some t)
finds_ended l t c top log h = least_done log l h t c top

pub finds_unended : (l : LosersView) → l.done ≡ [] → FindsEnded l None
finds_unended l none log h = λ t ends.
    let c : Contains [] t = subst (λ xs. Contains xs t) none (ends_listed log l h t ends) in
    omega (arith, c.1)

-- where nothing is left, there is a loser just where one may end
pub tells_none : (l : LosersView) (next : Option Loser) (ended : Option ℕ) (b : Bool) → FindsNext l next
    → FindsEnded l ended → is_some next ≡ false
    → is_some ended ≡ not b → TellsNone l b
tells_none l (Some x) ended b next ends some none = absurd (true≢false some)
tells_none l None None true next ends some none = λ log h. (
  λ _ t loser. elim (listed log l h t loser) [
    | inl found ↦
        let x = found.0 in
        next log h x.left (record
        { txn = x.txn; loser = undoing_loser log l h x found.1; stands = (undoing_at log l h x found.1).left.is })
    | inr c ↦ ends log h t (done_ends log l h t c)
  ],
  λ _. refl,
)
tells_none l None None false next ends some none = absurd (true≢false (sym none))
tells_none l None (Some t) true next ends some none = absurd (true≢false none)
tells_none l None (Some t) false next ends some none = λ log
    h. (λ e. absurd (true≢false (sym e)), λ no_loser. absurd (no_loser t (ends log h).is.loser))
