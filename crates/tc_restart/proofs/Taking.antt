-- The losers after a Comp, after an End and after the records of others.
use Rattle.std.proofs.Common.{◌≡◌, ◌≢◌, ℕ, ◌+◌, ◌<◌, ◌≤◌, Bool, true, List, [], ◌∷◌, ◌++◌, length, map, Option, Some, refl, sym, ap, ◌∙◌, subst, arith, inl, inr, eq-eqb, true≢false}
use Rattle.std.specs.Prelude.{◌||◌}
use Rattle.std.specs.List.{All, Contains}
use Rattle.std.specs.List.Sorted.{IsPermutation}
use Rattle.std.proofs.lemmas.List.Elements.{All-cons, All-tail, All-contains, Contains-append_left, Contains-append_right, Contains-push}
use Rattle.std.proofs.lemmas.List.Sorted.{All-permutation, Contains-permutation, IsPermutation-sym, IsPermutation-trans, IsPermutation-map, IsPermutation-append_left, IsPermutation-append_right, IsPermutation-middle}
use Rattle.record_key.specs.declared.op.Op.{Op}
use Rattle.history.specs.declared.record.Record.{Record}
use Rattle.history.specs.declared.record.Record.TheVariants as is
use Rattle.history.specs.Log.{record_at, has_ended, IsStepOf, IsOpBy}
use Rattle.history.specs.Legal.{IsLegal, Stands, IsLatestOrNone}
use Rattle.log_laws.proofs.Records.{AStep, op_same, at_newest, newest_at}
use Rattle.log_laws.proofs.LegalLogs.{step_number, stands_number}
use Rattle.log_laws.proofs.Undo.{latest_found}
use Rattle.log_laws.proofs.Checking.{latest_some}
use Rattle.history.specs.Chains.{undo_from}
use Rattle.tc_restart.specs.declared.loser.Loser.{Loser}
use Rattle.tc_restart.specs.Heaps.{Adds}
use Rattle.tc_restart.specs.Laws.{SparesBelow, OthersSpareLosers}
use Rattle.tc_restart.specs.Lists.{Lists}
use Rattle.tc_restart.specs.Losers.{LosersView, AreLosers, IsLoser, IsUndone, IsAt, TakesComp, TakesEnd, txns}
use Rattle.tc_restart.proofs.Lists.{all_from, to_map, times_first, none_of, lists_same, lists_less, lists_reordered}
use Rattle.tc_restart.proofs.Losing.{loser_kept, loser_had, at_kept, undone_kept}
use Rattle.tc_restart.proofs.Listed.{greatest_left, least_done, finds_none, finds_unended}

abbrev txn_of : Loser → ℕ
txn_of x = x.txn

-- the losers are those that are seen and these
pub record AreWith (log : List Record) (below : ℕ) (others : List ℕ) (l : LosersView) : Type 0 where
  pub listed : Lists (IsLoser log below) (others ++ txns l)
  pub undoing : All (IsAt log) l.undoing
  pub done : All (IsUndone log) l.done

-- one of these is put among those that are seen
module _ (log : List Record) (below : ℕ) (others : List ℕ) (l new : LosersView) (x : Loser) where
  among : AreWith log below (x.txn ∷ others) l → IsPermutation (x.txn ∷ txns l) (txns new)
      → Lists (IsLoser log below) (others ++ txns new)
  among h more =
      lists_reordered (IsLoser log below) (x.txn ∷ others ++ txns l) (others ++ txns new)
      (IsPermutation-trans (x.txn ∷ (others ++ txns l)) (others ++ x.txn ∷ txns l) (others ++ txns new)
      (IsPermutation-sym (others ++ x.txn ∷ txns l) (x.txn ∷ (others ++ txns l))
      (IsPermutation-middle others x.txn (txns l)))
      (IsPermutation-append_right others (x.txn ∷ txns l) (txns new) more)) h.listed

  with_left : AreWith log below (x.txn ∷ others) l → x.left ≢ 0 → IsLatestOrNone (IsStepOf log x.txn) x.last
      → IsLatestOrNone (Stands log x.txn) x.left → IsPermutation (x ∷ l.undoing) new.undoing → new.done ≡ l.done
      → AreWith log below others new
  with_left h some last left same done =
      let more : IsPermutation (x.txn ∷ txns l) (txns new) =
      subst (λ ends. IsPermutation (x.txn ∷ txns l) (map txn_of new.undoing ++ ends)) (sym done)
      (IsPermutation-append_left l.done (x.txn ∷ map txn_of l.undoing) (map txn_of new.undoing)
      (IsPermutation-map txn_of (x ∷ l.undoing) new.undoing same)) in
      record {
        listed = among h more;
        undoing = All-permutation (IsAt log) (x ∷ l.undoing) new.undoing same
            (All-cons (IsAt log) x l.undoing
            (record { last = last; left = latest_some (Stands log x.txn) x.left some left }) h.undoing);
        done = subst (All (IsUndone log)) (sym done) h.done;
      }

  with_done : AreWith log below (x.txn ∷ others) l → x.left ≡ 0 → IsLatestOrNone (Stands log x.txn) x.left
      → IsPermutation (x.txn ∷ l.done) new.done → new.undoing ≡ l.undoing → AreWith log below others new
  with_done h none left same undoing =
      let ends : IsPermutation (x.txn ∷ txns l) (map txn_of l.undoing ++ new.done) =
      IsPermutation-trans (x.txn ∷ txns l) (map txn_of l.undoing ++ x.txn ∷ l.done) (map txn_of l.undoing ++ new.done)
      (IsPermutation-sym (map txn_of l.undoing ++ x.txn ∷ l.done) (x.txn ∷ txns l)
      (IsPermutation-middle (map txn_of l.undoing) x.txn l.done))
      (IsPermutation-append_right (map txn_of l.undoing) (x.txn ∷ l.done) new.done same) in
      let more : IsPermutation (x.txn ∷ txns l) (txns new) =
      subst (λ (xs : List Loser). IsPermutation (x.txn ∷ txns l) (map txn_of xs ++ new.done)) (sym undoing) ends in
      let undone : IsUndone log x.txn = λ n stands. elim left [
        | inl latest ↦ omega (arith, none, (stands_number log x.txn x.left latest.is).positive)
        | inr nothing ↦ nothing.1 n stands
      ] in
      record {
        listed = among h more;
        undoing = subst (All (IsAt log)) (sym undoing) h.undoing;
        done = All-permutation (IsUndone log) (x.txn ∷ l.done) new.done same
            (All-cons (IsUndone log) x.txn l.done undone h.done);
      }

  pub added : AreWith log below (x.txn ∷ others) l → IsLatestOrNone (IsStepOf log x.txn) x.last
      → IsLatestOrNone (Stands log x.txn) x.left → Adds l x new → AreWith log below others new
  added h last left adds = elim adds.1 [
    | inl a ↦ with_done h a.0 left a.2 a.1
    | inr a ↦ with_left h a.0 last left a.1 a.2
  ]

module _ (r : Record) (log : List Record) (legal : IsLegal (r ∷ log)) (below : ℕ) (bound : below ≤ length log + 1) where
  -- a record that ends none of the losers, and is no step of one that is seen
  with_other : (others : List ℕ) (l : LosersView) → ((t : ℕ) → t < below → r ≡ is.Commit t → ⊥)
      → ((t : ℕ) → t < below → r ≡ is.End t → ⊥)
      → ((t : ℕ) → Contains (txns l) t → AStep t (Some r) → ⊥) → AreWith log below others l
      → AreWith (r ∷ log) below others l
  with_other others l commits ends steps h = record {
    listed = lists_same (IsLoser log below) (IsLoser (r ∷ log) below)
        (λ t is. loser_kept r log legal below t (commits t is.early) (ends t is.early) is)
        (λ t is. loser_had r log legal below t bound is) (others ++ txns l) h.listed;
    undoing = all_from (IsAt (r ∷ log)) l.undoing
        (λ x c. at_kept r log legal x
        (steps x.txn (Contains-append_left (map txn_of l.undoing) l.done x.txn (to_map txn_of l.undoing x c)))
        (All-contains (IsAt log) l.undoing x h.undoing c));
    done = all_from (IsUndone (r ∷ log)) l.done
        (λ t c. undone_kept r log legal t (steps t (Contains-append_right (map txn_of l.undoing) l.done t c))
        (All-contains (IsUndone log) l.done t h.done c));
  }

to_with : (log : List Record) (l : LosersView) → AreLosers log l → AreWith log l.below [] l
to_with log l h = record { listed = h.listed; undoing = h.undoing; done = h.done }

pub from_with : (log : List Record) (below : ℕ) (l : LosersView) → below ≤ length log + 1 → l.below ≡ below
    → AreWith log below [] l → AreLosers log l
from_with log below l bound same h = record {
  bound = omega (arith, bound, same);
  listed = subst (λ (b : ℕ). Lists (IsLoser log b) (txns l)) (sym same) h.listed;
  undoing = h.undoing;
  done = h.done;
}

-- the records of others

pub spared_step : (below : ℕ) (r : Record) (t : ℕ) → SparesBelow below r → t < below → AStep t (Some r) → ⊥
spared_step below (is.Op u p o) t spares early s = let e : u ≡ t = cc in omega (arith, spares, early, e)
spared_step below (is.Comp u w x i) t spares early s = let e : u ≡ t = cc in omega (arith, spares, early, e)
spared_step below _ t spares early s = cc

pub spared_commit : (below : ℕ) (r : Record) (t : ℕ) → SparesBelow below r → t < below → r ≡ is.Commit t → ⊥
spared_commit below (is.Commit u) t spares early e = let same : u ≡ t = cc in omega (arith, spares, early, same)
spared_commit below _ t spares early e = cc

pub spared_end : (below : ℕ) (r : Record) (t : ℕ) → SparesBelow below r → t < below → r ≡ is.End t → ⊥
spared_end below (is.End u) t spares early e = let same : u ≡ t = cc in omega (arith, spares, early, same)
spared_end below _ t spares early e = cc

pub others_spare : OthersSpareLosers
others_spare log r l h legal spares =
    from_with (r ∷ log) l.below l (omega (arith, h.bound)) refl
    (with_other r log legal l.below h.bound [] l (λ t early. spared_commit l.below r t spares early)
    (λ t early. spared_end l.below r t spares early)
    (λ t c. spared_step l.below r t spares (All-contains (IsLoser log l.below) (txns l) t h.listed.right c).early)
    (to_with log l h))

-- a Comp

-- the one at the top is taken out
popped : (log : List Record) (below : ℕ) (old mid : LosersView) (x : Loser)
    → IsPermutation old.undoing (x ∷ mid.undoing) → mid.done ≡ old.done
    → AreWith log below [] old → AreWith log below (x.txn ∷ []) mid
popped log below old mid x same done h = record {
  listed = lists_reordered (IsLoser log below) (txns old) (x.txn ∷ txns mid)
      (subst (λ ends. IsPermutation (txns old) (x.txn ∷ map txn_of mid.undoing ++ ends)) (sym done)
      (IsPermutation-append_left old.done (map txn_of old.undoing) (x.txn ∷ map txn_of mid.undoing)
      (IsPermutation-map txn_of old.undoing (x ∷ mid.undoing) same))) h.listed;
  undoing = All-tail (IsAt log) x mid.undoing (All-permutation (IsAt log) old.undoing (x ∷ mid.undoing) same h.undoing);
  done = subst (All (IsUndone log)) (sym done) h.done;
}

-- no other is its transaction
apart : (log : List Record) (below : ℕ) (x : Loser) (l : LosersView) → IsLoser log below x.txn
    → AreWith log below (x.txn ∷ []) l
    → (t : ℕ) → Contains (txns l) t → x.txn ≢ t
apart log below x l loser h t c =
    All-contains (λ u. x.txn ≢ u) (txns l) t
    (none_of x.txn (txns l) (omega (arith, times_first x.txn x.txn (txns l) refl, h.listed.once x.txn loser))) c

-- one operation is of one transaction
one_txn : (log : List Record) (t u n m : ℕ) → n ≡ m → Stands log t n → Stands log u m → t ≡ u
one_txn log t u n m same a b =
    (op_same t u a.op b.op (record_at log m) (subst (λ (k : ℕ). IsOpBy log k t a.op) same a.is) b.is).0

-- what is known of the transaction of a compensation
module _ (log : List Record) (t u next : ℕ) (i : Option Op) (legal : IsLegal (is.Comp t u next i ∷ log)) (number : ℕ)
    (newest : number ≡ length log + 1) where
  abbrev comp : Record
  comp = is.Comp t u next i

  last_now : IsLatestOrNone (IsStepOf (comp ∷ log) t) number
  last_now = inl (record {
    is = at_newest (AStep t) comp log number newest refl;
    greatest = λ m h. omega (arith, newest, (step_number (comp ∷ log) m t h).bounded);
  })

  left_now : IsLatestOrNone (Stands (comp ∷ log) t) next
  left_now =
      newest_at (λ r. IsLatestOrNone (Stands (comp ∷ log) t) (undo_from r number)) comp log number newest
      (latest_found (comp ∷ log) t legal number last_now)

pub takes_comp : (old mid new : LosersView) (x : Loser) (number next : ℕ) → mid.below ≡ old.below
    → IsPermutation old.undoing (x ∷ mid.undoing)
    → mid.done ≡ old.done → All (λ (y : Loser). y.left ≤ x.left) old.undoing
    → Adds mid (record { left = next; txn = x.txn; last = number }) new
    → TakesComp old number next new
takes_comp old mid new x number next below same done top adds log t u i h legal latest newest =
    let r : Record = is.Comp t u next i in
    let there : Contains old.undoing x =
    Contains-permutation (x ∷ mid.undoing) old.undoing x (IsPermutation-sym old.undoing (x ∷ mid.undoing) same)
    (Contains-append_left (x ∷ []) mid.undoing x (Contains-push [] x)) in
    let first = greatest_left log old h x there top in
    let left : x.left ≡ u = omega (arith, first.latest.greatest u latest.is, latest.greatest x.left first.latest.is) in
    let txn : x.txn ≡ t = one_txn log x.txn t x.left u left first.at.left.is legal.0.latest.is in
    let out : AreWith log old.below (x.txn ∷ []) mid = popped log old.below old mid x same done (to_with log old h) in
    let now : AreWith (r ∷ log) old.below (x.txn ∷ []) mid =
    with_other r log legal old.below h.bound (x.txn ∷ []) mid (λ v early e. cc) (λ v early e. cc)
    (λ v c s. let e : t ≡ v = cc in apart log old.below x mid first.loser out v c (txn ∙ e)) out in
    let last = subst (λ (v : ℕ). IsLatestOrNone (IsStepOf (r ∷ log) v) number) (sym txn)
    (last_now log t u next i legal number newest) in
    let undo = subst (λ (v : ℕ). IsLatestOrNone (Stands (r ∷ log) v) next) (sym txn)
    (left_now log t u next i legal number newest) in
    from_with (r ∷ log) old.below new (omega (arith, h.bound)) (adds.0 ∙ below)
    (added (r ∷ log) old.below [] mid new (record { left = next; txn = x.txn; last = number }) now last undo adds)

pub takes_no_comp : (old new : LosersView) (number next : ℕ) → old.undoing ≡ [] → TakesComp old number next new
takes_no_comp old new number next none log t u i h legal latest newest = absurd (finds_none old none log h u latest.is)

-- an End

pub takes_end : (old new : LosersView) (t : ℕ) → new.below ≡ old.below → new.undoing ≡ old.undoing
    → IsPermutation old.done (t ∷ new.done)
    → All (λ u. t ≤ u) old.done → TakesEnd old new
takes_end old new t below undoing same top log u h legal least =
    let r : Record = is.End u in
    let there : Contains old.done t =
    Contains-permutation (t ∷ new.done) old.done t (IsPermutation-sym old.done (t ∷ new.done) same)
    (Contains-append_left (t ∷ []) new.done t (Contains-push [] t)) in
    let first = least_done log old h t there top in
    let is_it : u ≡ t = omega (arith, first.least u least.is, least.least t first.is) in
    let reordered : IsPermutation (txns old) (u ∷ txns new) =
    subst (λ (v : ℕ). IsPermutation (txns old) (v ∷ txns new)) (sym is_it)
    (subst (λ (xs : List Loser). IsPermutation (txns old) (t ∷ map txn_of xs ++ new.done)) (sym undoing)
    (IsPermutation-trans (txns old) (map txn_of old.undoing ++ t ∷ new.done) (t ∷ map txn_of old.undoing ++ new.done)
    (IsPermutation-append_right (map txn_of old.undoing) old.done (t ∷ new.done) same)
    (IsPermutation-middle (map txn_of old.undoing) t new.done))) in
    let ended : has_ended (r ∷ log) u ≡ true = ap (λ (b : Bool). b || has_ended log u) (eq-eqb u u refl) in
    from_with (r ∷ log) old.below new (omega (arith, h.bound)) below (record {
      listed = lists_less (IsLoser log old.below) (IsLoser (r ∷ log) old.below) u (txns new)
          (λ v is. loser_had r log legal old.below v h.bound is)
          (λ v is other. loser_kept r log legal old.below v (λ e. cc) (λ e. other (cc)) is) least.is.loser
          (λ is. true≢false (sym ended ∙ is.open_txn.goes_on))
          (lists_reordered (IsLoser log old.below) (txns old) (u ∷ txns new) reordered h.listed);
      undoing = subst (All (IsAt (r ∷ log))) (sym undoing)
          (all_from (IsAt (r ∷ log)) old.undoing
          (λ x c. at_kept r log legal x (λ s. cc) (All-contains (IsAt log) old.undoing x h.undoing c)));
      done = all_from (IsUndone (r ∷ log)) new.done (λ v c. undone_kept r log legal v (λ s. cc)
          (All-contains (IsUndone log) (t ∷ new.done) v
          (All-permutation (IsUndone log) old.done (t ∷ new.done) same h.done)
          (Contains-append_right (t ∷ []) new.done v c)));
    })

pub takes_no_end : (old new : LosersView) → old.done ≡ [] → TakesEnd old new
takes_no_end old new none log t h legal least = absurd (finds_unended old none log h t least.is)
