-- What is kept where one transaction changes, and where an answer puts its entry into the history.
use Rattle.std.proofs.Common.{◌≡◌, ◌≢◌, ℕ, ◌<◌, ◌≤◌, List, ◌++◌, refl, sym, ap, ◌∙◌, subst, arith, inl, inr, true≢false}
use Rattle.std.specs.List.{AllByRecursion}
use Rattle.std.specs.FinMap.{empty}
use Rattle.std.proofs.lemmas.Bool.{cases_eq}
use Rattle.record_key.specs.declared.op.Op.{Op}
use Rattle.record_key.specs.Table.{answer_in}
use Rattle.record_key.proofs.Lists.{all_from}
use Rattle.inverse.specs.Inverse.{PassBy}
use Rattle.inverse.proofs.Undo.{passes_back}
use Rattle.history.specs.History.{Entry, plain, placed}
use Rattle.history.specs.Spans.{Span, changed_span}
use Rattle.history.specs.ListMachine.{Machine, Txn, Status, Open, Waiting, Reading, with_txn}
use Rattle.simulation.specs.View.{standing, IsAmong}
use Rattle.serial_laws.specs.Replay.{replay, AreTrue}
use Rattle.serial_laws.specs.Serial.{MayCommit}
use Rattle.serial_laws.proofs.Passing.{Pairs, PassesAll, Parts, plain_replay, true_between}
use Rattle.serial_laws.proofs.Listing.{all_two, all_first, all_second, all_between, all_true, pairs_with, pairs_between, among_below, unplaced}
use Rattle.serial_laws.proofs.Keeping.{AreApart, apart_back, apart_pass, Owns, IsOwned, IsOlder, Keeps, IsSave, IsAwaited, Awaits, IsTxn, IsKept}

-- the transaction at a number
pub at_txn : (P : Txn → Type 0) (m : Machine) (u : ℕ) (x : Txn) (t : ℕ) → (t ≡ u → P x) → (t ≢ u → P (m.txns t))
    → P ((with_txn m u x).txns t)
at_txn h m u x t here there = grind arith

-- it still owns its entries, and commits only if it could
abbrev pub OwnsStill : Machine → ℕ → Txn → Entry → Type 0
OwnsStill m u x e = e.txn ≡ u → Owns x e.op × (MayCommit x.status → MayCommit (m.txns u).status)

pub record Turns (m : Machine) (u : ℕ) (x : Txn) : Type 0 where
  pub owns : AllByRecursion (OwnsStill m u x) (standing m.h)
  pub apart : (t : ℕ) → t ≢ u → MayCommit x.status → MayCommit (m.txns t).status → AreApart x.spans (m.txns t).spans
  pub txn : IsTxn (standing m.h) m.h u x

pub kept_turned : (m : Machine) (u : ℕ) (x : Txn) → IsKept m → Turns m u x → IsKept (with_txn m u x)
kept_turned m u x kept turns = record {
  told = kept.told;
  owned = all_two (IsOwned m) (OwnsStill m u x) (IsOwned (with_txn m u x)) (standing m.h)
      (λ e owned still. at_txn (λ y. Owns y e.op) m u x e.txn (λ own. (still own).0) (λ apart. owned))
      kept.owned turns.owns;
  older = pairs_with (OwnsStill m u x) (IsOlder m) (IsOlder (with_txn m u x)) (standing m.h)
      (λ g e new still older may other. older
      ((at_txn (λ y. MayCommit y.status → MayCommit (m.txns e.txn).status) m u x e.txn
      (λ own now. subst (λ (t : ℕ). MayCommit (m.txns t).status) (sym own) ((still own).1 now)) (λ apart now. now)) may)
      other)
      turns.owns kept.older;
  apart = λ t v other.
      at_txn (λ y. MayCommit y.status → MayCommit ((with_txn m u x).txns v).status
      → AreApart y.spans ((with_txn m u x).txns v).spans) m u x t
      (λ e. at_txn (λ z. MayCommit x.status → MayCommit z.status → AreApart x.spans z.spans) m u x v
      (λ f. absurd (other (e ∙ sym f))) (λ off. turns.apart v off))
      (λ off. at_txn (λ z. MayCommit (m.txns t).status → MayCommit z.status → AreApart (m.txns t).spans z.spans) m u x v
      (λ f may too. apart_back x.spans (m.txns t).spans (turns.apart t off too may)) (λ _. kept.apart t v other));
  each = λ t. at_txn (IsTxn (standing m.h) m.h t) m u x t
      (λ e. subst (λ (k : ℕ). IsTxn (standing m.h) m.h k x) (sym e) turns.txn) (λ _. kept.each t);
}

-- one that goes on keeps what it holds
pub owns_on : (m : Machine) (u : ℕ) (x : Txn) (e : Entry) → MayCommit (m.txns u).status → MayCommit x.status
    → x.begun ≡ (m.txns u).begun → ((s : Span) → IsAmong s (m.txns u).spans → IsAmong s x.spans)
    → IsOwned m e → OwnsStill m u x e
owns_on m u x e may goes begun more owned own =
    let owns : Owns (m.txns u) e.op = subst (λ (t : ℕ). Owns (m.txns t) e.op) own owned in (
      (
        begun ∙ owns.0,
        elim (owns.1) [
          | inl committed ↦ absurd (subst MayCommit committed may)
          | inr holds ↦ inr (goes, more (changed_span e.op) holds.1)
        ],
      ),
      λ _. may,
    )

pub turns_on : (m : Machine) (u : ℕ) (x : Txn) → IsKept m → MayCommit (m.txns u).status → MayCommit x.status
    → x.begun ≡ (m.txns u).begun → ((s : Span) → IsAmong s (m.txns u).spans → IsAmong s x.spans)
    → ((t : ℕ) → t ≢ u → MayCommit (m.txns t).status → AreApart x.spans (m.txns t).spans)
    → IsTxn (standing m.h) m.h u x
    → Turns m u x
turns_on m u x kept may goes begun more apart txn = record {
  owns = all_from (IsOwned m) (OwnsStill m u x) (λ e. owns_on m u x e may goes begun more) (standing m.h) kept.owned;
  apart = λ t off now. apart t off;
  txn = txn;
}

-- an entry more
module _ (m : Machine) (e : Entry) (kept : IsKept m) (open_txn : (m.txns e.txn).status ≡ Open)
    (awaits : IsAwaited (standing m.h) e.txn (m.txns e.txn).spans (m.txns e.txn).saves e.number e.op)
    (told : e.answer ≡ answer_in (plain m.h) e.op) (p : Parts e (standing m.h) (standing (placed e m.h)))
  where
    may : MayCommit (m.txns e.txn).status
    may = subst MayCommit (sym open_txn) tt

    -- what holds of those that stood holds of the two parts
    split : (P : Entry → Type 0) → AllByRecursion P (standing m.h) → AllByRecursion P (p.newer ++ p.older)
    split P all = subst (AllByRecursion P) p.before all

    more : (P : Entry → Type 0) → P e → AllByRecursion P (standing m.h) → AllByRecursion P (standing (placed e m.h))
    more P here all = subst (AllByRecursion P) (sym p.now) (all_between P e p.newer p.older here (split P all))

    more_pairs : (R : Entry → Entry → Type 0) → AllByRecursion (λ g. R g e) p.newer → AllByRecursion (R e) p.older
        → Pairs R (standing m.h) → Pairs R (standing (placed e m.h))
    more_pairs R above below all =
        subst (Pairs R) (sym p.now) (pairs_between R e p.newer p.older above below (subst (Pairs R) p.before all))

    pass : PassesAll e.op p.newer
    pass =
        all_two (λ f. e.number ≤ f.number) (λ f. e.number ≤ f.number → PassBy e.op f.op) (λ f. PassBy e.op f.op) p.newer
        (λ f le passes. passes le) p.above
        (all_first (λ f. e.number ≤ f.number → PassBy e.op f.op) p.newer p.older
        (split (λ f. e.number ≤ f.number → PassBy e.op f.op) awaits.newer))

    told_all : AreTrue empty (standing (placed e m.h))
    told_all =
        subst (AreTrue empty) (sym p.now) (true_between empty e p.newer p.older pass
        (told ∙ ap (λ x. answer_in x e.op) (sym (plain_replay m.h))
        ∙ ap (λ s. answer_in (replay empty s) e.op) p.before)
        (subst (AreTrue empty) p.before kept.told))

    apart_from : (t : ℕ) (o : Op) → t ≢ e.txn → MayCommit (m.txns t).status → IsAmong (changed_span o) (m.txns t).spans
        → PassBy o e.op
    apart_from t o off too held =
        apart_pass o e.op (m.txns t).spans (m.txns e.txn).spans (kept.apart t e.txn off too may) held awaits.held

    older_below : (f : Entry) → IsOwned m f → IsOlder m e f
    older_below f owned too other =
        elim (owned.1) [
          | inl committed ↦ absurd (subst MayCommit committed too)
          | inr holds ↦ passes_back f.op e.op (apart_from f.txn f.op (λ s. other (sym s)) holds.0 holds.1)
        ]

    awaits_more : (t : ℕ) (st : Status) → t ≢ e.txn → (m.txns t).status ≡ st
        → Awaits (standing m.h) t (m.txns t).spans (m.txns t).saves st
        → Awaits (standing (placed e m.h)) t (m.txns t).spans (m.txns t).saves st
    awaits_more t (Waiting k o) off is w = record {
      held = w.held;
      newer = more (λ f. k ≤ f.number → PassBy o f.op)
          (λ _. apart_from t o off (subst MayCommit (sym is) tt) w.held) w.newer;
      own = more (λ f. f.txn ≡ t → f.number < k) (λ own. absurd (off (sym own))) w.own;
      saved = w.saved;
    }
    awaits_more t (Reading q) off is w = w
    awaits_more t _ off is w = tt

    save_more : (t : ℕ) (kept : List ℕ) → AllByRecursion (λ g. Keeps t kept g e) p.newer
        → AllByRecursion (Keeps t kept e) p.older → IsSave (standing m.h) m.h t kept
        → IsSave (standing (placed e m.h)) (placed e m.h) t kept
    save_more t kept newer older save = record {
      older = more_pairs (Keeps t kept) newer older save.older;
      below = λ n below. save.below n (unplaced (λ f. f.number < n) e m.h below);
    }

    own_save : (kept : List ℕ) → AllByRecursion (λ j. j < e.number) kept → IsSave (standing m.h) m.h e.txn kept
        → IsSave (standing (placed e m.h)) (placed e m.h) e.txn kept
    own_save kept below save =
        save_more e.txn kept
        (all_two (λ f. e.number ≤ f.number) (λ f. f.txn ≡ e.txn → f.number < e.number)
        (λ g. Keeps e.txn kept g e) p.newer
        (λ f le own is. let lt : f.number < e.number = own is in absurd (omega (arith, le, lt))) p.above
        (all_first (λ f. f.txn ≡ e.txn → f.number < e.number) p.newer p.older
        (split (λ f. f.txn ≡ e.txn → f.number < e.number) awaits.own)))
        (all_true (Keeps e.txn kept e) p.older
        (λ f here there among. absurd (true≢false (sym among ∙ among_below e.number kept below))))
        save

    other_save : (t : ℕ) (kept : List ℕ) → t ≢ e.txn → IsSave (standing m.h) m.h t kept
        → IsSave (standing (placed e m.h)) (placed e m.h) t kept
    other_save t kept off save =
        save_more t kept
        (all_true (λ g. Keeps t kept g e) p.newer (λ g here there among. absurd (off (sym there))))
        (all_true (Keeps t kept e) p.older (λ f here there among. absurd (off (sym here))))
        save

    txn_more : (t : ℕ) → IsTxn (standing (placed e m.h)) (placed e m.h) t (m.txns t)
    txn_more t =
        elim (cases_eq t e.txn) [
          | inl same ↦ subst (λ (k : ℕ). IsTxn (standing (placed e m.h)) (placed e m.h) k (m.txns k)) (sym same)
              (record {
                begun = (kept.each e.txn).begun;
                waits = subst (Awaits (standing (placed e m.h)) e.txn (m.txns e.txn).spans (m.txns e.txn).saves)
                    (sym open_txn) tt;
                saved = λ now. all_two (λ kept. AllByRecursion (λ j. j < e.number) kept)
                    (IsSave (standing m.h) m.h e.txn) (IsSave (standing (placed e m.h)) (placed e m.h) e.txn)
                    (m.txns e.txn).saves own_save awaits.saved ((kept.each e.txn).saved now);
              })
          | inr off ↦ record {
            begun = (kept.each t).begun;
            waits = awaits_more t (m.txns t).status off refl (kept.each t).waits;
            saved = λ now. all_from (IsSave (standing m.h) m.h t) (IsSave (standing (placed e m.h)) (placed e m.h) t)
                (λ kept. other_save t kept off) (m.txns t).saves ((kept.each t).saved now);
          }
        ]

    pub kept_placed : IsKept (record m { h = placed e m.h })
    kept_placed = record {
      told = told_all;
      owned = more (IsOwned m) ((kept.each e.txn).begun may, inr (may, awaits.held)) kept.owned;
      older = more_pairs (IsOlder m)
          (all_from (λ g. PassBy e.op g.op) (λ g. IsOlder m g e)
          (λ g passes now other. passes_back e.op g.op passes) p.newer
          pass)
          (all_from (IsOwned m) (IsOlder m e) older_below p.older (all_second (IsOwned m) p.newer p.older
          (split (IsOwned m) kept.owned)))
          kept.older;
      apart = kept.apart;
      each = txn_more;
    }
