-- A number that is captured is answered as it was.
use Rattle.std.proofs.Common.{◌≡◌, ℕ, ◌≤◌, Bool, true, false, List, [], ◌∷◌, Option, Some, None, refl, sym, ◌∙◌, arith, true≢false, eqb-true, eq-eqb}
use Rattle.std.specs.Prelude.{◌==◌, ◌||◌, nat_le, if◌then◌else◌}
use Rattle.std.specs.List.{AllByRecursion, list_any}
use Rattle.std.proofs.lemmas.Bool.Decides.{nat_tests}
use Rattle.record_key.specs.declared.op.Answer.{Answer}
use Rattle.record_key.specs.declared.op.Op.{Op}
use Rattle.record_key.specs.Table.{key_of}
use Rattle.history.specs.Values.{IsRight}
use Rattle.codec.specs.declared.request.Request.TheVariants as asks
use Rattle.record_key.specs.declared.entry.Entry.{Entry}
use Rattle.dc_ab_lsn.specs.AbLsn.{AbLsnView, captures, saved_in}
use Rattle.record_key.specs.Entries.{numbers}
use Rattle.dc_leaf.specs.Honest.{IsSavedRight}
use Rattle.dc_tree.specs.Leaves.{leaf_at}
use Rattle.dc_core.specs.DcView.{leaves, captures_at}
use Rattle.dc_leaf.specs.Leaf.{LeafView}
use Rattle.node_laws.specs.Node.{NodeView}
use Rattle.dc_core.specs.Serves.{runs, knows}
use Rattle.node_laws.specs.Kept.{IsKept, IsNext, IsSent, IsRightOrNone, IsAnswerIn, IsAnswered}
use Rattle.node_laws.specs.Source.{Source}
use Rattle.node_laws.proofs.Invariant.Sources.{of_log, run_live}
use Rattle.node_laws.proofs.Invariant.Announced.{answered_less}
use Rattle.node_laws.proofs.Invariant.AtKeys.{own_leaf, own_low}

-- the answer that is saved is one of the entries'
pub record IsFound (P : Entry → Type 0) (n : ℕ) (a : Answer) : Type 0 where
  pub entry : Entry
  pub holds : P entry
  pub number : entry.number ≡ n
  pub answer : entry.answer ≡ a

pub saved_found : (P : Entry → Type 0) (n : ℕ) (a : Answer) (es : List Entry) → AllByRecursion P es
    → saved_in es n ≡ Some a → IsFound P n a
saved_found P n a [] all found = absurd (cc)
saved_found P n a (e ∷ es) all found = pick (e.number == n) refl found (saved_found P n a es all.1)
  where
    pick : (b : Bool) → (e.number == n) ≡ b → (if b then Some e.answer else saved_in es n) ≡ Some a
        → (saved_in es n ≡ Some a → IsFound P n a) → IsFound P n a
    pick true same found rest = record { entry = e; holds = all.0; number = eqb-true e.number n same; answer = cc }
    pick false apart found rest = rest found

-- what is captured and not saved is at most the low number
not_listed : (n : ℕ) (es : List Entry) → saved_in es n ≡ None → list_any (λ m. n == m) (numbers es) ≡ true → ⊥
not_listed n [] none any = absurd (cc)
not_listed n (e ∷ es) none any = pick (e.number == n) refl none (n == e.number) refl any (not_listed n es)
  where
    pick : (b : Bool) → (e.number == n) ≡ b → (if b then Some e.answer else saved_in es n) ≡ None
        → (c : Bool) → (n == e.number) ≡ c → (c || list_any (λ m. n == m) (numbers es)) ≡ true
        → (saved_in es n ≡ None → list_any (λ m. n == m) (numbers es) ≡ true → ⊥) → ⊥
    pick true same none c is any rest = absurd (cc)
    pick false apart none true is any rest = true≢false (sym (eq-eqb e.number n (sym (eqb-true n e.number is))) ∙ apart)
    pick false apart none false is any rest = rest none any

pub unsaved_low : (v : AbLsnView) (n : ℕ) → captures v n ≡ true → saved_in v.entries n ≡ None → n ≤ v.low
unsaved_low v n captured none = pick (nat_le n v.low) refl captured
  where
    pick : (b : Bool) → nat_le n v.low ≡ b → (b || list_any (λ m. n == m) (numbers v.entries)) ≡ true → n ≤ v.low
    pick true below h = grind (arith, nat_tests, below)
    pick false above h = absurd (not_listed n v.entries none h)

-- a captured number is answered as it was
module _ (w : NodeView) (s n stable : ℕ) (o : Op) (k : IsKept w)
    (sent : IsSent w.tc w.dc k.source (asks.Perform s n stable o))
    (running : runs w.dc s ≡ true) (captured : captures_at w.dc (key_of o) n ≡ true) where
  abbrev x : Source
  x = k.source

  abbrev leaf : LeafView
  leaf = leaf_at (leaves w.dc) (key_of o)

  abbrev saved : Option Answer
  saved = saved_in leaf.ab.entries n

  next : IsNext x w.dc n stable o
  next = sent.1.holds running

  by_parts : (m : ℕ) (b a : Answer) → m ≡ n → b ≡ a → IsRight x.log m b → IsRight x.log n a
  by_parts m b a same answer right = rw (← same, ← answer) right

  right : (a : Option Answer) → saved ≡ a → IsRightOrNone x n a
  right None none =
      answered_less x.log x.sure n leaf.ab.low (unsaved_low leaf.ab n captured none) (own_low w (key_of o) k)
  right (Some a) found =
      let f = saved_found (IsSavedRight x.log) n a leaf.ab.entries (own_leaf w (key_of o) k).saved found in
      by_parts f.entry.number f.entry.answer a f.number f.answer f.holds.right

  pub repeated : IsAnswered w.tc (knows w.dc stable) x s n saved
  repeated = record {
    older = sent.0;
    captured = record {
      begun = sent.1.begun;
      holds = λ r. record { op = o; requests = next.requests; captured = captured };
    };
    own = λ unwaiting same.
        of_log w.tc x (λ (y : Source). IsAnswerIn y n saved) (run_live w s k running same)
        (record { op = o; requests = next.requests; answer = right saved refl });
  }
