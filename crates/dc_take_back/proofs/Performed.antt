-- What is left of a list of performances when some are taken back, each past all that are newer and left.
use Rattle.std.proofs.Common.{◌≡◌, List, [], ◌∷◌, ◌++◌, Option, Some, None, refl, sym, ap, ◌∙◌}
use Rattle.record_key.specs.declared.op.Op.{Op}
use Rattle.record_key.specs.Table.{Table, answer_in, after}
use Rattle.inverse.specs.Inverse.{inverse_of}
use Rattle.inverse.proofs.Undo.{either_order, answer-after, passes_back, undone, without_effect}
use Rattle.dc_leaf.specs.TakingBack.{undone_with}
use Rattle.dc_take_back.specs.Performed.{Performance, replayed, AreAnsweredInPlace, PassesAll, stays, one, BackIsReplayed}

-- one that passes by those that are newer may come last
replayed_last : (opened : Table) (a : List Performance) (p : Performance) (b : List Performance) → PassesAll p.op a
    → replayed opened (a ++ (p ∷ b)) ≡ after (replayed opened (a ++ b)) p.op
replayed_last opened [] p b pass = refl
replayed_last opened (q ∷ a) p b pass =
    ap (λ m. after m q.op) (replayed_last opened a p b pass.1)
    ∙ either_order (replayed opened (a ++ b)) p.op q.op pass.0

-- with the same answer
answer_last : (opened : Table) (o : Op) (a b : List Performance) → PassesAll o a
    → answer_in (replayed opened (a ++ b)) o ≡ answer_in (replayed opened b) o
answer_last opened o [] b pass = refl
answer_last opened o (q ∷ a) b pass =
    answer-after (replayed opened (a ++ b)) q.op o (passes_back o q.op pass.0) ∙ answer_last opened o a b pass.1

-- the last one and what undoes it
undone_last : (m : Table) (o : Op) (i : Option Op) → inverse_of o (answer_in m o) ≡ i → undone_with (after m o) i ≡ m
undone_last m o None is = without_effect m o is
undone_last m o (Some j) is = (undone m o j [] is tt).0

-- what is left was answered at its place
its_answer : (opened : Table) (a : List Performance) (p : Performance) (b : List Performance)
    → AreAnsweredInPlace opened (a ++ (p ∷ b))
    → p.answer ≡ answer_in (replayed opened b) p.op
its_answer opened [] p b all = all.0
its_answer opened (q ∷ a) p b all = its_answer opened a p b all.1

pub answered_without : (opened : Table) (a : List Performance) (p : Performance) (b : List Performance) → PassesAll p.op a
    → AreAnsweredInPlace opened (a ++ (p ∷ b)) → AreAnsweredInPlace opened (a ++ b)
answered_without opened [] p b pass all = all.1
answered_without opened (q ∷ a) p b pass all = (
  all.0 ∙ ap (λ m. answer_in m q.op) (replayed_last opened a p b pass.1)
      ∙ answer-after (replayed opened (a ++ b)) p.op q.op pass.0,
  answered_without opened a p b pass.1 all.1,
)

one_back : (opened : Table) (a : List Performance) (p : Performance) (b : List Performance) → PassesAll p.op a
    → AreAnsweredInPlace opened (a ++ (p ∷ b))
    → undone_with (replayed opened (a ++ (p ∷ b))) (inverse_of p.op p.answer) ≡ replayed opened (a ++ b)
one_back opened a p b pass all =
    let right : p.answer ≡ answer_in (replayed opened (a ++ b)) p.op =
    its_answer opened a p b all ∙ sym (answer_last opened p.op a b pass) in
    ap (λ m. undone_with m (inverse_of p.op p.answer)) (replayed_last opened a p b pass)
    ∙ undone_last (replayed opened (a ++ b)) p.op (inverse_of p.op p.answer) (ap (inverse_of p.op) (sym right))

pub back_replayed : BackIsReplayed
back_replayed opened ps qs m n all is (stays _ _) = is
back_replayed opened ps qs m n all is (one a p b _ _ _ pass rest) =
    back_replayed opened (a ++ b) qs (undone_with m (inverse_of p.op p.answer)) n
    (answered_without opened a p b pass all)
    (ap (λ t. undone_with t (inverse_of p.op p.answer)) is ∙ one_back opened a p b pass all) rest
