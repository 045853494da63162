use Rattle.std.proofs.Common.{rules, ◌∙◌, List, ℕ, [], ◌∷◌, ◌++◌, ap}
use Rattle.inverse.specs.Inverse.{undo_of}
use Rattle.codec.proofs.UndoBytes.{comp_spelled, some_answer, deleted, updated, inserted, added, not_undone}
use Rattle.codec.proofs.undoing.put_inverse.Goals as goal

pub returns-in_default-clause-spelling : goal.returns-in_default-clause-spelling
returns-in_default-clause-spelling c = λ k a fits key is.
    absurd (some_answer a c.args.answer.now is c.in_default.ensures.cases)

pub returns-in-1-clause-spelling : goal.returns-in-1-clause-spelling
returns-in-1-clause-spelling c = λ k a fits key is.
    comp_spelled _ _ c.args.out.now.items _ c.args.numbers (undo_of k a) c.put_comp.ensures.spelling
    (ap (λ (b : List ℕ). (1 ∷ 4 ∷ []) ++ (b ++ [])) key
    ∙ deleted a c.args.answer.now _ _ c.in-Some.ensures.cases.0 is k c.in-1.is)

pub returns-in-2-clause-spelling : goal.returns-in-2-clause-spelling
returns-in-2-clause-spelling c = λ k a fits key is.
    comp_spelled _ _ c.args.out.now.items _ c.args.numbers (undo_of k a) c.put_comp-in-2.ensures.spelling
    (ap (λ (b : List ℕ). (1 ∷ 2 ∷ []) ++ (b ++ c.in-Some.old.now)) key
    ∙ updated a c.args.answer.now _ _ c.in-Some.ensures.cases.0 is k c.in-2.is)

pub returns-in-5-clause-spelling : goal.returns-in-5-clause-spelling
returns-in-5-clause-spelling c = λ k a fits key is.
    comp_spelled _ _ c.args.out.now.items _ c.args.numbers (undo_of k a) c.put_comp-in-5.ensures.spelling
    (ap (λ (b : List ℕ). (1 ∷ 1 ∷ []) ++ (b ++ c.in-Some.old.now)) key
    ∙ inserted a c.args.answer.now _ _ c.in-Some.ensures.cases.0 is k c.in-5.is)

pub returns-in-9-clause-spelling : goal.returns-in-9-clause-spelling
returns-in-9-clause-spelling c = λ k a fits key is.
    comp_spelled _ _ c.args.out.now.items _ c.args.numbers (undo_of k a) c.put_comp-in-9.ensures.spelling
    (ap (λ (b : List ℕ). (1 ∷ 5 ∷ []) ++ (b ++ c.negated_bytes.result)) key
    ∙ added a c.args.answer.now _ _ c.in-Some.ensures.cases.0 is k c.negated_bytes.result fits c.in-9.is
    c.negated_bytes.ensures)

pub returns-in_default-kind-clause-spelling : goal.returns-in_default-kind-clause-spelling
returns-in_default-kind-clause-spelling c = λ k a fits key is.
    comp_spelled _ _ c.args.out.now.items _ c.args.numbers (undo_of k a) c.put_comp-in_default-kind.ensures.spelling
    (not_undone a c.args.answer.now _ _ c.in-Some.ensures.cases.0 is k (search rules) (search rules) (search rules)
    (search rules) (search rules) (search rules))
