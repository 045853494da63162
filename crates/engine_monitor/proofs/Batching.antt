-- The operations of a batch, one after another.
use Rattle.std.proofs.Common.{ℕ, ◌+◌, ◌<◌, zero, suc, List, [], ◌∷◌, ◌++◌, length, take, get_or, refl, sym, subst, arith, add-one}
use Rattle.record_key.specs.declared.op.Answer.{Answer}
use Rattle.record_key.specs.declared.op.Op.{Op}
use Rattle.engine_guarded.specs.engine_history.specs.Sessions.{SessionCalls}
use Rattle.engine_monitor.specs.Batches.{Acts, ActsEach}

acts_one_more : (ops : List Op) (answers : List Answer) (i : ℕ) (d : Op) (a : Answer) (old mid new : SessionCalls)
    → i < length ops → ActsEach (take i ops) answers old mid → Acts (get_or ops i d) a mid new
    → ActsEach (take (suc i) ops) (answers ++ a ∷ []) old new
acts_one_more [] answers i d a old mid new less acted acts = absurd (omega (arith, less))
acts_one_more (o ∷ ops) [] zero d a old mid new less same acts =
    (new, subst (λ (p : SessionCalls). Acts o a p new) same acts, refl)
acts_one_more (o ∷ ops) (b ∷ answers) zero d a old mid new less none acts = absurd none
acts_one_more (o ∷ ops) [] (suc i) d a old mid new less none acts = absurd none
acts_one_more (o ∷ ops) (b ∷ answers) (suc i) d a old mid new less (next, first, rest) acts =
    (next, first, acts_one_more ops answers i d a next mid new (omega (arith, less)) rest acts)

-- those so far, and one more
pub acts_more : (ops : List Op) (answers : List Answer) (i : ℕ) (d : Op) (a : Answer) (old mid new : SessionCalls)
    → i < length ops → ActsEach (take i ops) answers old mid → Acts (get_or ops i d) a mid new
    → ActsEach (take (i + 1) ops) (answers ++ a ∷ []) old new
acts_more ops answers i d a old mid new less acted acts =
    subst (λ (k : ℕ). ActsEach (take k ops) (answers ++ a ∷ []) old new) (sym (add-one i))
    (acts_one_more ops answers i d a old mid new less acted acts)
