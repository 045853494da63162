-- What is known of a device once the result's borrow of it has ended may be weakened.
use Rattle.std.specs.Prelude.{[], ◌∷◌, ⊤}
use Rattle.std.specs.Borrow.{RattleType, MutBor}
use mathlib.Core.Option.{none}
use seplogic.Ra.Ura.{Ura}
use base.Logic.{SProp, ent, emp, sep, ex, all, wand, via, ex_i, all_i, wand_i, emp∗, comm∗, snd∗, mono_l, mono_r}
use contract.Fact.{fact}
use types.Logic.{Logic, sem}
use types.Kit.{‵, ◌$◌, ◌∵◌, !, qed, fpick, fpack, done}
use borrow.Fn.Refines.{Turns}
use denote.Follow.{such_by, follows_by}
use Rattle.stable.specs.Device.{Rests}

pub rests_weaker : {M : Type 1} {𝓤 : Ura M} (𝓛 : Logic 𝓤) (R : RattleType) (device : MutBor R.Denot)
    (P Q : R.Denot → Type 0)
    → ((v : R.Denot) → P v → Q v) → ent 𝓤 (sem 𝓛 (Rests R device P)) (sem 𝓛 (Rests R device Q))
unfolding such_by
rests_weaker {𝓤 = 𝓤} 𝓛 R device P Q weaker =
    let D = R.Denot in
    let Last : (D → Type 0) → Type 0 = λ (S : D → Type 0). (s : (D → D) × D) × ((w : D) → ⊤) × S s.1 in
    qed 𝓛 (‵ (Rests R device P) ∷ []) ∵ fpick !
    (λ (s : Last P). fpack ! (Last Q)
    (λ s. follows_by D D R.coded.code R.coded.code device.ghost_name none s.0.0 s.0.1) (s.0, s.1, weaker s.0.1 s.2)
    $ done !)

-- A method that lends a part of the device tells what its trait does, where its last clause is stronger and it has one
-- clause more, its first.
pub reading_meets : {M : Type 1} (𝓤 : Ura M) (R X : Type 0) (own set device value error : R → X → Type 0)
    (Last Last' : R → X → SProp 𝓤)
    → ((r : R) (e : X) → ent 𝓤 (Last r e) (Last' r e))
    → ent 𝓤 (emp 𝓤) (ex 𝓤 (λ (_ : Unit {0}). sep 𝓤 (emp 𝓤)
    (Turns 𝓤 R X (λ r e. sep 𝓤 (fact 𝓤 (own r e)) (sep 𝓤 (fact 𝓤 (set r e))
    (sep 𝓤 (fact 𝓤 (device r e)) (sep 𝓤 (fact 𝓤 (value r e)) (sep 𝓤 (fact 𝓤 (error r e)) (Last r e))))))
    (λ r e. sep 𝓤 (fact 𝓤 (set r e))
    (sep 𝓤 (fact 𝓤 (device r e)) (sep 𝓤 (fact 𝓤 (value r e)) (sep 𝓤 (fact 𝓤 (error r e)) (Last' r e))))))))
reading_meets 𝓤 R X own set device value error Last Last' weaker =
    let Own : R → X → SProp 𝓤 = λ r e. fact 𝓤 (own r e) in
    let Set : R → X → SProp 𝓤 = λ r e. fact 𝓤 (set r e) in
    let Fails : R → X → SProp 𝓤 = λ r e. fact 𝓤 (device r e) in
    let Value : R → X → SProp 𝓤 = λ r e. fact 𝓤 (value r e) in
    let Error : R → X → SProp 𝓤 = λ r e. fact 𝓤 (error r e) in
    let Told : R → X → SProp 𝓤 = λ r e.
    sep 𝓤 (Set r e) (sep 𝓤 (Fails r e) (sep 𝓤 (Value r e) (sep 𝓤 (Error r e) (Last r e)))) in
    let D : R → X → SProp 𝓤 = λ r e. sep 𝓤 (Own r e) (Told r e) in
    let D' : R → X → SProp 𝓤 = λ r e.
    sep 𝓤 (Set r e) (sep 𝓤 (Fails r e) (sep 𝓤 (Value r e) (sep 𝓤 (Error r e) (Last' r e)))) in
    let W : SProp 𝓤 = Turns 𝓤 R X D D' in
    let less : (r : R) (e : X) → ent 𝓤 (D r e) (D' r e) =
    λ r e. via 𝓤 (Told r e) (snd∗ 𝓤 (Own r e) (Told r e))
    (mono_r 𝓤 (Set r e) (mono_r 𝓤 (Fails r e) (mono_r 𝓤 (Value r e) (mono_r 𝓤 (Error r e) (weaker r e))))) in
    let turns : ent 𝓤 (emp 𝓤) W =
    all_i 𝓤 (λ (r : R). all 𝓤 (λ (e : X). wand 𝓤 (D r e) (D' r e)))
    (λ r. all_i 𝓤 (λ (e : X). wand 𝓤 (D r e) (D' r e)) (λ e.
    wand_i 𝓤 (emp 𝓤) (D r e) (D' r e) (via 𝓤 (D r e) (snd∗ 𝓤 (emp 𝓤) (D r e)) (less r e)))) in
    via 𝓤 (sep 𝓤 (emp 𝓤) W) (via 𝓤 (sep 𝓤 W (emp 𝓤))
    (via 𝓤 (sep 𝓤 (emp 𝓤) (emp 𝓤)) (emp∗ 𝓤 (emp 𝓤)) (mono_l 𝓤 (emp 𝓤) turns)) (comm∗ 𝓤 W (emp 𝓤)))
    (ex_i 𝓤 (λ (x : Unit {0}). sep 𝓤 (emp 𝓤) W) tt)
