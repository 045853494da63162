-- What a result says says what follows from that.
use Rattle.std.proofs.Common.{Result, Ok, Err, Option, Some, None, IfOk, IfErr}
use Rattle.std.specs.Prelude.{IsSomeAnd, MatchOption}

pub if_ok : {T E : Type 0} {P Q : T → Type 0} (r : Result T E) → ((x : T) → P x → Q x) → IfOk r P → IfOk r Q
if_ok (Ok x) f holds = f x holds
if_ok (Err e) f holds = holds

pub if_err : {T E : Type 0} {P Q : E → Type 0} (r : Result T E) → ((e : E) → P e → Q e) → IfErr r P → IfErr r Q
if_err (Ok x) f holds = holds
if_err (Err e) f holds = f e holds

-- what is there
pub if_some : {A : Type 0} {P Q : A → Type 0} (N : Type 0) (o : Option A) → ((x : A) → P x → Q x) → IsSomeAnd o P
    → MatchOption o N Q
if_some N None f holds = absurd holds
if_some N (Some x) f holds = f x holds
