-- What a handle owns: at null nothing, else the box at p, with its node n.
use Rattle.std.specs.Prelude.{◌≡◌, ℕ, ℤ, pos, Option, None, Some}
use base.Fml.{Fml, ftrue, fsep, fex}
use denote.RattleType.{RattleType}
use denote.RawPtr.{Ptr, block_ptr, null_ptr}
use Rattle.std.specs.declared.alloc.Global.{Global}
use Rattle.std.specs.contracts.impls.GlobalAllocator.TheImpl.{ghosts}
use Rattle.std_alloc.specs.Box.Ownership.{box_owns}

abbrev pub boxed : (R : RattleType) → Global → Ptr → R.Denot → Fml
boxed R a = box_owns (ghosts.dealloc_token a) R

abbrev pub kept : (R : RattleType) → Global → Ptr → Option R.Denot → Fml
kept R a null_ptr n = fex (n ≡ None) (λ _. ftrue)
kept R a (block_ptr b o) n = fex R.Denot (λ x. fsep (boxed R a (block_ptr b o) x) (fex (n ≡ Some x) (λ _. ftrue)))

-- a call of this status on a handle: it is refused Closed where there is no node; else the node stays there, and goes on
-- so
abbrev pub OnNode : {N : Type 0} → Option N → Option N → ℤ → (N → N → Type 0) → Type 0
OnNode None new given P = (given ≡ pos 33) × (new ≡ None)
OnNode (Some n) None given P = ⊥
OnNode (Some n) (Some m) given P = P n m

-- the node, where there is one, is as it was, and the call has this status
abbrev pub RefusedAs : {N : Type 0} → ℕ → Option N → Option N → ℤ → Type 0
RefusedAs number old new given = OnNode old new given (λ n m. (given ≡ pos number) × (m ≡ n))
