-- How a node is opened on a log, or isn't.
use Rattle.std.proofs.Common.{◌≡◌, ℕ, List, Ok, Err, length, refl, subst, inl, inr}
use Rattle.record_key.specs.declared.refusal.Refusal.{Refusal}
use Rattle.record_key.specs.declared.refusal.Refusal.TheVariants.{NoMemory}
use Rattle.node_laws.specs.Node.{NodeView}
use Rattle.node_store.specs.declared.unopened.Cause.TheVariants as why
use Rattle.jakumshe.specs.declared.fault.Fault.TheVariants.{Refused}
use Rattle.jakumshe.specs.Logs.{IsMadeOn, IsBroughtUp, IsOpenedOn, NotOpened, stable_bytes}

pub no_memory : (bytes : List ℕ) (r : Refusal) → r ≡ NoMemory → NotOpened bytes (Refused r)
no_memory bytes r is = inl (why.Refused r, (inr (inl is), λ e. absurd (cc)), refl)

pub opened : (bytes held : List ℕ) (kept : ℕ) (made new : NodeView) → IsMadeOn held made → held ≡ bytes
    → kept ≡ length (stable_bytes made) → IsBroughtUp made (Ok tt) new → IsOpenedOn bytes kept new
opened bytes held kept made new is same counted rests = record {
  made = made;
  is_made = subst (λ (bs : List ℕ). IsMadeOn bs made) same is;
  counted = counted;
  rests = rests;
}

pub stopped : (bytes held : List ℕ) (made new : NodeView) (r : Refusal) → IsMadeOn held made → held ≡ bytes
    → IsBroughtUp made (Err r) new → NotOpened bytes (Refused r)
stopped bytes held made new r is same stops = inr (
  r,
  record { made = made; is_made = subst (λ (bs : List ℕ). IsMadeOn bs made) same is; new = new; stops = stops },
  refl,
)
