-- Serving a request, whatever the rest of the node is.
use Rattle.std.proofs.Common.{◌≡◌, ℕ, Bool, true, false, List, [], ◌∷◌, ◌++◌, Option, Some, None, refl, sym, subst}
use Rattle.record_key.specs.declared.op.Answer.{Answer}
use Rattle.codec.specs.declared.parted.Asking.{Asking}
use Rattle.codec.specs.declared.request.Request.{Request}
use Rattle.codec.specs.declared.reply.Reply.{Reply}
use Rattle.node_sides.specs.dc_core.specs.Performing.{reply_with, reply_if}
use Rattle.node_sides.specs.node_laws.specs.declared.event.Event.TheVariants as event
use Rattle.node_sides.specs.node_laws.specs.declared.event.Out.{Out}
use Rattle.node_sides.specs.node_laws.specs.Component.{DcSide}
use Rattle.node_sides.specs.node_laws.specs.Halves.{node_of, also, IsNextNumber, DcServes}
use Rattle.node_sides.specs.node_laws.specs.Node.{StepsTo}
use Rattle.node_world.specs.Sent.{told_in, told_after, told_last}
use Rattle.node_world.specs.Served.{ServesRequest}

-- the component served it, and its reply, if there is one, was appended
pub served : (old new : DcSide) (before after : List Reply) (next : Option ℕ) (q : Request) (o : Out)
    (reply : Option Reply) → IsNextNumber before next → DcServes old next (Some q) o reply new
    → after ≡ also before reply → ServesRequest old before q o new after
served old new before after next q o reply number serves is i tc requests found =
    subst (λ (rs : List Reply). StepsTo (node_of tc old requests before) (event.Request i) o (node_of tc new requests rs))
    (sym is) (serves.gives i tc requests before number found)

-- of an operation there is one where it was performed
pub also_answered : (q : Asking) (replied : Bool) (told : Option Answer) (before after : List Reply)
    → (replied ≡ true → after ≡ before ++ reply_with q told ∷ []) → (replied ≡ false → after ≡ before)
    → after ≡ also before (reply_if q replied told)
also_answered q true told before after given none = given refl
also_answered q false told before after given none = none refl

told_behind : (a : Option Answer) (replies : List Reply) (r : Reply) → told_after a (replies ++ r ∷ []) ≡ told_in r
told_behind a [] r = refl
told_behind a (q ∷ replies) r = told_behind (told_in q) replies r

-- the last reply tells what was told last
pub told_newest : (replies : List Reply) (r : Reply) → told_last (replies ++ r ∷ []) ≡ told_in r
told_newest replies r = told_behind None replies r
