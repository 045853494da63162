-- What a call of a latched component adds.
use Rattle.std.proofs.Common.{◌≡◌, ℕ, Bool, false, List, [], ◌∷◌, ◌++◌, Option, Some, ap, sym, ◌∙◌, subst, append_assoc}
use Rattle.codec.specs.declared.request.Request.{Request}
use Rattle.codec.specs.declared.reply.Reply.{Reply}
use Rattle.node_sides.specs.node_laws.specs.Messages.{message_at}
use Rattle.engine_history.specs.Adding.{AddsEntry, WasSent}
use Rattle.engine_history.specs.Kept.{IsSentBy}
use Rattle.engine_history.specs.declared.step.Step.{Step}
use Rattle.engine_history.specs.Slots.{Slot}
use Rattle.engine_history.specs.Steps.{requests, replies}
use Rattle.engine_history.specs.Views.{Sees}
use Rattle.record_key.proofs.Lists.{all_appended}
use Rattle.engine_history.proofs.Lists.{request_on, reply_on}

-- an entry that goes on from all the entries
pub adds : (mine : Step → Bool) (old es new : List Step) (p : Slot) (e : Step) → Sees mine old es
    → p.value.step.value ≡ e → p.value.before.steps ≡ es → new ≡ es ++ e ∷ [] → AddsEntry mine old p new
adds mine old es new p e sees step before all = record {
  sees = subst (Sees mine old) (sym before) sees;
  all = all ∙ sym (λ i. before i ++ step i ∷ []);
}

-- what was seen goes on twice
pub sees_on : (mine : Step → Bool) (old mid new : List Step) → Sees mine old mid → Sees mine mid new → Sees mine old new
sees_on mine old mid new a b = record {
  since = a.since ++ b.since;
  all = b.all ∙ ap (λ (es : List Step). es ++ b.since) a.all ∙ append_assoc old a.since b.since;
  none = all_appended (λ e. mine e ≡ false) a.since b.since a.none b.none;
}

pub request_sent : (mine : Step → Bool) (seen : List Step) (n : ℕ) (sent : Option Request) (p : Slot)
    → IsSentBy (requests seen) n sent → Sees mine seen p.value.before.steps → WasSent requests n p
request_sent mine seen n sent p by sees = (
  by.value,
  subst (λ (es : List Step). message_at (requests es) n ≡ Some by.value) (sym sees.all)
      (request_on seen sees.since n by.value by.found),
)

pub reply_sent : (mine : Step → Bool) (seen : List Step) (n : ℕ) (given : Option Reply) (p : Slot)
    → IsSentBy (replies seen) n given → Sees mine seen p.value.before.steps → WasSent replies n p
reply_sent mine seen n given p by sees = (
  by.value,
  subst (λ (es : List Step). message_at (replies es) n ≡ Some by.value) (sym sees.all)
      (reply_on seen sees.since n by.value by.found),
)
